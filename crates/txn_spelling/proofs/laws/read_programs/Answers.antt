use Rattle.txn_spelling.proofs.Known.{read_known}
use Rattle.txn_spelling.proofs.Narrow.{read_narrow}
use Rattle.txn_spelling.proofs.laws.read_programs.Goals as goal

pub returns-clause-tables : goal.returns-clause-tables
returns-clause-tables c = read_known

pub returns-clause-literals : goal.returns-clause-literals
returns-clause-literals c = read_narrow
