use Rattle.serial_audit.proofs.Written.{written-table}
use Rattle.serial_audit.proofs.laws.written_journals.Goals as goal

pub returns : goal.returns
returns c = written-table
