use Rattle.txn_spelling.proofs.ReadBack.{read_back}
use Rattle.txn_spelling.proofs.laws.canonical_spelling.Goals as goal

pub returns : goal.returns
returns c = read_back
