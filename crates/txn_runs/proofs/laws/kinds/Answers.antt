use Rattle.txn_runs.proofs.Stepping.{after_changes}
use Rattle.txn_runs.proofs.laws.kinds.Goals as goal

pub returns : goal.returns
returns c = after_changes
