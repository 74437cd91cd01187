use Rattle.txn_runs.proofs.Ending.{no_effect}
use Rattle.txn_runs.proofs.laws.effects.Goals as goal

pub returns : goal.returns
returns c = no_effect
