use Rattle.txn_runs.proofs.Agree.{after_agrees, after_own}
use Rattle.txn_runs.proofs.Reading.{same_on}
use Rattle.txn_runs.proofs.laws.agreement.Goals as goal

pub returns : goal.returns
returns c = record { same = after_agrees; own = after_own; items = same_on }
