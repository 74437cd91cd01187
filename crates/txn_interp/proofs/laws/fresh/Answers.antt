use Rattle.txn_interp.proofs.Beginning.{fresh_runs}
use Rattle.txn_interp.proofs.laws.fresh.Goals as goal

pub returns : goal.returns
returns c = fresh_runs
