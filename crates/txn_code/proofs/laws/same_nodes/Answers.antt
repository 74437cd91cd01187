use Rattle.txn_code.proofs.Alike.{nodes_tell}
use Rattle.txn_code.proofs.Laying.{nodes_long}
use Rattle.txn_code.proofs.laws.same_nodes.Goals as goal

pub returns-clause-long : goal.returns-clause-long
returns-clause-long c = nodes_long

pub returns-clause-same : goal.returns-clause-same
returns-clause-same c = nodes_tell
