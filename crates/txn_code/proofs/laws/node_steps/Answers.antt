use Rattle.txn_code.proofs.Stands.{links_stands}
use Rattle.txn_code.proofs.Flows.{links_nodes}
use Rattle.txn_code.proofs.Stepping.{makes_step, is_end}
use Rattle.txn_code.proofs.laws.node_steps.Goals as goal

pub returns : goal.returns
returns c = record { begins = λ body. links_stands (links_nodes body); steps = makes_step; ends = is_end }
