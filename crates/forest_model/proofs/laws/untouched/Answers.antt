use Rattle.forest_model.proofs.StoreLaws.{step-leaves, commit-leaves, withdraw-leaves}
use Rattle.forest_model.proofs.KeepLaws.{begin-keeps, guard-keeps, give-moves}
use Rattle.forest_model.proofs.laws.untouched.Goals as goal

pub returns : goal.returns
returns c = record {
  begins = begin-keeps;
  steps = step-leaves;
  guards = guard-keeps;
  commits = commit-leaves;
  withdraws = withdraw-leaves;
  gives = give-moves;
}
