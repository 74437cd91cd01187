use Rattle.forest_model.proofs.WrongRules.{fork_behind, promote_least, copy_from_made, drop_committed, give_up_earliest}
use Rattle.forest_model.proofs.wrong.wrong_rules.Goals as goal

pub returns : goal.returns
returns c = record {
  fork_behind = fork_behind;
  promote_least = promote_least;
  copy_from_made = copy_from_made;
  drop_committed = drop_committed;
  give_up_earliest = give_up_earliest;
}
