use Rattle.std.proofs.Common.{◌≡◌, length, take, IfSome}
use Rattle.forest_model.specs.Choose.{first_by}
use Rattle.shadow_forest.specs.Parts.{is_prior_at}
use Rattle.shadow_forest.specs.Ready.{IsAmong}
use Rattle.shadow_forest.proofs.Firsts.{ended_numbers}
use Rattle.shadow_forest.proofs.priority.first_ended.Given as goal

abbrev pub invariant-loop-place : goal.invariant-loop-place
invariant-loop-place l = record {
  first : l.best ≡ first_by (is_prior_at l.txns) (ended_numbers (take l.place l.lanes.seats));
  among : IfSome l.best (IsAmong (length l.txns));
}
