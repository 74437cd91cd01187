use Rattle.std.proofs.Common.{◌≡◌, ◌≤◌, ◌+◌, length, map}
use Rattle.std.specs.Vec.{vec_capacity}
use Rattle.shadow_forest.specs.Answers.{resumed_pair}
use Rattle.shadow_forest.proofs.Cutting.{AreCut}
use Rattle.shadow_forest.proofs.committing.cut_others.Given as goal

abbrev pub invariant-loop-place : goal.invariant-loop-place
invariant-loop-place l = record {
  cut : AreCut l.fn.lanes l.lanes l.txns l.of l.place (map resumed_pair l.fn.resumed.items) (map resumed_pair l.resumed.items);
  long : length l.lanes.seats ≡ length l.fn.lanes.seats;
  items : l.lanes.items ≡ l.fn.lanes.items;
  few : length l.resumed.items ≤ length l.fn.resumed.items + l.place;
  capacity : vec_capacity l.resumed ≡ vec_capacity l.fn.resumed;
}
