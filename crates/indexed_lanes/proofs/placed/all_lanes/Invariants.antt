use Rattle.std.proofs.Common.{◌≡◌}
use Rattle.std.specs.Vec.{vec_capacity}
use Rattle.shadow_lanes.specs.Kept.{AreAll}
use Rattle.indexed_lanes.proofs.placed.all_lanes.Given as goal

abbrev pub invariant-loop-lane : goal.invariant-loop-lane
invariant-loop-lane l = record { all : AreAll l.lane l.order.items (vec_capacity l.order); room : vec_capacity l.order ≡ l.lanes }
