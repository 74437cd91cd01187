use Rattle.std.proofs.Common.{◌≡◌}
use Rattle.std.specs.Vec.{vec_capacity}
use Rattle.shadow_lanes.specs.Kept.{AreAll}
use Rattle.shadow_lanes.proofs.lanes.all_lanes.Given as goal

abbrev pub invariant-loop-lane : goal.invariant-loop-lane
invariant-loop-lane l = record { all : AreAll l.lane l.free.items (vec_capacity l.free); room : vec_capacity l.free ≡ l.lanes }
