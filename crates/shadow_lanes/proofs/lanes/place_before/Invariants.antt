use Rattle.std.proofs.Common.{◌≡◌, ◌+◌, drop}
use Rattle.shadow_lanes.specs.Kept.{place_in}
use Rattle.shadow_lanes.proofs.lanes.place_before.Given as goal

abbrev pub invariant-loop-i : goal.invariant-loop-i
invariant-loop-i l = place_in l.number l.seats ≡ l.i + place_in l.number (drop l.i l.seats)
