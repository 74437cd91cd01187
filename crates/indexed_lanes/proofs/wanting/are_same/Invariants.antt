use Rattle.std.proofs.Common.{◌≡◌, drop}
use Rattle.indexed_lanes.specs.Wanted.{same_conflicts}
use Rattle.indexed_lanes.proofs.wanting.are_same.Given as goal

abbrev pub invariant-loop-i : goal.invariant-loop-i
invariant-loop-i l = same_conflicts (drop l.i l.some) (drop l.i l.other) ≡ same_conflicts l.some l.other
