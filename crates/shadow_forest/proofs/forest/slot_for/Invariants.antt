use Rattle.std.proofs.Common.{◌≡◌, take, None}
use Rattle.shadow_forest.specs.Parts.{slot_of}
use Rattle.shadow_forest.proofs.forest.slot_for.Given as goal

abbrev pub invariant-loop-i : goal.invariant-loop-i
invariant-loop-i l = slot_of (take l.i l.conflicts) l.guard ≡ None
