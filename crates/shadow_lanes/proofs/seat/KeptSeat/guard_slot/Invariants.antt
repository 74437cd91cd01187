use Rattle.std.proofs.Common.{◌≡◌, ◌<◌, List, length, drop}
use Rattle.shadow_state.specs.Bank.{Slot}
use Rattle.shadow_lanes.specs.Seats.{guard_slot}
use Rattle.shadow_lanes.specs.Kept.{waiters_of, first_slot}
use Rattle.shadow_lanes.proofs.seat.KeptSeat.guard_slot.Given as goal

abbrev pub invariant-loop-i : goal.invariant-loop-i
invariant-loop-i l = (slots : List Slot) → length l.conflicts < length slots → guard_slot l.guard (waiters_of l.conflicts (drop 1 slots)) (first_slot slots) ≡ guard_slot l.guard (waiters_of (drop l.i l.conflicts) (drop l.i (drop 1 slots))) (first_slot slots)
