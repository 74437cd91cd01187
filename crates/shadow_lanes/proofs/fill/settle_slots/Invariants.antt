use Rattle.std.proofs.Common.{◌≡◌, take}
use Rattle.shadow_state.specs.Bank.{lane_with}
use Rattle.shadow_lanes.specs.Seats.{settled_seat}
use Rattle.shadow_lanes.specs.Kept.{refilled}
use Rattle.shadow_lanes.proofs.fill.settle_slots.Given as goal

abbrev pub invariant-loop-i : goal.invariant-loop-i
invariant-loop-i l = l.bank ≡ lane_with l.seat.lane (refilled l.seat (settled_seat l.code.nodes l.fn.bank.items (take l.i l.conflicts))) l.fn.bank
