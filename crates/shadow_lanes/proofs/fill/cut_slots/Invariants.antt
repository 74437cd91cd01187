use Rattle.std.proofs.Common.{◌≡◌, ◌≤◌, length, Some}
use Rattle.std.specs.Prelude.{slice_get}
use Rattle.shadow_state.specs.Bank.{Sides, lane_with}
use Rattle.shadow_lanes.specs.Seats.{conflicts_of}
use Rattle.shadow_lanes.specs.Kept.{seat_of, refilled, cut_back}
use Rattle.shadow_lanes.proofs.fill.cut_slots.Given as goal

abbrev pub invariant-loop-i : goal.invariant-loop-i
invariant-loop-i l = record {
  bank : l.bank ≡ lane_with l.seat.lane (refilled l.seat (cut_back l.heir l.cut l.i)) l.fn.bank;
  stay : (lane : Sides) → slice_get l.fn.bank.sides l.seat.lane ≡ Some lane → l.stay.items ≡ conflicts_of (cut_back l.heir l.cut l.i (seat_of l.seat lane.other));
  few : length l.stay.items ≤ l.i;
}
