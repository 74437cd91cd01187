use Rattle.std.proofs.Common.{◌≡◌, ◌≤◌, Some, length, slice_get, filter_map, take}
use Rattle.shadow_lanes.specs.Seats.{Seat}
use Rattle.indexed_lanes.specs.Wanted.{conflict_between}
use Rattle.indexed_lanes.proofs.wanting.note_points.Given as goal

abbrev pub invariant-loop-other : goal.invariant-loop-other
invariant-loop-other l = record {
  points : (r : Seat) → slice_get l.lanes.seats l.place ≡ Some r → l.points.items ≡ filter_map (conflict_between l.next r) (take l.other l.lanes.seats);
  few : length l.points.items ≤ l.other;
}
