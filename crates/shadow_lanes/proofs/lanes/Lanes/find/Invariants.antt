use Rattle.std.proofs.Common.{◌≡◌, drop}
use Rattle.shadow_lanes.specs.Seats.{find_seat}
use Rattle.shadow_lanes.proofs.lanes.Lanes.find.Given as goal

abbrev pub invariant-loop-place : goal.invariant-loop-place
invariant-loop-place l = find_seat l.self.seats l.number ≡ find_seat (drop l.place l.self.seats) l.number
