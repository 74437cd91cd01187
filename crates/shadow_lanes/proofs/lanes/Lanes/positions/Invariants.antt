use Rattle.std.proofs.Common.{◌≡◌, suc, take, Some}
use Rattle.std.specs.Prelude.{slice_get}
use Rattle.forest_model.specs.Origin.{placed_of}
use Rattle.shadow_lanes.specs.Seats.{Seat, started_of}
use Rattle.shadow_lanes.proofs.lanes.Lanes.positions.Given as goal

abbrev pub invariant-loop-i : goal.invariant-loop-i
invariant-loop-i l = (r : Seat) → slice_get l.self.seats l.place ≡ Some r → l.rows ≡ take (suc l.i) (placed_of (started_of r))
