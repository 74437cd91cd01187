use Rattle.std.proofs.Common.{◌≡◌, Some, None, take}
use Rattle.std.specs.Prelude.{slice_get}
use Rattle.shadow_lanes.specs.Seats.{Seat, slots_of}
use Rattle.shadow_forest.specs.Parts.{first_place}
use Rattle.shadow_forest.specs.Bench.{takes}
use Rattle.shadow_forest.proofs.giving.slot_out.Given as goal

abbrev pub invariant-loop-slot : goal.invariant-loop-slot
invariant-loop-slot l = (r : Seat) → slice_get l.lanes.seats l.place ≡ Some r → first_place (takes l.from l.state.log.reads) (take l.slot (slots_of r)) ≡ None
