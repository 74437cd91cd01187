use Rattle.std.proofs.Common.{◌≡◌, ◌++◌, List, Some, take}
use Rattle.std.specs.Prelude.{slice_get}
use Rattle.block_rule.specs.declared.role.Row.{Row}
use Rattle.forest_model.specs.Pick.{pick_of}
use Rattle.shadow_lanes.specs.Seats.{Seat}
use Rattle.shadow_forest.specs.Parts.{seat_rows}
use Rattle.shadow_forest.proofs.picking.pick_at.Given as goal

abbrev pub invariant-loop-slot : goal.invariant-loop-slot
invariant-loop-slot l = (r : Seat) (before : List Row) → slice_get l.lanes.seats l.place ≡ Some r → l.initial.best ≡ pick_of before → l.best ≡ pick_of (before ++ take l.slot (seat_rows l.txns r))
