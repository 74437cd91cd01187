use Rattle.std.proofs.Common.{◌≡◌, length, Some, arith, ap}
use Rattle.std.specs.Prelude.{slice_get}
use Rattle.shadow_lanes.specs.Seats.{Seat, conflicts_of}
use Rattle.shadow_forest.proofs.Elements.{placed, mapped-is}
use Rattle.shadow_forest.proofs.Slots.{slots-many, role-there}
use Rattle.shadow_forest.proofs.picking.role_at.Goals as goal

pub bounds-conflicts-slot : goal.bounds-conflicts-slot
bounds-conflicts-slot c =
    let found : (r : Seat) × (slice_get c.args.lanes.now.seats c.args.place ≡ Some r) = placed c.args.lanes.now.seats c.args.place c.requires.place in
    let many : length c.conflicts.result.now ≡ length (conflicts_of found.0) = ap length (mapped-is conflicts_of _ found.0 _ c.conflicts.ensures found.1) in
    omega (arith, c.requires.slot found.0 found.1, slots-many found.0)

pub bounds-conflicts-slot-2 : goal.bounds-conflicts-slot-2
bounds-conflicts-slot-2 c = bounds-conflicts-slot c

pub returns-clause-role : goal.returns-clause-role
returns-clause-role c = λ r e. role-there r c.args.slot c.conflicts.result.now (mapped-is conflicts_of _ r _ c.conflicts.ensures e) c.if-slot-eq0.false (c.requires.slot r e)
