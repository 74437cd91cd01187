use Rattle.std.proofs.Common.{◌≡◌, ◌+◌, suc, Some, None, length, map, ap, sym, ◌∙◌, arith, refl}
use Rattle.std.specs.Prelude.{slice_get, option_map}
use Rattle.forest_model.specs.Forest.{find_started}
use Rattle.shadow_lanes.specs.Seats.{Seat, started_of, conflicts_of}
use Rattle.shadow_forest.specs.Kept.{numbers_waiting, forest_of}
use Rattle.shadow_forest.proofs.Elements.{placed, all-placed, mapped-is}
use Rattle.shadow_forest.proofs.Seen.{IsSeen, find-seat, all-seen}
use Rattle.shadow_forest.proofs.Looks.{looks-seen, looks-many}
use Rattle.shadow_forest.proofs.forest.Forest.shadows.Goals as goal

pub returns-in-None : goal.returns-in-None
returns-in-None c =
    let none : find_started (map started_of c.self.inside.lanes.seats) c.args.txn ≡ None = find-seat c.self.inside.lanes.seats c.args.txn ∙ ap (option_map started_of) c.in-None.ensures in
    rw (← c.self.view_is) (rw none refl)

pub returns-in-Some : goal.returns-in-Some
returns-in-Some c =
    let i = c.self.inside in
    let found : (r : Seat) × (slice_get c.self.inside.lanes.seats c.in-Some.place ≡ Some r) = placed c.self.inside.lanes.seats c.in-Some.place c.in-Some.ensures.0 in
    let many : length c.conflicts.result.now ≡ length (conflicts_of found.0) = ap length (mapped-is conflicts_of _ found.0 _ c.conflicts.ensures found.1) in
    let seen : IsSeen (forest_of i.journal i.tables i.lanes) i.txns.items found.0 =
    all-placed (IsSeen (forest_of i.journal i.tables i.lanes) i.txns.items) i.lanes.seats c.in-Some.place found.0 found.1 (all-seen i.journal i.tables i.txns.items (numbers_waiting i.waiting) i.lanes c.self.invariant.0)
    in
    let is : find_started (map started_of c.self.inside.lanes.seats) c.args.txn ≡ Some (started_of found.0) =
    find-seat c.self.inside.lanes.seats c.args.txn ∙ ap (option_map started_of) (sym c.in-Some.ensures.1 ∙ found.1)
    in
    let told : length c.conflicts.result.now + 1 ≡ suc (length (conflicts_of found.0)) = omega arith in
    rw (← c.self.view_is) (rw is (told ∙ (sym (looks-many found.0) ∙ ap length (sym (looks-seen (forest_of i.journal i.tables i.lanes) i.txns.items found.0 seen)))))
