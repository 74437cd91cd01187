use Rattle.std.proofs.Common.{◌≡◌, Some, map, subst, sym}
use Rattle.std.specs.Prelude.{slice_get}
use Rattle.forest_model.specs.Forest.{find_started}
use Rattle.forest_model.specs.Sound.{IsSound}
use Rattle.shadow_lanes.specs.Seats.{started_of}
use Rattle.shadow_forest.specs.View.{View}
use Rattle.shadow_forest.proofs.Picked.{IsIn, pick-in, never-none, place-there}
use Rattle.shadow_forest.proofs.forest.Forest.place_of.Goals as goal

pub unreachable-requires : goal.unreachable-requires
unreachable-requires c =
    let seats = c.self.inside.lanes.seats in
    let txn = c.args.row.now.txn in
    let started : IsIn c.args.self.now.numbers c.args.row.now = pick-in c.args.self.now.numbers c.args.row.now (subst (λ (v : View). IsSound v.numbers) c.self.view_is c.self.invariant.0.sound) c.requires in
    let found : find_started (map started_of seats) txn ≡ Some started.0 = subst (λ (v : View). find_started v.numbers.started txn ≡ Some started.0) (sym c.self.view_is) started.1 in
    never-none seats txn started.0 c.in-None.ensures found

pub returns : goal.returns
returns c =
    let seats = c.self.inside.lanes.seats in
    let txn = c.args.row.now.txn in
    let started : IsIn c.args.self.now.numbers c.args.row.now = pick-in c.args.self.now.numbers c.args.row.now (subst (λ (v : View). IsSound v.numbers) c.self.view_is c.self.invariant.0.sound) c.requires in
    let found : find_started (map started_of seats) txn ≡ Some started.0 = subst (λ (v : View). find_started v.numbers.started txn ≡ Some started.0) (sym c.self.view_is) started.1 in
    let at = place-there seats txn c.in-Some.place started.0 found c.in-Some.ensures.0 c.in-Some.ensures.1 in
    (started.0, subst (λ (v : View). slice_get v.numbers.started c.in-Some.place ≡ Some started.0) c.self.view_is at, started.1, started.2)
