use Rattle.std.proofs.Common.{◌≡◌, ◌∙◌, List, Some, None, ap, sym, subst}
use Rattle.forest_model.specs.Point.{Conflict}
use Rattle.shadow_state.specs.Bank.{at_place}
use Rattle.shadow_state.proofs.Places.{some_at, all_get}
use Rattle.shadow_lanes.specs.Seats.{Seat, Seated, IsSeat}
use Rattle.indexed_lanes.specs.Wanted.{wanted_among, renewed, IsIndexed}
use Rattle.indexed_lanes.proofs.Renewed.{one_still, renewed_conflicts, renewed_number, renewed_noted}
use Rattle.indexed_lanes.proofs.Keeping.{some_kept, none_kept, given_kept}
use Rattle.indexed_lanes.proofs.lanes.IndexedLanes.renew.Goals as goal

pub invariant_of-self : goal.invariant_of-self
invariant_of-self c =
    let s = c.self.inside.lanes in
    let r = some_at s.seats c.args.place (rw (← c.self.view_is) at c.requires.place) in
    let ws = wanted_among s.most None s.seats r.0 in
    let nodes = c.args.code.now.nodes in
    let now : c.have.new.lanes ≡ record s { seats = at_place c.args.place (renewed nodes s.items ws) s.seats } =
    c.have.ensures ∙ ap (λ (cs : List Conflict). record s { seats = at_place c.args.place (renewed nodes s.items cs) s.seats }) (c.as_slice.ensures.value ∙ c.wanted_at-conflicts.ensures.wanted r.0 r.1)
    in
    subst (IsIndexed c.have.new.lanes) (sym c.in-Some.is)
    (subst (λ (y : Seated). IsIndexed y (Some c.in-Some.index)) (sym now)
    (given_kept s c.in-Some.index c.args.place r.0 (renewed nodes s.items ws) r.1 (renewed_number nodes s.items ws r.0) (renewed_noted nodes s.items ws r.0) (renewed_conflicts nodes s.items ws r.0)
    (some_kept s c.self.inside.index c.in-Some.index c.in-Some.is c.self.invariant)))

pub returns-in-None : goal.returns-in-None
returns-in-None c = λ r at.
    let s = c.self.inside.lanes in
    let there = rw (← c.self.view_is) at at in
    rw (← c.self.view_is)
    (ap (λ (seats : List Seat). record s { seats = seats })
    (one_still s c.args.place c.args.code.now.nodes None r (none_kept s c.self.inside.index c.in-None.is c.self.invariant) (all_get (IsSeat s.most s.items) s.seats c.args.place r c.len.ensures.seats.each there) there))
