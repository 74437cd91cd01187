use Rattle.std.proofs.lemmas.List.{length-map}
use Rattle.std.proofs.Common.{◌∙◌, ◌+◌, false, length, sym, ap, arith}
use Rattle.std.specs.Prelude.{slice_get}
use Rattle.shadow_state.specs.Bank.{at_place, marked_slot}
use Rattle.shadow_state.proofs.Places.{at_twice, at_alike, length_at, some_at, get_same}
use Rattle.shadow_lanes.specs.Seats.{Seat, Seated, seat_with, recalled_seat}
use Rattle.shadow_lanes.specs.Kept.{recalled_to}
use Rattle.shadow_lanes.proofs.Slots.{slot}
use Rattle.shadow_lanes.proofs.Changes.{got_at, recalled_next, recalled_all, recalled_waiters}
use Rattle.shadow_lanes.proofs.lanes.Lanes.recall_seat.Goals as goal

pub waiters-i-end-requires : goal.waiters-i-end-requires
waiters-i-end-requires c =
    let long = ap (λ (s : Seated). length s.seats) c.set_out.ensures in
    omega (arith, long, length_at c.args.place (seat_with 0 (marked_slot false)) c.args.self.now.seats, c.requires)

pub loop-i-init : goal.loop-i-init
loop-i-init c = c.set_out.ensures

pub set_out-requires-in-loop-i-clause-place : goal.set_out-requires-in-loop-i-clause-place
set_out-requires-in-loop-i-clause-place c =
    let long = ap (λ (s : Seated). length s.seats) c.loop-i.invariant in
    omega (arith, long, length_at c.args.place (recalled_to c.loop-i.i) c.args.self.now.seats, c.requires)

pub set_out-requires-in-loop-i-clause-slot : goal.set_out-requires-in-loop-i-clause-slot
set_out-requires-in-loop-i-clause-slot c = λ r is.
    let seats = c.args.self.now.seats in
    let was = got_at c.args.place (recalled_to c.loop-i.i) seats r (sym (ap (λ (s : Seated). slice_get s.seats c.args.place) c.loop-i.invariant) ∙ is) in
    let first = ap (λ (s : Seated). slice_get s.seats c.args.place) c.set_out.ensures ∙ get_same c.args.place (seat_with 0 (marked_slot false)) seats was.0 was.1.0 in
    let many = c.waiters-i-end.ensures.number _ first in
    omega (arith, c.loop-i-test.true, many, length-map r.waiters slot, ap (λ (q : Seat). length q.waiters) was.1.1, recalled_waiters c.loop-i.i was.0)

pub loop-i-preserved : goal.loop-i-preserved
loop-i-preserved c =
    let next = seat_with (c.loop-i.i + 1) (marked_slot false) in
    let place = c.args.place in
    let seats = c.args.self.now.seats in
    let there = some_at seats place c.requires in
    let both = at_twice place next (recalled_to c.loop-i.i) seats ∙ at_alike place _ (recalled_to (c.loop-i.i + 1)) seats there.0 there.1 (recalled_next c.loop-i.i there.0) in
    c.set_out-in-loop-i.ensures ∙ ap (λ (s : Seated). record s { seats = at_place place next s.seats }) c.loop-i.invariant ∙ ap (λ all. record c.args.self.now { seats = all }) both

pub returns : goal.returns
returns c =
    let place = c.args.place in
    let seats = c.args.self.now.seats in
    let there = some_at seats place c.requires in
    let first = ap (λ (s : Seated). slice_get s.seats place) c.set_out.ensures ∙ get_same place (seat_with 0 (marked_slot false)) seats there.0 there.1 in
    let many = c.waiters-i-end.ensures.number _ first in
    c.loop-i.invariant ∙ ap (λ all. record c.args.self.now { seats = all }) (at_alike place (recalled_to c.loop-i.i) recalled_seat seats there.0 there.1 (recalled_all c.loop-i.i there.0 (omega (arith, many, c.loop-i-test.false))))
