use Rattle.std.proofs.Common.{◌∙◌, length, ap, arith, refl}
use Rattle.shadow_state.specs.Bank.{at_place}
use Rattle.shadow_lanes.specs.Seats.{Seated, recalled_seat}
use Rattle.shadow_lanes.proofs.Changes.{map_more, map_all, length_first}
use Rattle.shadow_lanes.proofs.lanes.Lanes.recall.Goals as goal

pub loop-place-init : goal.loop-place-init
loop-place-init c = refl

pub recall_seat-requires : goal.recall_seat-requires
recall_seat-requires c =
    let long = ap (λ (s : Seated). length s.seats) c.loop-place.invariant in
    omega (arith, long, length_first c.loop-place.place recalled_seat c.args.self.now.seats, c.loop-place-test.true, c.len-place-end.ensures.len)

pub loop-place-preserved : goal.loop-place-preserved
loop-place-preserved c =
    let h = c.loop-place.invariant in
    c.recall_seat.ensures ∙ ap (λ (s : Seated). record s { seats = at_place c.loop-place.place recalled_seat s.seats }) h ∙ ap (λ seats. record c.args.self.now { seats = seats }) (map_more c.loop-place.place recalled_seat c.args.self.now.seats)

pub returns : goal.returns
returns c = c.loop-place.invariant ∙ ap (λ seats. record c.args.self.now { seats = seats }) (map_all c.loop-place.place recalled_seat c.args.self.now.seats (omega (arith, c.loop-place-test.false, c.len-place-end.ensures.len)))
