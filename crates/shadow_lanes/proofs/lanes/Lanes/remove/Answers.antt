use Rattle.shadow_lanes.proofs.Lists.{get_map}
use Rattle.std.proofs.lemmas.List.{length-map}
use Rattle.std.proofs.Common.{◌≡◌, ◌∙◌, ◌<◌, length, sym, ap, arith}
use Rattle.shadow_lanes.specs.Kept.{seat_in, seats_in, seated_in}
use Rattle.shadow_state.proofs.Places.{get_at}
use Rattle.shadow_lanes.proofs.Order.{none_is, found_number, stay_all, gone_is}
use Rattle.shadow_lanes.proofs.Comings.{leaving}
use Rattle.shadow_lanes.proofs.lanes.Lanes.remove.Goals as goal

pub invariant_of-self : goal.invariant_of-self
invariant_of-self c =
    let bank = c.self.inside.bank in
    let kept = c.self.inside.seats.items in
    let k = c.remove-seat.result in
    let place = c.in-Some.place in
    let found = rw (← c.self.view_is) at c.in-Some.ensures in
    let lt : place < length kept = omega (arith, found.0, length-map kept (seat_in bank.sides)) in
    let is = get_at kept place k lt c.remove-seat.ensures.value in
    let gone = leaving bank kept c.self.inside.free.items _ _ place k is c.self.invariant in
    rw (c.remove-seat.ensures.items, c.remove-seat.ensures.capacity, c.push_reserved.ensures.items, c.push_reserved.ensures.capacity, c.lane.ensures) gone

pub returns-in-Some : goal.returns-in-Some
returns-in-Some c =
    let bank = c.self.inside.bank in
    let kept = c.self.inside.seats.items in
    let k = c.remove-seat.result in
    let place = c.in-Some.place in
    let t = c.args.number in
    let found = rw (← c.self.view_is) at c.in-Some.ensures in
    let lt : place < length kept = omega (arith, found.0, length-map kept (seat_in bank.sides)) in
    let is = get_at kept place k lt c.remove-seat.ensures.value in
    let number : k.number ≡ t = found_number (seats_in bank.sides kept) (seat_in bank.sides k) t (sym found.1 ∙ get_map (seat_in bank.sides) kept place k is) in
    let gone = gone_is bank.sides kept place t k c.self.invariant.rising is number in
    rw (← c.self.view_is) (ap (seated_in bank) c.remove-seat.ensures.items ∙ ap (λ seats. record (seated_in bank kept) { seats = seats }) gone)

pub returns-in_default : goal.returns-in_default
returns-in_default c =
    let bank = c.self.inside.bank in
    let kept = c.self.inside.seats.items in
    let t = c.args.number in
    let none = rw (← c.self.view_is) at c.in_default.ensures in
    rw (← c.self.view_is) (ap (λ seats. record (seated_in bank kept) { seats = seats }) (stay_all bank.sides kept t (none_is bank.sides kept t none)))
