use Rattle.std.proofs.Common.{◌∙◌, ap}
use Rattle.shadow_state.specs.Bank.{at_place, stored_in}
use Rattle.shadow_state.proofs.Kept.{stored_sides}
use Rattle.shadow_lanes.specs.Seats.{Seated, seat_with, stepped_slot}
use Rattle.shadow_lanes.proofs.Slots.{seat_at}
use Rattle.shadow_lanes.proofs.Views.{here, fits, slot_below, turned_only}
use Rattle.shadow_lanes.proofs.Upkeep.{kept_with}
use Rattle.shadow_lanes.proofs.lanes.Lanes.store.Goals as goal

pub store-requires-clause-lane : goal.store-requires-clause-lane
store-requires-clause-lane c =
    let h = here c.self.inside.bank _ _ _ _ c.args.place c.index.result.now c.self.invariant (rw (← c.self.view_is) at c.requires.place) c.index.ensures in
    rw c.lane-lane.ensures h.within

pub store-requires-clause-slot : goal.store-requires-clause-slot
store-requires-clause-slot c =
    let h = here c.self.inside.bank _ _ _ _ c.args.place c.index.result.now c.self.invariant (rw (← c.self.view_is) at c.requires.place) c.index.ensures in
    slot_below c.args.slot h (rw (← c.self.view_is) at c.requires.slot)

pub invariant_of-self : goal.invariant_of-self
invariant_of-self c =
    let room = rw (← c.self.view_is) at c.requires.room in
    kept_with c.self.inside.bank _ _ _ _ _ c.lane-lane.result (stored_in c.args.slot c.args.state.now) c.store.ensures c.self.invariant (λ lane is. stored_sides _ _ c.args.slot c.args.state.now lane room)

pub returns : goal.returns
returns c =
    let h = here c.self.inside.bank _ _ _ _ c.args.place c.index.result.now c.self.invariant (rw (← c.self.view_is) at c.requires.place) c.index.ensures in
    let change = seat_with c.args.slot (stepped_slot c.args.state.now) in
    let t = turned_only _ c.lane-lane.result (stored_in c.args.slot c.args.state.now) change h c.store.ensures c.lane-lane.ensures (seat_at c.index.result.now c.args.slot (stepped_slot c.args.state.now) h.lane.present (fits h)) in
    t ∙ ap (λ (s : Seated). record s { seats = at_place c.args.place change s.seats }) c.self.view_is
