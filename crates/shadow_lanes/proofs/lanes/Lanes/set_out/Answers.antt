use Rattle.std.proofs.Common.{◌∙◌, ap}
use Rattle.shadow_state.specs.Bank.{at_place, marked_slot, marked_in}
use Rattle.shadow_state.proofs.Kept.{marked_sides}
use Rattle.shadow_lanes.specs.Seats.{Seated, seat_with}
use Rattle.shadow_lanes.proofs.Slots.{seat_at}
use Rattle.shadow_lanes.proofs.Views.{here, fits, slot_below, turned_only}
use Rattle.shadow_lanes.proofs.Upkeep.{kept_with}
use Rattle.shadow_lanes.proofs.lanes.Lanes.set_out.Goals as goal

pub set_out-requires-clause-lane : goal.set_out-requires-clause-lane
set_out-requires-clause-lane c =
    let h = here c.self.inside.bank _ _ _ _ c.args.place c.index.result.now c.self.invariant (rw (← c.self.view_is) at c.requires.place) c.index.ensures in
    rw c.lane-lane.ensures h.within

pub set_out-requires-clause-slot : goal.set_out-requires-clause-slot
set_out-requires-clause-slot c =
    let h = here c.self.inside.bank _ _ _ _ c.args.place c.index.result.now c.self.invariant (rw (← c.self.view_is) at c.requires.place) c.index.ensures in
    slot_below c.args.slot h (rw (← c.self.view_is) at c.requires.slot)

pub invariant_of-self : goal.invariant_of-self
invariant_of-self c = kept_with c.self.inside.bank _ _ _ _ _ c.lane-lane.result (marked_in c.args.slot c.args.out) c.set_out.ensures c.self.invariant (λ lane is. marked_sides _ _ c.args.slot c.args.out lane)

pub returns : goal.returns
returns c =
    let h = here c.self.inside.bank _ _ _ _ c.args.place c.index.result.now c.self.invariant (rw (← c.self.view_is) at c.requires.place) c.index.ensures in
    let t = turned_only _ c.lane-lane.result (marked_in c.args.slot c.args.out) (seat_with c.args.slot (marked_slot c.args.out)) h c.set_out.ensures c.lane-lane.ensures (seat_at c.index.result.now c.args.slot (marked_slot c.args.out) h.lane.present (fits h)) in
    t ∙ ap (λ (s : Seated). record s { seats = at_place c.args.place (seat_with c.args.slot (marked_slot c.args.out)) s.seats }) c.self.view_is
