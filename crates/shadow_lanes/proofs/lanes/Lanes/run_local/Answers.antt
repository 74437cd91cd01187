use Rattle.std.proofs.Common.{◌∙◌, false, length, sym, ap, arith}
use Rattle.shadow_state.specs.Bank.{Banked, IsOver, present_at, marked_in, state_in}
use Rattle.shadow_state.proofs.Places.{all_get, length_at}
use Rattle.shadow_state.proofs.Kept.{marked_sides, state_sides}
use Rattle.shadow_lanes.specs.Seats.{seat_with, stepped_slot}
use Rattle.shadow_lanes.proofs.Views.{here, fits, slot_below, slot_within, slot_is, lane_is, turned_only}
use Rattle.shadow_lanes.proofs.Upkeep.{kept_with}
use Rattle.shadow_lanes.proofs.Changes.{lane_twice, seat_stepped}
use Rattle.shadow_lanes.proofs.lanes.Lanes.run_local.Goals as goal

pub run_local-made-requires-clause-lane : goal.run_local-made-requires-clause-lane
run_local-made-requires-clause-lane g c =
    let h = here c.self.inside.bank _ _ _ _ c.args.place c.index.result.now c.self.invariant (rw (← c.self.view_is) at c.requires.place) c.index.ensures in
    rw c.lane-own.ensures h.within

pub run_local-made-requires-clause-slot : goal.run_local-made-requires-clause-slot
run_local-made-requires-clause-slot g c =
    let h = here c.self.inside.bank _ _ _ _ c.args.place c.index.result.now c.self.invariant (rw (← c.self.view_is) at c.requires.place) c.index.ensures in
    slot_below c.args.slot h (rw (← c.self.view_is) at c.requires.slot)

pub run_local-made-requires-clause-runs : goal.run_local-made-requires-clause-runs
run_local-made-requires-clause-runs g c =
    let h = here c.self.inside.bank _ _ _ _ c.args.place c.index.result.now c.self.invariant (rw (← c.self.view_is) at c.requires.place) c.index.ensures in
    let within = slot_within c.args.slot h (rw (← c.self.view_is) at c.requires.slot) in
    let runs = rw (← c.self.view_is) at c.requires.runs in
    λ s is. runs s (slot_is c.args.slot h within ∙ ap (λ n. present_at c.self.inside.bank n c.args.slot) (sym c.lane-own.ensures) ∙ is)

pub set_out-requires-clause-lane : goal.set_out-requires-clause-lane
set_out-requires-clause-lane g c =
    let h = here c.self.inside.bank _ _ _ _ c.args.place c.index.result.now c.self.invariant (rw (← c.self.view_is) at c.requires.place) c.index.ensures in
    let long = ap (λ (b : Banked). length b.sides) c.run_local-made.ensures.run.2.1.0 in
    omega (arith, long, length_at c.lane-own.result (state_in c.args.slot c.run_local-made.ensures.run.1) c.self.inside.bank.sides, h.within, c.lane-own.ensures)

pub set_out-requires-clause-slot : goal.set_out-requires-clause-slot
set_out-requires-clause-slot g c =
    let h = here c.self.inside.bank _ _ _ _ c.args.place c.index.result.now c.self.invariant (rw (← c.self.view_is) at c.requires.place) c.index.ensures in
    let below = slot_below c.args.slot h (rw (← c.self.view_is) at c.requires.slot) in
    let same = ap (λ (b : Banked). b.most) c.run_local-made.ensures.run.2.1.0 in
    omega (arith, below, same)

pub invariant_of-self : goal.invariant_of-self
invariant_of-self g c =
    let bank = c.self.inside.bank in
    let items = bank.items in
    let h = here bank _ _ _ _ c.args.place c.index.result.now c.self.invariant (rw (← c.self.view_is) at c.requires.place) c.index.ensures in
    let step = c.run_local-made.ensures.run in
    let slot = c.args.slot in
    let there = lane_is h c.lane-own.result slot step.0 c.lane-own.ensures step.2.0 in
    let over = all_get (IsOver items) h.lane.present slot step.0 h.sides.present.over there in
    let after = kept_with bank c.run_local-made.new.self _ _ _ _ c.lane-own.result (state_in slot step.1) step.2.1.0 c.self.invariant (λ lane is. state_sides items bank.most slot step.1 lane (step.2.1.1.room ∙ over)) in
    kept_with c.run_local-made.new.self c.set_out.new.self _ _ _ _ c.lane-own.result (marked_in slot false) c.set_out.ensures after (λ lane is. marked_sides _ _ slot false lane)

pub returns-clause-seats : goal.returns-clause-seats
returns-clause-seats g c =
    let bank = c.self.inside.bank in
    let h = here bank _ _ _ _ c.args.place c.index.result.now c.self.invariant (rw (← c.self.view_is) at c.requires.place) c.index.ensures in
    let slot = c.args.slot in
    let within = slot_within slot h (rw (← c.self.view_is) at c.requires.slot) in
    let step = c.run_local-made.ensures.run in
    let both = lane_twice bank c.run_local-made.new.self c.set_out.new.self c.lane-own.result (state_in slot step.1) (marked_in slot false) step.2.1.0 c.set_out.ensures in
    let change = seat_with slot (stepped_slot step.1) in
    let t = turned_only c.set_out.new.self c.lane-own.result (λ s. marked_in slot false (state_in slot step.1 s)) change h both c.lane-own.ensures (seat_stepped c.index.result.now slot step.1 h.lane (fits h)) in
    let there = slot_is slot h within ∙ ap (λ n. present_at bank n slot) (sym c.lane-own.ensures) ∙ step.2.0 in
    rw (← c.self.view_is) (step.0, step.1, (there, (t, step.2.1.1)))
