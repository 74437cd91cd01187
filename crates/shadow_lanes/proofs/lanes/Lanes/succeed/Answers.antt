use Rattle.std.proofs.lemmas.List.{length-map, take_all}
use Rattle.std.proofs.Common.{◌∙◌, length, ap, arith}
use Rattle.std.specs.Prelude.{List, filter}
use Rattle.shadow_state.specs.Bank.{lane_with, swapped}
use Rattle.shadow_state.proofs.Places.{at_alike}
use Rattle.shadow_lanes.specs.Seats.{Waiter, conflict_of, role_slot, stays}
use Rattle.shadow_lanes.specs.Kept.{Kept, seat_of, seats_in, seated_in, cut_back, succeeded}
use Rattle.shadow_lanes.proofs.Slots.{seat_waiters}
use Rattle.shadow_lanes.proofs.Views.{here, fits, seat_here, same_kept}
use Rattle.shadow_lanes.proofs.Fills.{within_after}
use Rattle.shadow_lanes.proofs.Refills.{refill_is, refill_kept, long_swapped, rows_here, cut_keeps, stay_here}
use Rattle.shadow_lanes.proofs.lanes.Lanes.succeed.Goals as goal

pub swap_sides-requires : goal.swap_sides-requires
swap_sides-requires c =
    let h = here c.self.inside.bank _ _ _ _ c.args.place c.index.result.now c.self.invariant (rw (← c.self.view_is) at c.requires.place) c.index.ensures in
    rw c.lane-lane.ensures h.within

pub cut_slots-stay-requires-clause-lane : goal.cut_slots-stay-requires-clause-lane
cut_slots-stay-requires-clause-lane c =
    let bank = c.self.inside.bank in
    let k = c.index-2.result.now in
    let place = rw (← c.self.view_is) at c.requires.place in
    let first = here bank _ _ _ _ c.args.place c.index.result.now c.self.invariant place c.index.ensures in
    let h = here bank _ _ _ _ c.args.place k c.self.invariant place c.index-2.ensures in
    let lane = c.lane-lane.ensures ∙ ap (λ (j : Kept). j.lane) (same_kept first h) in
    let swap = c.swap_sides.ensures ∙ ap (λ n. lane_with n swapped bank) lane in
    within_after bank c.swap_sides.new.self k.lane swapped swap h.within

pub cut_slots-stay-requires-clause-long : goal.cut_slots-stay-requires-clause-long
cut_slots-stay-requires-clause-long c =
    let bank = c.self.inside.bank in
    let k = c.index-2.result.now in
    let place = rw (← c.self.view_is) at c.requires.place in
    let first = here bank _ _ _ _ c.args.place c.index.result.now c.self.invariant place c.index.ensures in
    let h = here bank _ _ _ _ c.args.place k c.self.invariant place c.index-2.ensures in
    let lane = c.lane-lane.ensures ∙ ap (λ (j : Kept). j.lane) (same_kept first h) in
    let swap = c.swap_sides.ensures ∙ ap (λ n. lane_with n swapped bank) lane in
    long_swapped c.swap_sides.new.self h swap

pub cut_slots-stay-requires-clause-rows : goal.cut_slots-stay-requires-clause-rows
cut_slots-stay-requires-clause-rows c =
    let bank = c.self.inside.bank in
    let k = c.index-2.result.now in
    let place = rw (← c.self.view_is) at c.requires.place in
    let first = here bank _ _ _ _ c.args.place c.index.result.now c.self.invariant place c.index.ensures in
    let h = here bank _ _ _ _ c.args.place k c.self.invariant place c.index-2.ensures in
    let lane = c.lane-lane.ensures ∙ ap (λ (j : Kept). j.lane) (same_kept first h) in
    let swap = c.swap_sides.ensures ∙ ap (λ n. lane_with n swapped bank) lane in
    let read = rw (← c.self.view_is) at c.requires.rows in
    rows_here c.args.rows.now c.swap_sides.new.self h swap read

pub invariant_of-self : goal.invariant_of-self
invariant_of-self c =
    let bank = c.self.inside.bank in
    let k = c.index-2.result.now in
    let place = rw (← c.self.view_is) at c.requires.place in
    let first = here bank _ _ _ _ c.args.place c.index.result.now c.self.invariant place c.index.ensures in
    let h = here bank _ _ _ _ c.args.place k c.self.invariant place c.index-2.ensures in
    let lane = c.lane-lane.ensures ∙ ap (λ (j : Kept). j.lane) (same_kept first h) in
    let swap = c.swap_sides.ensures ∙ ap (λ n. lane_with n swapped bank) lane in
    let third = here bank _ _ _ _ c.args.place c.index_mut.result.now c.self.invariant place c.index_mut.ensures.value in
    let set = c.set_conflicts.ensures ∙ ap (λ (j : Kept). record j { conflicts = c.as_slice.result.now }) (same_kept third h) in
    let f = cut_back c.args.role c.args.cut (length k.conflicts) in
    let r = seat_of k h.lane.present in
    let cut = c.cut_slots-stay.ensures in
    let stay = c.as_slice.ensures.value ∙ stay_here c.cut_slots-stay.result.items c.swap_sides.new.self f h swap cut.stay in
    let keeps = cut_keeps c.args.role c.args.cut h in
    let many = ap (λ (j : Kept). length j.conflicts) set ∙ ap length stay ∙ length-map (f r).waiters conflict_of in
    refill_kept c.swap_sides.new.self c.cut_slots-stay.new.bank _ _ _ c.set_conflicts.new.self f h swap cut.bank keeps (ap (λ (j : Kept). j.lane) set) (ap (λ (j : Kept). j.number) set) (omega (arith, many, keeps.few)) c.self.invariant

pub returns : goal.returns
returns c =
    let bank = c.self.inside.bank in
    let k = c.index-2.result.now in
    let place = rw (← c.self.view_is) at c.requires.place in
    let first = here bank _ _ _ _ c.args.place c.index.result.now c.self.invariant place c.index.ensures in
    let h = here bank _ _ _ _ c.args.place k c.self.invariant place c.index-2.ensures in
    let lane = c.lane-lane.ensures ∙ ap (λ (j : Kept). j.lane) (same_kept first h) in
    let swap = c.swap_sides.ensures ∙ ap (λ n. lane_with n swapped bank) lane in
    let third = here bank _ _ _ _ c.args.place c.index_mut.result.now c.self.invariant place c.index_mut.ensures.value in
    let set = c.set_conflicts.ensures ∙ ap (λ (j : Kept). record j { conflicts = c.as_slice.result.now }) (same_kept third h) in
    let f = cut_back c.args.role c.args.cut (length k.conflicts) in
    let r = seat_of k h.lane.present in
    let cut = c.cut_slots-stay.ensures in
    let stay = c.as_slice.ensures.value ∙ stay_here c.cut_slots-stay.result.items c.swap_sides.new.self f h swap cut.stay in
    let new = set ∙ ap (λ ds. record k { conflicts = ds }) stay in
    let full = take_all (length k.conflicts) r.waiters (omega (arith, seat_waiters k h.lane.present (fits h))) in
    let same = at_alike c.args.place f (succeeded c.args.role c.args.cut) (seats_in bank.sides c.self.inside.seats.items) r (seat_here h) (ap (λ (ws : List Waiter). record r { optimistic = role_slot c.args.role r; waiters = filter (stays c.args.cut c.args.role) ws }) full) in
    rw (← c.self.view_is) (refill_is c.swap_sides.new.self c.cut_slots-stay.new.bank c.set_conflicts.new.self f h swap cut.bank (cut_keeps c.args.role c.args.cut h) new ∙ ap (λ seats. record (seated_in bank c.self.inside.seats.items) { seats = seats }) same)
