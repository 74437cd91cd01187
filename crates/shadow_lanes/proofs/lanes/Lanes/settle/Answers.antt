use Rattle.std.proofs.Common.{◌∙◌, length, sym, ap, arith}
use Rattle.shadow_state.specs.Bank.{Banked, lane_with, swapped}
use Rattle.shadow_lanes.specs.Seats.{settled_seat}
use Rattle.shadow_lanes.specs.Kept.{Kept, seat_of, refilled}
use Rattle.shadow_lanes.proofs.Views.{here, same_kept}
use Rattle.shadow_lanes.proofs.Fills.{settled_conflicts, within_after}
use Rattle.shadow_lanes.proofs.Refills.{refill_is, refill_kept, long_swapped, rows_here, settled_keeps}
use Rattle.shadow_lanes.proofs.lanes.Lanes.settle.Goals as goal

pub swap_sides-requires : goal.swap_sides-requires
swap_sides-requires c =
    let h = here c.self.inside.bank _ _ _ _ c.args.place c.index.result.now c.self.invariant (rw (← c.self.view_is) at c.requires.place) c.index.ensures in
    rw c.lane-lane.ensures h.within

pub settle_slots-requires-clause-lane : goal.settle_slots-requires-clause-lane
settle_slots-requires-clause-lane c =
    let bank = c.self.inside.bank in
    let k = c.index-2.result.now in
    let place = rw (← c.self.view_is) at c.requires.place in
    let first = here bank _ _ _ _ c.args.place c.index.result.now c.self.invariant place c.index.ensures in
    let h = here bank _ _ _ _ c.args.place k c.self.invariant place c.index-2.ensures in
    let lane = c.lane-lane.ensures ∙ ap (λ (j : Kept). j.lane) (same_kept first h) in
    let swap = c.swap_sides.ensures ∙ ap (λ n. lane_with n swapped bank) lane in
    within_after bank c.swap_sides.new.self k.lane swapped swap h.within

pub settle_slots-requires-clause-long : goal.settle_slots-requires-clause-long
settle_slots-requires-clause-long c =
    let bank = c.self.inside.bank in
    let k = c.index-2.result.now in
    let place = rw (← c.self.view_is) at c.requires.place in
    let first = here bank _ _ _ _ c.args.place c.index.result.now c.self.invariant place c.index.ensures in
    let h = here bank _ _ _ _ c.args.place k c.self.invariant place c.index-2.ensures in
    let lane = c.lane-lane.ensures ∙ ap (λ (j : Kept). j.lane) (same_kept first h) in
    let swap = c.swap_sides.ensures ∙ ap (λ n. lane_with n swapped bank) lane in
    long_swapped c.swap_sides.new.self h swap

pub settle_slots-requires-clause-rows : goal.settle_slots-requires-clause-rows
settle_slots-requires-clause-rows c =
    let bank = c.self.inside.bank in
    let k = c.index-2.result.now in
    let place = rw (← c.self.view_is) at c.requires.place in
    let first = here bank _ _ _ _ c.args.place c.index.result.now c.self.invariant place c.index.ensures in
    let h = here bank _ _ _ _ c.args.place k c.self.invariant place c.index-2.ensures in
    let lane = c.lane-lane.ensures ∙ ap (λ (j : Kept). j.lane) (same_kept first h) in
    let swap = c.swap_sides.ensures ∙ ap (λ n. lane_with n swapped bank) lane in
    let read = rw (← c.self.view_is) at c.positions-rows.ensures in
    λ lane at. c.as_slice.ensures ∙ rows_here c.positions-rows.result c.swap_sides.new.self h swap read lane at

pub invariant_of-self : goal.invariant_of-self
invariant_of-self c =
    let bank = c.self.inside.bank in
    let k = c.index-2.result.now in
    let place = rw (← c.self.view_is) at c.requires.place in
    let first = here bank _ _ _ _ c.args.place c.index.result.now c.self.invariant place c.index.ensures in
    let h = here bank _ _ _ _ c.args.place k c.self.invariant place c.index-2.ensures in
    let lane = c.lane-lane.ensures ∙ ap (λ (j : Kept). j.lane) (same_kept first h) in
    let swap = c.swap_sides.ensures ∙ ap (λ n. lane_with n swapped bank) lane in
    let third = here bank _ _ _ _ c.args.place c.index_mut.result.now c.self.invariant place c.index_mut.ensures.value in
    let set = c.set_conflicts.ensures ∙ ap (λ (j : Kept). record j { conflicts = c.args.conflicts.now }) (same_kept third h) in
    let nodes = c.args.code.now.nodes in
    let cs = c.args.conflicts.now in
    let few = rw (← c.self.view_is) at c.requires.few in
    let items = ap (λ (b : Banked). b.items) swap in
    let filled = c.settle_slots.ensures ∙ ap (λ n. lane_with k.lane (refilled k (settled_seat nodes n cs)) c.swap_sides.new.self) items in
    refill_kept c.swap_sides.new.self c.settle_slots.new.bank _ _ _ c.set_conflicts.new.self (settled_seat nodes bank.items cs) h swap filled (settled_keeps nodes cs h few) (ap (λ (j : Kept). j.lane) set) (ap (λ (j : Kept). j.number) set) (omega (arith, ap (λ (j : Kept). length j.conflicts) set, few)) c.self.invariant

pub returns : goal.returns
returns c =
    let bank = c.self.inside.bank in
    let k = c.index-2.result.now in
    let place = rw (← c.self.view_is) at c.requires.place in
    let first = here bank _ _ _ _ c.args.place c.index.result.now c.self.invariant place c.index.ensures in
    let h = here bank _ _ _ _ c.args.place k c.self.invariant place c.index-2.ensures in
    let lane = c.lane-lane.ensures ∙ ap (λ (j : Kept). j.lane) (same_kept first h) in
    let swap = c.swap_sides.ensures ∙ ap (λ n. lane_with n swapped bank) lane in
    let third = here bank _ _ _ _ c.args.place c.index_mut.result.now c.self.invariant place c.index_mut.ensures.value in
    let set = c.set_conflicts.ensures ∙ ap (λ (j : Kept). record j { conflicts = c.args.conflicts.now }) (same_kept third h) in
    let nodes = c.args.code.now.nodes in
    let cs = c.args.conflicts.now in
    let few = rw (← c.self.view_is) at c.requires.few in
    let items = ap (λ (b : Banked). b.items) swap in
    let f = settled_seat nodes bank.items cs in
    let filled = c.settle_slots.ensures ∙ ap (λ n. lane_with k.lane (refilled k (settled_seat nodes n cs)) c.swap_sides.new.self) items in
    let new = set ∙ ap (λ ds. record k { conflicts = ds }) (sym (settled_conflicts nodes bank.items cs (seat_of k h.lane.present))) in
    rw (← c.self.view_is) (refill_is c.swap_sides.new.self c.settle_slots.new.bank c.set_conflicts.new.self f h swap filled (settled_keeps nodes cs h few) new)
