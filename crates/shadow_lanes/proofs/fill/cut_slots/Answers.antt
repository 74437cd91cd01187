use Rattle.std.proofs.lemmas.List.{length-map, map-append}
use Rattle.std.proofs.Common.{◌≡◌, ◌∙◌, ◌+◌, ◌<◌, ◌++◌, ◌∷◌, [], length, map, get_or, sym, ap, arith}
use Rattle.std.specs.Prelude.{slice_get, Some}
use Rattle.forest_model.specs.Point.{Conflict}
use Rattle.arrayvec.specs.ArrayVec.{ArrayVec}
use Rattle.shadow_state.specs.Bank.{Sides, forked, lane_with}
use Rattle.shadow_state.proofs.Places.{some_at}
use Rattle.shadow_lanes.specs.Seats.{conflict_of}
use Rattle.shadow_lanes.specs.Kept.{seat_of, refilled, cut_back}
use Rattle.shadow_lanes.proofs.Slots.{seat_waiters}
use Rattle.shadow_lanes.proofs.Rows.{length_rows}
use Rattle.shadow_lanes.proofs.Fills.{forked_is, front_is, within_after}
use Rattle.shadow_lanes.proofs.Cuts.{cut_forked, cut_passed, cut_more, cut_same, cut_waiters, Seen, seen}
use Rattle.shadow_lanes.proofs.Changes.{lane_alike}
use Rattle.shadow_lanes.proofs.fill.cut_slots.Goals as goal
use Rattle.shadow_lanes.proofs.fill.cut_slots.Goals.{then-kept, else-kept, In-loop-i}
use Rattle.block_rule.specs.declared.role.Role.TheVariants.{Optimistic}

pub loop-i-init : goal.loop-i-init
loop-i-init c =
    let bank = c.args.bank.now in
    let k = c.args.seat.now in
    let fork = forked c.slot_of.result 0 in
    let at = c.fork_into.ensures ∙ ap (λ n. lane_with n fork bank) c.lane-lane.ensures in
    record {
      bank = at ∙ lane_alike bank k.lane fork (refilled k (cut_back c.args.heir c.args.cut 0)) (λ lane is.
          forked_is c.slot_of.result 0 _ lane (c.slot_of.ensures.slot lane.other (omega (arith, c.requires.had, (c.requires.long lane is).other))) ∙ front_is _ lane) c.requires.lane;
      stay = λ lane is. c.new-stay.ensures;
      few = omega (arith, ap length c.new-stay.ensures);
    }

pub bounds-rows-i : goal.bounds-rows-i
bounds-rows-i c =
    let bank = c.args.bank.now in
    let k = c.args.seat.now in
    let there = some_at bank.sides k.lane c.requires.lane in
    let lane = there.0 in
    let waiters = seat_waiters k lane.other (omega (arith, c.requires.had, (c.requires.long lane there.1).other)) in
    omega (arith, ap length (c.requires.rows lane there.1), length_rows (seat_of k lane.other), waiters, c.loop-i-test.true, ap length c.conflicts-conflicts.ensures.conflicts)

pub fork_into-requires-then-kept-clause-lane : goal.fork_into-requires-then-kept-clause-lane
fork_into-requires-then-kept-clause-lane c = rw c.lane-lane.ensures (within_after c.args.bank.now c.loop-i.bank c.args.seat.now.lane (refilled c.args.seat.now (cut_back c.args.heir c.args.cut c.loop-i.i)) c.loop-i.invariant.bank c.requires.lane)

see : (c : In-loop-i) (lane : Sides) → slice_get c.args.bank.now.sides c.args.seat.now.lane ≡ Some lane → Seen c.args.seat.now lane.other c.args.rows.now c.conflicts-conflicts.result.now c.loop-i.i c.args.cut c.args.heir (get_or c.conflicts-conflicts.result.now c.loop-i.i (0, 0)) (get_or c.args.rows.now (c.loop-i.i + 1) (Optimistic, 0))
see c lane is =
    let fit : length c.args.seat.now.conflicts < length lane.other = omega (arith, c.requires.had, (c.requires.long lane is).other) in
    seen c.args.seat.now lane.other c.args.rows.now c.conflicts-conflicts.result.now c.loop-i.i c.args.cut c.args.heir (0, 0) (Optimistic, 0) fit c.conflicts-conflicts.ensures.conflicts (c.requires.rows lane is) c.loop-i-test.true

pub loop-i-preserved : goal.loop-i-preserved
loop-i-preserved c =
    let bank = c.args.bank.now in
    let k = c.args.seat.now in
    let heir = c.args.heir in
    let cut = c.args.cut in
    let i = c.loop-i.i in
    let h = c.loop-i.invariant in
    let look = see (goal.at.loop-i-preserved c).In-loop-i in
    elim c.if-kept.branch [
      | then-kept w ↦
          (let to = w.len.result + 1 in
          let fork = w.fork_into-then-kept.ensures ∙ ap (λ n. lane_with n (forked (i + 1) to) c.loop-i.bank) c.lane-lane.ensures in
          let yes = sym c.stays-kept.ensures ∙ w.if-kept.true in
          record {
            bank = w.bank-is ∙ cut_forked bank c.loop-i.bank w.fork_into-then-kept.new.self k heir cut i to h.bank fork c.requires.lane (λ lane is.
                let e = look lane is in
                let r = seat_of k lane.other in
                let many = ap length (h.stay lane is) ∙ length-map (cut_waiters heir cut i r) conflict_of in
                (e.waiter, (e.is, (e.there, (sym e.stays ∙ yes, (omega (arith, many, w.len.ensures.value), omega (arith, w.len.ensures.value, h.few, c.loop-i-test.true, c.requires.had, (c.requires.long lane is).present, ap length c.conflicts-conflicts.ensures.conflicts)))))));
            stay = λ lane is.
                let e = look lane is in
                let r = seat_of k lane.other in
                ap (λ (v : ArrayVec Conflict). v.items) w.stay-is ∙ w.push.ensures.items ∙ (λ j. h.stay lane is j ++ e.conflict j ∷ []) ∙ sym (map-append conflict_of (cut_waiters heir cut i r) (e.waiter ∷ [])) ∙ ap (map conflict_of) (sym (cut_more heir cut i r e.waiter e.is (sym e.stays ∙ yes)));
            few = omega (arith, ap (λ (v : ArrayVec Conflict). length v.items) w.stay-is, w.push.ensures.len, h.few);
          })
      | else-kept w ↦
          (let no = sym c.stays-kept.ensures ∙ w.if-kept.false in
          record {
            bank = w.bank-is ∙ cut_passed bank c.loop-i.bank k heir cut i h.bank c.requires.lane (λ lane is. let e = look lane is in (e.waiter, (e.is, sym e.stays ∙ no)));
            stay = λ lane is.
                let e = look lane is in
                let r = seat_of k lane.other in
                ap (λ (v : ArrayVec Conflict). v.items) w.stay-is ∙ h.stay lane is ∙ ap (map conflict_of) (sym (cut_same heir cut i r e.waiter e.is (sym e.stays ∙ no)));
            few = omega (arith, ap (λ (v : ArrayVec Conflict). length v.items) w.stay-is, h.few);
          })
    ]
