use Rattle.std.proofs.lemmas.List.{take_all}
use Rattle.std.proofs.lemmas.Option.{slice_get-get_or}
use Rattle.std.proofs.Common.{◌∙◌, [], take, ap, arith}
use Rattle.shadow_state.specs.Bank.{forked, lane_with}
use Rattle.shadow_lanes.specs.Seats.{settled_seat}
use Rattle.shadow_lanes.specs.Kept.{refilled}
use Rattle.shadow_lanes.proofs.Fills.{forked_is, front_is, first_of, fill_more, long_after, within_after}
use Rattle.shadow_lanes.proofs.Changes.{lane_alike}
use Rattle.shadow_lanes.proofs.fill.settle_slots.Goals as goal

pub loop-i-init : goal.loop-i-init
loop-i-init c =
    let bank = c.args.bank.now in
    let k = c.args.seat.now in
    let at = c.fork_into.ensures ∙ ap (λ n. lane_with n (forked 0 0) bank) c.lane.ensures in
    at ∙ lane_alike bank k.lane (forked 0 0) (refilled k (settled_seat c.args.code.now.nodes bank.items [])) (λ lane is.
    forked_is 0 0 _ lane (first_of k lane.other (omega (arith, c.requires.had, (c.requires.long lane is).other))) ∙ front_is _ lane) c.requires.lane

pub fill_slot-requires-clause-lane : goal.fill_slot-requires-clause-lane
fill_slot-requires-clause-lane c = within_after c.args.bank.now c.loop-i.bank c.args.seat.now.lane _ c.loop-i.invariant c.requires.lane

pub fill_slot-requires-clause-long : goal.fill_slot-requires-clause-long
fill_slot-requires-clause-long c = long_after c.args.bank.now c.loop-i.bank c.args.seat.now (settled_seat c.args.code.now.nodes c.args.bank.now.items (take c.loop-i.i c.args.conflicts.now)) c.loop-i.invariant c.requires.lane c.requires.long

pub loop-i-preserved : goal.loop-i-preserved
loop-i-preserved c =
    fill_more c.args.bank.now c.loop-i.bank c.fill_slot.new.bank c.args.seat.now c.args.code.now.nodes c.args.rows.now c.args.conflicts.now c.loop-i.i _ c.origin-from.result c.loop-i.invariant c.fill_slot.ensures c.origin-from.ensures.origin (slice_get-get_or c.args.conflicts.now c.loop-i.i (0, 0) c.loop-i-test.true) c.requires.lane c.requires.few c.requires.long c.requires.rows

pub returns : goal.returns
returns c = c.loop-i.invariant ∙ ap (λ cs. lane_with c.args.seat.now.lane (refilled c.args.seat.now (settled_seat c.args.code.now.nodes c.args.bank.now.items cs)) c.args.bank.now) (take_all c.loop-i.i c.args.conflicts.now c.loop-i-test.false)
