use Rattle.std.proofs.Common.{◌∙◌, false, sym, ap, arith}
use Rattle.block_rule.specs.declared.role.Origin.{Origin}
use Rattle.shadow_state.specs.Bank.{Sides, forked, marked_in, lane_with}
use Rattle.shadow_lanes.specs.Kept.{filled_at}
use Rattle.shadow_lanes.proofs.Fills.{forked_is, marked_is, within_after}
use Rattle.shadow_lanes.proofs.Changes.{lane_twice, lane_alike}
use Rattle.shadow_lanes.proofs.fill.fill_slot.Goals as goal

pub set_out-requires-clause-lane : goal.set_out-requires-clause-lane
set_out-requires-clause-lane c = within_after c.args.bank.now c.fork_into-in-From.new.self c.lane-lane.result (forked c.slot_of-in-From.result c.args.to) c.fork_into-in-From.ensures (rw c.lane-lane.ensures c.requires.lane)

pub returns-in-Keep : goal.returns-in-Keep
returns-in-Keep c =
    let bank = c.args.bank.now in
    let k = c.args.seat.now in
    let fill : Origin → Sides → Sides = λ from. filled_at c.args.code.now.nodes bank.items k from c.args.guard c.args.to in
    let fork = forked c.slot_of.result c.args.to in
    let at = c.fork_into.ensures ∙ ap (λ n. lane_with n fork bank) c.lane-lane.ensures in
    at ∙ lane_alike bank k.lane fork (fill c.args.from) (λ lane is.
    forked_is c.slot_of.result c.args.to _ lane (c.slot_of.ensures.slot lane.other (omega (arith, c.requires.had, (c.requires.long lane is).other))) ∙ ap (λ from. fill from lane) (sym c.in-Keep.is)) c.requires.lane

pub returns-in-From : goal.returns-in-From
returns-in-From c =
    let bank = c.args.bank.now in
    let k = c.args.seat.now in
    let fill : Origin → Sides → Sides = λ from. filled_at c.args.code.now.nodes bank.items k from c.args.guard c.args.to in
    let from = c.slot_of-in-From.result in
    let both = lane_twice bank c.fork_into-in-From.new.self c.set_out.new.self c.lane-lane.result (forked from c.args.to) (marked_in c.args.to false) c.fork_into-in-From.ensures c.set_out.ensures in
    let change : Sides → Sides = λ s. marked_in c.args.to false (forked from c.args.to s) in
    both ∙ ap (λ n. lane_with n change bank) c.lane-lane.ensures ∙ lane_alike bank k.lane change (fill c.args.from) (λ lane is.
    marked_is from c.args.to _ lane (c.slot_of-in-From.ensures.slot lane.other (omega (arith, c.requires.had, (c.requires.long lane is).other))) ∙ ap (λ o. fill o lane) (sym c.in-From.is)) c.requires.lane
