use Rattle.shadow_lanes.proofs.Lists.{got_map}
use Rattle.std.proofs.lemmas.List.{length-take-le}
use Rattle.std.proofs.Common.{◌∙◌, ◌+◌, ◌∷◌, ◌++◌, [], suc, length, sym, ap, arith}
use Rattle.std.specs.Prelude.{slice_get}
use Rattle.block_rule.specs.declared.role.Role.TheVariants.{Guard}
use Rattle.forest_model.specs.Origin.{placed_of}
use Rattle.forest_model.specs.Point.{Conflict}
use Rattle.txn_interp.specs.State.{Held}
use Rattle.shadow_state.specs.Bank.{Slot}
use Rattle.shadow_state.proofs.Places.{some_at}
use Rattle.shadow_lanes.specs.Seats.{started_of, conflicts_of}
use Rattle.shadow_lanes.proofs.Rows.{row_next, length_rows, waiter_here, waiter_slot, slot_got, conflict_here}
use Rattle.shadow_lanes.proofs.lanes.Lanes.positions.Goals as goal

pub push-requires-in-loop-i : goal.push-requires-in-loop-i
push-requires-in-loop-i c =
    let there = some_at c.args.self.now.seats c.args.place c.requires in
    let r = there.0 in
    let many = c.waiters-i-end.ensures.number r there.1 in
    let rows = c.loop-i.invariant r there.1 in
    let long = length-take-le (suc c.loop-i.i) (placed_of (started_of r)) (omega (arith, length_rows r, many, c.loop-i-test.true)) in
    omega (arith, ap length rows, long, c.waiters-i-end.ensures.few, c.loop-i-test.true)

pub loop-i-preserved : goal.loop-i-preserved
loop-i-preserved c = λ r is.
    let i = c.loop-i.i in
    let seats = c.args.self.now.seats in
    let many = c.waiters-i-end.ensures.number r is in
    let here = waiter_here r.waiters i (omega (arith, many, c.loop-i-test.true)) in
    let w = here.0 in
    let conflicts = got_map conflicts_of (slice_get seats c.args.place) r _ is c.conflicts-conflicts.ensures in
    let guard = ap (λ (x : Conflict). Guard x.0) (conflict_here r _ i w (0, 0) conflicts here.1) in
    let slot = slot_got seats c.args.place (i + 1) r is ∙ waiter_slot r i w here.1 in
    let state = got_map (λ (s : Slot). s.state) _ w.slot c.state-state.result.now slot c.state-state.ensures.state in
    let position = c.position-in-loop-i.ensures ∙ ap (λ (s : Held). s.position) state in
    let rows = c.loop-i.invariant r is in
    c.push-in-loop-i.ensures ∙ (λ j. rows j ++ (guard j, position j) ∷ []) ∙ sym (row_next r i w here.1)
