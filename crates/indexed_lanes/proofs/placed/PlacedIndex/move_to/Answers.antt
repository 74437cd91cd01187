use Rattle.std.specs.Prelude.{◌≤◌, length, insert, remove, map, IsOk}
use Rattle.std.proofs.Common.{◌∙◌, ap, arith}
use Rattle.std.specs.Vec.{vec_capacity}
use Rattle.shadow_state.proofs.Places.{get_at}
use Rattle.shadow_lanes.proofs.Lists.{inserted}
use Rattle.conflict_index.specs.Index.{Index, lane_at, is_marked}
use Rattle.indexed_lanes.specs.Placed.{moved}
use Rattle.indexed_lanes.proofs.Orders.{below, length_remove, moved_map, moved_all}
use Rattle.indexed_lanes.proofs.placed.PlacedIndex.move_to.Goals as goal

pub invariant_of-self : goal.invariant_of-self
invariant_of-self c =
    let order = c.self.inside.order.items in
    let from = below _ _ order c.args.from c.self.view_is c.requires.from in
    let to = below _ _ order c.args.to c.self.view_is c.requires.to in
    let at = get_at order c.args.from c.remove-lane.result from c.remove-lane.ensures.value in
    let less = length_remove order c.args.from from in
    let ok : IsOk c.insert-placed.result = c.insert-placed.ensures.succeeds (omega (arith, c.remove-lane.ensures.capacity, c.remove-lane.ensures.len, c.self.inside.order.ok.0)) in
    let items = inserted _ _ _ _ c.insert-placed.ensures.items ok in
    let more : vec_capacity c.self.inside.order ≤ vec_capacity c.insert-placed.new.self = omega (arith, c.remove-lane.ensures.capacity, c.insert-placed.ensures.capacity) in
    rw (items, c.remove-lane.ensures.items) (moved_all (length c.self.inside.index.lanes) order _ _ c.args.from c.args.to c.remove-lane.result more c.self.invariant at from to)

pub returns-clause-lanes : goal.returns-clause-lanes
returns-clause-lanes c =
    let index = c.self.inside.index in
    let order = c.self.inside.order.items in
    let from = below _ _ order c.args.from c.self.view_is c.requires.from in
    let to = below _ _ order c.args.to c.self.view_is c.requires.to in
    let at = get_at order c.args.from c.remove-lane.result from c.remove-lane.ensures.value in
    let less = length_remove order c.args.from from in
    let ok : IsOk c.insert-placed.result = c.insert-placed.ensures.succeeds (omega (arith, c.remove-lane.ensures.capacity, c.remove-lane.ensures.len, c.self.inside.order.ok.0)) in
    let items = inserted _ _ _ _ c.insert-placed.ensures.items ok in
    let within : c.args.to ≤ length (remove order c.args.from) = omega (arith, less, to) in
    ap (map (lane_at index)) items
    ∙ ap (λ ns. map (lane_at index) (insert ns c.args.to c.remove-lane.result)) c.remove-lane.ensures.items
    ∙ moved_map (lane_at index) order c.args.from c.args.to c.remove-lane.result at within
    ∙ ap (λ (v : Index). moved c.args.from c.args.to v.lanes) c.self.view_is

pub returns-clause-marks : goal.returns-clause-marks
returns-clause-marks c =
    let index = c.self.inside.index in
    let order = c.self.inside.order.items in
    let from = below _ _ order c.args.from c.self.view_is c.requires.from in
    let to = below _ _ order c.args.to c.self.view_is c.requires.to in
    let at = get_at order c.args.from c.remove-lane.result from c.remove-lane.ensures.value in
    let less = length_remove order c.args.from from in
    let ok : IsOk c.insert-placed.result = c.insert-placed.ensures.succeeds (omega (arith, c.remove-lane.ensures.capacity, c.remove-lane.ensures.len, c.self.inside.order.ok.0)) in
    let items = inserted _ _ _ _ c.insert-placed.ensures.items ok in
    let within : c.args.to ≤ length (remove order c.args.from) = omega (arith, less, to) in
    ap (map (is_marked index)) items
    ∙ ap (λ ns. map (is_marked index) (insert ns c.args.to c.remove-lane.result)) c.remove-lane.ensures.items
    ∙ moved_map (is_marked index) order c.args.from c.args.to c.remove-lane.result at within
    ∙ ap (λ (v : Index). moved c.args.from c.args.to v.marks) c.self.view_is
