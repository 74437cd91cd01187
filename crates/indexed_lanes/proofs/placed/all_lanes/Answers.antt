use Rattle.std.proofs.Common.{◌∙◌, ◌<◌, arith}
use Rattle.std.specs.Vec.{vec_capacity}
use Rattle.shadow_lanes.proofs.Finds.{all_next}
use Rattle.indexed_lanes.proofs.placed.all_lanes.Goals as goal

pub loop-lane-preserved : goal.loop-lane-preserved
loop-lane-preserved c =
    let h = c.loop-lane.invariant in
    let lt : c.loop-lane.lane < vec_capacity c.loop-lane.order = omega (arith, c.loop-lane-test.true, h.room) in
    record {
      all = rw (c.push_reserved.ensures.items, c.push_reserved.ensures.capacity) (all_next c.loop-lane.lane c.loop-lane.order.items (vec_capacity c.loop-lane.order) lt h.all);
      room = c.push_reserved.ensures.capacity ∙ h.room;
    }
