use Rattle.std.proofs.Common.{◌∙◌, ◌<◌, arith}
use Rattle.std.specs.Vec.{vec_capacity}
use Rattle.shadow_lanes.proofs.Finds.{all_next}
use Rattle.shadow_lanes.proofs.lanes.all_lanes.Goals as goal

pub loop-lane-preserved : goal.loop-lane-preserved
loop-lane-preserved c =
    let h = c.loop-lane.invariant in
    let lt : c.loop-lane.lane < vec_capacity c.loop-lane.free = omega (arith, c.loop-lane-test.true, h.room) in
    record {
      all = rw (c.push_reserved.ensures.items, c.push_reserved.ensures.capacity) (all_next c.loop-lane.lane c.loop-lane.free.items (vec_capacity c.loop-lane.free) lt h.all);
      room = c.push_reserved.ensures.capacity ∙ h.room;
    }
