use Rattle.shadow_state.proofs.Places.{get_at}
use Rattle.conflict_index.specs.Index.{lane_at, with_read}
use Rattle.indexed_lanes.proofs.Orders.{below, placed_done}
use Rattle.indexed_lanes.proofs.Marks.{placed_unmoved}
use Rattle.indexed_lanes.proofs.placed.PlacedIndex.note_read.Goals as goal

pub returns-clause-lanes : goal.returns-clause-lanes
returns-clause-lanes c =
    let order = c.self.inside.order.items in
    let at = get_at order c.args.place c.index-lane.result.now (below _ _ order c.args.place c.self.view_is c.requires.place) c.index-lane.ensures in
    placed_done c.self.inside.index c.note_read.new.self _ order _ c.args.place c.index-lane.result.now (λ l. with_read l (c.args.position, c.args.item)) c.self.view_is c.self.invariant at c.note_read.ensures.lanes

pub returns-clause-unmoved : goal.returns-clause-unmoved
returns-clause-unmoved c =
    placed_unmoved c.self.inside.index c.note_read.new.self _ c.self.inside.order.items _ c.index-lane.result.now (with_read (lane_at c.self.inside.index c.index-lane.result.now) (c.args.position, c.args.item)) c.self.view_is c.self.invariant c.note_read.ensures.lanes c.note_read.ensures.marks
