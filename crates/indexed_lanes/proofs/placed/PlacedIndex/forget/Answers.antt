use Rattle.shadow_state.proofs.Places.{get_at}
use Rattle.conflict_index.specs.Index.{forgotten}
use Rattle.indexed_lanes.proofs.Orders.{below, placed_done}
use Rattle.indexed_lanes.proofs.Marks.{placed_unmoved}
use Rattle.indexed_lanes.proofs.placed.PlacedIndex.forget.Goals as goal

pub returns-clause-lanes : goal.returns-clause-lanes
returns-clause-lanes c =
    let order = c.self.inside.order.items in
    let at = get_at order c.args.place c.index-lane.result.now (below _ _ order c.args.place c.self.view_is c.requires.place) c.index-lane.ensures in
    placed_done c.self.inside.index c.forget.new.self _ order _ c.args.place c.index-lane.result.now (λ l. forgotten) c.self.view_is c.self.invariant at c.forget.ensures.lanes

pub returns-clause-unmoved : goal.returns-clause-unmoved
returns-clause-unmoved c =
    placed_unmoved c.self.inside.index c.forget.new.self _ c.self.inside.order.items _ c.index-lane.result.now forgotten c.self.view_is c.self.invariant c.forget.ensures.lanes c.forget.ensures.marks
