use Rattle.shadow_state.proofs.Places.{get_at}
use Rattle.indexed_lanes.proofs.Orders.{apart, below}
use Rattle.indexed_lanes.proofs.placed.PlacedIndex.point_of.Goals as goal

pub point_of-requires-clause-different : goal.point_of-requires-clause-different
point_of-requires-clause-different c =
    let order = c.self.inside.order.items in
    let from = get_at order c.args.reader c.index-from.result.now (below _ _ order c.args.reader c.self.view_is c.requires.reader) c.index-from.ensures in
    let to = get_at order c.args.writer c.index-to.result.now (below _ _ order c.args.writer c.self.view_is c.requires.writer) c.index-to.ensures in
    apart order c.args.reader c.args.writer _ _ c.self.invariant.once from to c.requires.different
