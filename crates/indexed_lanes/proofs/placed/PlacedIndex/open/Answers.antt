use Rattle.indexed_lanes.proofs.Orders.{opened}
use Rattle.indexed_lanes.proofs.placed.PlacedIndex.open.Goals as goal

pub returns : goal.returns
returns c = opened c.in_ok-index.index c.args.items c.args.lanes _ c.in_ok-order.order.items c.in_ok-index.ensures c.in_ok-order.ensures
