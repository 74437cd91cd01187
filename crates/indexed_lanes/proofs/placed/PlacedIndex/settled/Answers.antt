use Rattle.indexed_lanes.proofs.Orders.{settled_places}
use Rattle.indexed_lanes.proofs.placed.PlacedIndex.settled.Goals as goal

pub returns : goal.returns
returns c = settled_places c.self.inside.index c.settled.new.self _ c.self.inside.order.items c.self.view_is c.settled.ensures
