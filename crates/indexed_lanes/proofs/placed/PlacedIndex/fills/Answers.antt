use Rattle.std.proofs.Common.{◌↔◌, subst}
use Rattle.shadow_state.proofs.Places.{get_at}
use Rattle.indexed_lanes.proofs.Orders.{below}
use Rattle.indexed_lanes.proofs.Filling.{placed_fills}
use Rattle.indexed_lanes.proofs.placed.PlacedIndex.fills.Goals as goal

pub returns : goal.returns
returns c =
    let order = c.self.inside.order.items in
    let at = get_at order c.args.place c.index.result.now (below _ _ order c.args.place c.self.view_is c.requires.place) c.index.ensures in
    let same = placed_fills c.self.inside.index _ order _ c.args.place c.index.result.now c.args.item c.self.view_is c.self.invariant at in
    let told = c.fills.ensures in
    (λ t. same.0 (told.0 t), λ f. told.1 (same.1 f))
