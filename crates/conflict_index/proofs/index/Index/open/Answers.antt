use Rattle.std.proofs.Common.{rules}
use Rattle.conflict_index.proofs.Opening.{opened-view, opened-kept}
use Rattle.conflict_index.proofs.index.Index.open.Goals as goal

pub invariant_of-result : goal.invariant_of-result
invariant_of-result c =
    let readers_are = c.in_ok-readers.ensures.items_if_clones_equal (λ y e. e) in
    let writers_are = c.in_ok-writers.ensures.items_if_clones_equal (λ y e. e) in
    let positions_are = c.in_ok-positions.ensures.items_if_clones_equal (λ y e. e) in
    let points_are = c.in_ok-points.ensures.items_if_clones_equal (search rules) in
    rw (readers_are, writers_are, positions_are, points_are) (opened-kept c.args.items c.args.lanes c.requires.items c.requires.lanes.1)

pub returns : goal.returns
returns c =
    let readers_are = c.in_ok-readers.ensures.items_if_clones_equal (λ y e. e) in
    let writers_are = c.in_ok-writers.ensures.items_if_clones_equal (λ y e. e) in
    let positions_are = c.in_ok-positions.ensures.items_if_clones_equal (λ y e. e) in
    rw (readers_are, writers_are, positions_are) (opened-view c.args.items c.args.lanes)
