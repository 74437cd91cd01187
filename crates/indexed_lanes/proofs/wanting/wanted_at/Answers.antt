use Rattle.std.proofs.Common.{◌-◌, length, ap, arith, length-take}
use Rattle.forest_model.specs.Choose.{in_order}
use Rattle.forest_model.specs.Point.{is_sooner}
use Rattle.indexed_lanes.proofs.wanting.wanted_at.Goals as goal

pub wanted-requires-clause-least : goal.wanted-requires-clause-least
wanted-requires-clause-least c = let limits = c.note_points.ensures.limits in omega (arith, c.most.ensures, limits.least)

pub wanted-requires-clause-most : goal.wanted-requires-clause-most
wanted-requires-clause-most c = let limits = c.note_points.ensures.limits in omega (arith, c.most.ensures, limits.most)

pub returns-clause-few : goal.returns-clause-few
returns-clause-few c =
    let limits = c.note_points.ensures.limits in
    omega (arith, c.most.ensures, limits.least, ap length c.wanted.ensures, length-take (c.most.result - 1) (in_order is_sooner c.as_slice.result.now))
