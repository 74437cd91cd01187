use Rattle.std.proofs.Common.{◌∙◌, sym, arith}
use Rattle.shadow_lanes.proofs.Finds.{find_at, find_next}
use Rattle.shadow_lanes.proofs.lanes.Lanes.find.Goals as goal

pub returns-then-number : goal.returns-then-number
returns-then-number c = (omega (arith, c.loop-place-test.true, c.len-place-end.ensures.len), find_at c.args.self.now.seats c.args.number _ _ c.number.ensures c.if-number.true ∙ sym c.loop-place.invariant)

pub loop-place-preserved : goal.loop-place-preserved
loop-place-preserved c = c.loop-place.invariant ∙ find_next c.args.self.now.seats c.args.number _ _ c.number.ensures c.if-number.false
