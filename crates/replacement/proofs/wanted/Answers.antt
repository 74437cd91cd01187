use Rattle.std.proofs.Common.{◌-◌}
use Rattle.forest_model.specs.Point.{is_sooner as is_sooner_of}
use Rattle.replacement.proofs.Placing.{put-take, in_order_more}
use Rattle.replacement.proofs.wanted.Goals as goal

pub loop-pair-preserved : goal.loop-pair-preserved
loop-pair-preserved c = record {
  kept =
      rw (c.keep_first.ensures.items, c.loop-pair.invariant.kept, in_order_more is_sooner_of c.args.points.now c.loop-pair.pair-index (0, 0) c.loop-pair-test.true)
      (put-take is_sooner_of (c.args.k - 1) _ _);
  fits = c.keep_first.ensures.fits;
}
