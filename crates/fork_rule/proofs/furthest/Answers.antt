use Rattle.std.proofs.Common.{true, false, ◌∙◌}
use Rattle.std.proofs.lemmas.Bool.{le-leb, lt-leb}
use Rattle.fork_rule.proofs.Positions.{furthest-more}
use Rattle.fork_rule.proofs.furthest.Goals as goal
use Rattle.fork_rule.proofs.furthest.Goals.{then-placed-limit, else-placed-limit}

pub loop-placed-preserved : goal.loop-placed-preserved
loop-placed-preserved c =
    elim c.if-placed-limit.branch [
      | then-placed-limit w ↦
          furthest-more c.loop-placed.found _ c.args.positions.now c.args.limit c.loop-placed.placed-index _ true c.loop-placed-test.true
          (le-leb _ _ w.if-placed-limit.true) (w.found-is ∙ w.further-found.ensures) c.loop-placed.invariant
      | else-placed-limit w ↦
          furthest-more c.loop-placed.found _ c.args.positions.now c.args.limit c.loop-placed.placed-index _ false c.loop-placed-test.true
          (lt-leb _ _ w.if-placed-limit.false) w.found-is c.loop-placed.invariant
    ]
