use Rattle.std.proofs.Common.{true, false, sym, ◌∙◌}
use Rattle.ready_order.proofs.Picks.{picks-more}
use Rattle.ready_order.proofs.first_ready.Goals as goal
use Rattle.ready_order.proofs.first_ready.Goals.{then-is_ready, else-is_ready}

pub loop-row-preserved : goal.loop-row-preserved
loop-row-preserved c =
    elim c.if-is_ready.branch [
      | then-is_ready w ↦
          picks-more c.loop-row.best _ c.args.rows.now c.loop-row.row-index _ true c.loop-row-test.true
          (sym c.is_ready.ensures ∙ w.if-is_ready.true) (w.best-is ∙ w.earlier-best.ensures) c.loop-row.invariant
      | else-is_ready w ↦
          picks-more c.loop-row.best _ c.args.rows.now c.loop-row.row-index _ false c.loop-row-test.true
          (sym c.is_ready.ensures ∙ w.if-is_ready.false) w.best-is c.loop-row.invariant
    ]
