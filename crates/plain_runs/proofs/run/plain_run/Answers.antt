use Rattle.std.proofs.Common.{sym, ap, ◌∙◌}
use Rattle.txn_runs.specs.Run.{start, step}
use Rattle.txn_runs.proofs.Stepping.{after_more}
use Rattle.plain_runs.proofs.Beginning.{after_none}
use Rattle.plain_runs.proofs.run.plain_run.Goals as goal

pub loop-n-init : goal.loop-n-init
loop-n-init c = c.in_ok-run.ensures ∙ ap (start c.args.program.now) c.len.ensures.len ∙ sym (after_none c.args.program.now c.args.table.now)

pub loop-n-preserved : goal.loop-n-preserved
loop-n-preserved c = c.in_ok-step.ensures ∙ ap (step c.args.table.now c.loop-n.n) c.loop-n.invariant ∙ sym (after_more c.args.program.now c.args.table.now c.loop-n.n)
