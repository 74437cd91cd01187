use Rattle.std.proofs.Common.{subst}
use mathlib.Core.List.{IsPrefix}
use Rattle.turn_cell.specs.Passes.{seen_by}
use Rattle.turn_cell.proofs.Prefixes.{prefix_trans}
use Rattle.shadow_forest.specs.Listed.{listed}
use Rattle.scc_batch.proofs.Lasting.{listed-longer}
use Rattle.scc_batch.proofs.working.worked.Goals as goal

pub returns-clause-longer : goal.returns-clause-longer
returns-clause-longer g c =
    let seen = subst (λ list. IsPrefix list (seen_by c.fan_out-pass.result)) c.in_ok-cell.ensures.pass.1 c.fan_out-pass.ensures.seen in
    listed-longer c.args.forest c.closed.result (prefix_trans (listed c.args.forest) (seen_by c.fan_out-pass.result) (listed c.closed.result) seen c.closed.ensures.seen)
