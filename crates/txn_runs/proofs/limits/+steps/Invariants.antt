use Rattle.std.proofs.Common.{◌≡◌, ◌+◌, ◌*◌, ◌≤◌, drop}
use Rattle.txn_runs.specs.Fold.{of_stmt}
use Rattle.txn_runs.specs.Bounds.{plus, size_row, size, steps_max}
use Rattle.txn_runs.proofs.limits.+steps.Given as goal

abbrev pub decreases-block_steps : goal.decreases-block_steps
decreases-block_steps l = 4 * size l.block.now.stmts + 2

abbrev pub decreases-all_steps : goal.decreases-all_steps
decreases-all_steps l = 4 * size l.stmts.now + 1

abbrev pub decreases-stmt_steps : goal.decreases-stmt_steps
decreases-stmt_steps l = 4 * of_stmt size_row plus l.stmt.now

abbrev pub decreases-turns_steps : goal.decreases-turns_steps
decreases-turns_steps l = 4 * size l.body.now.stmts + 3

abbrev pub invariant-all_steps-loop-stmt : goal.invariant-all_steps-loop-stmt
invariant-all_steps-loop-stmt l = (l.total + steps_max (drop l.stmt-index l.stmts) ≡ steps_max l.stmts) × (size (drop l.stmt-index l.stmts) ≤ size l.stmts)
