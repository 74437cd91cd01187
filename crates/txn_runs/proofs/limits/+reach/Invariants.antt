use Rattle.std.proofs.Common.{◌+◌, ◌*◌, ◌≤◌, drop}
use Rattle.txn_runs.specs.Fold.{of_stmt}
use Rattle.txn_runs.specs.Bounds.{plus, size_row, size, reach}
use Rattle.txn_runs.proofs.limits.+reach.Given as goal

abbrev pub decreases-block_fits : goal.decreases-block_fits
decreases-block_fits l = 4 * size l.block.now.stmts + 2

abbrev pub decreases-all_fit : goal.decreases-all_fit
decreases-all_fit l = 4 * size l.stmts.now + 1

abbrev pub decreases-stmt_fits : goal.decreases-stmt_fits
decreases-stmt_fits l = 4 * of_stmt size_row plus l.stmt.now

abbrev pub invariant-all_fit-loop-stmt : goal.invariant-all_fit-loop-stmt
invariant-all_fit-loop-stmt l = (reach l.stmts ≤ l.items → reach (drop l.stmt-index l.stmts) ≤ l.items) × (reach (drop l.stmt-index l.stmts) ≤ l.items → reach l.stmts ≤ l.items) × (size (drop l.stmt-index l.stmts) ≤ size l.stmts)
