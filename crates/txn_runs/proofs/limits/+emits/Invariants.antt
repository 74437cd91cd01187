use Rattle.std.proofs.Common.{◌≡◌, ◌+◌, ◌*◌, ◌≤◌, drop}
use Rattle.txn_runs.specs.Fold.{of_stmt}
use Rattle.txn_runs.specs.Bounds.{plus, size_row, size, emits_max}
use Rattle.txn_runs.proofs.limits.+emits.Given as goal

abbrev pub decreases-block_emits : goal.decreases-block_emits
decreases-block_emits l = 4 * size l.block.now.stmts + 2

abbrev pub decreases-all_emits : goal.decreases-all_emits
decreases-all_emits l = 4 * size l.stmts.now + 1

abbrev pub decreases-stmt_emits : goal.decreases-stmt_emits
decreases-stmt_emits l = 4 * of_stmt size_row plus l.stmt.now

abbrev pub decreases-turns_emits : goal.decreases-turns_emits
decreases-turns_emits l = 4 * size l.body.now.stmts + 3

abbrev pub invariant-all_emits-loop-stmt : goal.invariant-all_emits-loop-stmt
invariant-all_emits-loop-stmt l = (l.total + emits_max (drop l.stmt-index l.stmts) ≡ emits_max l.stmts) × (size (drop l.stmt-index l.stmts) ≤ size l.stmts)
