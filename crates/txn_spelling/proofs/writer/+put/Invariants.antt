use Rattle.std.proofs.Common.{◌≡◌, ◌≤◌, ◌+◌, ◌*◌, ◌++◌, drop}
use Rattle.txn_runs.specs.Fold.{of_stmt}
use Rattle.txn_runs.specs.Bounds.{plus, size_row, size}
use Rattle.txn_spelling.specs.Canonical.{stmts_text}
use Rattle.txn_spelling.specs.Strangers.{strangers}
use Rattle.txn_spelling.proofs.writer.+put.Given as goal

abbrev pub decreases-put_block : goal.decreases-put_block
decreases-put_block l = 4 * size l.block.now.stmts + 2

abbrev pub decreases-put_stmts : goal.decreases-put_stmts
decreases-put_stmts l = 4 * size l.stmts.now + 1

abbrev pub decreases-put_stmt : goal.decreases-put_stmt
decreases-put_stmt l = 4 * of_stmt size_row plus l.stmt.now

abbrev pub decreases-put_choice : goal.decreases-put_choice
decreases-put_choice l = 4 * (size l.yes.now.stmts + size l.no.now.stmts) + 3

abbrev pub decreases-put_loop : goal.decreases-put_loop
decreases-put_loop l = 4 * size l.body.now.stmts + 3

abbrev pub invariant-put_stmts-loop-stmt : goal.invariant-put_stmts-loop-stmt
invariant-put_stmts-loop-stmt l = record {
  told : l.out.items ++ stmts_text l.names (drop l.stmt-index l.stmts) ≡ l.fn.out.items ++ stmts_text l.names l.stmts;
  none : strangers l.names (drop l.stmt-index l.stmts) ≡ 0;
  shorter : size (drop l.stmt-index l.stmts) ≤ size l.stmts;
}
