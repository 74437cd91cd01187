-- The equations of a size.
use Rattle.std.specs.Prelude.{◌≡◌, ℕ, ◌+◌, ◌<◌, List, length, drop, get_or}
use Rattle.txn_runs.specs.declared.program.Stmt.{Stmt}
use Rattle.txn_runs.specs.declared.program.Stmt.TheVariants.{If, Loop}
use Rattle.txn_runs.specs.declared.program.Block.{Block}
use Rattle.txn_runs.specs.declared.program.Operand.{Operand}
use Rattle.txn_runs.specs.declared.program.Cmp.{Cmp}
use Rattle.txn_runs.specs.Fold.{of_stmt}
use Rattle.txn_runs.proofs.Folds.{of_if_is, of_loop_is, of_drop_is}
use Rattle.txn_runs.specs.Bounds.{plus, size_row, size}

pub size_if : (left right : Operand) (cmp : Cmp) (a b : Block) → of_stmt size_row plus (If left cmp right a b) ≡ 1 + size a.stmts + size b.stmts
size_if left right cmp a b = of_if_is size_row plus left right cmp a b

pub size_loop : (m : ℕ) (b : Block) → of_stmt size_row plus (Loop m b) ≡ 1 + size b.stmts
size_loop m b = of_loop_is size_row plus m b

pub size_drop : (xs : List Stmt) (i : ℕ) (s : Stmt) → i < length xs → s ≡ get_or xs i s → size (drop i xs) ≡ of_stmt size_row plus s + size (drop (i + 1) xs)
size_drop = of_drop_is size_row plus
