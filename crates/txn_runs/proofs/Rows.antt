-- The equations of the bounds.
use Rattle.std.specs.Prelude.{◌≡◌, ℕ, zero, suc, ◌+◌, ◌*◌, ◌<◌, ◌≤◌, max, List, length, drop, get_or}
use Rattle.std.proofs.Common.{sym, ap, ◌∙◌, arith}
use Rattle.txn_runs.specs.declared.program.Stmt.{Stmt}
use Rattle.txn_runs.specs.declared.program.Stmt.TheOpen.{Stmt-F}
use Rattle.txn_runs.specs.declared.program.Stmt.TheFolds.{fold-roll-Stmt}
use Rattle.txn_runs.specs.declared.program.Stmt.TheVariants.{If, Loop, Emit, Read, Write, rolls-Emit, rolls-Read, rolls-Write}
use Rattle.txn_runs.specs.declared.program.Block.{Block}
use Rattle.txn_runs.specs.declared.program.Operand.{Operand}
use Rattle.txn_runs.specs.declared.program.TableRef.{TableRef}
use Rattle.txn_runs.specs.declared.program.Cmp.{Cmp}
use Rattle.txn_runs.specs.Fold.{of_stmt, block_row}
use Rattle.txn_runs.proofs.Folds.{of_if_is, of_loop_is, of_drop_is}
use Rattle.txn_runs.specs.Bounds.{plus, greater, steps_row, emits_row, size_row, reach_row, steps_max, emits_max, size, reach}

pub steps_if : (left right : Operand) (cmp : Cmp) (a b : Block) → of_stmt steps_row plus (If left cmp right a b) ≡ 1 + max (steps_max a.stmts) (steps_max b.stmts)
steps_if left right cmp a b = of_if_is steps_row plus left right cmp a b

pub steps_loop : (m : ℕ) (b : Block) → of_stmt steps_row plus (Loop m b) ≡ 1 + m * (1 + steps_max b.stmts)
steps_loop m b = of_loop_is steps_row plus m b

pub steps_drop : (xs : List Stmt) (i : ℕ) (s : Stmt) → i < length xs → s ≡ get_or xs i s → steps_max (drop i xs) ≡ of_stmt steps_row plus s + steps_max (drop (i + 1) xs)
steps_drop = of_drop_is steps_row plus

pub emits_if : (left right : Operand) (cmp : Cmp) (a b : Block) → of_stmt emits_row plus (If left cmp right a b) ≡ max (emits_max a.stmts) (emits_max b.stmts)
emits_if left right cmp a b = of_if_is emits_row plus left right cmp a b

pub emits_loop : (m : ℕ) (b : Block) → of_stmt emits_row plus (Loop m b) ≡ m * emits_max b.stmts
emits_loop m b = of_loop_is emits_row plus m b

pub emits_emit : (from : Operand) → of_stmt emits_row plus (Emit from) ≡ 1
emits_emit from = ap (of_stmt emits_row plus) (sym (rolls-Emit from)) ∙ fold-roll-Stmt ℕ ℕ emits_row (block_row plus) (Stmt-F.Emit from)

pub emits_drop : (xs : List Stmt) (i : ℕ) (s : Stmt) → i < length xs → s ≡ get_or xs i s → emits_max (drop i xs) ≡ of_stmt emits_row plus s + emits_max (drop (i + 1) xs)
emits_drop = of_drop_is emits_row plus

pub reach_if : (left right : Operand) (cmp : Cmp) (a b : Block) → of_stmt reach_row greater (If left cmp right a b) ≡ max (reach a.stmts) (reach b.stmts)
reach_if left right cmp a b = of_if_is reach_row greater left right cmp a b

pub reach_loop : (m : ℕ) (b : Block) → of_stmt reach_row greater (Loop m b) ≡ reach b.stmts
reach_loop m b = of_loop_is reach_row greater m b

pub reach_read : (to : ℕ) (table : TableRef) (at : Operand) → of_stmt reach_row greater (Read to table at) ≡ table.base + table.size
reach_read to table at = ap (of_stmt reach_row greater) (sym (rolls-Read to table at)) ∙ fold-roll-Stmt ℕ ℕ reach_row (block_row greater) (Stmt-F.Read to table at)

pub reach_write : (table : TableRef) (at from : Operand) → of_stmt reach_row greater (Write table at from) ≡ table.base + table.size
reach_write table at from = ap (of_stmt reach_row greater) (sym (rolls-Write table at from)) ∙ fold-roll-Stmt ℕ ℕ reach_row (block_row greater) (Stmt-F.Write table at from)

pub reach_drop : (xs : List Stmt) (i : ℕ) (s : Stmt) → i < length xs → s ≡ get_or xs i s → reach (drop i xs) ≡ max (of_stmt reach_row greater s) (reach (drop (i + 1) xs))
reach_drop = of_drop_is reach_row greater

pub size_if : (left right : Operand) (cmp : Cmp) (a b : Block) → of_stmt size_row plus (If left cmp right a b) ≡ 1 + size a.stmts + size b.stmts
size_if left right cmp a b = of_if_is size_row plus left right cmp a b

pub size_loop : (m : ℕ) (b : Block) → of_stmt size_row plus (Loop m b) ≡ 1 + size b.stmts
size_loop m b = of_loop_is size_row plus m b

pub size_drop : (xs : List Stmt) (i : ℕ) (s : Stmt) → i < length xs → s ≡ get_or xs i s → size (drop i xs) ≡ of_stmt size_row plus s + size (drop (i + 1) xs)
size_drop = of_drop_is size_row plus

-- a factor of a product fits, where the other one isn't 0
pub factor_fits : (m n : ℕ) → 1 ≤ m → n ≤ m * n
factor_fits zero n le = absurd (omega arith)
factor_fits (suc m) n le = omega arith
