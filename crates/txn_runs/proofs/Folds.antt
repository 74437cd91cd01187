-- The equations of the numbers of programs.
use Rattle.std.specs.Prelude.{◌≡◌, ℕ, ◌+◌, ◌<◌, length, drop, get_or, List, [], ◌∷◌, map}
use Rattle.std.proofs.Common.{refl, sym, ap, ◌∙◌, add-one, drop-cons}
use Rattle.txn_runs.specs.declared.program.Stmt.{Stmt, out-Stmt}
use Rattle.txn_runs.specs.declared.program.Stmt.TheOpen.{Stmt-F}
use Rattle.txn_runs.specs.declared.program.Stmt.TheVariants.{Loop, rolls-Loop, If, rolls-If}
use Rattle.txn_runs.specs.declared.program.Stmt.TheFolds.{fold_out-Stmt, fold_out-Block, fold-roll-Stmt}
use Rattle.txn_runs.specs.declared.program.Block.{Block}
use Rattle.txn_runs.specs.declared.program.Operand.{Operand}
use Rattle.txn_runs.specs.declared.program.Cmp.{Cmp}
use Rattle.txn_runs.specs.Fold.{Row, joined, block_row, of_stmt, of_list, of_block, of_layer}

module _ (row : Row) (join : ℕ → ℕ → ℕ) where
  joined_map : (xs : List Stmt) → joined join (map (of_stmt row join) xs) ≡ of_list row join xs
  joined_map [] = refl
  joined_map (x ∷ xs) = ap (join (of_stmt row join x)) (joined_map xs)

  pub of_block_is : (b : Block) → of_block row join b ≡ of_list row join b.stmts
  of_block_is b = fold_out-Block ℕ ℕ row (block_row join) b ∙ joined_map b.stmts

  pub of_stmt_is : (s : Stmt) → of_stmt row join s ≡ of_layer row join (out-Stmt s)
  of_stmt_is s = fold_out-Stmt ℕ ℕ row (block_row join) s

  pub of_turns_is : (m : ℕ) (b : Block) → of_stmt row join (Loop m b) ≡ row (Stmt-F.Loop m (of_block row join b))
  of_turns_is m b = ap (of_stmt row join) (sym (rolls-Loop m b)) ∙ fold-roll-Stmt ℕ ℕ row (block_row join) (Stmt-F.Loop m b)

  pub of_loop_is : (m : ℕ) (b : Block) → of_stmt row join (Loop m b) ≡ row (Stmt-F.Loop m (of_list row join b.stmts))
  of_loop_is m b =
      of_turns_is m b ∙ ap (λ n. row (Stmt-F.Loop m n)) (of_block_is b)

  pub of_if_is : (left right : Operand) (cmp : Cmp) (a b : Block) → of_stmt row join (If left cmp right a b) ≡ row (Stmt-F.If left cmp right (of_list row join a.stmts) (of_list row join b.stmts))
  of_if_is left right cmp a b =
      ap (of_stmt row join) (sym (rolls-If left cmp right a b)) ∙ fold-roll-Stmt ℕ ℕ row (block_row join) (Stmt-F.If left cmp right a b) ∙ ap (λ n. row (Stmt-F.If left cmp right n (of_block row join b))) (of_block_is a) ∙ ap (λ n. row (Stmt-F.If left cmp right (of_list row join a.stmts) n)) (of_block_is b)

  -- one statement less
  pub of_drop_is : (xs : List Stmt) (i : ℕ) (s : Stmt) → i < length xs → s ≡ get_or xs i s → of_list row join (drop i xs) ≡ join (of_stmt row join s) (of_list row join (drop (i + 1) xs))
  of_drop_is xs i s lt is = rw (add-one, drop-cons xs i s lt, ← is) refl
