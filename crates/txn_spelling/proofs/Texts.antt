-- The equations of the spelling, and of the number of strangers.
use Rattle.std.specs.Prelude.{◌≡◌, ℕ, ◌+◌, ◌<◌, ◌≤◌, List, [], ◌∷◌, ◌++◌, map, length, drop, get_or, codes, Result, Ok, Err, OnOk}
use Rattle.std.proofs.Common.{refl, sym, ap, ◌∙◌, arith, add-one, drop-cons, append_assoc}
use Rattle.txn_runs.specs.declared.program.TableRef.{TableRef}
use Rattle.txn_runs.specs.declared.program.Operand.{Operand}
use Rattle.txn_runs.specs.declared.program.Op.{Op}
use Rattle.txn_runs.specs.declared.program.Cmp.{Cmp}
use Rattle.txn_runs.specs.declared.program.Stmt.{Stmt}
use Rattle.txn_runs.specs.declared.program.Stmt.TheOpen.{Stmt-F}
use Rattle.txn_runs.specs.declared.program.Stmt.TheVariants as s
use Rattle.txn_runs.specs.declared.program.Stmt.TheFolds.{fold-Block, fold_out-Block, fold-roll-Stmt}
use Rattle.txn_runs.specs.declared.program.Block.{Block}
use Rattle.txn_runs.specs.Fold.{of_stmt, block_row as number_row}
use Rattle.txn_runs.proofs.Folds.{of_if_is, of_loop_is, of_drop_is}
use Rattle.txn_runs.specs.Bounds.{plus}
use Rattle.txn_names.specs.Tables.{Named}
use Rattle.txn_spelling.specs.Canonical.{braced, else_text, calc_text, move_text, read_text, write_text, test_text, choice_text, turns_text, emit_text, fail_text, text_row, spaced, block_row, stmt_text, stmts_text}
use Rattle.txn_spelling.specs.Strangers.{stranger, stranger_row, strangers}

module _ (names : List Named) where
  spaced_map : (xs : List Stmt) → spaced (map (stmt_text names) xs) ≡ stmts_text names xs
  spaced_map [] = refl
  spaced_map (x ∷ xs) = ap (λ (texts : List ℕ). stmt_text names x ++ 32 ∷ texts) (spaced_map xs)

  abbrev block_text : Block → List ℕ
  block_text = fold-Block (List ℕ) (List ℕ) (text_row names) block_row

  block_is : (b : Block) → block_text b ≡ stmts_text names b.stmts
  block_is b = fold_out-Block (List ℕ) (List ℕ) (text_row names) block_row b ∙ spaced_map b.stmts

  pub text_calc : (to : ℕ) (left : Operand) (op : Op) (right : Operand) → stmt_text names (s.Calc to left op right) ≡ calc_text to left op right
  text_calc to left op right = ap (stmt_text names) (sym (s.rolls-Calc to left op right)) ∙ fold-roll-Stmt (List ℕ) (List ℕ) (text_row names) block_row (Stmt-F.Calc to left op right)

  pub text_move : (to : ℕ) (from : Operand) → stmt_text names (s.Move to from) ≡ move_text to from
  text_move to from = ap (stmt_text names) (sym (s.rolls-Move to from)) ∙ fold-roll-Stmt (List ℕ) (List ℕ) (text_row names) block_row (Stmt-F.Move to from)

  pub text_read : (to : ℕ) (table : TableRef) (at : Operand) → stmt_text names (s.Read to table at) ≡ read_text names to table at
  text_read to table at = ap (stmt_text names) (sym (s.rolls-Read to table at)) ∙ fold-roll-Stmt (List ℕ) (List ℕ) (text_row names) block_row (Stmt-F.Read to table at)

  pub text_write : (table : TableRef) (at from : Operand) → stmt_text names (s.Write table at from) ≡ write_text names table at from
  text_write table at from = ap (stmt_text names) (sym (s.rolls-Write table at from)) ∙ fold-roll-Stmt (List ℕ) (List ℕ) (text_row names) block_row (Stmt-F.Write table at from)

  pub text_emit : (from : Operand) → stmt_text names (s.Emit from) ≡ emit_text from
  text_emit from = ap (stmt_text names) (sym (s.rolls-Emit from)) ∙ fold-roll-Stmt (List ℕ) (List ℕ) (text_row names) block_row (Stmt-F.Emit from)

  pub text_fail : (code : Operand) → stmt_text names (s.Fail code) ≡ fail_text code
  text_fail code = ap (stmt_text names) (sym (s.rolls-Fail code)) ∙ fold-roll-Stmt (List ℕ) (List ℕ) (text_row names) block_row (Stmt-F.Fail code)

  pub text_if : (left right : Operand) (cmp : Cmp) (a b : Block) → stmt_text names (s.If left cmp right a b) ≡ test_text left cmp right ++ choice_text (stmts_text names a.stmts) (stmts_text names b.stmts)
  text_if left right cmp a b =
      ap (stmt_text names) (sym (s.rolls-If left cmp right a b)) ∙ fold-roll-Stmt (List ℕ) (List ℕ) (text_row names) block_row (Stmt-F.If left cmp right a b) ∙ ap (λ n. text_row names (Stmt-F.If left cmp right n (block_text b))) (block_is a) ∙ ap (λ n. text_row names (Stmt-F.If left cmp right (stmts_text names a.stmts) n)) (block_is b)

  pub text_loop : (m : ℕ) (b : Block) → stmt_text names (s.Loop m b) ≡ turns_text m ++ braced (stmts_text names b.stmts)
  text_loop m b =
      ap (stmt_text names) (sym (s.rolls-Loop m b)) ∙ fold-roll-Stmt (List ℕ) (List ℕ) (text_row names) block_row (Stmt-F.Loop m b) ∙ ap (λ n. text_row names (Stmt-F.Loop m n)) (block_is b)

  -- one statement less
  pub text_drop : (xs : List Stmt) (i : ℕ) (x : Stmt) → i < length xs → x ≡ get_or xs i x → stmts_text names (drop i xs) ≡ stmt_text names x ++ 32 ∷ stmts_text names (drop (i + 1) xs)
  text_drop xs i x lt is = rw (add-one, drop-cons xs i x lt, ← is) refl

  pub strangers_if : (left right : Operand) (cmp : Cmp) (a b : Block) → of_stmt (stranger_row names) plus (s.If left cmp right a b) ≡ strangers names a.stmts + strangers names b.stmts
  strangers_if left right cmp a b = of_if_is (stranger_row names) plus left right cmp a b

  pub strangers_loop : (m : ℕ) (b : Block) → of_stmt (stranger_row names) plus (s.Loop m b) ≡ strangers names b.stmts
  strangers_loop m b = of_loop_is (stranger_row names) plus m b

  pub strangers_read : (to : ℕ) (table : TableRef) (at : Operand) → of_stmt (stranger_row names) plus (s.Read to table at) ≡ stranger names table
  strangers_read to table at = ap (of_stmt (stranger_row names) plus) (sym (s.rolls-Read to table at)) ∙ fold-roll-Stmt ℕ ℕ (stranger_row names) (number_row plus) (Stmt-F.Read to table at)

  pub strangers_write : (table : TableRef) (at from : Operand) → of_stmt (stranger_row names) plus (s.Write table at from) ≡ stranger names table
  strangers_write table at from = ap (of_stmt (stranger_row names) plus) (sym (s.rolls-Write table at from)) ∙ fold-roll-Stmt ℕ ℕ (stranger_row names) (number_row plus) (Stmt-F.Write table at from)

  pub strangers_drop : (xs : List Stmt) (i : ℕ) (x : Stmt) → i < length xs → x ≡ get_or xs i x → strangers names (drop i xs) ≡ of_stmt (stranger_row names) plus x + strangers names (drop (i + 1) xs)
  strangers_drop = of_drop_is (stranger_row names) plus

  -- no statements have no `else`
  pub else_none : (xs : List Stmt) → length xs ≡ 0 → else_text (stmts_text names xs) ≡ []
  else_none [] is = refl
  else_none (x ∷ xs) is = absurd (omega (arith, is))

  else_by : (text : List ℕ) (more : List ℕ) → else_text (text ++ 32 ∷ more) ≡ codes " else " ++ braced (text ++ 32 ∷ more)
  else_by [] more = refl
  else_by (byte ∷ bytes) more = refl

  -- statements have one
  pub else_some : (xs : List Stmt) → 1 ≤ length xs → else_text (stmts_text names xs) ≡ codes " else " ++ braced (stmts_text names xs)
  else_some [] le = absurd (omega (arith, le))
  else_some (x ∷ xs) le = else_by (stmt_text names x) (stmts_text names xs)

-- appended in two parts
pub two_texts : {T E : Type 0} (old mid new a b : List ℕ) (r : Result T E) → mid ≡ old ++ a → OnOk r (new ≡ mid ++ b) → OnOk r (new ≡ old ++ (a ++ b))
two_texts old mid new a b (Ok v) first is = is ∙ ap (λ text. text ++ b) first ∙ append_assoc old a b
two_texts old mid new a b (Err e) first is = is

-- one more statement and its blank
pub stmt_told : (out one pushed text rest all : List ℕ) → one ≡ out ++ text → pushed ≡ one ++ 32 ∷ [] → out ++ (text ++ 32 ∷ rest) ≡ all → pushed ++ rest ≡ all
stmt_told out one pushed text rest all first second same =
    ap (λ t. t ++ rest) (second ∙ ap (λ t. t ++ 32 ∷ []) first) ∙ simp append_assoc same
