-- The measure of a text that is put together.
use Rattle.std.proofs.Common.{◌≡◌, ℕ, zero, suc, ◌+◌, ◌*◌, ◌≤◌, List, [], ◌∷◌, ◌++◌, Bool, true, false, refl, sym, ap, ◌∙◌, arith, add-zero}
use Rattle.std.proofs.lemmas.Bool.{lt-ltb, ltb-true, le-ltb, ltb-false}
use Rattle.std.specs.Prelude.{◌&&◌, max, nat_lt}
use Rattle.txn_runs.specs.declared.program.Stmt.{Stmt}
use Rattle.txn_runs.specs.declared.program.Stmt.TheOpen.{Stmt-F}
use Rattle.txn_runs.specs.declared.program.Stmt.TheVariants as s
use Rattle.txn_runs.specs.declared.program.Stmt.TheFolds.{fold-roll-Stmt}
use Rattle.txn_runs.specs.Fold.{Row, block_row, of_stmt, of_list}
use Rattle.txn_runs.proofs.Folds.{of_if_is, of_loop_is}
use Rattle.txn_runs.specs.Bounds.{plus, greater, steps_row, emits_row, size_row, depth_row, count_row, greatest_count, size, depth, steps_max, emits_max}
use Rattle.txn_syntax.specs.declared.place.Plain.{Plain}
use Rattle.txn_syntax.specs.declared.place.Plain.TheVariants as p
use Rattle.txn_syntax.specs.declared.place.Test.{Test}
use Rattle.txn_syntax.specs.declared.measure.Measure.{Measure}
use Rattle.txn_syntax.specs.Grammar.{Text, Nothing, Simple, If, IfElse, Loop}
use Rattle.txn_syntax.specs.Reading.{joined}
use Rattle.txn_syntax.specs.Meaning.{operand_of, table_of, statement_of, meant, plain_fits, test_fits, literals_fit, broken}
use Rattle.txn_syntax.specs.Measures.{capped, none, then_of, emits_of, of_plain, of_choice, of_turns, IsMeasure, broken_by}

pub meant_joined : (x y : Text) → meant (joined x y) ≡ meant x ++ meant y
meant_joined Nothing y = refl
meant_joined (Simple plain rest) y = ap (λ xs. statement_of plain ∷ xs) (meant_joined rest y)
meant_joined (If test first rest) y = ap (λ xs. s.If (operand_of test.left) test.cmp (operand_of test.right) (record { stmts = meant first }) (record { stmts = [] }) ∷ xs) (meant_joined rest y)
meant_joined (IfElse test first second rest) y = ap (λ xs. s.If (operand_of test.left) test.cmp (operand_of test.right) (record { stmts = meant first }) (record { stmts = meant second }) ∷ xs) (meant_joined rest y)
meant_joined (Loop n body rest) y = ap (λ xs. s.Loop n (record { stmts = meant body }) ∷ xs) (meant_joined rest y)

and_assoc : (a b c : Bool) → (a && (b && c)) ≡ ((a && b) && c)
and_assoc true b c = refl
and_assoc false b c = refl

both : (a b x y : Bool) → a ≡ x → b ≡ y → (a && b) ≡ (x && y)
both a b x y is same = cc

pub both_true : (a b : Bool) → (a && b) ≡ true → (a ≡ true) × (b ≡ true)
both_true true b h = (refl, h)
both_true false b h = cc

pub and_true : (a : Bool) → (a && true) ≡ a
and_true true = refl
and_true false = refl

pub literals_joined : (x y : Text) → literals_fit (joined x y) ≡ (literals_fit x && literals_fit y)
literals_joined Nothing y = refl
literals_joined (Simple plain rest) y = ap (λ b. plain_fits plain && b) (literals_joined rest y) ∙ and_assoc (plain_fits plain) (literals_fit rest) (literals_fit y)
literals_joined (If test first rest) y = ap (λ b. (test_fits test && literals_fit first) && b) (literals_joined rest y) ∙ and_assoc (test_fits test && literals_fit first) (literals_fit rest) (literals_fit y)
literals_joined (IfElse test first second rest) y = ap (λ b. (test_fits test && (literals_fit first && literals_fit second)) && b) (literals_joined rest y) ∙ and_assoc (test_fits test && (literals_fit first && literals_fit second)) (literals_fit rest) (literals_fit y)
literals_joined (Loop n body rest) y = ap (λ b. literals_fit body && b) (literals_joined rest y) ∙ and_assoc (literals_fit body) (literals_fit rest) (literals_fit y)

sum_append : (row : Row) (xs ys : List Stmt) → of_list row plus (xs ++ ys) ≡ of_list row plus xs + of_list row plus ys
sum_append row [] ys = omega arith
sum_append row (x ∷ xs) ys = omega (arith, sum_append row xs ys)

greatest_append : (row : Row) (xs ys : List Stmt) → of_list row greater (xs ++ ys) ≡ max (of_list row greater xs) (of_list row greater ys)
greatest_append row [] ys = omega arith
greatest_append row (x ∷ xs) ys = omega (arith, greatest_append row xs ys)

pub sum_joined : (row : Row) (x y : Text) → of_list row plus (meant (joined x y)) ≡ of_list row plus (meant x) + of_list row plus (meant y)
sum_joined row x y = ap (of_list row plus) (meant_joined x y) ∙ sum_append row (meant x) (meant y)

pub greatest_joined : (row : Row) (x y : Text) → of_list row greater (meant (joined x y)) ≡ max (of_list row greater (meant x)) (of_list row greater (meant y))
greatest_joined row x y = ap (of_list row greater) (meant_joined x y) ∙ greatest_append row (meant x) (meant y)

capped_plus : (a b x y : ℕ) → a ≡ capped x → b ≡ capped y → capped (a + b) ≡ capped (x + y)
capped_plus a b x y = omega arith

capped_max : (a b x y : ℕ) → a ≡ capped x → b ≡ capped y → max a b ≡ capped (max x y)
capped_max a b x y = omega arith

capped_one : (b y : ℕ) → b ≡ capped y → capped (1 + b) ≡ capped (1 + y)
capped_one b y = omega arith

capped_times : (n b y : ℕ) → b ≡ capped y → capped (n * b) ≡ capped (n * y)
capped_times zero b y is = omega arith
capped_times (suc n) b y is = omega (arith, capped_times n b y is)

-- texts one after the other
pub is_then : (a b : Measure) (x y : Text) → IsMeasure a x → IsMeasure b y → IsMeasure (then_of a b) (joined x y)
is_then a b x y h k =
    record {
      literals = both _ _ _ _ h.literals k.literals ∙ sym (literals_joined x y);
      count = omega (arith, h.count, k.count, greatest_joined count_row x y);
      statements = capped_plus _ _ _ _ h.statements k.statements ∙ ap capped (sym (sum_joined size_row x y));
      depth = capped_max _ _ _ _ h.depth k.depth ∙ ap capped (sym (greatest_joined depth_row x y));
      steps = capped_plus _ _ _ _ h.steps k.steps ∙ ap capped (sym (sum_joined steps_row x y));
      emits = capped_plus _ _ _ _ h.emits k.emits ∙ ap capped (sym (sum_joined emits_row x y));
    }

pub is_none : IsMeasure none Nothing
is_none = record { literals = refl; count = refl; statements = refl; depth = refl; steps = refl; emits = refl }

abbrev pub leaf : Plain → Stmt-F ℕ ℕ
leaf (p.Calc to left op right) = Stmt-F.Calc to (operand_of left) op (operand_of right)
leaf (p.Move to from) = Stmt-F.Move to (operand_of from)
leaf (p.Read to table at) = Stmt-F.Read to (table_of table) (operand_of at)
leaf (p.Write table at from) = Stmt-F.Write (table_of table) (operand_of at) (operand_of from)
leaf (p.Emit from) = Stmt-F.Emit (operand_of from)
leaf (p.Fail code) = Stmt-F.Fail (operand_of code)

pub leaf_is : (row : Row) (join : ℕ → ℕ → ℕ) (plain : Plain) → of_stmt row join (statement_of plain) ≡ row (leaf plain)
leaf_is row join (p.Calc to left op right) = ap (of_stmt row join) (sym (s.rolls-Calc to (operand_of left) op (operand_of right))) ∙ fold-roll-Stmt ℕ ℕ row (block_row join) (Stmt-F.Calc to (operand_of left) op (operand_of right))
leaf_is row join (p.Move to from) = ap (of_stmt row join) (sym (s.rolls-Move to (operand_of from))) ∙ fold-roll-Stmt ℕ ℕ row (block_row join) (Stmt-F.Move to (operand_of from))
leaf_is row join (p.Read to table at) = ap (of_stmt row join) (sym (s.rolls-Read to (table_of table) (operand_of at))) ∙ fold-roll-Stmt ℕ ℕ row (block_row join) (Stmt-F.Read to (table_of table) (operand_of at))
leaf_is row join (p.Write table at from) = ap (of_stmt row join) (sym (s.rolls-Write (table_of table) (operand_of at) (operand_of from))) ∙ fold-roll-Stmt ℕ ℕ row (block_row join) (Stmt-F.Write (table_of table) (operand_of at) (operand_of from))
leaf_is row join (p.Emit from) = ap (of_stmt row join) (sym (s.rolls-Emit (operand_of from))) ∙ fold-roll-Stmt ℕ ℕ row (block_row join) (Stmt-F.Emit (operand_of from))
leaf_is row join (p.Fail code) = ap (of_stmt row join) (sym (s.rolls-Fail (operand_of code))) ∙ fold-roll-Stmt ℕ ℕ row (block_row join) (Stmt-F.Fail (operand_of code))

-- what the rows say of a statement without blocks
record LeafRows (plain : Plain) : Type 0 where
  count : count_row (leaf plain) ≡ 0
  statements : size_row (leaf plain) ≡ 1
  depth : depth_row (leaf plain) ≡ 0
  steps : steps_row (leaf plain) ≡ 1
  emits : emits_row (leaf plain) ≡ emits_of plain
  emits_one : emits_of plain ≤ 1

leaf_rows : (plain : Plain) → LeafRows plain
leaf_rows (p.Calc to left op right) = record { count = refl; statements = refl; depth = refl; steps = refl; emits = refl; emits_one = omega arith }
leaf_rows (p.Move to from) = record { count = refl; statements = refl; depth = refl; steps = refl; emits = refl; emits_one = omega arith }
leaf_rows (p.Read to table at) = record { count = refl; statements = refl; depth = refl; steps = refl; emits = refl; emits_one = omega arith }
leaf_rows (p.Write table at from) = record { count = refl; statements = refl; depth = refl; steps = refl; emits = refl; emits_one = omega arith }
leaf_rows (p.Emit from) = record { count = refl; statements = refl; depth = refl; steps = refl; emits = refl; emits_one = omega arith }
leaf_rows (p.Fail code) = record { count = refl; statements = refl; depth = refl; steps = refl; emits = refl; emits_one = omega arith }

pub is_plain : (plain : Plain) → IsMeasure (of_plain plain) (Simple plain Nothing)
is_plain plain =
    let r = leaf_rows plain in
    record {
      literals = sym (and_true (plain_fits plain));
      count = omega (arith, leaf_is count_row greater plain, r.count);
      statements = omega (arith, leaf_is size_row plus plain, r.statements);
      depth = omega (arith, leaf_is depth_row greater plain, r.depth);
      steps = omega (arith, leaf_is steps_row plus plain, r.steps);
      emits = omega (arith, leaf_is emits_row plus plain, r.emits, r.emits_one);
    }

-- an `if` over texts of these measures
pub is_choice_of : (test : Test) (a b : Measure) (x y z : Text) → meant z ≡ s.If (operand_of test.left) test.cmp (operand_of test.right) (record { stmts = meant x }) (record { stmts = meant y }) ∷ [] → literals_fit z ≡ (test_fits test && (literals_fit x && literals_fit y)) → IsMeasure a x → IsMeasure b y → IsMeasure (of_choice test a b) z
is_choice_of test a b x y z is fits h k =
    let one : (row : Row) (join : ℕ → ℕ → ℕ) → of_stmt row join (s.If (operand_of test.left) test.cmp (operand_of test.right) (record { stmts = meant x }) (record { stmts = meant y })) ≡ row (Stmt-F.If (operand_of test.left) test.cmp (operand_of test.right) (of_list row join (meant x)) (of_list row join (meant y))) =
    λ row join. of_if_is row join (operand_of test.left) (operand_of test.right) test.cmp (record { stmts = meant x }) (record { stmts = meant y }) in
    record {
      literals = ap (λ v. test_fits test && v) (both _ _ _ _ h.literals k.literals) ∙ sym fits;
      count = omega (arith, h.count, k.count, one count_row greater, ap greatest_count is);
      statements = omega (arith, h.statements, k.statements, one size_row plus, ap size is);
      depth = omega (arith, h.depth, k.depth, one depth_row greater, ap depth is);
      steps = omega (arith, h.steps, k.steps, one steps_row plus, ap steps_max is);
      emits = omega (arith, h.emits, k.emits, one emits_row plus, ap emits_max is);
    }

pub is_turns : (n : ℕ) (b : Measure) (x : Text) → IsMeasure b x → IsMeasure (of_turns n b) (Loop n x Nothing)
is_turns n b x h =
    let one : (row : Row) (join : ℕ → ℕ → ℕ) → of_stmt row join (s.Loop n (record { stmts = meant x })) ≡ row (Stmt-F.Loop n (of_list row join (meant x))) =
    λ row join. of_loop_is row join n (record { stmts = meant x }) in
    record {
      literals = h.literals ∙ sym (and_true (literals_fit x));
      count = omega (arith, h.count, one count_row greater);
      statements = omega (arith, h.statements, one size_row plus);
      depth = omega (arith, h.depth, one depth_row greater);
      steps = capped_one _ _ (capped_times n _ _ (capped_one _ _ h.steps)) ∙ ap capped (rw (one steps_row plus) (sym (add-zero _)));
      emits = capped_times n _ _ h.emits ∙ ap capped (rw (one emits_row plus) (sym (add-zero _)));
    }

below_cases : (k n : ℕ) (b : Bool) → nat_lt k n ≡ b → k ≤ 100000 → nat_lt k (capped n) ≡ b
below_cases k n true is h = lt-ltb k (capped n) (omega (arith, ltb-true k n is))
below_cases k n false is h = le-ltb k (capped n) (omega (arith, ltb-false k n is))

below_capped : (k n : ℕ) → k ≤ 100000 → nat_lt k (capped n) ≡ nat_lt k n
below_capped k n h = below_cases k n (nat_lt k n) refl h

-- a measure breaks the limit that its text breaks
pub broken_is : (m : Measure) (x : Text) → IsMeasure m x → broken_by m ≡ broken x
broken_is m x h =
    rw (h.literals, h.count, h.statements, h.depth, h.steps, h.emits, below_capped 256 _ (omega arith), below_capped 8 _ (omega arith), below_capped 100000 _ (omega arith), below_capped 64 _ (omega arith)) refl
