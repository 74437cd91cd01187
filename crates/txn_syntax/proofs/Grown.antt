-- A machine grows as the progress does that it stands for.
use Rattle.std.proofs.Common.{◌≡◌, ℕ, suc, ◌+◌, List, [], ◌∷◌, ◌++◌, Bool, true, false, Option, None, Some, refl, sym, ap, ◌∙◌, subst, arith, length, length-append, le-leb}
use Rattle.std.specs.Prelude.{◌&&◌, nat_le}
use Rattle.std.proofs.lemmas.Bool.{leb-true}
use Rattle.txn_runs.specs.declared.program.Stmt.{Stmt}
use Rattle.txn_runs.specs.Bounds.{count_row, size_row, depth_row}
use Rattle.txn_syntax.specs.declared.place.Plain.{Plain}
use Rattle.txn_syntax.specs.declared.place.Test.{Test}
use Rattle.txn_syntax.specs.declared.measure.Measure.{Measure}
use Rattle.txn_syntax.specs.declared.body.Body.{Body}
use Rattle.txn_syntax.specs.declared.machine.Opening.TheVariants as o
use Rattle.txn_syntax.specs.declared.machine.Open.{Open}
use Rattle.txn_syntax.specs.declared.machine.Machine.{Machine}
use Rattle.txn_syntax.specs.Grammar.{Text, Nothing, Simple, If, IfElse, Loop}
use Rattle.txn_syntax.specs.Reading.{joined, Opener, Yes, No, Turn, Frame, Blocks, settled_by, settled, begun, closed_by}
use Rattle.txn_syntax.specs.Meaning.{statement_of, choice_of, turns_of, meant, test_fits, literals_fit}
use Rattle.txn_syntax.specs.Measures.{capped, none, of_plain, of_choice, of_turns, IsMeasure, is_kept}
use Rattle.txn_syntax.specs.Bodies.{Fits, IsSmall, IsBody, Adds}
use Rattle.txn_syntax.specs.Machines.{IsOpening, IsOpen, AreOpen, IsChoice, HasBlocks, IsMachine}
use Rattle.txn_syntax.proofs.Measured.{meant_joined, literals_joined, both_true, greatest_joined, sum_joined, is_then, is_none, is_plain, is_choice_of, is_turns, and_true}

fits_front : (level : ℕ) (x y : Text) → Fits level (joined x y) → Fits level x
fits_front level x y h =
    record {
      literals = (both_true (literals_fit x) (literals_fit y) (sym (literals_joined x y) ∙ h.literals)).0;
      counts = omega (arith, h.counts, greatest_joined count_row x y);
      statements = omega (arith, h.statements, sum_joined size_row x y);
      depth = omega (arith, h.depth, greatest_joined depth_row x y);
    }

fits_back : (level : ℕ) (x y : Text) → Fits level (joined x y) → Fits level y
fits_back level x y h =
    record {
      literals = (both_true (literals_fit x) (literals_fit y) (sym (literals_joined x y) ∙ h.literals)).1;
      counts = omega (arith, h.counts, greatest_joined count_row x y);
      statements = omega (arith, h.statements, sum_joined size_row x y);
      depth = omega (arith, h.depth, greatest_joined depth_row x y);
    }

and_both : (a b : Bool) → a ≡ true → b ≡ true → (a && b) ≡ true
and_both a b h k = cc

-- a text that is kept, told by its measure
kept_by : (level : ℕ) (m : Measure) (x : Text) → IsMeasure m x → Fits level x → is_kept level m ≡ true
kept_by level m x is h =
    and_both m.literals _ (is.literals ∙ h.literals)
    (and_both (nat_le m.count 1000) _ (le-leb m.count 1000 (omega (arith, is.count, h.counts)))
    (and_both (nat_le m.statements 256) (nat_le (capped (m.depth + level)) 8) (le-leb m.statements 256 (omega (arith, is.statements, h.statements))) (le-leb (capped (m.depth + level)) 8 (omega (arith, is.depth, h.depth)))))

fits_by : (level : ℕ) (m : Measure) (x : Text) → IsMeasure m x → is_kept level m ≡ true → Fits level x
fits_by level m x is h =
    let a = both_true m.literals _ h in
    let b = both_true (nat_le m.count 1000) _ a.1 in
    let c = both_true (nat_le m.statements 256) (nat_le (capped (m.depth + level)) 8) b.1 in
    let count = leb-true m.count 1000 b.0 in
    let statements = leb-true m.statements 256 c.0 in
    let deep = leb-true (capped (m.depth + level)) 8 c.1 in
    record {
      literals = sym is.literals ∙ a.0;
      counts = omega (arith, is.count, count);
      statements = omega (arith, is.statements, statements);
      depth = omega (arith, is.depth, deep);
    }

-- what is kept stays small
stays_small : (level : ℕ) (old new : Body) (kept : Bool) (text : Text) → (kept ≡ true → Fits level text × (new.stmts.items ≡ meant text)) → (kept ≡ false → new.stmts.items ≡ old.stmts.items) → IsSmall level old.stmts.items → IsSmall level new.stmts.items
stays_small level old new true text keeps drops h =
    let is = keeps refl in
    subst (IsSmall level) (sym is.1) (record { statements = is.0.statements; deep = λ some. is.0.depth })
stays_small level old new false text keeps drops h = subst (IsSmall level) (sym (drops refl)) h

-- a statement more is a text more
added : (level : ℕ) (old new : Body) (m : Measure) (stmt : Stmt) (x z : Text) → Adds level old new m stmt → IsBody level old x → IsMeasure m z → (Fits level z → meant z ≡ stmt ∷ []) → IsBody level new (joined x z)
added level old new m stmt x z adds is measures one =
    let measure : IsMeasure new.measure (joined x z) = subst (λ n. IsMeasure n (joined x z)) (sym adds.measure) (is_then old.measure m x z is.measure measures) in
    let stmts : Fits level (joined x z) → new.stmts.items ≡ meant (joined x z) = λ all.
    adds.kept (kept_by level new.measure (joined x z) measure all) ∙ ap (λ xs. xs ++ stmt ∷ []) (is.stmts (fits_front level x z all)) ∙ ap (λ ys. meant x ++ ys) (sym (one (fits_back level x z all))) ∙ sym (meant_joined x z) in
    record {
      measure = measure;
      stmts = stmts;
      small = stays_small level old new (is_kept level new.measure) (joined x z)
          (λ kept. let all = fits_by level new.measure (joined x z) measure kept in (all, stmts all))
          adds.dropped is.small;
    }

pub plain_added : (level : ℕ) (old new : Body) (plain : Plain) (x : Text) → Adds level old new (of_plain plain) (statement_of plain) → IsBody level old x → IsBody level new (joined x (Simple plain Nothing))
plain_added level old new plain x adds is = added level old new (of_plain plain) (statement_of plain) x (Simple plain Nothing) adds is (is_plain plain) (λ all. refl)

choice_added : (level : ℕ) (old new first second : Body) (test : Test) (x y t z : Text) → Adds level old new (of_choice test first.measure second.measure) (choice_of test first.stmts.items second.stmts.items) → IsBody level old t → IsBody (suc level) first x → IsBody (suc level) second y → meant z ≡ choice_of test (meant x) (meant y) ∷ [] → literals_fit z ≡ (test_fits test && (literals_fit x && literals_fit y)) → IsBody level new (joined t z)
choice_added level old new first second test x y t z adds is is_x is_y means fits =
    let measures = is_choice_of test first.measure second.measure x y z means fits is_x.measure is_y.measure in
    added level old new (of_choice test first.measure second.measure) (choice_of test first.stmts.items second.stmts.items) t z adds is measures
    (λ all.
    let lits : (test_fits test && (literals_fit x && literals_fit y)) ≡ true = sym fits ∙ all.literals in
    let both_fit : (literals_fit x && literals_fit y) ≡ true = (both_true (test_fits test) (literals_fit x && literals_fit y) lits).1 in
    let fits_x : Fits (suc level) x = record { literals = (both_true (literals_fit x) (literals_fit y) both_fit).0; counts = omega (arith, all.counts, measures.count, is_x.measure.count); statements = omega (arith, all.statements, measures.statements, is_x.measure.statements); depth = omega (arith, all.depth, measures.depth, is_x.measure.depth) } in
    let fits_y : Fits (suc level) y = record { literals = (both_true (literals_fit x) (literals_fit y) both_fit).1; counts = omega (arith, all.counts, measures.count, is_y.measure.count); statements = omega (arith, all.statements, measures.statements, is_y.measure.statements); depth = omega (arith, all.depth, measures.depth, is_y.measure.depth) } in
    means ∙ ap (λ a. choice_of test a (meant y) ∷ []) (sym (is_x.stmts fits_x)) ∙ ap (λ b. choice_of test first.stmts.items b ∷ []) (sym (is_y.stmts fits_y)))

pub new_body : (level : ℕ) (b : Body) → b.measure ≡ none → b.stmts.items ≡ [] → IsBody level b Nothing
new_body level b measure stmts = record { measure = subst (λ m. IsMeasure m Nothing) (sym measure) is_none; stmts = λ all. stmts; small = subst (IsSmall level) (sym stmts) (record { statements = omega arith; deep = λ some. absurd (omega (arith, some)) }) }

pub if_added : (level : ℕ) (old new first second : Body) (test : Test) (x t : Text) → Adds level old new (of_choice test first.measure second.measure) (choice_of test first.stmts.items second.stmts.items) → IsBody level old t → IsBody (suc level) first x → IsBody (suc level) second Nothing → IsBody level new (joined t (If test x Nothing))
if_added level old new first second test x t adds is is_x is_y = choice_added level old new first second test x Nothing t (If test x Nothing) adds is is_x is_y refl (and_true (test_fits test && literals_fit x) ∙ ap (λ v. test_fits test && v) (sym (and_true (literals_fit x))))

pub if_else_added : (level : ℕ) (old new first second : Body) (test : Test) (x y t : Text) → Adds level old new (of_choice test first.measure second.measure) (choice_of test first.stmts.items second.stmts.items) → IsBody level old t → IsBody (suc level) first x → IsBody (suc level) second y → IsBody level new (joined t (IfElse test x y Nothing))
if_else_added level old new first second test x y t adds is is_x is_y = choice_added level old new first second test x y t (IfElse test x y Nothing) adds is is_x is_y refl (and_true (test_fits test && (literals_fit x && literals_fit y)))

pub turns_added : (level : ℕ) (old new body : Body) (n : ℕ) (x t : Text) → Adds level old new (of_turns n body.measure) (turns_of n body.stmts.items) → IsBody level old t → IsBody (suc level) body x → IsBody level new (joined t (Loop n x Nothing))
turns_added level old new body n x t adds is is_x =
    let measures = is_turns n body.measure x is_x.measure in
    added level old new (of_turns n body.measure) (turns_of n body.stmts.items) t (Loop n x Nothing) adds is measures
    (λ all.
    let fits_x : Fits (suc level) x = record { literals = (both_true (literals_fit x) true all.literals).0; counts = omega (arith, all.counts, measures.count, is_x.measure.count); statements = omega (arith, all.statements, measures.statements, is_x.measure.statements); depth = omega (arith, all.depth, measures.depth, is_x.measure.depth) } in
    ap (λ a. turns_of n a ∷ []) (sym (is_x.stmts fits_x)))

settled_choice : (level : ℕ) (old new first second : Body) (test : Test) (choice : Option (Test × Text)) (t : Text) → IsChoice level (Some (test, first)) choice → Adds level old new (of_choice test first.measure second.measure) (choice_of test first.stmts.items second.stmts.items) → IsBody level old t → IsBody (suc level) second Nothing → IsBody level new (settled_by choice t)
settled_choice level old new first second test None t h adds is is_y = absurd h
settled_choice level old new first second test (Some (other, x)) t (same, is_x) adds is is_y =
    subst (λ v. IsBody level new (joined t (If v x Nothing))) same (if_added level old new first second test x t adds is is_x is_y)

length-snoc : {A : Type 0} (xs : List A) (a : A) → length (xs ++ a ∷ []) ≡ suc (length xs)
length-snoc xs a = omega (arith, length-append xs (a ∷ []))

pub opens_length : (opens : List Open) (frames : List Frame) → AreOpen opens frames → length opens ≡ length frames
opens_length opens [] h = ap length h
opens_length opens (f ∷ fs) (front, last, parts, inner, more) = ap length parts ∙ length-snoc front last ∙ ap suc (opens_length front fs more)

-- where an `if` waited for its `else`
pub settles : (level : ℕ) (m n : Machine) (test : Test) (first second : Body) (b : Blocks) → level ≡ length m.opens.items → m.choice ≡ Some (test, first) → n.choice ≡ None → n.opens ≡ m.opens → Adds level m.current n.current (of_choice test first.measure second.measure) (choice_of test first.stmts.items second.stmts.items) → second.measure ≡ none → second.stmts.items ≡ [] → HasBlocks m b → HasBlocks n (record { current = settled b; choice = None; frames = b.frames })
settles level m n test first second b deep waits choice opens adds measure stmts h =
    let same : level ≡ length b.frames = deep ∙ opens_length m.opens.items b.frames h.opens in
    let c : IsChoice (length b.frames) (Some (test, first)) b.choice = subst (λ v. IsChoice (length b.frames) v b.choice) waits h.choice in
    let adds_there : Adds (length b.frames) m.current n.current (of_choice test first.measure second.measure) (choice_of test first.stmts.items second.stmts.items) = subst (λ k. Adds k m.current n.current (of_choice test first.measure second.measure) (choice_of test first.stmts.items second.stmts.items)) same adds in
    record {
      current = settled_choice (length b.frames) m.current n.current first second test b.choice b.current c adds_there h.current (new_body (suc (length b.frames)) second measure stmts);
      choice = subst (λ v. IsChoice (length b.frames) v None) (sym choice) tt;
      opens = subst (λ (v : _). AreOpen v.items b.frames) (sym opens) h.opens;
    }

snoc_same : {A : Type 0} (xs ys : List A) (a b : A) → xs ++ a ∷ [] ≡ ys ++ b ∷ [] → (xs ≡ ys) × (a ≡ b)
snoc_same [] [] a b h = (refl, cc)
snoc_same [] (y ∷ []) a b h = cc
snoc_same [] (y ∷ z ∷ zs) a b h = cc
snoc_same (x ∷ []) [] a b h = cc
snoc_same (x ∷ z ∷ zs) [] a b h = cc
snoc_same (x ∷ xs) (y ∷ ys) a b h =
    let tails : xs ++ a ∷ [] ≡ ys ++ b ∷ [] = cc in
    let same = snoc_same xs ys a b tails in
    let heads : x ≡ y = cc in
    (ap (λ v. v ∷ xs) heads ∙ ap (λ vs. y ∷ vs) same.0, same.1)

not_snoc : {A : Type 0} (xs : List A) (a : A) → xs ++ a ∷ [] ≡ [] → ⊥
not_snoc [] a h = cc
not_snoc (x ∷ xs) a h = cc

-- the last open block is the innermost
pub last_open : (items front : List Open) (last : Open) (frames : List Frame) → items ≡ front ++ last ∷ [] → AreOpen items frames → (f : Frame) × (fs : List Frame) × (frames ≡ f ∷ fs) × IsOpen (length fs) last f × AreOpen front fs
last_open items front last [] is h = absurd (not_snoc front last (sym is ∙ h))
last_open items front last (f ∷ fs) is (front', last', is', inner, opens) =
    let same = snoc_same front' front last' last (sym is' ∙ is) in
    (f, fs, refl, subst (λ v. IsOpen (length fs) v f) same.1 inner, subst (λ v. AreOpen v fs) same.0 opens)

-- what begins an item of a machine
abbrev Begins : Machine → Machine → Type 0
Begins n last = (b : Blocks) → HasBlocks n b → IsMachine last (begun b)

module _ (n last : Machine) (begins : Begins n last) where
  blocks : (text : Text) (choice : Option (Test × Text)) (fs : List Frame) → IsBody (length fs) n.current text → IsChoice (length fs) n.choice choice → AreOpen n.opens.items fs → HasBlocks n (record { current = text; choice = choice; frames = fs })
  blocks text choice fs current is_choice opens =
      record { current = current; choice = is_choice; opens = opens }

  no_choice : (level : ℕ) → n.choice ≡ None → IsChoice level n.choice None
  no_choice level is = subst (λ v. IsChoice level v None) (sym is) tt

  pub closed_yes : (test : Test) (body : Body) (opener : Opener) (before text : Text) (fs : List Frame) → n.choice ≡ Some (test, body) → IsOpening (length fs) (o.Yes test) opener → IsBody (length fs) n.current before → IsBody (suc (length fs)) body text → AreOpen n.opens.items fs → IsMachine last (closed_by opener before fs text)
  closed_yes test body (Yes other) before text fs is same is_before is_body opens = begins _ (blocks before (Some (other, text)) fs is_before (subst (λ v. IsChoice (length fs) v (Some (other, text))) (sym is) (same, is_body)) opens)
  closed_yes test body (No other first) before text fs is same is_before is_body opens = absurd same
  closed_yes test body (Turn count) before text fs is same is_before is_body opens = absurd same

  pub closed_no : (level : ℕ) (test : Test) (old first body : Body) (opener : Opener) (before text : Text) (fs : List Frame) → level ≡ length n.opens.items → n.choice ≡ None → IsOpening (length fs) (o.No test first) opener → Adds level old n.current (of_choice test first.measure body.measure) (choice_of test first.stmts.items body.stmts.items) → IsBody (length fs) old before → IsBody (suc (length fs)) body text → AreOpen n.opens.items fs → IsMachine last (closed_by opener before fs text)
  closed_no level test old first body (Yes other) before text fs deep is same adds is_before is_body opens = absurd same
  closed_no level test old first body (No other x) before text fs deep is (same, is_first) adds is_before is_body opens =
      begins _ (blocks (joined before (IfElse other x text Nothing)) None fs (subst (λ v. IsBody (length fs) n.current (joined before (IfElse v x text Nothing))) same (if_else_added (length fs) old n.current first body test x text before (subst (λ k. Adds k old n.current (of_choice test first.measure body.measure) (choice_of test first.stmts.items body.stmts.items)) (deep ∙ opens_length n.opens.items fs opens) adds) is_before is_first is_body)) (no_choice (length fs) is) opens)
  closed_no level test old first body (Turn count) before text fs deep is same adds is_before is_body opens = absurd same

  pub closed_turns : (level : ℕ) (count : ℕ) (old body : Body) (opener : Opener) (before text : Text) (fs : List Frame) → level ≡ length n.opens.items → n.choice ≡ None → IsOpening (length fs) (o.Turns count) opener → Adds level old n.current (of_turns count body.measure) (turns_of count body.stmts.items) → IsBody (length fs) old before → IsBody (suc (length fs)) body text → AreOpen n.opens.items fs → IsMachine last (closed_by opener before fs text)
  closed_turns level count old body (Yes other) before text fs deep is same adds is_before is_body opens = absurd same
  closed_turns level count old body (No other first) before text fs deep is same adds is_before is_body opens = absurd same
  closed_turns level count old body (Turn other) before text fs deep is same adds is_before is_body opens =
      begins _ (blocks (joined before (Loop other text Nothing)) None fs (subst (λ v. IsBody (length fs) n.current (joined before (Loop v text Nothing))) same (turns_added (length fs) old n.current body count text before (subst (λ k. Adds k old n.current (of_turns count body.measure) (turns_of count body.stmts.items)) (deep ∙ opens_length n.opens.items fs opens) adds) is_before is_body)) (no_choice (length fs) is) opens)
