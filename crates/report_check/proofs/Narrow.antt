-- All numbers of a run have 64 bits, where those of its program and of its tables have.
use Rattle.std.proofs.Common.{◌≡◌, ℕ, zero, suc, ◌+◌, ℤ, pos, negsuc, Bool, true, false, if◌then◌else◌, cond, List, [], ◌∷◌, ◌++◌, length, get_or, set, replicate, Option, Some, None, Result, Ok, Err, refl, subst, arith}
use Rattle.std.specs.Prelude.{nat_eq, int_lt, int_rem, int_div, ◌+ℤ◌, ◌-ℤ◌, ◌*ℤ◌}
use Rattle.std.specs.Ordering.{int_eq}
use Rattle.std.specs.Int.{int_min, int_max}
use Rattle.std.specs.Int.Signed.{mag_rem}
use Rattle.std.specs.List.{AllByRecursion}
use Rattle.std.proofs.lemmas.Bool.Decides.{nat_tests}
use Rattle.txn_runs.specs.declared.outcome.FaultKind.{FaultKind}
use Rattle.txn_runs.specs.declared.outcome.FaultKind.TheVariants.{Overflow, Zero}
use Rattle.txn_runs.specs.declared.outcome.End.{End}
use Rattle.txn_runs.specs.declared.outcome.End.TheVariants.{Going, Failed, Fault}
use Rattle.txn_runs.specs.declared.program.Op.{Op}
use Rattle.txn_runs.specs.declared.program.Op.TheVariants.{Add, Sub, Mul, Div, Rem, Min, Max}
use Rattle.txn_runs.specs.declared.program.Operand.{Operand}
use Rattle.txn_runs.specs.declared.program.Operand.TheVariants.{Reg, Lit}
use Rattle.txn_runs.specs.declared.program.Stmt.{Stmt, out-Stmt}
use Rattle.txn_runs.specs.declared.program.Stmt.TheOpen.{Stmt-F}
use Rattle.txn_runs.specs.declared.program.Stmt.TheVariants.{Loop}
use Rattle.txn_runs.specs.declared.program.Block.{Block}
use Rattle.txn_runs.specs.Value.{calc, holds, fits_i64, in_i64, over_divisor}
use Rattle.txn_runs.specs.Run.{Tables, Read, Running, or_fault, put, value_of, item_at, own, logged, stored, fetch, turns, act, step_from, after}
use Rattle.txn_runs.specs.Bounds.{plus, wide, wide_row, wides, is_narrow}
use Rattle.txn_runs.specs.Fold.{of_block, of_layer}
use Rattle.txn_runs.proofs.Folds.{of_block_is, of_stmt_is, of_turns_is}
use Rattle.report_check.specs.Limits.{IsNarrow, AreNarrowTables}

-- Lists.

set-all : {A : Type 0} (P : A → Type 0) (xs : List A) (i : ℕ) (v : A) → AllByRecursion P xs → P v → AllByRecursion P (set xs i v)
set-all P [] i v h k = tt
set-all P (x ∷ xs) zero v h k = (k, h.1)
set-all P (x ∷ xs) (suc i) v h k = (h.0, set-all P xs i v h.1 k)

get-all : {A : Type 0} (P : A → Type 0) (xs : List A) (i : ℕ) (d : A) → AllByRecursion P xs → P d → P (get_or xs i d)
get-all P [] i d h k = k
get-all P (x ∷ xs) zero d h k = h.0
get-all P (x ∷ xs) (suc i) d h k = get-all P xs i d h.1 k

replicate-all : {A : Type 0} (P : A → Type 0) (n : ℕ) (v : A) → P v → AllByRecursion P (replicate n v)
replicate-all P zero v k = tt
replicate-all P (suc n) v k = (k, replicate-all P n v k)

push-all : {A : Type 0} (P : A → Type 0) (xs : List A) (v : A) → AllByRecursion P xs → P v → AllByRecursion P (xs ++ v ∷ [])
push-all P [] v h k = (k, tt)
push-all P (x ∷ xs) v h k = (h.0, push-all P xs v h.1 k)

-- Calculations.

narrow-of : (z : ℤ) → fits_i64 z ≡ true → IsNarrow z
narrow-of (pos n) is = grind (arith, nat_tests)
narrow-of (negsuc n) is = grind (arith, nat_tests)

exact : (z v : ℤ) → in_i64 z ≡ Ok v → IsNarrow v
exact z v e = go (fits_i64 z) refl e
  where
    go : (b : Bool) → fits_i64 z ≡ b → (if b then Ok z else Err Overflow) ≡ Ok v → IsNarrow v
    go true is e = let same : z ≡ v = cc in subst IsNarrow same (narrow-of z is)
    go false is e = absurd (cc)

divided : (b v : ℤ) (r : Result ℤ FaultKind) → (r ≡ Ok v → IsNarrow v) → over_divisor b r ≡ Ok v → IsNarrow v
divided b v r each e = go (int_eq b (pos 0)) e
  where
    go : (c : Bool) → (if c then Err Zero else r) ≡ Ok v → IsNarrow v
    go true e = absurd (cc)
    go false e = each e

one-of : (b : Bool) (x y v : ℤ) → IsNarrow x → IsNarrow y → cond b x y ≡ v → IsNarrow v
one-of true x y v h k e = subst IsNarrow e h
one-of false x y v h k e = subst IsNarrow e k

narrow-calc : (op : Op) (a b v : ℤ) → IsNarrow a → IsNarrow b → calc op a b ≡ Ok v → IsNarrow v
narrow-calc Add a b v h k e = exact (a +ℤ b) v e
narrow-calc Sub a b v h k e = exact (a -ℤ b) v e
narrow-calc Mul a b v h k e = exact (a *ℤ b) v e
narrow-calc Div a b v h k e = divided b v (in_i64 (int_div a b)) (exact (int_div a b) v) e
narrow-calc Rem a b v h k e = divided b v (Ok (int_rem a b)) (λ is. let same : int_rem a b ≡ v = cc in subst IsNarrow same (omega (arith, mag_rem a b, h))) e
narrow-calc Min a b v h k e = let same : int_min a b ≡ v = cc in one-of (int_lt b a) b a v k h same
narrow-calc Max a b v h k e = let same : int_max a b ≡ v = cc in one-of (int_lt b a) a b v h k same

-- Runs.

abbrev IsNarrowIf : Option ℤ → Type 0
IsNarrowIf None = Unit {0}
IsNarrowIf (Some v) = IsNarrow v

abbrev pub IsNarrowEnd : End → Type 0
IsNarrowEnd Going = Unit {0}
IsNarrowEnd (Failed code) = IsNarrow code
IsNarrowEnd (Fault kind) = Unit {0}

pub record AreNarrow (s : Running) : Type 0 where
  pub registers : AllByRecursion IsNarrow s.registers
  pub writes : AllByRecursion IsNarrowIf s.writes
  pub reads : AllByRecursion (λ (r : Read). IsNarrow r.2) s.reads
  pub emits : AllByRecursion IsNarrow s.emits
  pub end : IsNarrowEnd s.end
  pub rest : wides s.rest ≡ 0

-- how many literals too wide a test counts
abbrev counted : Bool → ℕ
counted b = if b then 0 else 1

literal : (v : ℤ) → wide (Lit v) ≡ 0 → IsNarrow v
literal v none = go (is_narrow (Lit v)) refl none
  where
    fits : (v : ℤ) → is_narrow (Lit v) ≡ true → IsNarrow v
    fits (pos n) is = grind (arith, nat_tests)
    fits (negsuc n) is = grind (arith, nat_tests)

    go : (b : Bool) → is_narrow (Lit v) ≡ b → counted b ≡ 0 → IsNarrow v
    go true is none = fits v is
    go false is none = absurd (omega (arith, none))

narrow-value : (s : Running) (x : Operand) → wide x ≡ 0 → AreNarrow s → IsNarrow (value_of s x)
narrow-value s (Reg n) none h = get-all IsNarrow s.registers n (pos 0) h.registers (omega arith)
narrow-value s (Lit v) none h = literal v none

narrow-logged : (reads : List Read) (item : ℕ) → AllByRecursion (λ (r : Read). IsNarrow r.2) reads → IsNarrowIf (logged reads item)
narrow-logged [] item h = tt
narrow-logged (r ∷ reads) item h = go (nat_eq r.1 item) (narrow-logged reads item h.1)
  where
    go : (b : Bool) → IsNarrowIf (logged reads item) → IsNarrowIf (if b then Some r.2 else logged reads item)
    go true more = h.0
    go false more = more

narrow-or-fault : {A : Type 0} (s : Running) (r : Result A FaultKind) (go : A → Running) → AreNarrow s → ((a : A) → r ≡ Ok a → AreNarrow (go a)) → AreNarrow (or_fault r s go)
narrow-or-fault s (Ok a) go h each = each a refl
narrow-or-fault s (Err kind) go h each = record { registers = h.registers; writes = h.writes; reads = h.reads; emits = h.emits; end = tt; rest = h.rest }

narrow-put : (to : ℕ) (v : ℤ) (s : Running) → IsNarrow v → AreNarrow s → AreNarrow (put to v s)
narrow-put to v s k h = record { registers = set-all IsNarrow s.registers to v h.registers k; writes = h.writes; reads = h.reads; emits = h.emits; end = h.end; rest = h.rest }

narrow-fetch : (o l : Option ℤ) (table : ℤ) (n to item : ℕ) (s : Running) → IsNarrowIf o → IsNarrowIf l → IsNarrow table → AreNarrow s → AreNarrow (fetch o l table n to item s)
narrow-fetch (Some v) l table n to item s o k t h = narrow-put to v s o h
narrow-fetch None (Some v) table n to item s o k t h = narrow-put to v s k h
narrow-fetch None None table n to item s o k t h =
    narrow-put to table (record s { reads = s.reads ++ (n, item, table) ∷ [] }) t
    (record { registers = h.registers; writes = h.writes; reads = push-all (λ (r : Read). IsNarrow r.2) s.reads (n, item, table) h.reads t; emits = h.emits; end = h.end; rest = h.rest })

-- What is left.

wides-append : (xs ys : List Stmt) → wides (xs ++ ys) ≡ wides xs + wides ys
wides-append [] ys = omega arith
wides-append (x ∷ xs) ys = omega (arith, wides-append xs ys)

wides-chosen : (b : Bool) (first second : Block) → of_block wide_row plus first + of_block wide_row plus second ≡ 0 → wides (if b then first.stmts else second.stmts) ≡ 0
wides-chosen true first second none = omega (arith, of_block_is wide_row plus first, none)
wides-chosen false first second none = omega (arith, of_block_is wide_row plus second, none)

wides-turns : (count : ℕ) (b : Block) → of_block wide_row plus b ≡ 0 → wides (turns count b) ≡ 0
wides-turns zero b none = refl
wides-turns (suc m) b none =
    omega (arith, wides-append b.stmts (Loop m b ∷ []), of_turns_is wide_row plus m b, of_block_is wide_row plus b, none)

-- A step.

narrow-act : (d : Tables) (n : ℕ) (s : Running) (x : Stmt-F Stmt Block) → AreNarrowTables d → of_layer wide_row plus x ≡ 0 → AreNarrow s → AreNarrow (act d n s x)
narrow-act d n s (Stmt-F.Calc to left op right) tables none h =
    narrow-or-fault s (calc op (value_of s left) (value_of s right)) (λ v. put to v s) h
    (λ v is. narrow-put to v s (narrow-calc op (value_of s left) (value_of s right) v (narrow-value s left (omega (arith, none)) h) (narrow-value s right (omega (arith, none)) h) is) h)
narrow-act d n s (Stmt-F.Move to from) tables none h = narrow-put to (value_of s from) s (narrow-value s from none h) h
narrow-act d n s (Stmt-F.Read to table at) tables none h =
    narrow-or-fault s (item_at table (value_of s at)) _ h
    (λ item is. narrow-fetch (own s.writes item) (logged s.reads item) (stored d item) n to item s (get-all IsNarrowIf s.writes item None h.writes tt) (narrow-logged s.reads item h.reads) (tables item) h)
narrow-act d n s (Stmt-F.Write table at from) tables none h =
    narrow-or-fault s (item_at table (value_of s at)) _ h
    (λ item is. record { registers = h.registers; writes = set-all IsNarrowIf s.writes item (Some (value_of s from)) h.writes (narrow-value s from (omega (arith, none)) h); reads = h.reads; emits = h.emits; end = h.end; rest = h.rest })
narrow-act d n s (Stmt-F.If left cmp right first second) tables none h =
    let b : Bool = holds cmp (value_of s left) (value_of s right) in
    record {
      registers = h.registers;
      writes = h.writes;
      reads = h.reads;
      emits = h.emits;
      end = h.end;
      rest = omega (arith, wides-append (if b then first.stmts else second.stmts) s.rest, wides-chosen b first second (omega (arith, none)), h.rest);
    }
narrow-act d n s (Stmt-F.Loop count body) tables none h =
    record { registers = h.registers; writes = h.writes; reads = h.reads; emits = h.emits; end = h.end; rest = omega (arith, wides-append (turns count body) s.rest, wides-turns count body none, h.rest) }
narrow-act d n s (Stmt-F.Emit from) tables none h =
    record { registers = h.registers; writes = h.writes; reads = h.reads; emits = push-all IsNarrow s.emits (value_of s from) h.emits (narrow-value s from none h); end = h.end; rest = h.rest }
narrow-act d n s (Stmt-F.Fail code) tables none h =
    record { registers = h.registers; writes = h.writes; reads = h.reads; emits = h.emits; end = narrow-value s code none h; rest = h.rest }

narrow-from : (d : Tables) (n : ℕ) (s : Running) (end : End) (rest : List Stmt) → AreNarrowTables d → wides rest ≡ 0 → AreNarrow s → AreNarrow (step_from end rest d n s)
narrow-from d n s Going (first ∷ rest) tables none h =
    narrow-act d n (record s { rest = rest }) (out-Stmt first) tables (omega (arith, none, of_stmt_is wide_row plus first))
    (record { registers = h.registers; writes = h.writes; reads = h.reads; emits = h.emits; end = h.end; rest = omega (arith, none) })
narrow-from d n s Going [] tables none h = h
narrow-from d n s (Failed code) rest tables none h = h
narrow-from d n s (Fault kind) rest tables none h = h

pub after-narrow : (body : List Stmt) (d : Tables) (n : ℕ) → AreNarrowTables d → wides body ≡ 0 → AreNarrow (after body d n)
unfolding after
after-narrow body d zero tables none = record {
  registers = replicate-all IsNarrow 16 (pos 0) (omega arith);
  writes = replicate-all IsNarrowIf (length d) None tt;
  reads = tt;
  emits = tt;
  end = tt;
  rest = none;
}
after-narrow body d (suc n) tables none =
    let before = after-narrow body d n tables none in
    narrow-from d n (after body d n) (after body d n).end (after body d n).rest tables before.rest before
