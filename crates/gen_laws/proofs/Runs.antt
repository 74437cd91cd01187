-- The run of a transfer's program: it comes to its end, and moves the amount.
use Rattle.std.proofs.Common.{◌≡◌, ◌≢◌, ◌≤◌, ◌<◌, ◌^◌, ℕ, zero, suc, ◌+◌, ◌==◌, Bool, true, false, if◌then◌else◌, List, [], ◌∷◌, length, replicate, Option, Some, None, Ok, Err, refl, sym, ap, ◌∙◌, arith, lt-ltb, eqb-true}
use Rattle.std.specs.Prelude.{ℤ, pos, negsuc, ◌+ℤ◌, ◌-ℤ◌, slice_set}
use Rattle.std.proofs.lemmas.Bool.{eqb-false}
use Rattle.std.proofs.lemmas.Int.{ints}
use Rattle.std.proofs.lemmas.List.{get_or-replicate, get_or-set_same, get_or-set_other, length-set, length-replicate}
use Rattle.txn_runs.specs.declared.outcome.Outcome.{Outcome}
use Rattle.txn_runs.specs.declared.outcome.Outcome.TheVariants.{Done}
use Rattle.txn_runs.specs.declared.outcome.End.TheVariants.{Going}
use Rattle.txn_runs.specs.declared.outcome.FaultKind.TheVariants.{Range, Overflow}
use Rattle.txn_runs.specs.declared.program.Op.TheVariants.{Add, Sub}
use Rattle.txn_runs.specs.declared.program.Operand.TheVariants.{Reg, Lit}
use Rattle.txn_runs.specs.declared.program.Operand.{Operand}
use Rattle.txn_runs.specs.declared.program.Op.{Op}
use Rattle.txn_runs.specs.declared.program.TableRef.{TableRef}
use Rattle.txn_runs.specs.declared.program.Block.{Block}
use Rattle.txn_runs.specs.declared.program.Stmt.{Stmt, out-Stmt}
use Rattle.txn_runs.specs.declared.program.Stmt.TheOpen.{Stmt-F}
use Rattle.txn_runs.specs.declared.program.Stmt.TheViews.{roll-Stmt, out-roll-Stmt}
use Rattle.txn_runs.specs.declared.program.Stmt.TheVariants.{Calc, Read, Write, Loop, Emit, rolls-Calc, rolls-Read, rolls-Write, rolls-Loop, rolls-Emit}
use Rattle.txn_runs.specs.Run as run
use Rattle.txn_runs.specs.Run.{Tables, Writes, Running, start, item_at, own, logged, stored, or_fault, put, fetch, after, step}
use Rattle.txn_runs.specs.Serial.{has_ended, last_state, outcome_of, outcome_by, effect_of, effect_by, over, instead}
use Rattle.txn_runs.specs.Value.{fits_i64, in_i64}
use Rattle.txn_runs.proofs.Ending.{over_nothing}
use Rattle.txn_runs.proofs.Last.{ended_last}
use Rattle.scc_gen.specs.declared.lines.Transfer.{Transfer}
use Rattle.gen_laws.specs.Programs.{accounts, counting, program}
use Rattle.gen_laws.specs.Sums.{IsNear, AreNear}

-- a transfer as the generator draws them
pub record IsSmall (t : Transfer) : Type 0 where
  pub from : t.from < 64
  pub to : t.to < 64
  pub amount : t.amount ≤ 9
  pub turns : t.turns ≤ 3
  pub deadline : t.deadline < 1000

pub nearer : (m k : ℕ) (v : ℤ) → m ≤ k → IsNear m v → IsNear k v
nearer m k v le h = let low = h.low in let high = h.high in record { low = omega (arith, ints); high = omega (arith, ints) }

pub near-add : (m k : ℕ) (v : ℤ) → IsNear m v → IsNear (m + k) (v +ℤ pos k)
near-add m k v h = let low = h.low in let high = h.high in record { low = omega (arith, ints); high = omega (arith, ints) }

pub near-sub : (m k : ℕ) (v : ℤ) → IsNear m v → IsNear (m + k) (v -ℤ pos k)
near-sub m k v h = let low = h.low in let high = h.high in record { low = omega (arith, ints); high = omega (arith, ints) }

pub near-fits : (m : ℕ) (v : ℤ) → m ≤ 1000000 → IsNear m v → fits_i64 v ≡ true
near-fits m (pos n) le h = let high = h.high in lt-ltb n (2 ^ 63) (omega (arith, ints))
near-fits m (negsuc n) le h = let low = h.low in lt-ltb n (2 ^ 63) (omega (arith, ints))

fit : (m : ℕ) (v : ℤ) → m ≤ 1000000 → IsNear m v → in_i64 v ≡ Ok v
fit m v le h = ap (λ b. if b then Ok v else Err Overflow) (near-fits m v le h)

pub stored-near : (m : ℕ) (d : Tables) (i : ℕ) → i < length d → AreNear m d → IsNear m (stored d i)
stored-near m [] i within h = absurd (omega (arith, within))
stored-near m (v ∷ d) zero within h = h.0
stored-near m (v ∷ d) (suc i) within h = stored-near m d i (omega (arith, within)) h.1

pub set-near : (m : ℕ) (d : Tables) (i : ℕ) (v : ℤ) → IsNear m v → AreNear m d → AreNear m (slice_set d i v)
set-near m [] i v near h = tt
set-near m (u ∷ d) zero v near h = (near, h.1)
set-near m (u ∷ d) (suc i) v near h = (h.0, set-near m d i v near h.1)

pub all-nearer : (m k : ℕ) (d : Tables) → m ≤ k → AreNear m d → AreNear k d
all-nearer m k [] le h = tt
all-nearer m k (v ∷ d) le h = (nearer m k v le h.0, all-nearer m k d le h.1)

-- Statements by their kinds.

rolled : (s : Stmt) (x : Stmt-F Stmt Block) → roll-Stmt x ≡ s → out-Stmt s ≡ x
rolled s x is = ap out-Stmt (sym is) ∙ out-roll-Stmt x

calc-out : (to : ℕ) (left : Operand) (op : Op) (right : Operand) → out-Stmt (Calc to left op right) ≡ Stmt-F.Calc to left op right
calc-out to left op right = rolled (Calc to left op right) (Stmt-F.Calc to left op right) (rolls-Calc to left op right)

read-out : (to : ℕ) (table : TableRef) (at : Operand) → out-Stmt (Read to table at) ≡ Stmt-F.Read to table at
read-out to table at = rolled (Read to table at) (Stmt-F.Read to table at) (rolls-Read to table at)

write-out : (table : TableRef) (at from : Operand) → out-Stmt (Write table at from) ≡ Stmt-F.Write table at from
write-out table at from = rolled (Write table at from) (Stmt-F.Write table at from) (rolls-Write table at from)

loop-out : (count : ℕ) (body : Block) → out-Stmt (Loop count body) ≡ Stmt-F.Loop count body
loop-out count body = rolled (Loop count body) (Stmt-F.Loop count body) (rolls-Loop count body)

emit-out : (from : Operand) → out-Stmt (Emit from) ≡ Stmt-F.Emit from
emit-out from = rolled (Emit from) (Stmt-F.Emit from) (rolls-Emit from)

-- Steps.

-- a run that goes on, with five registers that aren't 0
abbrev state : List Stmt → ℤ → ℤ → ℤ → ℤ → ℤ → Writes → List run.Read → List ℤ → Running
state rest a b c e k writes reads emits = record {
  rest = rest;
  registers = a ∷ b ∷ c ∷ e ∷ k ∷ replicate 11 (pos 0);
  writes = writes;
  reads = reads;
  emits = emits;
  end = Going;
}

item-is : (i : ℕ) → i < 64 → item_at accounts (pos i) ≡ Ok i
item-is i small = ap (λ b. if b then Ok (0 + i) else Err Range) (lt-ltb i 64 small) ∙ ap (λ k. Ok k) (omega arith)

-- the tables after the amount left the one item
abbrev pub taken : Transfer → Tables → Tables
taken t d = slice_set d t.from (stored d t.from -ℤ pos t.amount)

-- and after it came to the other
abbrev pub moved : Transfer → Tables → Tables
moved t d = slice_set (taken t d) t.to (stored (taken t d) t.to +ℤ pos t.amount)

abbrev no_writes : Writes
no_writes = replicate 64 None

none-own : (i : ℕ) → i < 64 → own no_writes i ≡ None
none-own i small = get_or-replicate 64 i None None small

-- what the run writes
abbrev first_write : Transfer → Tables → Writes
first_write t d = slice_set no_writes t.from (Some (stored d t.from -ℤ pos t.amount))

abbrev both_writes : Transfer → Tables → Writes
both_writes t d = slice_set (first_write t d) t.to (Some (stored (taken t d) t.to +ℤ pos t.amount))

-- the second read finds what was written, or the table's value
second-read : (t : Transfer) (d : Tables) (n to : ℕ) (rest : List Stmt) (a b : ℤ) → IsSmall t → length d ≡ 64
    → (reads : List run.Read) × (run.read d n 2 (state rest a b (pos 0) (pos 0) (pos 0) (first_write t d) ((0, t.from, stored d t.from) ∷ []) []) t.to
    ≡ state rest a b (stored (taken t d) t.to) (pos 0) (pos 0) (first_write t d) reads [])
second-read t d n to rest a b small many = go (t.from == t.to) refl
  where
    x : ℤ
    x = stored d t.from

    s : Running
    s = state rest a b (pos 0) (pos 0) (pos 0) (first_write t d) ((0, t.from, x) ∷ []) []

    go : (same : Bool) → (t.from == t.to) ≡ same
        → (reads : List run.Read) × (run.read d n 2 s t.to ≡ state rest a b (stored (taken t d) t.to) (pos 0) (pos 0) (first_write t d) reads [])
    go true is =
        let same : t.from ≡ t.to = eqb-true t.from t.to is in
        let mine : own (first_write t d) t.to ≡ Some (x -ℤ pos t.amount) =
        ap (own (first_write t d)) (sym same) ∙ get_or-set_same no_writes t.from (Some (x -ℤ pos t.amount)) None small.from in
        let is-stored : stored (taken t d) t.to ≡ x -ℤ pos t.amount =
        ap (stored (taken t d)) (sym same) ∙ get_or-set_same d t.from (x -ℤ pos t.amount) (pos 0) (let f = small.from in omega (arith, f, many)) in (
          (0, t.from, x) ∷ [],
          ap (λ o. fetch o (logged s.reads t.to) (stored d t.to) n 2 t.to s) mine
              ∙ ap (λ v. state rest a b v (pos 0) (pos 0) (first_write t d) ((0, t.from, x) ∷ []) []) (sym is-stored),
        )
    go false is =
        let other : t.to ≢ t.from = λ e. eqb-false t.from t.to is (sym e) in
        let mine : own (first_write t d) t.to ≡ None = get_or-set_other no_writes t.from t.to (Some (x -ℤ pos t.amount)) None other ∙ none-own t.to small.to in
        let read : logged s.reads t.to ≡ None = ap (λ b. if b then Some x else None) is in
        let is-stored : stored (taken t d) t.to ≡ stored d t.to = get_or-set_other d t.from t.to (x -ℤ pos t.amount) (pos 0) other in (
          (0, t.from, x) ∷ (n, t.to, stored d t.to) ∷ [],
          ap (λ o. fetch o (logged s.reads t.to) (stored d t.to) n 2 t.to s) mine
              ∙ ap (λ l. fetch None l (stored d t.to) n 2 t.to s) read
              ∙ ap (λ v. state rest a b v (pos 0) (pos 0) (first_write t d) ((0, t.from, x) ∷ (n, t.to, stored d t.to) ∷ []) []) (sym is-stored),
        )

-- what is left behind the two writes
abbrev last_two : Transfer → ℕ → List Stmt
last_two t m = Loop m (record { stmts = counting ∷ [] }) ∷ Emit (Lit (pos t.amount)) ∷ []

-- six steps read and write
six-steps : (t : Transfer) (d : Tables) (m : ℕ) → IsSmall t → length d ≡ 64 → AreNear m d → m + 20 ≤ 1000000
    → (reads : List run.Read)
    × (after (program t) d 6
    ≡ state (last_two t t.turns) (stored d t.from) (stored d t.from -ℤ pos t.amount) (stored (taken t d) t.to) (stored (taken t d) t.to +ℤ pos t.amount) (pos 0) (both_writes t d) reads [])
unfolding after program
six-steps t d m small many near few =
    let x : ℤ = stored d t.from in
    let y : ℤ = stored (taken t d) t.to in
    let v : ℤ = pos t.amount in
    let r6 : List Stmt = last_two t t.turns in
    let r5 : List Stmt = Write accounts (Lit (pos t.to)) (Reg 3) ∷ r6 in
    let r4 : List Stmt = Calc 3 (Reg 2) Add (Lit v) ∷ r5 in
    let r3 : List Stmt = Read 2 accounts (Lit (pos t.to)) ∷ r4 in
    let r2 : List Stmt = Write accounts (Lit (pos t.from)) (Reg 1) ∷ r3 in
    let r1 : List Stmt = Calc 1 (Reg 0) Sub (Lit v) ∷ r2 in
    let one : List run.Read = (0, t.from, x) ∷ [] in
    let f = small.from in
    let a = small.amount in
    let o = small.to in
    let near_x : IsNear m x = stored-near m d t.from (omega (arith, f, many)) near in
    let less : IsNear (m + t.amount) (x -ℤ v) = near-sub m t.amount x near_x in
    let near_e : AreNear (m + t.amount) (taken t d) = set-near (m + t.amount) d t.from (x -ℤ v) less (all-nearer m (m + t.amount) d (omega arith) near) in
    let near_y : IsNear (m + t.amount) y = stored-near (m + t.amount) (taken t d) t.to (omega (arith, o, many, length-set d t.from (x -ℤ v))) near_e in
    let more : IsNear (m + t.amount + t.amount) (y +ℤ v) = near-add (m + t.amount) t.amount y near_y in
    let fit-less : in_i64 (x -ℤ v) ≡ Ok (x -ℤ v) = fit (m + t.amount) (x -ℤ v) (omega arith) less in
    let fit-more : in_i64 (y +ℤ v) ≡ Ok (y +ℤ v) = fit (m + t.amount + t.amount) (y +ℤ v) (omega arith) more in
    let s0 : Running = state (Read 0 accounts (Lit (pos t.from)) ∷ r1) (pos 0) (pos 0) (pos 0) (pos 0) (pos 0) no_writes [] [] in
    let at0 : start (program t) (length d) ≡ s0 = ap (start (program t)) many in
    let u1 : Running = record s0 { rest = r1 } in
    let s1 : Running = state r1 x (pos 0) (pos 0) (pos 0) (pos 0) no_writes one [] in
    let at1 : step d 0 s0 ≡ s1 =
    ap (run.act d 0 u1) (read-out 0 accounts (Lit (pos t.from))) ∙ ap (λ i. or_fault i u1 (run.read d 0 0 u1)) (item-is t.from f) ∙ ap (λ w. fetch w None x 0 0 t.from u1) (none-own t.from f) in
    let u2 : Running = record s1 { rest = r2 } in
    let s2 : Running = state r2 x (x -ℤ v) (pos 0) (pos 0) (pos 0) no_writes one [] in
    let at2 : step d 1 s1 ≡ s2 = ap (run.act d 1 u2) (calc-out 1 (Reg 0) Sub (Lit v)) ∙ ap (λ i. or_fault i u2 (λ w. put 1 w u2)) fit-less in
    let u3 : Running = record s2 { rest = r3 } in
    let s3 : Running = state r3 x (x -ℤ v) (pos 0) (pos 0) (pos 0) (first_write t d) one [] in
    let at3 : step d 2 s2 ≡ s3 = ap (run.act d 2 u3) (write-out accounts (Lit (pos t.from)) (Reg 1)) ∙ ap (λ i. or_fault i u3 (run.write (x -ℤ v) u3)) (item-is t.from f) in
    let got = second-read t d 3 t.to r4 x (x -ℤ v) small many in
    let u4 : Running = record s3 { rest = r4 } in
    let s4 : Running = state r4 x (x -ℤ v) y (pos 0) (pos 0) (first_write t d) got.0 [] in
    let at4 : step d 3 s3 ≡ s4 = ap (run.act d 3 u4) (read-out 2 accounts (Lit (pos t.to))) ∙ ap (λ i. or_fault i u4 (run.read d 3 2 u4)) (item-is t.to o) ∙ got.1 in
    let u5 : Running = record s4 { rest = r5 } in
    let s5 : Running = state r5 x (x -ℤ v) y (y +ℤ v) (pos 0) (first_write t d) got.0 [] in
    let at5 : step d 4 s4 ≡ s5 = ap (run.act d 4 u5) (calc-out 3 (Reg 2) Add (Lit v)) ∙ ap (λ i. or_fault i u5 (λ w. put 3 w u5)) fit-more in
    let u6 : Running = record s5 { rest = r6 } in
    let s6 : Running = state r6 x (x -ℤ v) y (y +ℤ v) (pos 0) (both_writes t d) got.0 [] in
    let at6 : step d 5 s5 ≡ s6 = ap (run.act d 5 u6) (write-out accounts (Lit (pos t.to)) (Reg 3)) ∙ ap (λ i. or_fault i u6 (run.write (y +ℤ v) u6)) (item-is t.to o) in (
      got.0,
      ap (λ s. step d 5 (step d 4 (step d 3 (step d 2 (step d 1 (step d 0 s)))))) at0
          ∙ ap (λ s. step d 5 (step d 4 (step d 3 (step d 2 (step d 1 s))))) at1
          ∙ ap (λ s. step d 5 (step d 4 (step d 3 (step d 2 s)))) at2
          ∙ ap (λ s. step d 5 (step d 4 (step d 3 s))) at3
          ∙ ap (λ s. step d 5 (step d 4 s)) at4
          ∙ ap (step d 5) at5
          ∙ at6,
    )

-- the loop passes
loop-passes : (t : Transfer) (body : List Stmt) (d : Tables) (a b c e : ℤ) (w : Writes) (r : List run.Read) (m k n : ℕ) → k + m ≤ 1000000
    → after body d n ≡ state (last_two t m) a b c e (pos k) w r []
    → (n' : ℕ) × (after body d n' ≡ state (Emit (Lit (pos t.amount)) ∷ []) a b c e (pos (k + m)) w r [])
unfolding after
loop-passes t body d a b c e w r zero k n few is = (suc n, ap (step d n) is ∙ ap (run.act d n (state (Emit (Lit (pos t.amount)) ∷ []) a b c e (pos k) w r [])) (loop-out 0 (record { stmts = counting ∷ [] })) ∙ ap (λ j. state (Emit (Lit (pos t.amount)) ∷ []) a b c e (pos j) w r []) (omega arith))
loop-passes t body d a b c e w r (suc m) k n few is =
    let s1 : Running = state (counting ∷ last_two t m) a b c e (pos k) w r [] in
    let at1 : after body d (suc n) ≡ s1 =
    ap (step d n) is ∙ ap (run.act d n (state (Emit (Lit (pos t.amount)) ∷ []) a b c e (pos k) w r [])) (loop-out (suc m) (record { stmts = counting ∷ [] })) in
    let u2 : Running = state (last_two t m) a b c e (pos k) w r [] in
    let one-more : in_i64 (pos k +ℤ pos 1) ≡ Ok (pos (k + 1)) = ap (λ x. if x then Ok (pos (k + 1)) else Err Overflow) (lt-ltb (k + 1) (2 ^ 63) (omega (arith, few))) in
    let at2 : after body d (suc (suc n)) ≡ state (last_two t m) a b c e (pos (k + 1)) w r [] =
    ap (step d (suc n)) at1 ∙ ap (run.act d (suc n) u2) (calc-out 4 (Reg 4) Add (Lit (pos 1))) ∙ ap (λ i. or_fault i u2 (λ x. put 4 x u2)) one-more in
    let last = loop-passes t body d a b c e w r m (k + 1) (suc (suc n)) (omega (arith, few)) at2 in
    (last.0, last.1 ∙ ap (λ j. state (Emit (Lit (pos t.amount)) ∷ []) a b c e (pos j) w r []) (omega arith))

-- The outcome and the effect.

-- it comes to its end, and tells the amount
abbrev pub told : Transfer → Outcome
told t = Done (pos t.amount ∷ [])

over-set : (w : Writes) (d : Tables) (i : ℕ) (v : ℤ) → i < length w → i < length d → over (slice_set w i (Some v)) d ≡ slice_set (over w d) i v
over-set [] d i v lw ld = absurd (omega (arith, lw))
over-set (o ∷ w) [] i v lw ld = absurd (omega (arith, ld))
over-set (o ∷ w) (u ∷ d) zero v lw ld = refl
over-set (o ∷ w) (u ∷ d) (suc i) v lw ld = ap (λ x. instead u o ∷ x) (over-set w d i v (omega (arith, lw)) (omega (arith, ld)))

pub record Moves (t : Transfer) (d : Tables) : Type 0 where
  pub outcome : outcome_of (program t) d ≡ told t
  pub tables : over (effect_of (program t) d) d ≡ moved t d

pub moves : (t : Transfer) (d : Tables) (m : ℕ) → IsSmall t → length d ≡ 64 → AreNear m d → m + 20 ≤ 1000000 → Moves t d
unfolding after
moves t d m small many near few =
    let x : ℤ = stored d t.from in
    let y : ℤ = stored (taken t d) t.to in
    let v : ℤ = pos t.amount in
    let six = six-steps t d m small many near few in
    let turns = small.turns in
    let looped = loop-passes t (program t) d x (x -ℤ v) y (y +ℤ v) (both_writes t d) six.0 t.turns 0 6 (omega (arith, turns)) six.1 in
    let last : Running = state [] x (x -ℤ v) y (y +ℤ v) (pos (0 + t.turns)) (both_writes t d) six.0 (v ∷ []) in
    let ends : after (program t) d (suc looped.0) ≡ last =
    ap (step d looped.0) looped.1 ∙ ap (run.act d looped.0 (state [] x (x -ℤ v) y (y +ℤ v) (pos (0 + t.turns)) (both_writes t d) six.0 [])) (emit-out (Lit v)) in
    let is : last_state (program t) d ≡ last = sym (ended_last (program t) d (suc looped.0) (ap has_ended ends)) ∙ ends in
    let f = small.from in
    let o = small.to in
    let wide : length no_writes ≡ 64 = length-replicate {A = Option ℤ} 64 None in
    let first : over (first_write t d) d ≡ taken t d =
    over-set no_writes d t.from (x -ℤ v) (omega (arith, f, wide)) (omega (arith, f, many)) ∙ ap (λ e. slice_set e t.from (x -ℤ v)) (over_nothing 64 d) in
    let wider : length (first_write t d) ≡ 64 = length-set no_writes t.from (Some (x -ℤ v)) ∙ wide in
    record {
      outcome = ap (λ s. outcome_by s.end s.emits) is;
      tables = ap (λ s. over (effect_by s.end s.writes) d) is
          ∙ over-set (first_write t d) d t.to (y +ℤ v) (omega (arith, o, wider)) (omega (arith, o, many)) ∙ ap (λ e. slice_set e t.to (y +ℤ v)) first;
    }
