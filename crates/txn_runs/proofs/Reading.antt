-- The reads of a run: each item once, at ascending positions, and never one that was written before.
use Rattle.std.specs.Prelude.{◌≡◌, ℕ, zero, suc, ◌+◌, ◌-◌, ◌<◌, ◌≤◌, ℤ, Bool, true, false, if◌then◌else◌, ◌||◌, nat_eq, List, [], ◌∷◌, ◌++◌, length, slice_set, is_some, Option, None, Some, Result, Ok, Err}
use Rattle.std.proofs.Common.{refl, sym, ap, ◌∙◌, subst, arith, append_assoc}
use Rattle.std.proofs.lemmas.List.{append-nil}
use Rattle.txn_runs.specs.declared.outcome.FaultKind.{FaultKind}
use Rattle.txn_runs.specs.declared.outcome.End.{End}
use Rattle.txn_runs.specs.declared.outcome.End.TheVariants.{Going, Failed, Fault}
use Rattle.txn_runs.specs.declared.kind.Kind.{Kind}
use Rattle.txn_runs.specs.declared.kind.Kind.TheVariants.{Local, TableRead, Write, Ended}
use Rattle.txn_runs.specs.declared.program.Stmt.{Stmt, out-Stmt}
use Rattle.txn_runs.specs.declared.program.Stmt.TheOpen.{Stmt-F}
use Rattle.txn_runs.specs.declared.program.Block.{Block}
use Rattle.txn_runs.specs.Run.{Tables, Read, Writes, Running, value_of, item_at, own, logged, stored, step, after}
use Rattle.txn_runs.specs.Kind.{kind_of, kind_from, kind_act, kind_read, kind_write, Changes}
use Rattle.txn_runs.specs.Reads.{AreBefore, IsFirst, IsLog, AgreeOn, Agrees}
use Rattle.txn_runs.proofs.Order.{after_before}
use Rattle.txn_runs.proofs.Agree.{after_own, after_agrees}
use Rattle.txn_runs.proofs.Stepping.{step_changes, after_changes}

-- a table read is of an item that was neither written nor read
pub record Fresh (s : Running) (item : ℕ) : Type 0 where
  pub unwritten : own s.writes item ≡ None
  pub unread : logged s.reads item ≡ None

fresh_by : (s : Running) (i item : ℕ) (o l : Option ℤ) → own s.writes i ≡ o → logged s.reads i ≡ l → (if is_some o || is_some l then Local else TableRead i) ≡ TableRead item → Fresh s item
fresh_by s i item (Some v) l a b e = cc
fresh_by s i item None (Some v) a b e = cc
fresh_by s i item None None a b e = let is : i ≡ item = cc in record { unwritten = subst (λ k. own s.writes k ≡ None) is a; unread = subst (λ k. logged s.reads k ≡ None) is b }

fresh_read : (s : Running) (item : ℕ) (r : Result ℕ FaultKind) → kind_read s r ≡ TableRead item → Fresh s item
fresh_read s item (Ok i) e = fresh_by s i item (own s.writes i) (logged s.reads i) refl refl e
fresh_read s item (Err kind) e = cc

no_read : (s : Running) (v : ℤ) (item : ℕ) (r : Result ℕ FaultKind) → kind_write v r ≡ TableRead item → Fresh s item
no_read s v item (Ok i) e = cc
no_read s v item (Err kind) e = cc

fresh_act : (s : Running) (item : ℕ) (x : Stmt-F Stmt Block) → kind_act s x ≡ TableRead item → Fresh s item
fresh_act s item (Stmt-F.Read to table at) e = fresh_read s item (item_at table (value_of s at)) e
fresh_act s item (Stmt-F.Write table at from) e = no_read s (value_of s from) item (item_at table (value_of s at)) e
fresh_act s item (Stmt-F.Calc to left op right) e = cc
fresh_act s item (Stmt-F.Move to from) e = cc
fresh_act s item (Stmt-F.If left cmp right first second) e = cc
fresh_act s item (Stmt-F.Loop count body) e = cc
fresh_act s item (Stmt-F.Emit from) e = cc
fresh_act s item (Stmt-F.Fail code) e = cc

fresh_from : (s : Running) (item : ℕ) (end : End) (rest : List Stmt) → kind_from end rest s ≡ TableRead item → Fresh s item
fresh_from s item Going [] e = cc
fresh_from s item Going (first ∷ rest) e = fresh_act s item (out-Stmt first) e
fresh_from s item (Failed code) rest e = cc
fresh_from s item (Fault kind) rest e = cc

pub fresh_kind : (s : Running) (item : ℕ) → kind_of s ≡ TableRead item → Fresh s item
fresh_kind s item e = fresh_from s item s.end s.rest e

-- a read more
first_push : (r q : Read) (xs : List Read) → r.0 < q.0 → nat_eq r.1 q.1 ≡ false → IsFirst r xs → IsFirst r (xs ++ q ∷ [])
first_push r q [] lt ne h = (lt, ne, tt)
first_push r q (x ∷ xs) lt ne h = (h.0, h.1, first_push r q xs lt ne h.2)

logged_none : (r : Read) (xs : List Read) (item : ℕ) (b : Bool) → nat_eq r.1 item ≡ b → (if b then Some r.2 else logged xs item) ≡ None → (nat_eq r.1 item ≡ false) × (logged xs item ≡ None)
logged_none r xs item true is e = cc
logged_none r xs item false is e = (is, e)

pub log_push : (n item : ℕ) (v : ℤ) (xs : List Read) → AreBefore n xs → logged xs item ≡ None → IsLog xs → IsLog (xs ++ (n, item, v) ∷ [])
log_push n item v [] before none h = (tt, tt)
log_push n item v (x ∷ xs) before none h =
    let other = logged_none x xs item (nat_eq x.1 item) refl none in
    (first_push x (n, item, v) xs before.0 other.0 h.0, log_push n item v xs before.1 other.1 h.1)

log_more : (d : Tables) (n : ℕ) (old new : Running) (kind : Kind) → kind_of old ≡ kind → Changes kind d n old new → AreBefore n old.reads → IsLog old.reads → IsLog new.reads
log_more d n old new Local is c before h = subst IsLog (sym c.0) h
log_more d n old new (TableRead item) is c before h = subst IsLog (sym c.0) (log_push n item (stored d item) old.reads before (fresh_kind old item is).unread h)
log_more d n old new (Write item v) is c before h = subst IsLog (sym c.0) h
log_more d n old new Ended is c before h = subst (λ s. IsLog s.reads) (sym c) h

pub after_log : (body : List Stmt) (d : Tables) (n : ℕ) → IsLog (after body d n).reads
unfolding after
after_log body d zero = tt
after_log body d (suc n) = let s = after body d n in log_more d n s (step d n s) (kind_of s) refl (step_changes d n s) (after_before body d n) (after_log body d n)

-- the reads grow at their end alone
abbrev pub Grown : List Read → List Read → Type 0
Grown xs ys = (more : List Read) × (ys ≡ xs ++ more)

grown_one : (d : Tables) (n : ℕ) (old new : Running) (kind : Kind) → Changes kind d n old new → Grown old.reads new.reads
grown_one d n old new Local c = ([], c.0 ∙ sym (append-nil old.reads))
grown_one d n old new (TableRead item) c = ((n, item, stored d item) ∷ [], c.0)
grown_one d n old new (Write item v) c = ([], c.0 ∙ sym (append-nil old.reads))
grown_one d n old new Ended c = ([], ap (λ s. s.reads) c ∙ sym (append-nil old.reads))

grown_by : (body : List Stmt) (d : Tables) (n k : ℕ) → Grown (after body d n).reads (after body d (n + k)).reads
grown_by body d n zero = ([], ap (λ m. (after body d m).reads) (let e : n + 0 ≡ n = omega arith in e) ∙ sym (append-nil (after body d n).reads))
grown_by body d n (suc k) =
    let before = grown_by body d n k in
    let one = grown_one d (n + k) (after body d (n + k)) (after body d (n + k + 1)) _ (after_changes body d (n + k)) in
    let e : n + suc k ≡ n + k + 1 = omega arith in
    (before.0 ++ one.0, ap (λ m. (after body d m).reads) e ∙ one.1 ∙ ap (λ x. x ++ one.0) before.1 ∙ append_assoc (after body d n).reads before.0 one.0)

pub after_grown : (body : List Stmt) (d : Tables) (n m : ℕ) → n ≤ m → Grown (after body d n).reads (after body d m).reads
after_grown body d n m le = let e : n + (m - n) ≡ m = omega arith in subst (λ k. Grown (after body d n).reads (after body d k).reads) e (grown_by body d n (m - n))

-- an item that has been written and not read is never read
pub record Shut (s : Running) (item : ℕ) : Type 0 where
  pub written : is_some (own s.writes item) ≡ true
  pub unread : logged s.reads item ≡ None

logged_push : (n item other : ℕ) (v : ℤ) (xs : List Read) → nat_eq other item ≡ false → logged xs item ≡ None → logged (xs ++ (n, other, v) ∷ []) item ≡ None
logged_push n item other v [] ne none = rw ne refl
logged_push n item other v (x ∷ xs) ne none =
    let h = logged_none x xs item (nat_eq x.1 item) refl none in
    rw h.0 (logged_push n item other v xs ne h.1)

some_set : (ws : Writes) (i j : ℕ) (v : ℤ) (b : Bool) → nat_eq i j ≡ b → is_some (own ws j) ≡ true → is_some (own (slice_set ws i (Some v)) j) ≡ true
some_set [] i j v b is h = cc
some_set (w ∷ ws) zero zero v b is h = refl
some_set (w ∷ ws) zero (suc j) v b is h = h
some_set (w ∷ ws) (suc i) zero v b is h = h
some_set (w ∷ ws) (suc i) (suc j) v b is h = some_set ws i j v (nat_eq i j) refl h

differs : (s : Running) (item other : ℕ) (b : Bool) → nat_eq other item ≡ b → Shut s item → Fresh s other → nat_eq other item ≡ false
differs s item other true is h f =
    let e : other ≡ item = grind (arith, is) in
    let none : own s.writes item ≡ None = subst (λ k. own s.writes k ≡ None) e f.unwritten in
    let written = h.written in
    let gone : is_some (own s.writes item) ≡ false = ap is_some none in
    cc
differs s item other false is h f = is

shut_more : (d : Tables) (n item : ℕ) (old new : Running) (kind : Kind) → kind_of old ≡ kind → Changes kind d n old new → Shut old item → Shut new item
shut_more d n item old new Local is c h = record { written = ap (λ w. is_some (own w item)) c.1 ∙ h.written; unread = ap (λ r. logged r item) c.0 ∙ h.unread }
shut_more d n item old new (TableRead other) is c h =
    record {
      written = ap (λ w. is_some (own w item)) c.1 ∙ h.written;
      unread = ap (λ r. logged r item) c.0 ∙ logged_push n item other (stored d other) old.reads (differs old item other (nat_eq other item) refl h (fresh_kind old other is)) h.unread;
    }
shut_more d n item old new (Write other v) is c h =
    record { written = ap (λ w. is_some (own w item)) c.1 ∙ some_set old.writes other item v (nat_eq other item) refl h.written; unread = ap (λ r. logged r item) c.0 ∙ h.unread }
shut_more d n item old new Ended is c h = subst (λ s. Shut s item) (sym c) h

shut_by : (body : List Stmt) (d : Tables) (n k item : ℕ) → Shut (after body d n) item → Shut (after body d (n + k)) item
shut_by body d n zero item h = subst (λ m. Shut (after body d m) item) (let e : n ≡ n + 0 = omega arith in e) h
shut_by body d n (suc k) item h =
    let e : n + k + 1 ≡ n + suc k = omega arith in
    subst (λ m. Shut (after body d m) item) e (shut_more d (n + k) item (after body d (n + k)) (after body d (n + k + 1)) _ refl (after_changes body d (n + k)) (shut_by body d n k item h))

pub after_shut : (body : List Stmt) (d : Tables) (n m item : ℕ) → n ≤ m → is_some (own (after body d n).writes item) ≡ true → logged (after body d n).reads item ≡ None → logged (after body d m).reads item ≡ None
after_shut body d n m item le written unread =
    let e : n + (m - n) ≡ m = omega arith in
    subst (λ k. logged (after body d k).reads item ≡ None) e (shut_by body d n (m - n) item (record { written = written; unread = unread })).unread

-- tables that agree with a log on its items
agrees_on : (d e : Tables) (reads : List Read) → Agrees d reads → AgreeOn reads d e → Agrees e reads
agrees_on d e [] h on = tt
agrees_on d e (r ∷ reads) h on = (on 0 r refl ∙ h.0, agrees_on d e reads h.1 (λ place q is. on (suc place) q is))

pub same_on : (body : List Stmt) (d e : Tables) (n : ℕ) → length e ≡ length d → AgreeOn (after body d n).reads d e → after body e n ≡ after body d n
same_on body d e n long on = after_agrees body d e n long (agrees_on d e (after body d n).reads (after_own body d n) on)
