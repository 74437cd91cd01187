-- What the forest knows of runs: whatever stands above this file knows a run by these laws alone.
use Rattle.std.proofs.Common.{◌≡◌, ℕ, zero, suc, ◌+◌, ◌-◌, ◌<◌, ◌≤◌, true, false, ℤ, List, [], ◌∷◌, ◌++◌, length, replicate, None, refl, ap, sym, ◌∙◌, subst, arith, append_assoc, append-nil, true≢false, zero-add, suc-add}
use Rattle.std.specs.List.{AllByRecursion}
use Rattle.std.proofs.lemmas.Bool.{cases_lt, cases_Bool}
use Rattle.txn_runs.specs.declared.kind.Kind.{Kind}
use Rattle.txn_runs.specs.declared.kind.Kind.TheVariants.{Local, TableRead, Write, Ended}
use Rattle.txn_runs.specs.declared.outcome.End.{End}
use Rattle.txn_runs.specs.declared.outcome.End.TheVariants.{Going, Failed, Fault}
use Rattle.txn_runs.specs.declared.program.Program.{Program}
use Rattle.txn_runs.specs.declared.program.Stmt.{Stmt}
use Rattle.txn_runs.specs.Run.{Tables, Read, Writes, Running, own, stored, after}
use Rattle.txn_runs.specs.Kind.{kind_from, kind_of, Changes}
use Rattle.txn_runs.specs.Serial.{ended_at, has_ended, run_length, last_state, outcome_by, outcome_of, effect_by, effect_of, instead, over}
use Rattle.txn_runs.specs.Reads.{Agrees}
use Rattle.txn_runs.proofs.Agree.{agrees_front, after_agrees}
use Rattle.txn_runs.proofs.Last.{last_ended, length_stays}
use Rattle.txn_runs.proofs.Ending.{length_least}
use Rattle.txn_runs.proofs.Stepping.{step_changes}
use Rattle.forest_model.specs.Runs.{reads, writes, is_done, is_local_kind, is_local}
use Rattle.forest_model.proofs.Lists.{either, all-append, all-weaken}

-- Reads.

-- ys is xs with more reads at its end, each made from step m on and before step n
pub record Grows (m n : ℕ) (xs ys : List Read) : Type 0 where
  pub more : List Read
  pub is : ys ≡ xs ++ more
  pub made : AllByRecursion (λ (r : Read). (m ≤ r.0) × (r.0 < n)) more

same_reads : (n : ℕ) (xs ys : List Read) → ys ≡ xs → Grows n (suc n) xs ys
same_reads n xs ys e = record { more = []; is = e ∙ sym (append-nil xs); made = tt }

kind-grows : (kind : Kind) (d : Tables) (n : ℕ) (old new : Running) → Changes kind d n old new → Grows n (suc n) old.reads new.reads
kind-grows Local d n old new h = same_reads n old.reads new.reads h.0
kind-grows (TableRead item) d n old new h = record { more = (n, item, stored d item) ∷ []; is = h.0; made = ((omega arith, omega arith), tt) }
kind-grows (Write item v) d n old new h = same_reads n old.reads new.reads h.0
kind-grows Ended d n old new h = same_reads n old.reads new.reads (ap (λ s. s.reads) h)

-- nothing has been read before the first step
pub reads-zero : (p : Program) (d : Tables) → reads p d 0 ≡ []
unfolding after
reads-zero p d = refl

-- nothing has been written before the first step
pub writes-zero : (p : Program) (d : Tables) → writes p d 0 ≡ replicate (length d) None
unfolding after
writes-zero p d = refl

one_step : (p : Program) (d : Tables) (n : ℕ) → Changes (kind_of (after p d n)) d n (after p d n) (after p d (suc n))
unfolding after
one_step p d n = step_changes d n (after p d n)

step-reads : (p : Program) (d : Tables) (n : ℕ) → Grows n (suc n) (reads p d n) (reads p d (suc n))
step-reads p d n = kind-grows (kind_of (after p d n)) d n (after p d n) (after p d (suc n)) (one_step p d n)

grows_by : (p : Program) (d : Tables) (m k : ℕ) → Grows m (k + m) (reads p d m) (reads p d (k + m))
grows_by p d m zero = rw zero-add (record { more = []; is = sym (append-nil _); made = tt })
grows_by p d m (suc k) =
    let so_far : Grows m (k + m) (reads p d m) (reads p d (k + m)) = grows_by p d m k in
    let last : Grows (k + m) (suc (k + m)) (reads p d (k + m)) (reads p d (suc (k + m))) = step-reads p d (k + m) in
    rw suc-add (record {
      more = so_far.more ++ last.more;
      is = last.is ∙ ap (λ xs. xs ++ last.more) so_far.is ∙ append_assoc (reads p d m) so_far.more last.more;
      made =
          all-append _ so_far.more last.more
          (all-weaken (λ (r : Read). (m ≤ r.0) × (r.0 < k + m)) (λ (r : Read). (m ≤ r.0) × (r.0 < suc (k + m))) (λ r h. (h.0, omega arith)) so_far.more so_far.made)
          (all-weaken (λ (r : Read). (k + m ≤ r.0) × (r.0 < suc (k + m))) (λ (r : Read). (m ≤ r.0) × (r.0 < suc (k + m))) (λ r h. (omega arith, h.1)) last.more last.made);
    })

-- the reads up to a later step are those up to an earlier one, and more that were made in between
pub reads-grow : (p : Program) (d : Tables) (m n : ℕ) → m ≤ n → Grows m n (reads p d m) (reads p d n)
reads-grow p d m n h =
    let e : (n - m) + m ≡ n = omega arith in
    subst (λ x. Grows m x (reads p d m) (reads p d x)) e (grows_by p d m (n - m))

-- each read was made at a step before n
pub reads-below : (p : Program) (d : Tables) (n : ℕ) → AllByRecursion (λ (r : Read). r.0 < n) (reads p d n)
reads-below p d n =
    let grown : Grows 0 n (reads p d 0) (reads p d n) = reads-grow p d 0 n (omega arith) in
    let e : reads p d n ≡ grown.more = grown.is ∙ ap (λ xs. xs ++ grown.more) (reads-zero p d) in
    rw e (all-weaken (λ (r : Read). (0 ≤ r.0) × (r.0 < n)) (λ (r : Read). r.0 < n) (λ r h. h.1) grown.more grown.made)

-- The length.

-- below the length the run goes on
pub going-below_length : (p : Program) (d : Tables) (n : ℕ) → n < run_length p d → has_ended (after p d n) ≡ false
going-below_length p d n h =
    either (cases_Bool (has_ended (after p d n))) (λ e. absurd (omega (arith, length_least p d n e))) (λ e. e)

-- at its length and from there on the run has ended
pub ended-from_length : (p : Program) (d : Tables) (n : ℕ) → run_length p d ≤ n → has_ended (after p d n) ≡ true
ended-from_length p d n h = ap has_ended (length_stays p d n h) ∙ last_ended p d

-- Agreement.

-- over tables that have what a run has read, it is the same run
pub after-same : (p : Program) (d e : Tables) (n : ℕ) → length e ≡ length d → Agrees e (reads p d n) → after p d n ≡ after p e n
after-same p d e n size agree = sym (after_agrees p d e n size agree)

-- and at least as long
pub length-same : (p : Program) (d e : Tables) (n : ℕ) → length e ≡ length d → Agrees e (reads p d n) → n ≤ run_length p d → n ≤ run_length p e
length-same p d e n size agree within =
    either (cases_lt (run_length p e) n)
    (λ short.
    let grown : Grows (run_length p e) n (reads p d (run_length p e)) (reads p d n) = reads-grow p d (run_length p e) n (omega arith) in
    let early : Agrees e (reads p d (run_length p e)) = agrees_front e (reads p d (run_length p e)) grown.more (subst (λ rs. Agrees e rs) grown.is agree) in
    let same : after p d (run_length p e) ≡ after p e (run_length p e) = after-same p d e (run_length p e) size early in
    let ended : has_ended (after p d (run_length p e)) ≡ true = ap has_ended same ∙ last_ended p e in
    let going : has_ended (after p d (run_length p e)) ≡ false = going-below_length p d (run_length p e) (omega arith) in
    absurd (true≢false (sym ended ∙ going)))
    (λ h. h)

-- Writes over tables.

-- the tables keep their size
pub length-over : (ws : Writes) (d : Tables) → length (over ws d) ≡ length d
length-over ws [] = refl
length-over [] (v ∷ d) = refl
length-over (w ∷ ws) (v ∷ d) = ap suc (length-over ws d)

-- an item that is not written keeps its value
pub over-other : (ws : Writes) (d : Tables) (i : ℕ) → own ws i ≡ None → stored (over ws d) i ≡ stored d i
over-other ws [] i h = refl
over-other [] (v ∷ d) i h = refl
over-other (w ∷ ws) (v ∷ d) zero h = let e : w ≡ None = h in ap (instead v) e
over-other (w ∷ ws) (v ∷ d) (suc i) h = over-other ws d i h

-- nothing is written in a map of nothing
pub own-none : (n i : ℕ) → own (replicate n None) i ≡ None
own-none zero i = refl
own-none (suc n) zero = refl
own-none (suc n) (suc i) = own-none n i

-- Local steps.

local-kind : (kind : Kind) → is_local_kind kind ≡ true → kind ≡ Local
local-kind Local h = refl
local-kind (TableRead item) h = cc
local-kind (Write item v) h = cc
local-kind Ended h = cc

local-changes : (p : Program) (d : Tables) (n : ℕ) → is_local (after p d n) ≡ true → (reads p d (suc n) ≡ reads p d n) × (writes p d (suc n) ≡ writes p d n)
local-changes p d n h = subst (λ kind. Changes kind d n (after p d n) (after p d (suc n))) (local-kind (kind_of (after p d n)) h) (one_step p d n)

-- a local step reads nothing of the tables
pub local-reads : (p : Program) (d : Tables) (n : ℕ) → is_local (after p d n) ≡ true → reads p d (suc n) ≡ reads p d n
local-reads p d n h = (local-changes p d n h).0

-- nor does it write
pub local-writes : (p : Program) (d : Tables) (n : ℕ) → is_local (after p d n) ≡ true → writes p d (suc n) ≡ writes p d n
local-writes p d n h = (local-changes p d n h).1

ended-kind : (end : End) (rest : List Stmt) (s : Running) → ended_at end rest ≡ true → is_local_kind (kind_from end rest s) ≡ false
ended-kind Going [] s h = refl
ended-kind Going (first ∷ rest) s h = cc
ended-kind (Failed code) rest s h = refl
ended-kind (Fault kind) rest s h = refl

-- a local step is made before the run has ended
pub local-going : (p : Program) (d : Tables) (n : ℕ) → is_local (after p d n) ≡ true → n < run_length p d
local-going p d n h =
    either (cases_lt n (run_length p d))
    (λ lt. lt)
    (λ ge. absurd (true≢false (sym h ∙ ended-kind (after p d n).end (after p d n).rest (after p d n) (ended-from_length p d n ge))))

-- Effects.

done-writes : (end : End) (emits : List ℤ) (ws : Writes) → is_done (outcome_by end emits) ≡ true → effect_by end ws ≡ ws
done-writes Going emits ws h = refl
done-writes (Failed code) emits ws h = absurd (true≢false (sym h))
done-writes (Fault kind) emits ws h = absurd (true≢false (sym h))

-- the effect of a run that is done is all that it has written
pub effect-done : (p : Program) (d : Tables) → is_done (outcome_of p d) ≡ true → effect_of p d ≡ writes p d (run_length p d)
effect-done p d h = done-writes (last_state p d).end (last_state p d).emits (last_state p d).writes h

undone-writes : (end : End) (emits : List ℤ) (ws : Writes) (i : ℕ) → is_done (outcome_by end emits) ≡ false → own (effect_by end ws) i ≡ None
undone-writes Going emits ws i h = absurd (true≢false h)
undone-writes (Failed code) emits ws i h = own-none (length ws) i
undone-writes (Fault kind) emits ws i h = own-none (length ws) i

-- and any other run changes nothing
pub effect-undone : (p : Program) (d : Tables) (i : ℕ) → is_done (outcome_of p d) ≡ false → own (effect_of p d) i ≡ None
effect-undone p d i h = undone-writes (last_state p d).end (last_state p d).emits (last_state p d).writes i h
