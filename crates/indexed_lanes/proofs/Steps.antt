-- What steps add to what a transaction has read and written.
use Rattle.std.specs.Prelude.{◌≡◌, ◌≢◌, ◌<◌, ◌+◌, ℕ, zero, suc, ℤ, Bool, true, false, nat_eq, if◌then◌else◌, List, [], ◌∷◌, ◌++◌, length, slice_set, None, Some}
use Rattle.std.proofs.Common.{refl, sym, ap, ap₂, subst, arith, ◌∙◌}
use Rattle.std.proofs.lemmas.Bool.{lt-ltb}
use Rattle.std.specs.List.{AllByRecursion}
use Rattle.txn_runs.specs.Run.{Tables, Read, logged, stored, after}
use Rattle.txn_runs.specs.Kind.{kind_of, Changes}
use Rattle.txn_runs.specs.Reads.{AreBefore}
use Rattle.txn_runs.specs.declared.kind.Kind.{Kind}
use Rattle.txn_runs.specs.declared.kind.Kind.TheVariants.{Local, TableRead, Write, Ended}
use Rattle.txn_runs.specs.declared.program.Program.{Program}
use Rattle.txn_runs.proofs.Stepping.{after_changes}
use Rattle.txn_runs.proofs.Order.{after_before}
use Rattle.txn_runs.proofs.Reading.{fresh_kind}
use Rattle.txn_runs.proofs.Shape.{after_reach}
use Rattle.txn_code.specs.declared.node.Node.{Node}
use Rattle.txn_interp.specs.State.{Held, Runs, RunsOver}
use Rattle.txn_interp.specs.Kind.{HasKind}
use Rattle.forest_model.specs.Runs.{reads, writes}
use Rattle.shadow_lanes.specs.Seats.{StepsOver, RunsLocal}
use Rattle.conflict_index.specs.Index as index
use Rattle.index_laws.specs.Noted.{lane_of_run}
use Rattle.index_laws.proofs.Ties.{one-read, one-write}
use Rattle.indexed_lanes.specs.Noted.{RunsHere, HasSameLists, IsKindWithin, lane_after}

-- What each kind of step changes.

pub one_step : (p : Program) (d : Tables) (n : ℕ) → Changes (kind_of (after p d n)) d n (after p d n) (after p d (suc n))
one_step p d n = let e : n + 1 ≡ suc n = omega arith in subst (λ m. Changes (kind_of (after p d n)) d n (after p d n) (after p d m)) e (after_changes p d n)

pub local_step : (p : Program) (d : Tables) (n : ℕ) → kind_of (after p d n) ≡ Local → (reads p d (suc n) ≡ reads p d n) × (writes p d (suc n) ≡ writes p d n)
local_step p d n kind = subst (λ k. Changes k d n (after p d n) (after p d (suc n))) kind (one_step p d n)

pub read_step : (p : Program) (d : Tables) (n item : ℕ) → kind_of (after p d n) ≡ TableRead item → (reads p d (suc n) ≡ reads p d n ++ (n, item, stored d item) ∷ []) × (writes p d (suc n) ≡ writes p d n)
read_step p d n item kind = subst (λ k. Changes k d n (after p d n) (after p d (suc n))) kind (one_step p d n)

pub write_step : (p : Program) (d : Tables) (n item : ℕ) (v : ℤ) → kind_of (after p d n) ≡ Write item v → (reads p d (suc n) ≡ reads p d n) × (writes p d (suc n) ≡ slice_set (writes p d n) item (Some v))
write_step p d n item v kind = subst (λ k. Changes k d n (after p d n) (after p d (suc n))) kind (one_step p d n)

-- A read follows those before it.

logged_head : (x : Read) (rs : List Read) (item : ℕ) → logged (x ∷ rs) item ≡ None → (x.1 ≢ item) × (logged rs item ≡ None)
logged_head x rs item h = go (nat_eq x.1 item) refl h
  where
    go : (b : Bool) → nat_eq x.1 item ≡ b → (if b then Some x.2 else logged rs item) ≡ None → (x.1 ≢ item) × (logged rs item ≡ None)
    go true is h = cc
    go false is h = (λ e. absurd (grind (arith, is, e)), h)

follows : (rs : List Read) (position item : ℕ) → AreBefore position rs → logged rs item ≡ None → AllByRecursion (λ (x : Read). (x.1 ≢ item) × (index.is_sooner (x.0, x.1) (position, item) ≡ true)) rs
follows [] position item before none = tt
follows (x ∷ rs) position item before none =
    let head = logged_head x rs item none in
    ((head.0, rw (lt-ltb x.0 position before.0) refl), follows rs position item before.1 head.1)

-- A step of a state.

pub held_reads : (nodes : List Node) (p : Program) (d : Tables) (s : Held) → RunsOver nodes p d s → reads p d s.position ≡ s.log.reads
held_reads nodes p d s h = ap (λ r. r.reads) h.is.is

held_writes : (nodes : List Node) (p : Program) (d : Tables) (s : Held) → RunsOver nodes p d s → writes p d s.position ≡ s.writes
held_writes nodes p d s h = ap (λ r. r.writes) h.is.is

lists_after : (kind : Kind) (p : Program) (d : Tables) (n : ℕ) → kind ≢ Ended → IsKindWithin (length d) kind → kind_of (after p d n) ≡ kind
    → lane_after kind n (lane_of_run (reads p d n) (writes p d n)) ≡ lane_of_run (reads p d (suc n)) (writes p d (suc n))
lists_after Local p d n goes within is = let c = local_step p d n is in sym (ap₂ lane_of_run c.0 c.1)
lists_after (TableRead item) p d n goes within is =
    let c = read_step p d n item is in
    let fresh = (fresh_kind (after p d n) item is).unread in
    one-read (reads p d n) (n, item, stored d item) (writes p d n) (follows (reads p d n) n item (after_before p d n) fresh) ∙ sym (ap₂ lane_of_run c.0 c.1)
lists_after (Write item v) p d n goes within is =
    let c = write_step p d n item v is in
    let long : length (writes p d n) ≡ length d = (after_reach p d n).writes in
    one-write (reads p d n) (writes p d n) item v (omega (arith, within, long)) ∙ sym (ap₂ lane_of_run c.0 c.1)
lists_after Ended p d n goes within is = absurd (goes refl)

-- a step of this kind of a run over these tables
pub step_adds : (nodes : List Node) (d : Tables) (old new : Held) (kind : Kind) → RunsHere nodes d old → HasKind nodes old kind → kind ≢ Ended → IsKindWithin (length d) kind → StepsOver nodes d old new
    → lane_after kind old.position (lane_of_run old.log.reads old.writes) ≡ lane_of_run new.log.reads new.writes
step_adds nodes d old new kind h has goes within step =
    let p = h.body in
    let n = old.position in
    let later = step.same p h.over in
    ap (lane_after kind n) (sym (ap₂ lane_of_run (held_reads nodes p d old h.over) (held_writes nodes p d old h.over)))
    ∙ lists_after kind p d n goes within (has p d h.over)
    ∙ ap (λ m. lane_of_run (reads p d m) (writes p d m)) (sym step.position)
    ∙ ap₂ lane_of_run (held_reads nodes p d new later) (held_writes nodes p d new later)

-- Local steps of a run.

still_lists : (p : Program) (d : Tables) (n made : ℕ) → ((m : ℕ) → m < made → kind_of (after p d (n + m)) ≡ Local) → (reads p d (n + made) ≡ reads p d n) × (writes p d (n + made) ≡ writes p d n)
still_lists p d n zero local = let e : n + 0 ≡ n = omega arith in (ap (reads p d) e, ap (writes p d) e)
still_lists p d n (suc made) local =
    let rest = still_lists p d n made (λ m lt. local m (omega (arith, lt))) in
    let one = local_step p d (n + made) (local made (omega arith)) in
    let e : n + suc made ≡ suc (n + made) = omega arith in
    (ap (reads p d) e ∙ one.0 ∙ rest.0, ap (writes p d) e ∙ one.1 ∙ rest.1)

-- local steps add nothing
pub local_adds : (nodes : List Node) (most made : ℕ) (old new : Held) → Runs nodes old → RunsLocal nodes most old new made → HasSameLists old new
local_adds nodes most made old new h run =
    let p = h.body in
    let d = h.tables in
    let later = run.same p d h.over in
    let still = still_lists p d old.position made (λ m lt. run.local p d m h.over lt) in
    record {
      reads = sym (held_reads nodes p d new later) ∙ ap (reads p d) run.position ∙ still.0 ∙ held_reads nodes p d old h.over;
      writes = sym (held_writes nodes p d new later) ∙ ap (writes p d) run.position ∙ still.1 ∙ held_writes nodes p d old h.over;
    }

-- what is asked of a step

pub runs_of : (nodes : List Node) (d : Tables) (s : Held) → RunsHere nodes d s → Runs nodes s
runs_of nodes d s h = record { body = h.body; tables = d; program = h.program; fits = h.fits; over = h.over }

pub kind_within : (items : ℕ) (kind : Kind) → ((item : ℕ) → kind ≡ TableRead item → item < items) → ((item : ℕ) (v : ℤ) → kind ≡ Write item v → item < items) → IsKindWithin items kind
kind_within items Local reading writing = tt
kind_within items (TableRead item) reading writing = reading item refl
kind_within items (Write item v) reading writing = writing item v refl
kind_within items Ended reading writing = tt
