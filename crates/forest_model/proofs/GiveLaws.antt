-- A job that is given back lands on the run over the present tables, and keeps soundness.
use Rattle.std.proofs.Common.{◌≡◌, ℕ, zero, suc, ◌+◌, ◌-◌, ◌<◌, ◌≤◌, ◌==◌, Bool, true, ◌&&◌, List, [], ◌∷◌, length, min, Option, Some, None, IfSome, refl, ap, sym, ◌∙◌, subst, arith, eqb-true, zero-add, suc-add}
use Rattle.std.specs.Ordering.{int_eq}
use Rattle.std.specs.List.{AllByRecursion, AllZip}
use Rattle.std.proofs.lemmas.Bool.{cases_lt, cond_both, and_parts}
use Rattle.std.proofs.lemmas.Bool.Decides.{Decides-int_eq}
use Rattle.txn_runs.specs.Run.{Tables, Read, after}
use Rattle.txn_runs.specs.Serial.{run_length}
use Rattle.txn_runs.specs.Reads.{Agrees}
use Rattle.txn_runs.proofs.Agree.{after_own}
use Rattle.forest_model.specs.Runs.{reads, writes, is_local}
use Rattle.forest_model.specs.Point.{Conflict}
use Rattle.forest_model.specs.Forest.{Shadow, Started, Forest, program, reads_of, length_of, against, wanted, find_started}
use Rattle.forest_model.specs.Sound.{StandsFor, IsSound}
use Rattle.forest_model.specs.Jobs.{Job, IsJobOver, same_read, same_reads, is_out_at, put_found, moved, stored_in, given, give}
use Rattle.forest_model.proofs.RunLaws.{Grows, reads-grow, reads-below, after-same, local-reads, local-writes, local-going}
use Rattle.journal_core.specs.Journal.{program_of}
use Rattle.forest_model.proofs.Lists.{either, all-append, all-weaken, all-everywhere, all-found}
use Rattle.forest_model.proofs.StartedLaws.{found-number}
use Rattle.forest_model.proofs.PointLaws.{all-point, against-is, all-wanted}
use Rattle.forest_model.proofs.StepLaws.{move_to-sound, give_shadows-sound}

same_read-true : (x y : Read) → same_read x y ≡ true → x ≡ y
same_read-true x y h =
    let a : (x.0 == y.0 ≡ true) × (x.1 == y.1 && int_eq x.2 y.2 ≡ true) = and_parts _ _ h in
    let b : (x.1 == y.1 ≡ true) × (int_eq x.2 y.2 ≡ true) = and_parts _ _ a.1 in
    λ i. (eqb-true _ _ a.0 i, eqb-true _ _ b.0 i, (Decides-int_eq x.2 y.2).0 b.1 i)

pub same_reads-true : (xs ys : List Read) → same_reads xs ys ≡ true → xs ≡ ys
same_reads-true [] [] h = refl
same_reads-true [] (y ∷ ys) h = cc
same_reads-true (x ∷ xs) [] h = cc
same_reads-true (x ∷ xs) (y ∷ ys) h =
    let a : (same_read x y ≡ true) × (same_reads xs ys ≡ true) = and_parts _ _ h in
    λ i. same_read-true x y a.0 i ∷ same_reads-true xs ys a.1 i

module _ (job : Job) (over : Tables) (j : IsJobOver over job) (e : Tables) (size : length e ≡ length over) (same : reads job.program e job.from ≡ job.reads) where
  -- the present tables have what the job has read
  agree : Agrees e (reads job.program over job.from)
  agree = subst (Agrees e) (same ∙ j.seen) (after_own job.program e job.from)

  -- as long as the steps are local, the run over the present tables is the run of the job
  path : (k : ℕ) → k + job.from ≤ job.reached
      → (reads job.program over (k + job.from) ≡ reads job.program over job.from)
      × (after job.program over (k + job.from) ≡ after job.program e (k + job.from))
      × (writes job.program over (k + job.from) ≡ writes job.program over job.from)
  path zero le = rw zero-add (refl, after-same job.program over e job.from size agree, refl)
  path (suc k) le =
      let before : (reads job.program over (k + job.from) ≡ reads job.program over job.from) × (after job.program over (k + job.from) ≡ after job.program e (k + job.from)) × (writes job.program over (k + job.from) ≡ writes job.program over job.from) = path k (omega arith) in
      let unwritten : writes job.program over (suc (k + job.from)) ≡ writes job.program over (k + job.from) =
      local-writes job.program over (k + job.from) (j.local (k + job.from) (omega arith) (omega arith))
      in
      let stays : reads job.program over (suc (k + job.from)) ≡ reads job.program over (k + job.from) =
      local-reads job.program over (k + job.from) (j.local (k + job.from) (omega arith) (omega arith))
      in
      let now : reads job.program over (suc (k + job.from)) ≡ reads job.program over job.from = stays ∙ before.0 in
      rw suc-add (now, after-same job.program over e (suc (k + job.from)) size (subst (Agrees e) (sym now) agree), unwritten ∙ before.2)

  at : (n : ℕ) → job.from ≤ n → n ≤ job.reached
      → (reads job.program over n ≡ reads job.program over job.from) × (after job.program over n ≡ after job.program e n) × (writes job.program over n ≡ writes job.program over job.from)
  at n low high =
      let is : (n - job.from) + job.from ≡ n = omega arith in
      subst (λ m. (reads job.program over m ≡ reads job.program over job.from) × (after job.program over m ≡ after job.program e m) × (writes job.program over m ≡ writes job.program over job.from)) is (path (n - job.from) (omega arith))

  -- what the job's state is, is the run over the present tables
  pub job-lands : after job.program over job.reached ≡ after job.program e job.reached
  job-lands = (at job.reached j.forward (omega arith)).1

  -- up to where the job has come, nothing more was read
  pub quiet : (n : ℕ) → job.from ≤ n → n ≤ job.reached → reads job.program e n ≡ reads job.program e job.from
  quiet n low high =
      let x : (reads job.program over n ≡ reads job.program over job.from) × (after job.program over n ≡ after job.program e n) × (writes job.program over n ≡ writes job.program over job.from) = at n low high in
      ap (λ s. s.reads) (sym x.1) ∙ x.0 ∙ sym (same ∙ j.seen)

  -- nor written
  pub quiet-writes : (n : ℕ) → job.from ≤ n → n ≤ job.reached → writes job.program e n ≡ writes job.program e job.from
  quiet-writes n low high =
      let x : (reads job.program over n ≡ reads job.program over job.from) × (after job.program over n ≡ after job.program e n) × (writes job.program over n ≡ writes job.program over job.from) = at n low high in
      let first : (reads job.program over job.from ≡ reads job.program over job.from) × (after job.program over job.from ≡ after job.program e job.from) × (writes job.program over job.from ≡ writes job.program over job.from) =
      at job.from (omega arith) j.forward
      in
      ap (λ s. s.writes) (sym x.1) ∙ x.2 ∙ ap (λ s. s.writes) first.1

  -- a job does not go past the end
  pub job-within : job.from ≤ run_length job.program e → job.reached ≤ run_length job.program e
  job-within within =
      either (cases_lt job.from job.reached)
      (λ lt.
      let last : ℕ = job.reached - 1 in
      let same_state : after job.program over (job.reached - 1) ≡ after job.program e (job.reached - 1) = (at (job.reached - 1) (omega arith) (omega arith)).1 in
      let local : is_local (after job.program e (job.reached - 1)) ≡ true = ap is_local (sym same_state) ∙ j.local (job.reached - 1) (omega arith) (omega arith) in
      omega (arith, local-going job.program e (job.reached - 1) local))
      (λ ge. let forward : job.from ≤ job.reached = j.forward in omega arith)

  -- nor past a read of the present run that comes after its start
  pub job-stops : (n : ℕ) → AllByRecursion (λ (x : Read). job.from ≤ x.0 → job.reached ≤ x.0) (reads job.program e n)
  job-stops n =
      either (cases_lt n job.from)
      (λ before. all-weaken (λ (x : Read). x.0 < n) (λ (x : Read). job.from ≤ x.0 → job.reached ≤ x.0) (λ x lt from. absurd (omega arith)) (reads job.program e n) (reads-below job.program e n))
      (λ after_start.
      let m : ℕ = min n job.reached in
      let forward : job.from ≤ job.reached = j.forward in
      let grown : Grows (min n job.reached) n (reads job.program e (min n job.reached)) (reads job.program e n) = reads-grow job.program e (min n job.reached) n (omega arith) in
      let early : reads job.program e (min n job.reached) ≡ reads job.program e job.from = quiet (min n job.reached) (omega arith) (omega arith) in
      subst (AllByRecursion (λ (x : Read). job.from ≤ x.0 → job.reached ≤ x.0)) (sym grown.is)
      (all-append (λ (x : Read). job.from ≤ x.0 → job.reached ≤ x.0) (reads job.program e (min n job.reached)) grown.more
      (subst (AllByRecursion (λ (x : Read). job.from ≤ x.0 → job.reached ≤ x.0)) (sym early)
      (all-weaken (λ (x : Read). x.0 < job.from) (λ (x : Read). job.from ≤ x.0 → job.reached ≤ x.0) (λ x lt from. absurd (omega arith)) (reads job.program e job.from) (reads-below job.program e job.from)))
      (all-weaken (λ (x : Read). (min n job.reached ≤ x.0) × (x.0 < n)) (λ (x : Read). job.from ≤ x.0 → job.reached ≤ x.0) (λ x b from. omega (arith, b.0, b.1)) grown.more grown.made)))

-- Give.

put_found-fits : (s : Shadow) (w : Conflict) (ws : List Conflict) (o : Option (List Shadow)) → StandsFor s w → IfSome o (λ ss. AllZip StandsFor ss ws)
    → IfSome (put_found s o) (λ ss. AllZip StandsFor ss (w ∷ ws))
put_found-fits s w ws None h fits = tt
put_found-fits s w ws (Some ss) h fits = (h, fits)

pub is_out_at-position : (from position : ℕ) (out : Bool) → is_out_at from position out ≡ true → position ≡ from
is_out_at-position from position out h = eqb-true position from (and_parts _ _ h).0

moved-fits : (from reached : ℕ) (ss : List Shadow) (ws : List Conflict) → AllZip StandsFor ss ws → AllByRecursion (λ w. from ≤ w.1 → reached ≤ w.1) ws
    → IfSome (moved from reached ss) (λ new. AllZip StandsFor new ws)
moved-fits from reached [] ws h stops = tt
moved-fits from reached (s ∷ ss) [] h stops = absurd h
moved-fits from reached (s ∷ ss) (w ∷ ws) h stops =
    cond_both (is_out_at from s.position s.out) _ _ (λ o. IfSome o (λ new. AllZip StandsFor new (w ∷ ws)))
    (λ e. let here : s.position ≡ from = is_out_at-position from s.position s.out e in ((h.0.0, stops.0 (omega (arith, h.0.1))), h.1))
    (λ e. put_found-fits s w ws (moved from reached ss) h.0 (moved-fits from reached ss ws h.1 stops.1))

stored_in-sound : (f : Forest) (t : ℕ) (r : Started) (o : Option (List Shadow)) → find_started f.started t ≡ Some r → IsSound f
    → IfSome o (λ ss. AllZip StandsFor ss (wanted f r)) → IfSome (stored_in f r o) IsSound
stored_in-sound f t r None found h fits = tt
stored_in-sound f t r (Some ss) found h fits = give_shadows-sound f t r ss found fits h

given-sound : (f : Forest) (job : Job) (over : Tables) (o : Option Started) → find_started f.started job.number ≡ o → program_of f.journal job.number ≡ job.program → IsJobOver over job → length over ≡ length f.tables → IsSound f
    → IfSome (given f job o) IsSound
given-sound f job over None found program_is j size h = tt
given-sound f job over (Some r) found program_is j size h =
    cond_both (same_reads (reads (program f r) f.tables job.from) job.reads) _ _ (λ x. IfSome x IsSound)
    (λ e.
    let is : program f r ≡ job.program = ap (program_of f.journal) (found-number f.started job.number r found) ∙ program_is in
    let same : reads job.program f.tables job.from ≡ job.reads =
    ap (λ p. reads p f.tables job.from) (sym is) ∙ same_reads-true _ _ e
    in
    let stops : AllByRecursion (λ (x : Read). job.from ≤ x.0 → job.reached ≤ x.0) (reads_of f r) =
    subst (λ p. AllByRecursion (λ (x : Read). job.from ≤ x.0 → job.reached ≤ x.0) (reads p f.tables r.position)) (sym is)
    (job-stops job over j f.tables (sym size) same r.position)
    in
    let ends : job.from ≤ length_of f r → job.reached ≤ length_of f r =
    subst (λ p. job.from ≤ run_length p f.tables → job.reached ≤ run_length p f.tables) (sym is) (job-within job over j f.tables (sym size) same)
    in
    let within : r.position ≤ length_of f r = all-found (λ x. x.position ≤ length_of f x) (λ x. x.number == job.number) f.started r found h.right.within in
    let wanted_stops : AllByRecursion (λ w. job.from ≤ w.1 → job.reached ≤ w.1) (wanted f r) =
    all-wanted (λ w. job.from ≤ w.1 → job.reached ≤ w.1) f r
    (all-everywhere (λ u. (w : Conflict) → against f r u ≡ Some w → job.from ≤ w.1 → job.reached ≤ w.1)
    (λ u w a. all-point (λ n. job.from ≤ n → job.reached ≤ n) (reads_of f r) _ w.1 (against-is f r u w a).1 stops) f.started)
    in
    cond_both (is_out_at job.from r.position r.out) _ _ (λ x. IfSome x IsSound)
    (λ out. let here : r.position ≡ job.from = is_out_at-position job.from r.position r.out out in move_to-sound f r job.reached (ends (omega arith)) h)
    (λ other.
    stored_in-sound f job.number r (moved job.from job.reached r.shadows) found h
    (moved-fits job.from job.reached r.shadows (wanted f r)
    (all-found (λ x. AllZip StandsFor x.shadows (wanted f x)) (λ x. x.number == job.number) f.started r found h.settled) wanted_stops)))
    (λ e. tt)

pub give-sound : (f : Forest) (job : Job) (over : Tables) → program_of f.journal job.number ≡ job.program → IsJobOver over job → length over ≡ length f.tables → IsSound f → IfSome (give f job) IsSound
give-sound f job over program_is j size h = given-sound f job over (find_started f.started job.number) refl program_is j size h
