-- After any schedule the forest is sound, and each job that is out is of a run of its transaction's program.
use Rattle.std.proofs.Common.{◌≡◌, ℕ, zero, suc, ◌+◌, ◌≤◌, true, ltb, List, [], ◌∷◌, ◌++◌, length, filter, flat_map, Option, Some, None, Result, Ok, Err, IfOk, IfSome, refl, ap, sym, ◌∙◌, arith}
use Rattle.std.specs.List.{AllByRecursion}
use Rattle.std.proofs.lemmas.Bool.{cases_eq, cond_both}
use Rattle.txn_runs.specs.Run.{Tables, after}
use Rattle.txn_runs.specs.Serial.{outcome_of, effect_of, last_tables, over}
use Rattle.txn_runs.specs.declared.program.Program.{Program}
use Rattle.block_rule.specs.Standing.{unless_ended}
use Rattle.block_rule.specs.declared.role.Role.{Role}
use Rattle.block_rule.specs.declared.role.Role.TheVariants.{Optimistic, Guard}
use Rattle.block_rule.specs.declared.role.Row.{Row}
use Rattle.journal_core.specs.Journal.{has_begun, is_live, program_of, committed_programs, began, is_sealed}
use Rattle.journal_core.specs.declared.entry.Entry.{Entry}
use Rattle.journal_core.specs.declared.entry.Entry.TheVariants.{Began, Sealed, Withdrawn, Committed}
use Rattle.forest_model.specs.Runs.{reads, is_local}
use Rattle.forest_model.specs.Point.{Conflict}
use Rattle.forest_model.specs.Forest.{Shadow, Started, Forest, program, is_ended, wanted, find_started}
use Rattle.forest_model.specs.Settle.{settle}
use Rattle.forest_model.specs.Start.{start_some, next_to_start}
use Rattle.forest_model.specs.Pick.{is_ready, is_earlier, rows_of, guard_rows, pick}
use Rattle.forest_model.specs.Sound.{IsSound}
use Rattle.forest_model.specs.Events.{Refusal, with_entry, begin, seal, give_shadows, step, step_role, step_guard, with_shadows, commit, commit_ended, others_cut, laid, gone, withdraw}
use Rattle.forest_model.specs.Jobs.{Job, same_reads, is_out_at, recall, taken, give, given, stored_in, moved}
use Rattle.forest_model.specs.Drain.{after_step, after_commit}
use Rattle.forest_model.specs.World.{Held, World, Event, Begin, Seal, Step, Commit, Withdraw, Take, Recall, Local, Give, held_at, gone_on, on_at, unless_gone, take_row, give_held, happens, all_happen, opened, IsHeld, IsFit}
use Rattle.forest_model.proofs.RunLaws.{length-over}
use Rattle.forest_model.proofs.Lists.{either, all-append, all-weaken, all-filter}
use Rattle.journal_core.proofs.Legal.{begun-live, begun-more, program_of-push}
use Rattle.forest_model.proofs.StartedLaws.{all-first}
use Rattle.forest_model.proofs.EventLaws.{begin-sound, seal-sound}
use Rattle.forest_model.proofs.StepLaws.{if_runnable-all, if_started-all, step-sound, taken-sound, recall-sound}
use Rattle.forest_model.proofs.CommitLaws.{commit-sound, withdraw-sound}
use Rattle.forest_model.proofs.GiveLaws.{give-sound}

-- what began keeps its program, and the opening tables stay
pub record Keeps (old new : Forest) : Type 0 where
  pub programs : (t : ℕ) → has_begun old.journal t ≡ true → (has_begun new.journal t ≡ true) × (program_of new.journal t ≡ program_of old.journal t)
  pub opening : new.opening ≡ old.opening

-- a forest with the same journal keeps them
stays : (f g : Forest) → g.journal ≡ f.journal → g.opening ≡ f.opening → Keeps f g
stays f g j o = record { programs = λ t h. rw j (h, refl); opening = o }

-- and so does one with one entry more
grows : (f g : Forest) (e : Entry) → g.journal ≡ f.journal ++ e ∷ [] → g.opening ≡ f.opening → Keeps f g
grows f g e j o = record { programs = λ t h. rw j (begun-more f.journal e t h, program_of-push f.journal e t h); opening = o }

-- that each event keeps them

begin-keeps : (f : Forest) (p : Program) (deadline : ℕ) → IfOk (begin f p deadline) (λ a. Keeps f a.1)
begin-keeps f p deadline =
    cond_both {A = Result (ℕ × Forest) Refusal} (is_sealed f.journal) _ _ (λ r. IfOk r (λ a. Keeps f a.1)) (λ e. tt)
    (λ u. cond_both {A = Result (ℕ × Forest) Refusal} (ltb (began f.journal) 20000) _ _ (λ r. IfOk r (λ a. Keeps f a.1))
    (λ room. cond_both {A = Forest} (ltb (length f.started) f.lanes) _ _ (Keeps f) (λ l. grows f _ (Began (began f.journal + 1) deadline p) refl refl) (λ l. grows f _ (Began (began f.journal + 1) deadline p) refl refl))
    (λ e. tt))

seal-keeps : (f : Forest) → Keeps f (seal f)
seal-keeps f = cond_both {A = Forest} (is_sealed f.journal) f (with_entry Sealed f) (Keeps f) (λ e. stays f f refl refl) (λ e. grows f (with_entry Sealed f) Sealed refl refl)

with_shadows-keeps : (f : Forest) (r : Started) (new : Result (ℕ × List Shadow) Refusal) → IfOk (with_shadows f r new) (λ a. Keeps f a.1)
with_shadows-keeps f r (Ok new) = stays f (give_shadows r.number new.1 f) refl refl
with_shadows-keeps f r (Err refusal) = tt

step_role-keeps : (f : Forest) (role : Role) (r : Started) → IfOk (step_role f role r) (λ a. Keeps f a.1)
step_role-keeps f Optimistic r = if_runnable-all (unless_ended (is_ended f r)) _ (λ a. Keeps f a.1) (λ run. stays f _ refl refl)
step_role-keeps f (Guard u) r = with_shadows-keeps f r (step_guard u r.shadows (wanted f r))

step-keeps : (f : Forest) (t : ℕ) (role : Role) → IfOk (step f t role) (λ a. Keeps f a.1)
step-keeps f t role =
    cond_both {A = Result (ℕ × Forest) Refusal} (is_live f.journal t) _ _ (λ x. IfOk x (λ a. Keeps f a.1))
    (λ e. if_started-all (λ a. Keeps f a.1) (find_started f.started t) (step_role f role) (λ r found. step_role-keeps f role r)) (λ e. tt)

start_some-keeps : (f g : Forest) (before : List Started) (o : Option ℕ) → Keeps f g → Keeps f (settle before (start_some o g))
start_some-keeps f g before None k = record { programs = k.programs; opening = k.opening }
start_some-keeps f g before (Some t) k = record { programs = k.programs; opening = k.opening }

commit-keeps : (f : Forest) (t : ℕ) → IfOk (commit f t) (Keeps f)
commit-keeps f t =
    cond_both {A = Result Forest Refusal} (is_live f.journal t) _ _ (λ x. IfOk x (Keeps f))
    (λ e. if_started-all (Keeps f) (find_started f.started t) (commit_ended f)
    (λ u found. cond_both {A = Result Forest Refusal} (is_ended f u) _ _ (λ x. IfOk x (Keeps f))
    (λ e. start_some-keeps f (laid f u) (others_cut f u) (next_to_start (laid f u)) (grows f (laid f u) (Committed u.number (outcome_of (program f u) f.tables)) refl refl))
    (λ e. tt)))
    (λ e. tt)

withdraw-keeps : (f : Forest) (t : ℕ) → IfOk (withdraw f t) (Keeps f)
withdraw-keeps f t =
    cond_both {A = Result Forest Refusal} (is_live f.journal t) _ _ (λ x. IfOk x (Keeps f))
    (λ e. cond_both {A = Result Forest Refusal} (is_sealed f.journal) _ _ (λ x. IfOk x (Keeps f)) (λ e. tt)
    (λ e. start_some-keeps f (gone f t) f.started (next_to_start (gone f t)) (grows f (gone f t) (Withdrawn t) refl refl)))
    (λ e. tt)

stored_in-keeps : (f : Forest) (r : Started) (o : Option (List Shadow)) → IfSome (stored_in f r o) (Keeps f)
stored_in-keeps f r None = tt
stored_in-keeps f r (Some ss) = stays f (give_shadows r.number ss f) refl refl

given-keeps : (f : Forest) (job : Job) (o : Option Started) → IfSome (given f job o) (Keeps f)
given-keeps f job None = tt
given-keeps f job (Some r) =
    cond_both {A = Option Forest} (same_reads (reads (program f r) f.tables job.from) job.reads) _ _ (λ x. IfSome x (Keeps f))
    (λ e. cond_both {A = Option Forest} (is_out_at job.from r.position r.out) _ _ (λ x. IfSome x (Keeps f)) (λ e. stays f _ refl refl) (λ e. stored_in-keeps f r (moved job.from job.reached r.shadows)))
    (λ e. tt)

-- Jobs.

held-keeps : (f g : Forest) → Keeps f g → (x : Held) → IsHeld f x → IsHeld g x
held-keeps f g k x h = record {
  begun = (k.programs x.job.number h.begun).0;
  program = (k.programs x.job.number h.begun).1 ∙ h.program;
  size = h.size ∙ ap length (sym k.opening);
  job = h.job;
}

gone_on-held : (f : Forest) (x : Held) → IsHeld f x → IsHeld f (gone_on x)
gone_on-held f x h =
    cond_both {A = Held} (is_local (after x.job.program x.tables x.job.reached)) _ x (IsHeld f)
    (λ local. record {
      begun = h.begun;
      program = h.program;
      size = h.size;
      job = record {
        forward = let le : x.job.from ≤ x.job.reached = h.job.forward in omega arith;
        seen = h.job.seen;
        local = λ n low high.
            either (cases_eq n x.job.reached)
            (λ last. rw last local)
            (λ before. h.job.local n low (omega arith));
      };
    })
    (λ e. h)

on_at-held : (f : Forest) (n : ℕ) (xs : List Held) → AllByRecursion (IsHeld f) xs → AllByRecursion (IsHeld f) (on_at n xs)
on_at-held f n [] h = tt
on_at-held f zero (x ∷ xs) h = (gone_on-held f x h.0, h.1)
on_at-held f (suc n) (x ∷ xs) h = (h.0, on_at-held f n xs h.1)

all-flat_map : {X Y : Type 0} (P : Y → Type 0) (g : X → List Y) (xs : List X) → AllByRecursion (λ x. AllByRecursion P (g x)) xs → AllByRecursion P (flat_map g xs)
all-flat_map P g [] h = tt
all-flat_map P g (x ∷ xs) h = all-append P (g x) (flat_map g xs) h.0 (all-flat_map P g xs h.1)

guard_rows-number : (P : ℕ → Type 0) (t deadline place : ℕ) (ss : List Shadow) (ws : List Conflict) → P t → AllByRecursion (λ (row : Row). P row.txn) (guard_rows t deadline place ss ws)
guard_rows-number P t deadline place [] ws h = tt
guard_rows-number P t deadline place (s ∷ ss) [] h = tt
guard_rows-number P t deadline place (s ∷ ss) (w ∷ ws) h = (h, guard_rows-number P t deadline (suc place) ss ws h)

pick-begun : (f : Forest) (row : Row) → IsSound f → pick f ≡ Some row → has_begun f.journal row.txn ≡ true
pick-begun f row h e =
    all-first (λ (x : Row). has_begun f.journal x.txn ≡ true) is_earlier (filter is_ready (flat_map (rows_of f) f.started)) row e
    (all-filter _ is_ready (flat_map (rows_of f) f.started)
    (all-flat_map _ (rows_of f) f.started
    (all-weaken (λ r. is_live f.journal r.number ≡ true) (λ r. AllByRecursion (λ (x : Row). has_begun f.journal x.txn ≡ true) (rows_of f r))
    (λ r live. (begun-live f.journal r.number live, guard_rows-number (λ n. has_begun f.journal n ≡ true) r.number _ 1 r.shadows (wanted f r) (begun-live f.journal r.number live)))
    f.started h.right.live)))

-- Worlds.

with-forest : (w : World) (g : Forest) → IsFit w → IsSound g → Keeps w.forest g → IsFit (record w { forest = g })
with-forest w g h sound k = record { sound = sound; held = all-weaken (IsHeld w.forest) (IsHeld g) (λ x old. held-keeps w.forest g k x old) w.jobs h.held }

after_commit-fit : (w : World) (r : Result Forest Refusal) → IsFit w → IfOk r IsSound → IfOk r (Keeps w.forest) → IsFit (record w { forest = after_commit w.forest r })
after_commit-fit w (Ok g) h sound k = with-forest w g h sound k
after_commit-fit w (Err refusal) h sound k = h

after_step-fit : (w : World) (r : Result (ℕ × Forest) Refusal) → IsFit w → IfOk r (λ a. IsSound a.1) → IfOk r (λ a. Keeps w.forest a.1) → IsFit (record w { forest = after_step w.forest r })
after_step-fit w (Ok a) h sound k = with-forest w a.1 h sound k
after_step-fit w (Err refusal) h sound k = h

unless_gone-fit : (w : World) (o : Option Forest) → IsFit w → IfSome o IsSound → IfSome o (Keeps w.forest) → IsFit (unless_gone w o)
unless_gone-fit w None h sound k = h
unless_gone-fit w (Some g) h sound k = with-forest w g h sound k

-- the present tables are of the size of the opening ones
pub tables-size : (f : Forest) → IsSound f → length f.tables ≡ length f.opening
tables-size f h = ap length h.right.serial ∙ length-last f.opening (committed_programs f.journal)
  where
    length-last : (d : Tables) (ps : List Program) → length (last_tables d ps) ≡ length d
    length-last d [] = refl
    length-last d (p ∷ ps) = length-last (over (effect_of p d) d) ps ∙ length-over (effect_of p d) d

take_row-fit : (w : World) (o : Option Row) → pick w.forest ≡ o → IsFit w → IsFit (take_row w o)
take_row-fit w None e h = h
take_row-fit w (Some row) e h = record {
  sound = taken-sound w.forest (Some row) h.sound;
  held = (
    record {
      begun = pick-begun w.forest row h.sound e;
      program = refl;
      size = tables-size w.forest h.sound;
      job = record { forward = omega arith; seen = refl; local = λ n low high. absurd (omega arith) };
    },
    all-weaken (IsHeld w.forest) (IsHeld (taken w.forest (Some row))) (λ x old. held-keeps w.forest (taken w.forest (Some row)) (stays w.forest (taken w.forest (Some row)) refl refl) x old) w.jobs h.held,
  );
}

give_held-fit : (w : World) (o : Option Held) → IsFit w → ((x : Held) → o ≡ Some x → IsHeld w.forest x) → IsFit (give_held w o)
give_held-fit w None h at = h
give_held-fit w (Some x) h at =
    let held : IsHeld w.forest x = at x refl in
    unless_gone-fit w (give w.forest x.job) h
    (give-sound w.forest x.job x.tables held.program held.job (held.size ∙ sym (tables-size w.forest h.sound)) h.sound)
    (given-keeps w.forest x.job (find_started w.forest.started x.job.number))

held_at-all : (P : Held → Type 0) (xs : List Held) (n : ℕ) (x : Held) → AllByRecursion P xs → held_at xs n ≡ Some x → P x
held_at-all P [] n x all e = cc
held_at-all P (y ∷ ys) zero x all e = let same : y ≡ x = cc in rw same at all.0
held_at-all P (y ∷ ys) (suc n) x all e = held_at-all P ys n x all.1 e

pub happens-fit : (w : World) (e : Event) → IsFit w → IsFit (happens w e)
happens-fit w (Begin p deadline) h = after_step-fit w (begin w.forest p deadline) h (begin-sound w.forest p deadline h.sound) (begin-keeps w.forest p deadline)
happens-fit w Seal h = with-forest w (seal w.forest) h (seal-sound w.forest h.sound) (seal-keeps w.forest)
happens-fit w (Step t role) h = after_step-fit w (step w.forest t role) h (step-sound w.forest t role h.sound) (step-keeps w.forest t role)
happens-fit w (Commit t) h = after_commit-fit w (commit w.forest t) h (commit-sound w.forest t h.sound) (commit-keeps w.forest t)
happens-fit w (Withdraw t) h = after_commit-fit w (withdraw w.forest t) h (withdraw-sound w.forest t h.sound) (withdraw-keeps w.forest t)
happens-fit w Take h = take_row-fit w (pick w.forest) refl h
happens-fit w Recall h = with-forest w (recall w.forest) h (recall-sound w.forest h.sound) (stays w.forest (recall w.forest) refl refl)
happens-fit w (Local n) h = record { sound = h.sound; held = on_at-held w.forest n w.jobs h.held }
happens-fit w (Give n) h = give_held-fit w (held_at w.jobs n) h (λ x e. held_at-all (IsHeld w.forest) w.jobs n x h.held e)

pub all_happen-fit : (es : List Event) (w : World) → IsFit w → IsFit (all_happen es w)
all_happen-fit [] w h = h
all_happen-fit (e ∷ es) w h = all_happen-fit es (happens w e) (happens-fit w e h)

pub opened-fit : (d : Tables) (k lanes : ℕ) → IsFit (opened d k lanes)
opened-fit d k lanes = record {
  sound = record {
    right = record {
      legal = tt;
      few = omega arith;
      serial = refl;
      rising = tt;
      live = tt;
      at_most = omega arith;
      full = λ t live idle. cc;
      within = tt;
    };
    settled = tt;
  };
  held = tt;
}
