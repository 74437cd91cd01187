-- What began in a forest lasts, whatever happens to it.
use Rattle.std.proofs.Common.{◌≡◌, ℕ, zero, suc, ◌<◌, true, ltb, List, [], ◌∷◌, length, Option, Some, None, Result, Ok, Err, IfOk, refl, ap, sym, ◌∙◌, subst, arith, true≢false}
use Rattle.std.specs.Prelude.{IfSome, OnOk, OnErr, get_or, slice_get, slice_set, option_map, is_some, ◌==◌}
use Rattle.std.specs.List.{AllByRecursion}
use Rattle.std.proofs.lemmas.Bool.{cond_both}
use Rattle.txn_runs.specs.declared.program.Program.{Program}
use Rattle.txn_code.specs.Nodes.{nodes_of}
use Rattle.block_rule.specs.declared.role.Role.{Role}
use Rattle.block_rule.specs.declared.role.Role.TheVariants.{Optimistic, Guard}
use Rattle.block_rule.specs.declared.role.Row.{Row}
use Rattle.block_rule.specs.Standing.{unless_ended}
use Rattle.journal_core.specs.Journal.{has_begun, is_live, program_of, began, is_sealed}
use Rattle.journal_core.specs.declared.entry.Entry.TheVariants.{Sealed}
use Rattle.forest_model.specs.Forest.{Shadow, Started, Forest, is_ended, wanted, find_started}
use Rattle.forest_model.specs.Settle.{settle}
use Rattle.forest_model.specs.Start.{start_some, next_to_start}
use Rattle.forest_model.specs.Pick.{pick}
use Rattle.forest_model.specs.Events.{Refusal, with_entry, begin, seal, step_guard, with_shadows, step_role, step, laid, others_cut, commit_ended, commit, gone, withdraw}
use Rattle.forest_model.specs.Jobs.{Job, job_of, taken, recall, give}
use Rattle.forest_model.specs.Drain.{after_step, after_commit, run_idle, first_ended, drain_by, drain_step, gate_by, gate_step, state_of, drain}
use Rattle.forest_model.specs.Runs.{reads, is_local}
use Rattle.forest_model.specs.declared.did.Did.{Did}
use Rattle.forest_model.specs.World.{Held, World, Event, Begin, Seal, Step, Commit, Withdraw, all_happen, IsHeld, IsFit}
use Rattle.forest_model.specs.Laws.{is_step, is_step_or_commit}
use Rattle.forest_model.specs.Sound.{IsSound}
use Rattle.forest_model.proofs.StepLaws.{if_runnable-all, if_started-all, recall-sound}
use Rattle.forest_model.proofs.WorldLaws.{tables-size, happens-fit}
use Rattle.forest_model.proofs.StoreLaws.{is_stored}
use Rattle.forest_model.proofs.RunEvents.{idle-events, drain-events}
use Rattle.shadow_forest.specs.View.{View, with_numbers, commit_told, withdraw_told}
use Rattle.shadow_forest.specs.declared.bench.Job.{Job as Job'}
use Rattle.shadow_forest.specs.Bench.{Outside, Benched, told, job_in, IsOfRun, after_give}
use Rattle.shadow_forest.proofs.Placing.{some_same}
use Rattle.shadow_forest.proofs.Picked.{pick-in}
use Rattle.shadow_forest.proofs.Elements.{all-placed}
use Rattle.std.proofs.lemmas.Option.{slice_get-get_or}
use Rattle.journal_core.proofs.Legal.{begun-live}
use Rattle.forest_model.proofs.Lists.{all-found}
use Rattle.forest_model.proofs.StartedLaws.{found-number}
use Rattle.forest_tests.specs.Stage.{IsHere, Fits, AllFit}

-- what began keeps its program, and the tables their number of items
pub record Lasts (f g : Forest) : Type 0 where
  pub programs : (t : ℕ) → has_begun f.journal t ≡ true → (has_begun g.journal t ≡ true) × (program_of g.journal t ≡ program_of f.journal t)
  pub items : length g.tables ≡ length f.tables

here-lasts : (f g : Forest) → Lasts f g → (x : Outside) → IsHere f x → IsHere g x
here-lasts f g l x h = record { begun = (l.programs x.number h.begun).0; nodes = h.nodes ∙ ap nodes_of (sym (l.programs x.number h.begun).1) }

job-lasts : (f g : Forest) → Lasts f g → (o : Option Outside) → IfSome o (IsHere f) → IfSome o (IsHere g)
job-lasts f g l None h = tt
job-lasts f g l (Some x) h = here-lasts f g l x h

-- benches that fit a forest go on fitting it
pub fit-lasts : (f g : Forest) → Lasts f g → (bs : List Benched) → AllFit f bs → AllFit g bs
fit-lasts f g l [] h = tt
fit-lasts f g l (b ∷ bs) h = (record { items = h.0.items ∙ sym l.items; job = job-lasts f g l b.outside h.0.job }, fit-lasts f g l bs h.1)

pub lasts-same : (f : Forest) → Lasts f f
lasts-same f = record { programs = λ t b. (b, refl); items = refl }

pub lasts-both : (f g e : Forest) → Lasts f g → Lasts g e → Lasts f e
lasts-both f g e a b = record {
  programs = λ t h. ((b.programs t (a.programs t h).0).0, (b.programs t (a.programs t h).0).1 ∙ (a.programs t h).1);
  items = b.items ∙ a.items;
}

-- a job on which nothing was done yet
module _ (f : Forest) (sound : IsSound f) where
  abbrev first : ℕ → Held
  first t = record { job = record { number = t; program = program_of f.journal t; from = 0; reads = reads (program_of f.journal t) f.tables 0; reached = 0 }; tables = f.tables }

  first-held : (t : ℕ) → has_begun f.journal t ≡ true → IsHeld f (first t)
  first-held t b = record {
    begun = b;
    program = refl;
    size = tables-size f sound;
    job = record { forward = omega arith; seen = refl; local = λ n low high. absurd (omega (arith, high)) };
  }

  -- what keeps such jobs lasts
  from-held : (g : Forest) → IsSound g → g.opening ≡ f.opening → ((x : Held) → IsHeld f x → IsHeld g x) → Lasts f g
  from-held g after opening each = record {
    programs = λ t b. let y : IsHeld g (first t) = each (first t) (first-held t b) in (y.begun, y.program);
    items = tables-size g after ∙ (ap length opening ∙ sym (tables-size f sound));
  }

  alone : IsFit (record { forest = f; jobs = [] })
  alone = record { sound = sound; held = tt }

  with-one : (x : Held) → IsHeld f x → IsFit (record { forest = f; jobs = x ∷ [] })
  with-one x h = record { sound = sound; held = (h, tt) }

-- The opening tables stay.

begin-opening : (f : Forest) (p : Program) (deadline : ℕ) → IfOk (begin f p deadline) (λ a. a.1.opening ≡ f.opening)
begin-opening f p deadline =
    cond_both {A = Result (ℕ × Forest) Refusal} (is_sealed f.journal) _ _ (λ r. IfOk r (λ a. a.1.opening ≡ f.opening)) (λ e. tt)
    (λ u. cond_both {A = Result (ℕ × Forest) Refusal} (ltb (began f.journal) 20000) _ _ (λ r. IfOk r (λ a. a.1.opening ≡ f.opening))
    (λ room. cond_both {A = Forest} (ltb (length f.started) f.lanes) _ _ (λ g. g.opening ≡ f.opening) (λ l. refl) (λ l. refl))
    (λ e. tt))

seal-opening : (f : Forest) → (seal f).opening ≡ f.opening
seal-opening f = cond_both {A = Forest} (is_sealed f.journal) f (with_entry Sealed f) (λ g. g.opening ≡ f.opening) (λ e. refl) (λ e. refl)

shadows-opening : (f : Forest) (r : Started) (new : Result (ℕ × List Shadow) Refusal) → IfOk (with_shadows f r new) (λ a. a.1.opening ≡ f.opening)
shadows-opening f r (Ok new) = refl
shadows-opening f r (Err refusal) = tt

role-opening : (f : Forest) (role : Role) (r : Started) → IfOk (step_role f role r) (λ a. a.1.opening ≡ f.opening)
role-opening f Optimistic r = if_runnable-all (unless_ended (is_ended f r)) _ (λ a. a.1.opening ≡ f.opening) (λ run. refl)
role-opening f (Guard u) r = shadows-opening f r (step_guard u r.shadows (wanted f r))

step-opening : (f : Forest) (t : ℕ) (role : Role) → IfOk (step f t role) (λ a. a.1.opening ≡ f.opening)
step-opening f t role =
    cond_both {A = Result (ℕ × Forest) Refusal} (is_live f.journal t) _ _ (λ x. IfOk x (λ a. a.1.opening ≡ f.opening))
    (λ e. if_started-all (λ a. a.1.opening ≡ f.opening) (find_started f.started t) (step_role f role) (λ r found. role-opening f role r)) (λ e. tt)

start-opening : (g : Forest) (before : List Started) (o : Option ℕ) → (settle before (start_some o g)).opening ≡ g.opening
start-opening g before None = refl
start-opening g before (Some t) = refl

commit-opening : (f : Forest) (t : ℕ) → IfOk (commit f t) (λ g. g.opening ≡ f.opening)
commit-opening f t =
    cond_both {A = Result Forest Refusal} (is_live f.journal t) _ _ (λ x. IfOk x (λ g. g.opening ≡ f.opening))
    (λ e. if_started-all (λ g. g.opening ≡ f.opening) (find_started f.started t) (commit_ended f)
    (λ u found. cond_both {A = Result Forest Refusal} (is_ended f u) _ _ (λ x. IfOk x (λ g. g.opening ≡ f.opening))
    (λ e. start-opening (laid f u) (others_cut f u) (next_to_start (laid f u)))
    (λ e. tt)))
    (λ e. tt)

withdraw-opening : (f : Forest) (t : ℕ) → IfOk (withdraw f t) (λ g. g.opening ≡ f.opening)
withdraw-opening f t =
    cond_both {A = Result Forest Refusal} (is_live f.journal t) _ _ (λ x. IfOk x (λ g. g.opening ≡ f.opening))
    (λ e. cond_both {A = Result Forest Refusal} (is_sealed f.journal) _ _ (λ x. IfOk x (λ g. g.opening ≡ f.opening)) (λ e. tt)
    (λ e. start-opening (gone f t) f.started (next_to_start (gone f t))))
    (λ e. tt)

after_step-opening : (f : Forest) (r : Result (ℕ × Forest) Refusal) → IfOk r (λ a. a.1.opening ≡ f.opening) → (after_step f r).opening ≡ f.opening
after_step-opening f (Ok answer) h = h
after_step-opening f (Err refusal) h = refl

after_commit-opening : (f : Forest) (r : Result Forest Refusal) → IfOk r (λ g. g.opening ≡ f.opening) → (after_commit f r).opening ≡ f.opening
after_commit-opening f (Ok g) h = h
after_commit-opening f (Err refusal) h = refl

-- Events.

module _ (f : Forest) (sound : IsSound f) where
  pub begin-lasts : (p : Program) (deadline : ℕ) → Lasts f (after_step f (begin f p deadline))
  begin-lasts p deadline =
      from-held f sound (after_step f (begin f p deadline)) (happens-fit (record { forest = f; jobs = [] }) (Begin p deadline) (alone f sound)).sound (after_step-opening f (begin f p deadline) (begin-opening f p deadline))
      (λ x h. (happens-fit (record { forest = f; jobs = x ∷ [] }) (Begin p deadline) (with-one f sound x h)).held.0)

  pub seal-lasts : Lasts f (seal f)
  seal-lasts =
      from-held f sound (seal f) (happens-fit (record { forest = f; jobs = [] }) Seal (alone f sound)).sound (seal-opening f)
      (λ x h. (happens-fit (record { forest = f; jobs = x ∷ [] }) Seal (with-one f sound x h)).held.0)

  pub step-lasts : (t : ℕ) (role : Role) → Lasts f (after_step f (step f t role))
  step-lasts t role =
      from-held f sound (after_step f (step f t role)) (happens-fit (record { forest = f; jobs = [] }) (Step t role) (alone f sound)).sound (after_step-opening f (step f t role) (step-opening f t role))
      (λ x h. (happens-fit (record { forest = f; jobs = x ∷ [] }) (Step t role) (with-one f sound x h)).held.0)

  pub step-after : (t : ℕ) (role : Role) → IsSound (after_step f (step f t role))
  step-after t role = (happens-fit (record { forest = f; jobs = [] }) (Step t role) (alone f sound)).sound

  pub commit-lasts : (t : ℕ) → Lasts f (after_commit f (commit f t))
  commit-lasts t =
      from-held f sound (after_commit f (commit f t)) (happens-fit (record { forest = f; jobs = [] }) (Commit t) (alone f sound)).sound (after_commit-opening f (commit f t) (commit-opening f t))
      (λ x h. (happens-fit (record { forest = f; jobs = x ∷ [] }) (Commit t) (with-one f sound x h)).held.0)

  pub commit-after : (t : ℕ) → IsSound (after_commit f (commit f t))
  commit-after t = (happens-fit (record { forest = f; jobs = [] }) (Commit t) (alone f sound)).sound

  pub withdraw-lasts : (t : ℕ) → Lasts f (after_commit f (withdraw f t))
  withdraw-lasts t =
      from-held f sound (after_commit f (withdraw f t)) (happens-fit (record { forest = f; jobs = [] }) (Withdraw t) (alone f sound)).sound (after_commit-opening f (withdraw f t) (withdraw-opening f t))
      (λ x h. (happens-fit (record { forest = f; jobs = x ∷ [] }) (Withdraw t) (with-one f sound x h)).held.0)

-- A list of steps and commits.

pub all-last : (es : List Event) (f : Forest) → IsSound f → AllByRecursion (λ e. is_step_or_commit e ≡ true) es → Lasts f (all_happen es (record { forest = f; jobs = [] })).forest
all-last [] f sound h = lasts-same f
all-last (Step t role ∷ es) f sound h = lasts-both f (after_step f (step f t role)) _ (step-lasts f sound t role) (all-last es (after_step f (step f t role)) (step-after f sound t role) h.1)
all-last (Commit t ∷ es) f sound h = lasts-both f (after_commit f (commit f t)) _ (commit-lasts f sound t) (all-last es (after_commit f (commit f t)) (commit-after f sound t) h.1)
all-last (e ∷ es) f sound h = cc

steps-are : (es : List Event) → AllByRecursion (λ e. is_step e ≡ true) es → AllByRecursion (λ e. is_step_or_commit e ≡ true) es
steps-are [] h = tt
steps-are (Step t role ∷ es) h = (refl, steps-are es h.1)
steps-are (e ∷ es) h = cc

pub idle-lasts : (f : Forest) → IsSound f → Lasts f (run_idle f).1
idle-lasts f sound =
    let x = idle-events (record { forest = f; jobs = [] }) in
    subst (λ (w : World). Lasts f w.forest) x.1.0 (all-last x.0 f sound (steps-are x.0 x.1.1.1))

drained-by : (f : Forest) (o : Option ℕ) (p : Option Row) → IsSound f → Lasts f (drain_by f o p).1
drained-by f (Some t) p sound = commit-lasts f sound t
drained-by f None (Some row) sound = step-lasts f sound row.txn row.role
drained-by f None None sound = lasts-same f

pub drain_step-lasts : (f : Forest) → IsSound f → Lasts f (drain_step f).1
drain_step-lasts f sound = drained-by f (first_ended f) (pick f) sound

gated-by : (f : Forest) (o : Option ℕ) (p : Option Row) → IsSound f → Lasts f (gate_by f o p).1
gated-by f (Some t) p sound = commit-lasts f sound t
gated-by f None (Some row) sound =
    cond_both {A = Did × Forest} (is_local (state_of f row)) _ _ (λ (x : Did × Forest). Lasts f x.1) (λ e. lasts-same f) (λ e. step-lasts f sound row.txn row.role)
gated-by f None None sound = lasts-same f

pub gate-lasts : (f : Forest) → IsSound f → Lasts f (gate_step f).1
gate-lasts f sound = gated-by f (first_ended f) (pick f) sound

-- What a forest's user sees.

pub commit-view : (v : View) (t : ℕ) (r : Result Forest Refusal) → (commit_told v t r).numbers ≡ after_commit v.numbers r
commit-view v t (Ok g) = refl
commit-view v t (Err refusal) = refl

pub withdraw-view : (v : View) (t : ℕ) (r : Result Forest Refusal) → (withdraw_told v t r).numbers ≡ after_commit v.numbers r
withdraw-view v t (Ok g) = refl
withdraw-view v t (Err refusal) = refl

-- after a begin that was accepted or refused
pub begun : {E : Type 0} (v new : View) (g : Forest) (r : Result ℕ E) → Lasts v.numbers g → OnOk r (new ≡ with_numbers g v) → OnErr r (new ≡ v) → Lasts v.numbers new.numbers
begun v new g (Ok txn) l next same = subst (λ (w : View). Lasts v.numbers w.numbers) (sym next) l
begun v new g (Err refusal) l next same = subst (λ (w : View). Lasts v.numbers w.numbers) (sym same) (lasts-same v.numbers)

-- a recall, and then steps and commits
pub recall-lasts : (f : Forest) → Lasts f (recall f)
recall-lasts f = record { programs = λ t b. (b, refl); items = refl }

pub drain-lasts : (f : Forest) → IsSound f → Lasts f (drain f).1
drain-lasts f sound =
    let x = drain-events (record { forest = f; jobs = [] }) in
    lasts-both f (recall f) (drain f).1 (recall-lasts f)
    (subst (λ (w : World). Lasts (recall f) w.forest) x.1.0 (all-last x.0 (recall f) (recall-sound f sound) x.1.1))

-- what was taken
pub taken-lasts : (f : Forest) (o : Option Row) → Lasts f (taken f o)
taken-lasts f None = lasts-same f
taken-lasts f (Some row) = record { programs = λ t b. (b, refl); items = refl }

-- what was given
pub given-lasts : (f : Forest) (job : Job) → Lasts f (after_give f (give f job))
given-lasts f job = by (give f job) refl
  where
    by : (o : Option Forest) → give f job ≡ o → Lasts f (after_give f o)
    by None e = lasts-same f
    by (Some g) e =
        let x = is_stored f g job e in
        record { programs = λ t b. rw x.journal (b, refl); items = ap length x.tables }

-- Benches.

get_at : {A : Type 0} (xs : List A) (n : ℕ) (x : A) → n < length xs → x ≡ get_or xs n x → slice_get xs n ≡ Some x
get_at xs n x less is = slice_get-get_or xs n x less ∙ ap (λ y. Some y) (sym is)

all_set : {A : Type 0} (P : A → Type 0) (xs : List A) (n : ℕ) (x : A) → P x → AllByRecursion P xs → AllByRecursion P (slice_set xs n x)
all_set P [] n x here all = all
all_set P (y ∷ ys) zero x here all = (here, all.1)
all_set P (y ∷ ys) (suc n) x here all = (all.0, all_set P ys n x here all.1)

pub bench-at : (f : Forest) (bs : List Benched) (n : ℕ) (b : Benched) → AllFit f bs → n < length bs → b ≡ get_or bs n b → Fits f b
bench-at f bs n b all less e = all-placed (Fits f) bs n b (get_at bs n b less e) all

pub same-bench : (bs : List Benched) (n : ℕ) (a b : Benched) → n < length bs → a ≡ get_or bs n a → b ≡ get_or bs n b → a ≡ b
same-bench bs n a b less ea eb = some_same a b (sym (get_at bs n a less ea) ∙ get_at bs n b less eb)

-- a bench that has a job
pub has-job : (o : Option Outside) (r : Option Job') → r ≡ option_map told o → is_some r ≡ true → (x : Outside) × (o ≡ Some x)
has-job None r e some = absurd (true≢false (sym some ∙ ap is_some e))
has-job (Some x) r e some = (x, refl)

-- the transaction of the pick began
pub taken-here : (f : Forest) → IsSound f → (o : Option Outside) → option_map (job_in f) o ≡ option_map (job_of f) (pick f) → IfSome o (IsOfRun f) → IfSome o (IsHere f)
taken-here f sound None e run = tt
taken-here f sound (Some x) e run = by (pick f) refl e
  where
    by : (p : Option Row) → pick f ≡ p → Some (job_in f x) ≡ option_map (job_of f) p → IsHere f x
    by None q e = cc
    by (Some row) q e =
        let same : job_in f x ≡ job_of f row = cc in
        let number : x.number ≡ row.txn = ap (λ (j : Job). j.number) same in
        let r = pick-in f row sound q in
        let live : is_live f.journal r.0.number ≡ true = all-found (λ (y : Started). is_live f.journal y.number ≡ true) (λ (y : Started). y.number == row.txn) f.started r.0 r.1 sound.right.live in
        record {
          begun = begun-live f.journal x.number (subst (λ n. is_live f.journal n ≡ true) (found-number f.started row.txn r.0 r.1 ∙ sym number) live);
          nodes = run.nodes;
        }

-- one bench changes, and the others go on fitting
pub fit-set : (f : Forest) (bs : List Benched) (n : ℕ) (b : Benched) → Fits f b → AllFit f bs → AllFit f (slice_set bs n b)
fit-set f bs n b here all = all_set (Fits f) bs n b here all
