-- What a turn adds to the list that the forest stands for.
use Rattle.std.proofs.Common.{◌≡◌, ℕ, Bool, true, false, List, [], ◌∷◌, ◌++◌, length, map, Option, Some, None, Result, Ok, Err, IfOk, refl, sym, ap, ◌∙◌, subst, inl, inr, append-nil, true≢false}
use Rattle.std.specs.Prelude.{IfSome, option_map, is_some, if◌then◌else◌, ◌==◌}
use Rattle.std.proofs.lemmas.Bool.{cond_both}
use mathlib.Core.List.{map-append}
use Rattle.txn_runs.specs.Run.{Tables}
use Rattle.block_rule.specs.declared.role.Row.{Row}
use Rattle.journal_core.specs.Journal.{is_live}
use Rattle.journal_core.specs.declared.entry.Entry.{Entry}
use Rattle.forest_model.specs.Forest.{Shadow, Started, Forest, program, is_ended, find_started}
use Rattle.forest_model.specs.Runs.{reads, is_local}
use Rattle.forest_model.specs.Start.{next_to_start}
use Rattle.forest_model.specs.Settle.{settle}
use Rattle.forest_model.specs.Pick.{pick}
use Rattle.forest_model.specs.Sound.{IsSound}
use Rattle.forest_model.specs.Events.{Refusal, move_to, laid, others_cut, commit_ended, commit}
use Rattle.forest_model.specs.Jobs.{Job, job_of, taken, take_pick, give, given, stored_in, moved, same_reads, is_out_at}
use Rattle.forest_model.specs.Grown.{IsGrown, commit_entry}
use Rattle.forest_model.specs.Drain.{first_ended, after_commit, step_row, state_of, gate_by, gate_step}
use Rattle.forest_model.specs.declared.did.Did.{Did}
use Rattle.forest_model.specs.declared.did.Did.TheVariants as did
use Rattle.forest_model.proofs.StepLaws.{if_started-all}
use Rattle.forest_model.proofs.DrainLaws.{started-keeps}
use Rattle.forest_model.proofs.IdleLaws.{pick-step}
use Rattle.forest_model.proofs.LongerLaws.{step-same, commit-grown, give-grown, same-grown, gate_step-longer}
use Rattle.forest_model.proofs.StoreLaws.{is_stored}
use Rattle.forest_model.proofs.WorldLaws.{tables-size}
use Rattle.forest_model.proofs.GateLaws.{gate-sound}
use Rattle.forest_model.proofs.Lists.{all-found}
use Rattle.forest_model.proofs.StartedLaws.{found-number}
use Rattle.shadow_forest.specs.View.{View, with_numbers, drain_told, gate_step_view}
use Rattle.shadow_forest.specs.declared.bench.Job.{Job as Told}
use Rattle.shadow_forest.specs.Bench.{Outside, told, job_in, after_give}
use Rattle.shadow_forest.specs.Listed.{happened, listed}
use Rattle.shadow_forest.specs.declared.kept.Item.{Item}
use Rattle.shadow_forest.specs.declared.kept.Item.TheVariants.{Opening}
use Rattle.shadow_forest.proofs.Picked.{pick-in}
use Rattle.shadow_worker.specs.Turn.{given_view}
use Rattle.shadow_worker.specs.Worked.{IsAtMostCommitted}

-- the same numbers of shadows and lanes
abbrev pub IsBound : Forest → Forest → Type 0
IsBound f g = (g.k ≡ f.k) × (g.lanes ≡ f.lanes)

abbrev pub list_of : Tables → ℕ → ℕ → List Entry → List Item
list_of tables k lanes journal = Opening tables k lanes ∷ map happened journal

pub list-grown : (f g : Forest) (more : List Entry) → IsBound f g → IsGrown f g more → list_of g.opening g.k g.lanes g.journal ≡ list_of f.opening f.k f.lanes f.journal ++ map happened more
list-grown f g more bound grown =
    ap (λ d. list_of d g.k g.lanes g.journal) grown.opening
    ∙ (ap (λ n. list_of f.opening n g.lanes g.journal) bound.0
    ∙ (ap (λ n. list_of f.opening f.k n g.journal) bound.1
    ∙ (ap (λ j. list_of f.opening f.k f.lanes j) grown.journal
    ∙ ap (λ l. Opening f.opening f.k f.lanes ∷ l) (map-append happened f.journal more))))

pub list-same : (f g : Forest) → IsBound f g → IsGrown f g [] → list_of g.opening g.k g.lanes g.journal ≡ list_of f.opening f.k f.lanes f.journal
list-same f g bound grown = list-grown f g [] bound grown ∙ append-nil (list_of f.opening f.k f.lanes f.journal)

-- A job that is given back.

stored-bound : (f : Forest) (r : Started) (shadows : Option (List Shadow)) → IfSome (stored_in f r shadows) (IsBound f)
stored-bound f r None = tt
stored-bound f r (Some ss) = (refl, refl)

given-bound : (f : Forest) (job : Job) (found : Option Started) → IfSome (given f job found) (IsBound f)
given-bound f job None = tt
given-bound f job (Some r) = go (same_reads (reads (program f r) f.tables job.from) job.reads) (is_out_at job.from r.position r.out)
  where
    go : (same out : Bool)
        → IfSome (if same then (if out then Some (settle f.started (move_to r.number job.reached f)) else stored_in f r (moved job.from job.reached r.shadows)) else None) (IsBound f)
    go true true = (refl, refl)
    go true false = stored-bound f r (moved job.from job.reached r.shadows)
    go false out = tt

after_give-list : (f : Forest) (o : Option Forest) → IfSome o (IsBound f) → IfSome o (λ g. IsGrown f g [])
    → let g : Forest = after_give f o in list_of g.opening g.k g.lanes g.journal ≡ list_of f.opening f.k f.lanes f.journal
after_give-list f None bound grown = refl
after_give-list f (Some g) bound grown = list-same f g bound grown

pub given-list : (v : View) (o : Option Outside) → listed (given_view v o) ≡ listed v
given-list v None = refl
given-list v (Some x) =
    let job : Job = job_in v.numbers x in
    after_give-list v.numbers (give v.numbers job) (given-bound v.numbers job (find_started v.numbers.started job.number)) (give-grown v.numbers job)

-- a bench that told a job gave it back
pub given-by : (v w : View) (o : Option Outside) (r : Option Told) → r ≡ option_map told o → is_some r ≡ true
    → ((x : Outside) → o ≡ Some x → w ≡ with_numbers (after_give v.numbers (give v.numbers (job_in v.numbers x))) v) → w ≡ given_view v o
given-by v w None r e some each = absurd (true≢false (sym some ∙ ap is_some e))
given-by v w (Some x) r e some each = each x refl

-- A step under the gate.

commit-bound : (f : Forest) (t : ℕ) → IfOk (commit f t) (IsBound f)
commit-bound f t =
    cond_both {A = Result Forest Refusal} (is_live f.journal t) _ _ (λ x. IfOk x (IsBound f))
    (λ e. if_started-all (IsBound f) (find_started f.started t) (commit_ended f)
    (λ u found. cond_both {A = Result Forest Refusal} (is_ended f u) _ _ (λ x. IfOk x (IsBound f))
    (λ e. let kept = started-keeps (others_cut f u) (laid f u) (next_to_start (laid f u)) in (kept.0, kept.1))
    (λ e. tt)))
    (λ e. tt)

-- the same list, or one with a commit more
abbrev IsStepOf : Forest → Forest → Type 0
IsStepOf f g = IsAtMostCommitted (list_of f.opening f.k f.lanes f.journal) (list_of g.opening g.k g.lanes g.journal)

after_commit-list : (f : Forest) (t : ℕ) (o : Result Forest Refusal) → IfOk o (IsBound f) → IfOk o (λ g. IsGrown f g (commit_entry f t ∷ [])) → IsStepOf f (after_commit f o)
after_commit-list f t (Ok g) bound grown = inr (t, _, list-grown f g (commit_entry f t ∷ []) bound grown)
after_commit-list f t (Err refusal) bound grown = inl refl

gated-step : (f : Forest) (o : Option ℕ) (p : Option Row) → IsSound f → pick f ≡ p → IsStepOf f (gate_by f o p).1
gated-step f (Some t) p sound is = after_commit-list f t (commit f t) (commit-bound f t) (commit-grown f t)
gated-step f None (Some row) sound is =
    cond_both {A = Did × Forest} (is_local (state_of f row)) _ _ (λ (x : Did × Forest). IsStepOf f x.1) (λ e. inl refl)
    (λ e.
    let alike = (pick-step f row sound is).alike in
    inl (list-same f (step_row f row) (alike.k, alike.lanes) (same-grown f (step_row f row) (step-same f row.txn row.role))))
gated-step f None None sound is = inl refl

told-numbers : (v : View) (d : Did) (g : Forest) → (drain_told v d g).numbers ≡ g
told-numbers v (did.Committed t) g = refl
told-numbers v (did.Stepped t role) g = refl
told-numbers v did.Nothing g = refl

pub gate-list : (v : View) → IsSound v.numbers → IsAtMostCommitted (listed v) (listed (gate_step_view v))
gate-list v sound =
    let f : Forest = v.numbers in
    subst (λ (g : Forest). IsStepOf f g) (sym (told-numbers v (gate_step f).0 (gate_step f).1)) (gated-step f (first_ended f) (pick f) sound refl)

-- The pick that is taken.

taken-same : (f : Forest) (p : Option Row) → list_of (taken f p).opening (taken f p).k (taken f p).lanes (taken f p).journal ≡ list_of f.opening f.k f.lanes f.journal
taken-same f None = refl
taken-same f (Some row) = refl

-- What is taken.

taken-journal : (f : Forest) (p : Option Row) → (taken f p).journal ≡ f.journal
taken-journal f None = refl
taken-journal f (Some row) = refl

-- the transaction of the pick is live
pub taken-live : (f : Forest) → IsSound f → (o : Option Outside) → option_map (job_in f) o ≡ option_map (job_of f) (pick f) → IfSome o (λ x. is_live (take_pick f).journal x.number ≡ true)
taken-live f sound None e = tt
taken-live f sound (Some x) e = by (pick f) refl e
  where
    by : (p : Option Row) → pick f ≡ p → Some (job_in f x) ≡ option_map (job_of f) p → is_live (take_pick f).journal x.number ≡ true
    by None q e = cc
    by (Some row) q e =
        let same : job_in f x ≡ job_of f row = cc in
        let number : x.number ≡ row.txn = ap (λ (j : Job). j.number) same in
        let r = pick-in f row sound q in
        let live : is_live f.journal r.0.number ≡ true = all-found (λ (y : Started). is_live f.journal y.number ≡ true) (λ (y : Started). y.number == row.txn) f.started r.0 r.1 sound.right.live in
        let here : is_live f.journal x.number ≡ true = subst (λ n. is_live f.journal n ≡ true) (found-number f.started row.txn r.0 r.1 ∙ sym number) live in
        subst (λ j. is_live j x.number ≡ true) (sym (taken-journal f (pick f))) here

-- The number of items stays.

stored-tables : (f : Forest) (job : Job) (o : Option Forest) → give f job ≡ o → (after_give f o).tables ≡ f.tables
stored-tables f job None e = refl
stored-tables f job (Some g) e = (is_stored f g job e).tables

pub given-size : (v : View) (o : Option Outside) → length (given_view v o).numbers.tables ≡ length v.numbers.tables
given-size v None = refl
given-size v (Some x) = ap length (stored-tables v.numbers (job_in v.numbers x) (give v.numbers (job_in v.numbers x)) refl)

pub gate-size : (v : View) → IsSound v.numbers → length (gate_step_view v).numbers.tables ≡ length v.numbers.tables
gate-size v sound =
    let f : Forest = v.numbers in
    let g : Forest = (gate_step f).1 in
    ap (λ (h : Forest). length h.tables) (told-numbers v (gate_step f).0 g)
    ∙ (tables-size g (gate-sound f sound) ∙ (ap length (gate_step-longer f).grown.opening ∙ sym (tables-size f sound)))
