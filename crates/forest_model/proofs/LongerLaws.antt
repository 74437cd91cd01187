-- What each event of a forest adds to its journal. The opening tables stay.
use Rattle.std.proofs.Common.{◌≡◌, ◌≤◌, ◌<◌, ℕ, zero, suc, ◌+◌, Bool, true, false, List, [], ◌∷◌, ◌++◌, Option, Some, None, if◌then◌else◌, nat_lt, length, Result, Ok, Err, refl, sym, ap, ◌∙◌, subst, arith, append-nil, append_assoc, ltb-true}
use Rattle.std.specs.Option.{IfSome}
use Rattle.std.specs.Result.{IfOk}
use Rattle.std.proofs.lemmas.Bool.{cases_Bool}
use Rattle.block_rule.specs.declared.role.Role.{Role}
use Rattle.block_rule.specs.declared.role.Role.TheVariants.{Optimistic, Guard}
use Rattle.block_rule.specs.declared.role.Row.{Row}
use Rattle.block_rule.specs.declared.standing.Standing.{Standing}
use Rattle.block_rule.specs.declared.standing.Standing.TheVariants.{Runnable, Blocked, Ended}
use Rattle.block_rule.specs.Standing.{standing}
use Rattle.txn_runs.specs.declared.program.Program.{Program}
use Rattle.journal_core.specs.Journal.{is_live, is_sealed, began}
use Rattle.journal_core.specs.declared.entry.Entry.{Entry}
use Rattle.journal_core.specs.declared.entry.Entry.TheVariants.{Began, Sealed, Withdrawn}
use Rattle.forest_model.specs.Forest.{Shadow, Started, Forest, program, is_ended, is_started, wanted, find_started}
use Rattle.forest_model.specs.Runs.{reads}
use Rattle.forest_model.specs.Settle.{settle}
use Rattle.forest_model.specs.Start.{start, next_to_start, start_some}
use Rattle.forest_model.specs.Pick.{pick}
use Rattle.forest_model.specs.Sound.{IsSound}
use Rattle.forest_model.specs.Events.{Refusal, Unknown, NotEnded, IsSealed, TooMany, with_entry, begun, begin, seal, if_runnable, step_guard, with_shadows, move_to, step_role, if_started, step, others_cut, laid, committed, commit_ended, commit, gone, withdrawn, withdraw}
use Rattle.forest_model.specs.Grown.{IsGrown, IsLonger, HasBegun, commit_entry, seal_entries}
use Rattle.forest_model.specs.Jobs.{Job, take_pick, taken, recall, give, given, stored_in, moved, same_reads, is_out_at}
use Rattle.forest_model.specs.World.{World, Held, Event, Begin, Seal, Step, Commit, Withdraw, Take, Recall, Local, Give, happens, all_happen, take_row, give_held, unless_gone, held_at}
use Rattle.forest_model.specs.Drain.{after_step, after_commit, step_row, run_from, run_within, run_idle, first_ended, drain_by, drain_step, drain_from, drain_within, drain, gate_by, gate_step, state_of, left}
use Rattle.forest_model.specs.Runs.{is_local}
use Rattle.forest_model.specs.Work.{work}
use Rattle.forest_model.specs.declared.did.Did.{Did}
use Rattle.forest_model.specs.declared.did.Did.TheVariants as did
use Rattle.forest_model.proofs.Lists.{either}
use Rattle.forest_model.proofs.StartedLaws.{found-number}

pub grown-twice : (f g h : Forest) (more later : List Entry) → IsGrown f g more → IsGrown g h later → IsGrown f h (more ++ later)
grown-twice f g h more later one two = record {
  opening = two.opening ∙ one.opening;
  journal = two.journal ∙ ap (λ j. j ++ later) one.journal ∙ append_assoc f.journal more later;
}

pub longer : (f g : Forest) (more : List Entry) → IsGrown f g more → IsLonger f g
longer f g more h = record { more = more; grown = h }

pub longer-twice : (f g h : Forest) → IsLonger f g → IsLonger g h → IsLonger f h
longer-twice f g h one two = record { more = one.more ++ two.more; grown = grown-twice f g h one.more two.more one.grown two.grown }

-- nothing is added
abbrev pub IsSame : Forest → Forest → Type 0
IsSame f g = (g.opening ≡ f.opening) × (g.journal ≡ f.journal)

pub same-twice : (f g h : Forest) → IsSame f g → IsSame g h → IsSame f h
same-twice f g h one two = (two.0 ∙ one.0, two.1 ∙ one.1)

pub same-grown : (f g : Forest) → IsSame f g → IsGrown f g []
same-grown f g same = record { opening = same.0; journal = same.1 ∙ sym (append-nil f.journal) }

pub same-longer : (f g : Forest) → IsSame f g → IsLonger f g
same-longer f g same = longer f g [] (same-grown f g same)

-- Steps.

runnable-same : (f g : Forest) (position : ℕ) (stands : Standing) → IsSame f g → IfOk {T = ℕ × Forest} (if_runnable stands (position, g)) (λ a. IsSame f a.1)
runnable-same f g position Runnable same = same
runnable-same f g position Blocked same = tt
runnable-same f g position Ended same = tt

shadows-same : (f : Forest) (r : Started) (new : Result (ℕ × List Shadow) Refusal) → IfOk (with_shadows f r new) (λ a. IsSame f a.1)
shadows-same f r (Ok new) = (refl, refl)
shadows-same f r (Err refusal) = tt

role-same : (f : Forest) (role : Role) (r : Started) → IfOk (step_role f role r) (λ a. IsSame f a.1)
role-same f Optimistic r = runnable-same f (settle f.started (move_to r.number (suc r.position) f)) (suc r.position) (standing Optimistic r.position None (is_ended f r)) (refl, refl)
role-same f (Guard u) r = shadows-same f r (step_guard u r.shadows (wanted f r))

started-same : (f : Forest) (role : Role) (found : Option Started) → IfOk (if_started found (step_role f role)) (λ a. IsSame f a.1)
started-same f role None = tt
started-same f role (Some r) = role-same f role r

pub step-ok : (f : Forest) (t : ℕ) (role : Role) → IfOk (step f t role) (λ a. IsSame f a.1)
step-ok f t role = go (is_live f.journal t)
  where
    go : (live : Bool) → IfOk (if live then if_started (find_started f.started t) (step_role f role) else Err Unknown) (λ a. IsSame f a.1)
    go true = started-same f role (find_started f.started t)
    go false = tt

after-same : (f : Forest) (result : Result (ℕ × Forest) Refusal) → IfOk result (λ a. IsSame f a.1) → IsSame f (after_step f result)
after-same f (Ok a) h = h
after-same f (Err refusal) h = (refl, refl)

pub step-same : (f : Forest) (t : ℕ) (role : Role) → IsSame f (after_step f (step f t role))
step-same f t role = after-same f (step f t role) (step-ok f t role)

ok-grown : (f : Forest) (result : Result (ℕ × Forest) Refusal) → IfOk result (λ a. IsSame f a.1) → IfOk result (λ a. IsGrown f a.1 [])
ok-grown f (Ok a) h = same-grown f a.1 h
ok-grown f (Err refusal) h = tt

pub step-grown : (f : Forest) (t : ℕ) (role : Role) → IfOk (step f t role) (λ a. IsGrown f a.1 [])
step-grown f t role = ok-grown f (step f t role) (step-ok f t role)

run-same-by : (row : Option Row) (f : Forest) (more : Forest → ℕ × Forest) → ((g : Forest) → IsSame g (more g).1) → IsSame f (run_from row f more).1
run-same-by None f more each = (refl, refl)
run-same-by (Some row) f more each =
    same-twice f (step_row f row) (more (step_row f row)).1 (step-same f row.txn row.role) (each (step_row f row))

pub run-same : (n : ℕ) (f : Forest) → IsSame f (run_within n f).1
run-same zero f = (refl, refl)
run-same (suc n) f = run-same-by (pick f) f (run_within n) (run-same n)

pub run-grown : (f : Forest) → IsGrown f (run_idle f).1 []
run-grown f = same-grown f (run_idle f).1 (run-same (work f) f)

-- Commits and withdrawals.

settled-same : (before : List Started) (g : Forest) (o : Option ℕ) → IsSame g (settle before (start_some o g))
settled-same before g None = (refl, refl)
settled-same before g (Some t) = (refl, refl)

committed-grown : (f : Forest) (u : Started) → IsGrown f (committed f u) (commit_entry f u.number ∷ [])
committed-grown f u =
    let same = settled-same (others_cut f u) (laid f u) (next_to_start (laid f u)) in
    record { opening = same.0; journal = same.1 }

ended-grown : (f : Forest) (u : Started) (ended : Bool) → IfOk (if ended then Ok (committed f u) else Err NotEnded) (λ g. IsGrown f g (commit_entry f u.number ∷ []))
ended-grown f u true = committed-grown f u
ended-grown f u false = tt

found-grown : (f : Forest) (t : ℕ) (found : Option Started) → find_started f.started t ≡ found → IfOk (if_started found (commit_ended f)) (λ g. IsGrown f g (commit_entry f t ∷ []))
found-grown f t None e = tt
found-grown f t (Some u) e =
    subst (λ n. IfOk (commit_ended f u) (λ g. IsGrown f g (commit_entry f n ∷ []))) (found-number f.started t u e) (ended-grown f u (is_ended f u))

pub commit-grown : (f : Forest) (t : ℕ) → IfOk (commit f t) (λ g. IsGrown f g (commit_entry f t ∷ []))
commit-grown f t = go (is_live f.journal t)
  where
    go : (live : Bool) → IfOk (if live then if_started (find_started f.started t) (commit_ended f) else Err Unknown) (λ g. IsGrown f g (commit_entry f t ∷ []))
    go true = found-grown f t (find_started f.started t) refl
    go false = tt

withdrawn-grown : (f : Forest) (t : ℕ) → IsGrown f (withdrawn f t) (Withdrawn t ∷ [])
withdrawn-grown f t =
    let same = settled-same f.started (gone f t) (next_to_start (gone f t)) in
    record { opening = same.0; journal = same.1 }

pub withdraw-grown : (f : Forest) (t : ℕ) → IfOk (withdraw f t) (λ g. IsGrown f g (Withdrawn t ∷ []))
withdraw-grown f t = go (is_live f.journal t) (is_sealed f.journal)
  where
    go : (live sealed : Bool) → IfOk (if live then (if sealed then Err IsSealed else Ok (withdrawn f t)) else Err Unknown) (λ g. IsGrown f g (Withdrawn t ∷ []))
    go true true = tt
    go true false = withdrawn-grown f t
    go false sealed = tt

-- a commit or a withdrawal, also a refused one
end-longer : (f : Forest) (result : Result Forest Refusal) (e : Entry) → IfOk result (λ g. IsGrown f g (e ∷ [])) → IsLonger f (after_commit f result)
end-longer f (Ok g) e h = longer f g (e ∷ []) h
end-longer f (Err refusal) e h = same-longer f f (refl, refl)

pub commit-longer : (f : Forest) (t : ℕ) → IsLonger f (after_commit f (commit f t))
commit-longer f t = end-longer f (commit f t) (commit_entry f t) (commit-grown f t)

withdraw-longer : (f : Forest) (t : ℕ) → IsLonger f (after_commit f (withdraw f t))
withdraw-longer f t = end-longer f (withdraw f t) (Withdrawn t) (withdraw-grown f t)

-- Begin and seal.

begun-grown : (f : Forest) (t : ℕ) (e : Entry) (free : Bool) → IsGrown f (if free then start t (with_entry e f) else with_entry e f) (e ∷ [])
begun-grown f t e true = record { opening = refl; journal = refl }
begun-grown f t e false = record { opening = refl; journal = refl }

pub begin-grown : (f : Forest) (p : Program) (deadline : ℕ) → IfOk (begin f p deadline) (λ a. HasBegun f a.1 a.0 deadline p)
begin-grown f p deadline = go (is_sealed f.journal) (nat_lt (began f.journal) 20000) refl
  where
    go : (sealed few : Bool) → nat_lt (began f.journal) 20000 ≡ few
        → IfOk (if sealed then Err IsSealed else (if few then Ok (began f.journal + 1, begun f (began f.journal + 1) (Began (began f.journal + 1) deadline p)) else Err TooMany))
        (λ (a : ℕ × Forest). HasBegun f a.1 a.0 deadline p)
    go true few e = tt
    go false true e = record {
      grown = begun-grown f (began f.journal + 1) (Began (began f.journal + 1) deadline p) (nat_lt (length f.started) f.lanes);
      next = refl;
      few = let less : began f.journal < 20000 = ltb-true _ _ e in omega arith;
    }
    go false false e = tt

begin-longer : (f : Forest) (p : Program) (deadline : ℕ) (result : Result (ℕ × Forest) Refusal) → IfOk result (λ a. HasBegun f a.1 a.0 deadline p) → IsLonger f (after_step f result)
begin-longer f p deadline (Ok a) h = longer f a.1 (Began a.0 deadline p ∷ []) h.grown
begin-longer f p deadline (Err refusal) h = same-longer f f (refl, refl)

pub seal-grown : (f : Forest) → IsGrown f (seal f) (seal_entries f)
seal-grown f = go (is_sealed f.journal)
  where
    go : (sealed : Bool) → IsGrown f (if sealed then f else with_entry Sealed f) (if sealed then [] else Sealed ∷ [])
    go true = same-grown f f (refl, refl)
    go false = record { opening = refl; journal = refl }

-- Jobs.

taken-same : (f : Forest) (row : Option Row) → IsSame f (taken f row)
taken-same f None = (refl, refl)
taken-same f (Some row) = (refl, refl)

pub take-grown : (f : Forest) → IsGrown f (take_pick f) []
take-grown f = same-grown f (take_pick f) (taken-same f (pick f))

pub recall-grown : (f : Forest) → IsGrown f (recall f) []
recall-grown f = same-grown f (recall f) (refl, refl)

stored-same : (f : Forest) (r : Started) (shadows : Option (List Shadow)) → IfSome (stored_in f r shadows) (λ g. IsGrown f g [])
stored-same f r None = tt
stored-same f r (Some ss) = same-grown f _ (refl, refl)

given-same : (f : Forest) (job : Job) (found : Option Started) → IfSome (given f job found) (λ g. IsGrown f g [])
given-same f job None = tt
given-same f job (Some r) = go (same_reads (reads (program f r) f.tables job.from) job.reads) (is_out_at job.from r.position r.out)
  where
    go : (same out : Bool)
        → IfSome (if same then (if out then Some (settle f.started (move_to r.number job.reached f)) else stored_in f r (moved job.from job.reached r.shadows)) else None) (λ g. IsGrown f g [])
    go true true = same-grown f _ (refl, refl)
    go true false = stored-same f r (moved job.from job.reached r.shadows)
    go false out = tt

pub give-grown : (f : Forest) (job : Job) → IfSome (give f job) (λ g. IsGrown f g [])
give-grown f job = given-same f job (find_started f.started job.number)

-- Whole histories.

take-longer : (w : World) (row : Option Row) → IsLonger w.forest (take_row w row).forest
take-longer w None = same-longer w.forest w.forest (refl, refl)
take-longer w (Some row) = same-longer w.forest (taken w.forest (Some row)) (refl, refl)

unless-longer : (w : World) (given : Option Forest) → IfSome given (λ g. IsGrown w.forest g []) → IsLonger w.forest (unless_gone w given).forest
unless-longer w None h = same-longer w.forest w.forest (refl, refl)
unless-longer w (Some g) h = longer w.forest g [] h

give-longer : (w : World) (held : Option Held) → IsLonger w.forest (give_held w held).forest
give-longer w None = same-longer w.forest w.forest (refl, refl)
give-longer w (Some x) = unless-longer w (give w.forest x.job) (give-grown w.forest x.job)

pub event-longer : (w : World) (e : Event) → IsLonger w.forest (happens w e).forest
event-longer w (Begin p deadline) = begin-longer w.forest p deadline (begin w.forest p deadline) (begin-grown w.forest p deadline)
event-longer w Seal = longer w.forest (seal w.forest) (seal_entries w.forest) (seal-grown w.forest)
event-longer w (Step t role) = same-longer w.forest (after_step w.forest (step w.forest t role)) (step-same w.forest t role)
event-longer w (Commit t) = commit-longer w.forest t
event-longer w (Withdraw t) = withdraw-longer w.forest t
event-longer w Take = take-longer w (pick w.forest)
event-longer w Recall = same-longer w.forest (recall w.forest) (refl, refl)
event-longer w (Local n) = same-longer w.forest w.forest (refl, refl)
event-longer w (Give n) = give-longer w (held_at w.jobs n)

pub events-longer : (w : World) (es : List Event) → IsLonger w.forest (all_happen es w).forest
events-longer w [] = same-longer w.forest w.forest (refl, refl)
events-longer w (e ∷ es) = longer-twice w.forest (happens w e).forest (all_happen es (happens w e)).forest (event-longer w e) (events-longer (happens w e) es)

-- Drains.

drain-longer-by : (f : Forest) (o : Option ℕ) (row : Option Row) → IsLonger f (drain_by f o row).1
drain-longer-by f (Some t) row = commit-longer f t
drain-longer-by f None (Some row) = same-longer f (step_row f row) (step-same f row.txn row.role)
drain-longer-by f None None = same-longer f f (refl, refl)

pub drain_step-longer : (f : Forest) → IsLonger f (drain_step f).1
drain_step-longer f = drain-longer-by f (first_ended f) (pick f)

local-longer : (f : Forest) (row : Row) (local : Bool) → IsLonger f (if◌then◌else◌ {A = Did × Forest} local (did.Nothing, f) (did.Stepped row.txn row.role, step_row f row)).1
local-longer f row true = same-longer f f (refl, refl)
local-longer f row false = same-longer f (step_row f row) (step-same f row.txn row.role)

gate-longer-by : (f : Forest) (o : Option ℕ) (row : Option Row) → IsLonger f (gate_by f o row).1
gate-longer-by f (Some t) row = commit-longer f t
gate-longer-by f None (Some row) = local-longer f row (is_local (state_of f row))
gate-longer-by f None None = same-longer f f (refl, refl)

pub gate_step-longer : (f : Forest) → IsLonger f (gate_step f).1
gate_step-longer f = gate-longer-by f (first_ended f) (pick f)

from-longer : (d : Did) (f g : Forest) (more : Forest → ℕ × Forest) → IsLonger f g → ((h : Forest) → IsLonger h (more h).1) → IsLonger f (drain_from d g more).1
from-longer (did.Committed t) f g more one each = longer-twice f g (more g).1 one (each g)
from-longer (did.Stepped t role) f g more one each = longer-twice f g (more g).1 one (each g)
from-longer did.Nothing f g more one each = one

within-longer : (n : ℕ) (f : Forest) → IsLonger f (drain_within n f).1
within-longer zero f = same-longer f f (refl, refl)
within-longer (suc n) f = from-longer (drain_step f).0 f (drain_step f).1 (drain_within n) (drain_step-longer f) (within-longer n)

pub drain-longer : (f : Forest) → IsLonger f (drain f).1
drain-longer f = longer-twice f (recall f) (drain f).1 (same-longer f (recall f) (refl, refl)) (within-longer (left (recall f)) (recall f))

-- Nobody is started.

pub none-live : (f : Forest) (t : ℕ) → IsSound f → 1 ≤ f.lanes → f.started ≡ [] → is_live f.journal t ≡ false
none-live f t h lane none =
    either (cases_Bool (is_live f.journal t))
    (λ live.
    let idle : is_started f.started t ≡ false = ap (λ xs. is_started xs t) none in
    let full : length f.started ≡ f.lanes = h.right.full t live idle in
    let empty : length f.started ≡ 0 = ap length none in
    absurd (omega arith))
    (λ dead. dead)
