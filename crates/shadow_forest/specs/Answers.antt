-- What the calls on a forest answer.
use Rattle.std.specs.Prelude.{ℕ, ◌≤◌, Bool, if◌then◌else◌, List, [], ◌∷◌, map, Option, Some, None, Result, Ok, Err}
use Rattle.txn_runs.specs.Bounds.{reach}
use Rattle.journal_core.specs.Journal.{is_live}
use Rattle.journal_core.specs.declared.entry.Entry.{Entry}
use Rattle.journal_core.specs.declared.entry.Entry.TheVariants.{Began}
use Rattle.forest_model.specs.Forest.{Shadow, Started, Forest, find_started, is_started}
use Rattle.forest_model.specs.Told.{Look, looks}
use Rattle.forest_model.specs.Events.{Refusal, IsSealed, NotStarted, NoShadow, HasEnded, IsBlocked, NotEnded}
use Rattle.forest_model.specs.declared.did.Did.{Did}
use Rattle.forest_model.specs.declared.did.Did.TheVariants as did
use Rattle.shadow_forest.specs.declared.answers.BeginRefusal.{BeginRefusal}
use Rattle.shadow_forest.specs.declared.answers.BeginRefusal.TheVariants as begins
use Rattle.shadow_forest.specs.declared.answers.CommitRefusal.{CommitRefusal}
use Rattle.shadow_forest.specs.declared.answers.CommitRefusal.TheVariants as commits
use Rattle.shadow_forest.specs.declared.answers.WithdrawRefusal.{WithdrawRefusal}
use Rattle.shadow_forest.specs.declared.answers.WithdrawRefusal.TheVariants as withdraws
use Rattle.shadow_forest.specs.declared.answers.Stepped.{Stepped}
use Rattle.shadow_forest.specs.declared.answers.Stepped.TheVariants as steps
use Rattle.shadow_forest.specs.declared.answers.Life.{Life}
use Rattle.shadow_forest.specs.declared.answers.Life.TheVariants as lives
use Rattle.shadow_forest.specs.declared.answers.Resumed.{Resumed}

-- why a transaction does not begin, if it doesn't
abbrev pub begin_refusal : Result (ℕ × Forest) Refusal → Option BeginRefusal
begin_refusal (Ok answer) = None
begin_refusal (Err IsSealed) = Some begins.Sealed
begin_refusal (Err _) = Some begins.TooMany

-- how a refused step is answered
abbrev pub step_refusal : Refusal → Stepped
step_refusal NotStarted = steps.NotStarted
step_refusal NoShadow = steps.NoShadow
step_refusal HasEnded = steps.Ended
step_refusal IsBlocked = steps.Blocked
step_refusal _ = steps.Unknown

-- how a step is answered
abbrev pub step_answer : Result (ℕ × Forest) Refusal → Stepped
step_answer (Ok answer) = steps.Stepped answer.0
step_answer (Err refusal) = step_refusal refusal

-- an accepted step ticks once
abbrev pub step_ticks : Result (ℕ × Forest) Refusal → ℕ
step_ticks (Ok answer) = 1
step_ticks (Err refusal) = 0

-- why a transaction is not committed, if it isn't
abbrev pub commit_refusal : Result Forest Refusal → Option CommitRefusal
commit_refusal (Ok g) = None
commit_refusal (Err NotStarted) = Some commits.NotStarted
commit_refusal (Err NotEnded) = Some commits.NotEnded
commit_refusal (Err _) = Some commits.Unknown

-- why a transaction is not withdrawn, if it isn't
abbrev pub withdraw_refusal : Result Forest Refusal → Option WithdrawRefusal
withdraw_refusal (Ok g) = None
withdraw_refusal (Err IsSealed) = Some withdraws.Sealed
withdraw_refusal (Err _) = Some withdraws.Unknown

-- what was done ticks once where it is a step
abbrev pub did_ticks : Did → ℕ
did_ticks (did.Stepped t role) = 1
did_ticks (did.Committed t) = 0
did_ticks did.Nothing = 0

-- how a transaction stands
abbrev pub life_of : Forest → ℕ → Life
life_of f t = if is_live f.journal t then (if is_started f.started t then lives.Started else lives.Waiting) else lives.Unknown

-- the transaction, and where it was taken back to
abbrev pub resumed_pair : Resumed → ℕ × ℕ
resumed_pair r = (r.txn, r.position)

-- how the shadows of t are seen, the optimistic one first; none where it is not started
abbrev pub looks_of : Forest → ℕ → List Look
looks_of f t = looks f (find_started f.started t)

-- whether they are out
abbrev pub outs : Option Started → List Bool
outs None = []
outs (Some r) = r.out ∷ map (λ (s : Shadow). s.out) r.shadows

-- the program that the entry begins fits so many items, and its deadline is within the limit
abbrev pub IsWithin : ℕ → Entry → Type 0
IsWithin items (Began txn deadline body) = (reach body ≤ items) × (deadline ≤ 1000000000000)
IsWithin items _ = Unit {0}
