-- The events that the journal records, and the steps. Where one is refused, the forest stays as it was.
use Rattle.std.specs.Prelude.{ℕ, suc, ◌+◌, false, ◌==◌, nat_lt, if◌then◌else◌, List, [], ◌∷◌, ◌++◌, Option, Some, None, Result, Ok, Err, map, filter_map, length}
use Rattle.txn_runs.specs.Serial.{effect_of, outcome_of, over}
use Rattle.txn_runs.specs.declared.program.Program.{Program}
use Rattle.block_rule.specs.declared.role.Role.{Role}
use Rattle.block_rule.specs.declared.role.Role.TheVariants.{Optimistic, Guard}
use Rattle.block_rule.specs.declared.standing.Standing.{Standing}
use Rattle.block_rule.specs.declared.standing.Standing.TheVariants.{Runnable, Blocked, Ended}
use Rattle.block_rule.specs.Standing.{standing}
use Rattle.journal_core.specs.Journal.{began, is_sealed, is_live}
use Rattle.journal_core.specs.declared.entry.Entry.{Entry}
use Rattle.journal_core.specs.declared.entry.Entry.TheVariants.{Began, Sealed, Committed, Withdrawn}
use Rattle.forest_model.specs.Point.{Conflict, point}
use Rattle.forest_model.specs.Forest.{Shadow, Started, Forest, program, reads_of, is_ended, wanted, find_started}
use Rattle.forest_model.specs.Settle.{settle}
use Rattle.forest_model.specs.Cut.{survives, after_cut}
use Rattle.forest_model.specs.Start.{without, start, start_waiting}

-- why an event is refused
pub data Refusal : Type 0 where
  IsSealed TooMany Unknown NotStarted NoShadow HasEnded IsBlocked NotEnded : Refusal

-- Begin and seal.

-- one more entry in the journal
abbrev pub with_entry : Entry → Forest → Forest
with_entry e f = record f { journal = f.journal ++ e ∷ [] }

-- the new transaction starts where a lane is free
abbrev pub begun : Forest → ℕ → Entry → Forest
begun f t e = if nat_lt (length f.started) f.lanes then start t (with_entry e f) else with_entry e f

-- a program begins, and is told its number
abbrev pub begin : Forest → Program → ℕ → Result (ℕ × Forest) Refusal
begin f p deadline =
    if is_sealed f.journal then Err IsSealed
    else (if nat_lt (began f.journal) 20000 then Ok (began f.journal + 1, begun f (began f.journal + 1) (Began (began f.journal + 1) deadline p)) else Err TooMany)

-- from now on none may begin or be withdrawn
abbrev pub seal : Forest → Forest
seal f = if is_sealed f.journal then f else with_entry Sealed f

-- Steps.

-- the optimistic shadow of t stands at this position, and is not out
abbrev pub moved_to : ℕ → ℕ → Started → Started
moved_to t position r = if r.number == t then record r { position = position; out = false } else r

-- the optimistic shadow of t stands there in the forest
abbrev pub move_to : ℕ → ℕ → Forest → Forest
move_to t position f = record f { started = map (moved_to t position) f.started }

-- the shadows of t that wait are these
abbrev pub given_shadows : ℕ → List Shadow → Started → Started
given_shadows t ss r = if r.number == t then record r { shadows = ss } else r

-- the shadows of t that wait are these in the forest
abbrev pub give_shadows : ℕ → List Shadow → Forest → Forest
give_shadows t ss f = record f { started = map (given_shadows t ss) f.started }

-- only a shadow that is runnable makes a step
abbrev pub if_runnable : {A : Type 0} → Standing → A → Result A Refusal
if_runnable Runnable a = Ok a
if_runnable Blocked a = Err IsBlocked
if_runnable Ended a = Err HasEnded

-- one shadow in front of a list that may be refused
abbrev pub put_first : Shadow → Result (ℕ × List Shadow) Refusal → Result (ℕ × List Shadow) Refusal
put_first s (Ok more) = Ok (more.0, s ∷ more.1)
put_first s (Err refusal) = Err refusal

-- the first shadow with this guard makes a step, and tells its new position
abbrev pub step_guard : ℕ → List Shadow → List Conflict → Result (ℕ × List Shadow) Refusal
step_guard u [] ws = Err NoShadow
step_guard u (s ∷ ss) [] = Err NoShadow
step_guard u (s ∷ ss) (w ∷ ws) =
    if s.guard == u
    then if_runnable (standing (Guard u) s.position (Some w.1) false) (suc s.position, record s { position = suc s.position; out = false } ∷ ss)
    else put_first s (step_guard u ss ws)

-- r with new shadows, if they are not refused
abbrev pub with_shadows : Forest → Started → Result (ℕ × List Shadow) Refusal → Result (ℕ × Forest) Refusal
with_shadows f r (Ok new) = Ok (new.0, give_shadows r.number new.1 f)
with_shadows f r (Err refusal) = Err refusal

-- a shadow of r makes a step; after one of the optimistic shadow the forest is settled
abbrev pub step_role : Forest → Role → Started → Result (ℕ × Forest) Refusal
step_role f Optimistic r = if_runnable (standing Optimistic r.position None (is_ended f r)) (suc r.position, settle f.started (move_to r.number (suc r.position) f))
step_role f (Guard u) r = with_shadows f r (step_guard u r.shadows (wanted f r))

-- an event of a transaction that must be started
abbrev pub if_started : {A : Type 0} → Option Started → (Started → Result A Refusal) → Result A Refusal
if_started None event = Err NotStarted
if_started (Some r) event = event r

-- a shadow of t makes a step, and tells its new position
abbrev pub step : Forest → ℕ → Role → Result (ℕ × Forest) Refusal
step f t role = if is_live f.journal t then if_started (find_started f.started t) (step_role f role) else Err Unknown

-- Commit and withdraw.

-- the cut of r by u's commit: the position of r's earliest read of an item that u changes
abbrev pub cut : Forest → Started → Started → Option ℕ
cut f u r = point (reads_of f r) (effect_of (program f u) f.tables)

-- the number of r and where u's commit takes it back to, if its optimistic shadow does not survive
abbrev pub resumes : Forest → Started → Started → Option (ℕ × ℕ)
resumes f u r = if survives (cut f u r) r.position then None else Some (r.number, (after_cut (cut f u r) r).position)

-- all that u's commit takes back, in the order of numbers
abbrev pub resumed : Forest → Started → List (ℕ × ℕ)
resumed f u = filter_map (resumes f u) (without u.number f.started)

-- the others, cut
abbrev pub others_cut : Forest → Started → List Started
others_cut f u = map (λ r. after_cut (cut f u r) r) (without u.number f.started)

-- u's commit is written, its effect is laid over the tables, and the others are cut
abbrev pub laid : Forest → Started → Forest
laid f u = record f {
  journal = f.journal ++ Committed u.number (outcome_of (program f u) f.tables) ∷ [];
  tables = over (effect_of (program f u) f.tables) f.tables;
  started = others_cut f u;
}

-- then one that waits may start, and what survived the cut is settled
abbrev pub committed : Forest → Started → Forest
committed f u = settle (others_cut f u) (start_waiting (laid f u))

-- u's commit, if its optimistic shadow has ended
abbrev pub commit_ended : Forest → Started → Result Forest Refusal
commit_ended f u = if is_ended f u then Ok (committed f u) else Err NotEnded

-- t's commit
abbrev pub commit : Forest → ℕ → Result Forest Refusal
commit f t = if is_live f.journal t then if_started (find_started f.started t) (commit_ended f) else Err Unknown

-- t's withdrawal is written, and it is not started any more
abbrev pub gone : Forest → ℕ → Forest
gone f t = record f { journal = f.journal ++ Withdrawn t ∷ []; started = without t f.started }

-- then one that waits may start, and the others are settled
abbrev pub withdrawn : Forest → ℕ → Forest
withdrawn f t = settle f.started (start_waiting (gone f t))

-- t's withdrawal
abbrev pub withdraw : Forest → ℕ → Result Forest Refusal
withdraw f t =
    if is_live f.journal t then (if is_sealed f.journal then Err IsSealed else Ok (withdrawn f t)) else Err Unknown
