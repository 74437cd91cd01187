-- Steps of the pick as long as there is one, and commits until nobody is live.
use Rattle.std.specs.Prelude.{ℕ, zero, suc, ◌+◌, ◌*◌, if◌then◌else◌, max, List, [], ◌∷◌, Option, Some, None, Result, Ok, Err, map, filter, length}
use Rattle.txn_runs.specs.Run.{Running, after}
use Rattle.txn_runs.specs.Bounds.{steps_max}
use Rattle.block_rule.specs.declared.role.Row.{Row}
use Rattle.journal_core.specs.Journal.{is_live, program_of}
use Rattle.journal_core.specs.declared.entry.Entry.{Entry}
use Rattle.forest_model.specs.declared.did.Did.{Did}
use Rattle.forest_model.specs.declared.did.Did.TheVariants.{Committed, Stepped, Nothing}
use Rattle.forest_model.specs.Runs.{is_local}
use Rattle.forest_model.specs.Choose.{first_by}
use Rattle.forest_model.specs.Forest.{Forest, is_ended, find_started}
use Rattle.forest_model.specs.Start.{is_prior, numbers}
use Rattle.forest_model.specs.Pick.{pick}
use Rattle.forest_model.specs.Events.{Refusal, step, commit}
use Rattle.forest_model.specs.Jobs.{position_at, recall}
use Rattle.forest_model.specs.Work.{work}

-- Steps of the pick.

-- the forest after a step, or a begin; a refused one changes nothing
abbrev pub after_step : Forest → Result (ℕ × Forest) Refusal → Forest
after_step f (Ok answer) = answer.1
after_step f (Err refusal) = f

-- the forest after a step of the shadow of this row
abbrev pub step_row : Forest → Row → Forest
step_row f row = after_step f (step f row.txn row.role)

-- one step more
abbrev pub counted : ℕ × Forest → ℕ × Forest
counted x = (suc x.0, x.1)

-- a step of the pick, and then more; or nothing where there is no pick
abbrev pub run_from : Option Row → Forest → (Forest → ℕ × Forest) → ℕ × Forest
run_from None f more = (0, f)
run_from (Some row) f more = counted (more (step_row f row))

-- at most so many steps of the pick: their number, and the forest after them
abbrev pub run_within : ℕ → Forest → ℕ × Forest
run_within zero f = (0, f)
run_within (suc n) f = run_from (pick f) f (run_within n)

-- steps of the pick as long as there is one: there are never more than the work that is left
abbrev pub run_idle : Forest → ℕ × Forest
run_idle f = run_within (work f) f

-- One step of a drain.

-- the first by priority of those whose optimistic shadow has ended
abbrev pub first_ended : Forest → Option ℕ
first_ended f = first_by (is_prior f.journal) (map (λ r. r.number) (filter (is_ended f) f.started))

-- the forest after a commit, or a withdrawal; a refused one changes nothing
abbrev pub after_commit : Forest → Result Forest Refusal → Forest
after_commit f (Ok g) = g
after_commit f (Err refusal) = f

-- a commit of the one that has ended, else a step of the pick
abbrev pub drain_by : Forest → Option ℕ → Option Row → Did × Forest
drain_by f (Some t) row = (Committed t, after_commit f (commit f t))
drain_by f None (Some row) = (Stepped row.txn row.role, step_row f row)
drain_by f None None = (Nothing, f)

-- a commit where some optimistic shadow has ended, else a step of the pick
abbrev pub drain_step : Forest → Did × Forest
drain_step f = drain_by f (first_ended f) (pick f)

-- The steps of a drain up to its next commit.

-- a shadow's step, and then more; else as it was
abbrev pub until_from : Did → Forest → Forest → (Forest → ℕ × Forest) → ℕ × Forest
until_from (Committed t) f g more = (0, f)
until_from (Stepped t role) f g more = counted (more g)
until_from Nothing f g more = (0, f)

-- at most so many steps of a drain, as long as they are steps of shadows
abbrev pub until_within : ℕ → Forest → ℕ × Forest
until_within zero f = (0, f)
until_within (suc n) f = until_from (drain_step f).0 f (drain_step f).1 (until_within n)

-- the steps of a drain before its next commit, or before nothing is left to do: their number, and the forest after them
abbrev pub until_commit : Forest → ℕ × Forest
until_commit f = until_within (work f) f

-- Under a gate.

-- the state of the shadow of this row
abbrev pub state_of : Forest → Row → Running
state_of f row = after (program_of f.journal row.txn) f.tables (position_at row.place (find_started f.started row.txn))

-- the same, but no step that is local
abbrev pub gate_by : Forest → Option ℕ → Option Row → Did × Forest
gate_by f (Some t) row = (Committed t, after_commit f (commit f t))
gate_by f None (Some row) = if is_local (state_of f row) then (Nothing, f) else (Stepped row.txn row.role, step_row f row)
gate_by f None None = (Nothing, f)

-- the same, but the pick only makes a step that reads the tables or writes
abbrev pub gate_step : Forest → Did × Forest
gate_step f = gate_by f (first_ended f) (pick f)

-- A whole drain.

-- after something was done, more
abbrev pub drain_from : Did → Forest → (Forest → ℕ × Forest) → ℕ × Forest
drain_from (Committed t) f more = more f
drain_from (Stepped t role) f more = counted (more f)
drain_from Nothing f more = (0, f)

-- at most so many steps of a drain, until nothing is left to do: the number of shadows' steps, and the forest after them
abbrev pub drain_within : ℕ → Forest → ℕ × Forest
drain_within zero f = (0, f)
drain_within (suc n) f = drain_from (drain_step f).0 (drain_step f).1 (drain_within n)

-- the transactions that are live
abbrev pub live_numbers : List Entry → List ℕ
live_numbers journal = filter (is_live journal) (numbers journal)

-- the most steps that one of these transactions' programs can make
abbrev pub longest : List Entry → List ℕ → ℕ
longest journal [] = 0
longest journal (t ∷ ts) = max (steps_max (program_of journal t)) (longest journal ts)

-- the most work that can be left before the next commit
abbrev pub most_work : Forest → ℕ
most_work f = f.lanes * longest f.journal (numbers f.journal) * suc (f.lanes * (f.k * longest f.journal (numbers f.journal))) + f.lanes * (f.k * longest f.journal (numbers f.journal))

-- what is left to do until nobody is live
abbrev pub left : Forest → ℕ
left f = length (live_numbers f.journal) * suc (most_work f) + work f

-- commits and steps until nothing is left to do
abbrev pub drain_rest : Forest → ℕ × Forest
drain_rest f = drain_within (left f) f

-- all is called home before them
abbrev pub drain : Forest → ℕ × Forest
drain f = drain_rest (recall f)
