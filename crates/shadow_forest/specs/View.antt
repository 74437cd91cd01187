-- A forest as its user sees it: in numbers, and what the last commit or withdrawal told.
use Rattle.std.specs.Prelude.{◌≡◌, ◌≤◌, ℕ, zero, suc, List, [], Option, Some, None, Result, Ok, Err}
use Rattle.txn_runs.specs.Run.{Tables}
use Rattle.forest_model.specs.Forest.{Started, Forest, find_started}
use Rattle.forest_model.specs.Start.{next_to_start}
use Rattle.forest_model.specs.Events.{Refusal, commit, withdraw, resumed, laid, gone}
use Rattle.forest_model.specs.World.{opened}
use Rattle.forest_model.specs.Drain.{gate_step, drain_step, left}
use Rattle.forest_model.specs.Jobs.{recall}
use Rattle.forest_model.specs.declared.did.Did.{Did}
use Rattle.forest_model.specs.declared.did.Did.TheVariants.{Committed, Stepped, Nothing}

-- the forest in numbers; whom the last commit or withdrawal took back, and where to; and who started then
pub record View : Type 0 where
  pub numbers : Forest
  pub resumed : List (ℕ × ℕ)
  pub starts : Option ℕ

-- a forest over these tables in which nothing happened
abbrev pub opened_view : Tables → ℕ → ℕ → View
opened_view tables k lanes = record { numbers = (opened tables k lanes).forest; resumed = []; starts = None }

-- a forest over these tables in which nothing happened, for a number of shadows from 1 to k
abbrev pub IsOpenedLean : Tables → ℕ → ℕ → View → Type 0
IsOpenedLean tables k lanes v = (granted : ℕ) × (1 ≤ granted) × (granted ≤ k) × (v ≡ opened_view tables granted lanes)

-- the same told, of another forest
abbrev pub with_numbers : Forest → View → View
with_numbers f v = record v { numbers = f }

-- whom u's commit takes back
abbrev pub resumed_by : Forest → Option Started → List (ℕ × ℕ)
resumed_by f None = []
resumed_by f (Some u) = resumed f u

-- who starts after u's commit
abbrev pub starts_by : Forest → Option Started → Option ℕ
starts_by f None = None
starts_by f (Some u) = next_to_start (laid f u)

-- after t's commit, which led to this forest
abbrev pub told_commit : View → ℕ → Forest → View
told_commit v t g = record {
  numbers = g;
  resumed = resumed_by v.numbers (find_started v.numbers.started t);
  starts = starts_by v.numbers (find_started v.numbers.started t);
}

-- after t's commit; a refused one changes nothing
abbrev pub commit_told : View → ℕ → Result Forest Refusal → View
commit_told v t (Ok g) = told_commit v t g
commit_told v t (Err refusal) = v

-- after a commit
abbrev pub commit_view : View → ℕ → View
commit_view v t = commit_told v t (commit v.numbers t)

-- after t's withdrawal; a refused one changes nothing
abbrev pub withdraw_told : View → ℕ → Result Forest Refusal → View
withdraw_told v t (Ok g) = record { numbers = g; resumed = []; starts = next_to_start (gone v.numbers t) }
withdraw_told v t (Err refusal) = v

-- after a withdrawal
abbrev pub withdraw_view : View → ℕ → View
withdraw_view v t = withdraw_told v t (withdraw v.numbers t)

-- after a step of a drain, which did this and led to this forest
abbrev pub drain_told : View → Did → Forest → View
drain_told v (Committed t) g = told_commit v t g
drain_told v (Stepped t role) g = with_numbers g v
drain_told v Nothing g = with_numbers g v

-- after a step of a drain
abbrev pub drain_step_view : View → View
drain_step_view v = drain_told v (drain_step v.numbers).0 (drain_step v.numbers).1

-- after a step under a gate
abbrev pub gate_step_view : View → View
gate_step_view v = drain_told v (gate_step v.numbers).0 (gate_step v.numbers).1

-- after something was done, more
abbrev pub drain_view_from : Did → View → (View → ℕ × View) → ℕ × View
drain_view_from (Committed t) v more = more v
drain_view_from (Stepped t role) v more = (suc (more v).0, (more v).1)
drain_view_from Nothing v more = (0, v)

-- at most so many steps of a drain: the number of shadows' steps, and the forest after them
abbrev pub drain_view_within : ℕ → View → ℕ × View
drain_view_within zero v = (0, v)
drain_view_within (suc n) v = drain_view_from (drain_step v.numbers).0 (drain_step_view v) (drain_view_within n)

-- all is called home, and then there are commits and steps until nothing is left to do
abbrev pub drain_view : View → ℕ × View
drain_view v = drain_view_within (left (recall v.numbers)) (with_numbers (recall v.numbers) v)
