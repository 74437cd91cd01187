-- The laws of the forest that take more than a line to say.
use Rattle.std.specs.Prelude.{◌≡◌, ◌≢◌, ◌≤◌, ℕ, Bool, true, false, Some, Ok, option_map}
use Rattle.txn_runs.specs.Run.{after}
use Rattle.txn_runs.specs.Serial.{effect_of, over}
use Rattle.journal_core.specs.Journal.{program_of}
use Rattle.forest_model.specs.Forest.{Started, Forest, program, find_started}
use Rattle.forest_model.specs.Cut.{survives}
use Rattle.forest_model.specs.Sound.{IsSound, IsIdle}
use Rattle.forest_model.specs.Events.{cut, commit}
use Rattle.forest_model.specs.Jobs.{give}
use Rattle.forest_model.specs.World.{Held, Event, Step, Commit, IsHeld}

-- a shadow of r that survives u's commit stands on the same run over the new tables
abbrev pub Survival : Type 0
Survival =
    (f : Forest) (u r : Started) (position : ℕ) → position ≤ r.position → survives (cut f u r) position ≡ true
    → after (program f r) f.tables position ≡ after (program f r) (over (effect_of (program f u) f.tables) f.tables) position

-- a job that is stored has the state of the present run at its position
abbrev pub JobsLand : Type 0
JobsLand =
    (f g : Forest) (x : Held) → IsSound f → IsHeld f x → give f x.job ≡ Some g
    → after x.job.program x.tables x.job.reached ≡ after (program_of g.journal x.job.number) g.tables x.job.reached

-- two transactions, u and r, of a forest, and the forest g after u's commit
pub record IsCommitted (f : Forest) (t : ℕ) (u : Started) (v : ℕ) (r : Started) (g : Forest) : Type 0 where
  pub writer : find_started f.started t ≡ Some u
  pub reader : find_started f.started v ≡ Some r
  pub apart : v ≢ t
  pub commits : commit f t ≡ Ok g

-- the same where the forest is idle
pub record IsReset (f : Forest) (t : ℕ) (u : Started) (v : ℕ) (r : Started) (g : Forest) : Type 0 where
  pub sound : IsSound f
  pub idle : IsIdle f
  pub committed : IsCommitted f t u v r g

-- t's optimistic shadow stands here
abbrev pub StandsAt : Forest → ℕ → ℕ → Type 0
StandsAt f t position = option_map (λ (r : Started). r.position) (find_started f.started t) ≡ Some position

-- the event makes a step
abbrev pub is_step : Event → Bool
is_step (Step t role) = true
is_step _ = false

-- the event makes a step, or commits one
abbrev pub is_step_or_commit : Event → Bool
is_step_or_commit (Commit t) = true
is_step_or_commit e = is_step e
