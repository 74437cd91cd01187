-- Whole histories: events in any order, with any number of jobs out.
use Rattle.std.specs.Prelude.{◌≡◌, ℕ, zero, suc, true, List, [], ◌∷◌, length, Option, Some, None, if◌then◌else◌}
use Rattle.std.specs.List.{AllByRecursion}
use Rattle.txn_runs.specs.Run.{Tables, after}
use Rattle.txn_runs.specs.declared.program.Program.{Program}
use Rattle.block_rule.specs.declared.role.Role.{Role}
use Rattle.block_rule.specs.declared.role.Row.{Row}
use Rattle.journal_core.specs.Journal.{has_begun, program_of}
use Rattle.forest_model.specs.Runs.{is_local}
use Rattle.forest_model.specs.Forest.{Forest}
use Rattle.forest_model.specs.Pick.{pick}
use Rattle.forest_model.specs.Events.{begin, seal, step, commit, withdraw}
use Rattle.forest_model.specs.Jobs.{Job, IsJobOver, job_of, taken, recall, give}
use Rattle.forest_model.specs.Drain.{after_step, after_commit}
use Rattle.forest_model.specs.Sound.{IsSound}

-- a job, and the tables that it was taken over, which it does not know
pub record Held : Type 0 where
  pub job : Job
  pub tables : Tables

-- a forest, and the jobs that were taken of it
pub record World : Type 0 where
  pub forest : Forest
  pub jobs : List Held

-- what may happen to a world
pub data Event : Type 0 where
  Begin : Program → (deadline : ℕ) → Event
  Seal : Event
  Step : ℕ → Role → Event
  Commit : ℕ → Event
  Withdraw : ℕ → Event
  Take : Event
  Recall : Event
  -- a job goes on by a local step, or is given back; it is named by its place, and may be given again
  Local : (place : ℕ) → Event
  Give : (place : ℕ) → Event

-- the job at this place, if there is one
abbrev pub held_at : List Held → ℕ → Option Held
held_at [] n = None
held_at (x ∷ xs) zero = Some x
held_at (x ∷ xs) (suc n) = held_at xs n

-- the job makes a step, if its next step is local
abbrev pub gone_on : Held → Held
gone_on x =
    if is_local (after x.job.program x.tables x.job.reached)
    then record x { job = record x.job { reached = suc x.job.reached } }
    else x

-- the job at this place goes on
abbrev pub on_at : ℕ → List Held → List Held
on_at n [] = []
on_at zero (x ∷ xs) = gone_on x ∷ xs
on_at (suc n) (x ∷ xs) = x ∷ on_at n xs

-- a job that no shadow takes changes nothing
abbrev pub unless_gone : World → Option Forest → World
unless_gone w (Some f) = record w { forest = f }
unless_gone w None = w

-- the shadow of the row is handed out, and its job is kept
abbrev pub take_row : World → Option Row → World
take_row w None = w
take_row w (Some row) = record {
  forest = taken w.forest (Some row);
  jobs = record { job = job_of w.forest row; tables = w.forest.tables } ∷ w.jobs;
}

-- the job is given back
abbrev pub give_held : World → Option Held → World
give_held w None = w
give_held w (Some x) = unless_gone w (give w.forest x.job)

-- the world after an event; a refused one changes nothing
abbrev pub happens : World → Event → World
happens w (Begin p deadline) = record w { forest = after_step w.forest (begin w.forest p deadline) }
happens w Seal = record w { forest = seal w.forest }
happens w (Step t role) = record w { forest = after_step w.forest (step w.forest t role) }
happens w (Commit t) = record w { forest = after_commit w.forest (commit w.forest t) }
happens w (Withdraw t) = record w { forest = after_commit w.forest (withdraw w.forest t) }
happens w Take = take_row w (pick w.forest)
happens w Recall = record w { forest = recall w.forest }
happens w (Local n) = record w { jobs = on_at n w.jobs }
happens w (Give n) = give_held w (held_at w.jobs n)

-- the world after all these events
abbrev pub all_happen : List Event → World → World
all_happen [] w = w
all_happen (e ∷ es) w = all_happen es (happens w e)

-- a forest that was just opened, with no job out
abbrev pub opened : Tables → ℕ → ℕ → World
opened d k lanes = record {
  forest = record { k = k; lanes = lanes; opening = d; journal = []; tables = d; started = [] };
  jobs = [];
}

-- the job is of the program that its transaction began with, over tables of the forest's size
pub record IsHeld (f : Forest) (x : Held) : Type 0 where
  pub begun : has_begun f.journal x.job.number ≡ true
  pub program : program_of f.journal x.job.number ≡ x.job.program
  pub size : length x.tables ≡ length f.opening
  pub job : IsJobOver x.tables x.job

-- the forest is sound, and each job that is out is of a run of its transaction's program
pub record IsFit (w : World) : Type 0 where
  pub sound : IsSound w.forest
  pub held : AllByRecursion (IsHeld w.forest) w.jobs
