-- What a runner of whole programs stands for.
use Rattle.std.specs.Prelude.{◌≡◌, ◌≤◌, ◌+◌, ℕ, Bool, true, false, List, length, replicate, None, if◌then◌else◌}
use Rattle.txn_runs.specs.declared.program.Stmt.{Stmt}
use Rattle.txn_runs.specs.declared.outcome.Outcome.{Outcome}
use Rattle.txn_runs.specs.declared.outcome.Outcome.TheVariants.{Done, Failed, Fault}
use Rattle.txn_runs.specs.Run.{Tables, Writes}
use Rattle.txn_runs.specs.Serial.{run_length}
use Rattle.txn_code.specs.declared.node.Node.{Node}
use Rattle.txn_interp.specs.State.{Held, RunsOver}

-- for tables of how many items it is, and what the program that it ran last has the effect of
pub record Ran : Type 0 where
  pub items : ℕ
  pub effect : Writes

-- whether a run has made all its statements
abbrev pub is_done : Outcome → Bool
is_done (Done emits) = true
is_done (Failed code) = false
is_done (Fault kind) = false

-- what a run has written where it is done, and else nothing
abbrev pub effect_if : Bool → Writes → Writes
effect_if done writes = if done then writes else replicate (length writes) None

-- The new state is that of the run of the old one's program over these tables, at its end and no step further.
pub record RunsOut (nodes : List Node) (tables : Tables) (old new : Held) : Type 0 where
  pub done : new.done ≡ true
  pub room : new.log.room ≡ old.log.room
  pub same : (body : List Stmt) → RunsOver nodes body tables old → RunsOver nodes body tables new
  pub short : (body : List Stmt) → RunsOver nodes body tables old → old.position ≤ run_length body tables → new.position ≤ run_length body tables

-- The new state is that of a run of the old one's program over these tables, one step on.
pub record StepsOver (nodes : List Node) (tables : Tables) (old new : Held) : Type 0 where
  pub position : new.position ≡ old.position + 1
  pub room : new.log.room ≡ old.log.room
  pub same : (body : List Stmt) → RunsOver nodes body tables old → RunsOver nodes body tables new
