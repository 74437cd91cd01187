-- A shadow's state outside the forest, where it runs on by steps that need no tables.
use Rattle.std.specs.Prelude.{◌≡◌, ◌<◌, ◌≤◌, ◌+◌, ℕ, Bool, true, ◌&&◌, List, Option, None, Some, option_map}
use Rattle.txn_runs.specs.declared.program.Program.{Program}
use Rattle.txn_runs.specs.declared.program.Stmt.{Stmt}
use Rattle.txn_runs.specs.Run.{Tables, Read, after}
use Rattle.txn_runs.specs.Bounds.{IsProgram, reach}
use Rattle.txn_code.specs.declared.node.Node.{Node}
use Rattle.txn_code.specs.Nodes.{nodes_of}
use Rattle.txn_interp.specs.State.{Held, RunsOver, IsRun}
use Rattle.journal_core.specs.Journal.{program_of}
use Rattle.forest_model.specs.Forest.{Forest}
use Rattle.forest_model.specs.Runs.{is_local}
use Rattle.forest_model.specs.Jobs as jobs
use Rattle.shadow_state.specs.Bank.{Slot}
use Rattle.shadow_forest.specs.declared.bench.Job.{Job}
use Rattle.shadow_forest.specs.declared.bench.Given.{Given}
use Rattle.shadow_forest.specs.declared.bench.Given.TheVariants as given

-- a state that was handed out: whose shadow it was, where it stood, the nodes of the program, and how far it has come
pub record Outside : Type 0 where
  pub number : ℕ
  pub from : ℕ
  pub nodes : List Node
  pub state : Held

-- over how many items its room is, and what was handed out to it, if something was
pub record Benched : Type 0 where
  pub items : ℕ
  pub outside : Option Outside

-- what its fields hold
abbrev pub benched : Option Job → List Node → Held → Benched
benched job nodes state = record {
  items = state.log.room;
  outside = option_map (λ (j : Job). record { number = j.txn; from = j.from; nodes = nodes; state = state }) job;
}

-- whose it was and where it stood
abbrev pub told : Outside → Job
told x = record { txn = x.number; from = x.from }

-- the job as the rules speak of it, where its program is this one
abbrev pub job_of : Program → Outside → jobs.Job
job_of p x = record { number = x.number; program = p; from = x.from; reads = x.state.log.reads; reached = x.state.position }

-- a state outside, of this job's transaction
abbrev pub outside_of : Forest → Job → Held → Outside
outside_of f j state = record { number = j.txn; from = j.from; nodes = nodes_of (program_of f.journal j.txn); state = state }

-- the same, where its program is the one that its transaction began with
abbrev pub job_in : Forest → Outside → jobs.Job
job_in f x = job_of (program_of f.journal x.number) x

-- the state is that of its transaction's run over the present tables
pub record IsOfRun (f : Forest) (x : Outside) : Type 0 where
  pub nodes : x.nodes ≡ nodes_of (program_of f.journal x.number)
  pub run : IsRun (program_of f.journal x.number) f.tables x.state

-- the same, and since it was handed out that run makes only steps that need no tables: up to its position it passes no point
pub record IsPresent (f : Forest) (x : Outside) : Type 0 where
  pub of_run : IsOfRun f x
  pub job : jobs.IsJobOver f.tables (job_in f x)

-- the state is that of a run over some tables, and each step since it was handed out was one that needs no tables
pub record IsOutside (x : Outside) : Type 0 where
  pub body : List Stmt
  pub tables : Tables
  pub program : IsProgram body
  pub fits : reach body ≤ x.state.log.room
  pub over : RunsOver x.nodes body tables x.state
  pub forward : x.from ≤ x.state.position
  pub local : (n : ℕ) → x.from ≤ n → n < x.state.position → is_local (after body tables n) ≡ true

-- so many steps further on, of whatever run it was, and they need no tables
pub record IsFurther (nodes : List Node) (made : ℕ) (old new : Held) : Type 0 where
  pub position : new.position ≡ old.position + made
  pub log : new.log ≡ old.log
  pub writes : new.writes ≡ old.writes
  pub same : (body : List Stmt) (tables : Tables) → RunsOver nodes body tables old → RunsOver nodes body tables new

-- Given back.

-- the shadow in the slot stands here, is out, and has read this
abbrev pub takes : ℕ → List Read → Slot → Bool
takes from reads s = jobs.is_out_at from s.state.position s.out && jobs.same_reads s.state.log.reads reads

-- what is answered
abbrev pub given_answer : Option Forest → Given
given_answer None = given.Gone
given_answer (Some g) = given.Stored

-- the forest afterwards
abbrev pub after_give : Forest → Option Forest → Forest
after_give f None = f
after_give f (Some g) = g
