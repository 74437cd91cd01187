-- Runs as the forest speaks of them: what a run has read and written, and whether its next step can be made without the tables.
use Rattle.std.specs.Prelude.{ℕ, Bool, true, false, List}
use Rattle.txn_runs.specs.declared.kind.Kind.{Kind}
use Rattle.txn_runs.specs.declared.kind.Kind.TheVariants.{Local, TableRead, Write, Ended}
use Rattle.txn_runs.specs.declared.outcome.Outcome.{Outcome}
use Rattle.txn_runs.specs.declared.outcome.Outcome.TheVariants as outcome
use Rattle.txn_runs.specs.declared.program.Program.{Program}
use Rattle.txn_runs.specs.Run.{Tables, Read, Writes, Running, after}
use Rattle.txn_runs.specs.Kind.{kind_of}

-- what p has read of the tables after n steps, in order
abbrev pub reads : Program → Tables → ℕ → List Read
reads p d n = (after p d n).reads

-- what p has written after n steps
abbrev pub writes : Program → Tables → ℕ → Writes
writes p d n = (after p d n).writes

-- a run that has failed or faulted is not done
abbrev pub is_done : Outcome → Bool
is_done (outcome.Done emits) = true
is_done (outcome.Failed code) = false
is_done (outcome.Fault kind) = false

-- the kind of a step that neither reads the tables nor writes
abbrev pub is_local_kind : Kind → Bool
is_local_kind Local = true
is_local_kind (TableRead item) = false
is_local_kind (Write item value) = false
is_local_kind Ended = false

-- the next step neither reads the tables nor writes
abbrev pub is_local : Running → Bool
is_local s = is_local_kind (kind_of s)
