-- One step of a state over tables, and local steps, which need none.
use Rattle.std.specs.Prelude.{◌≡◌, ◌+◌, ◌<◌, ◌≤◌, ℕ, suc, List, ℤ}
use Rattle.txn_code.specs.declared.node.Node.{Node}
use Rattle.txn_runs.specs.declared.program.Stmt.{Stmt}
use Rattle.txn_runs.specs.declared.kind.Kind.TheVariants.{Local}
use Rattle.txn_runs.specs.Run.{Tables, after}
use Rattle.txn_runs.specs.Kind.{kind_of}
use Rattle.txn_interp.specs.State.{Held, RunsOver}
use Rattle.txn_interp.specs.Kind.{HasKind}

-- the new state is that after one step of the run of this program over these tables, whatever program that is
pub record StepsOver (nodes : List Node) (tables : List ℤ) (old new : Held) : Type 0 where
  pub position : new.position ≡ suc old.position
  pub room : new.log.room ≡ old.log.room
  pub same : (body : List Stmt) → RunsOver nodes body tables old → RunsOver nodes body tables new

-- the new state is that after so many Local steps, of at most so many, whatever program and tables the run is of; fewer are made only where the next one is not Local
pub record RunsLocal (nodes : List Node) (most : ℕ) (old new : Held) (made : ℕ) : Type 0 where
  pub position : new.position ≡ old.position + made
  pub room : new.log.room ≡ old.log.room
  pub within : made ≤ most
  pub stops : made < most → HasKind nodes new Local → ⊥
  pub local : (body : List Stmt) (tables : Tables) (n : ℕ) → RunsOver nodes body tables old → n < made → kind_of (after body tables (old.position + n)) ≡ Local
  pub same : (body : List Stmt) (tables : Tables) → RunsOver nodes body tables old → RunsOver nodes body tables new
