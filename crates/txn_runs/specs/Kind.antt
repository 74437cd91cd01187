-- What the next step of a run is.
use Rattle.std.specs.Prelude.{◌≡◌, ℕ, ℤ, if◌then◌else◌, ◌||◌, List, [], ◌∷◌, ◌++◌, is_some, Some, slice_set, Result, Ok, Err}
use Rattle.txn_runs.specs.declared.outcome.FaultKind.{FaultKind}
use Rattle.txn_runs.specs.declared.outcome.End.{End}
use Rattle.txn_runs.specs.declared.outcome.End.TheVariants.{Going}
use Rattle.txn_runs.specs.declared.kind.Kind.{Kind}
use Rattle.txn_runs.specs.declared.kind.Kind.TheVariants.{Local, TableRead, Write, Ended}
use Rattle.txn_runs.specs.declared.program.Stmt.{Stmt, out-Stmt}
use Rattle.txn_runs.specs.declared.program.Stmt.TheOpen.{Stmt-F}
use Rattle.txn_runs.specs.declared.program.Block.{Block}
use Rattle.txn_runs.specs.Run.{Tables, Running, value_of, item_at, own, logged, stored}

-- a read whose item the run has neither written nor read
abbrev pub kind_read : Running → Result ℕ FaultKind → Kind
kind_read s (Ok item) = if is_some (own s.writes item) || is_some (logged s.reads item) then Local else TableRead item
kind_read s (Err kind) = Local

abbrev pub kind_write : ℤ → Result ℕ FaultKind → Kind
kind_write v (Ok item) = Write item v
kind_write v (Err kind) = Local

abbrev pub kind_act : Running → Stmt-F Stmt Block → Kind
kind_act s (Stmt-F.Read to table at) = kind_read s (item_at table (value_of s at))
kind_act s (Stmt-F.Write table at from) = kind_write (value_of s from) (item_at table (value_of s at))
kind_act s _ = Local

abbrev pub kind_from : End → List Stmt → Running → Kind
kind_from Going (first ∷ rest) s = kind_act s (out-Stmt first)
kind_from _ _ s = Ended

abbrev pub kind_of : Running → Kind
kind_of s = kind_from s.end s.rest s

-- what a step of this kind changes of the reads and the writes
abbrev pub Changes : Kind → Tables → ℕ → Running → Running → Type 0
Changes Local tables n old new = (new.reads ≡ old.reads) × (new.writes ≡ old.writes)
Changes (TableRead item) tables n old new = (new.reads ≡ old.reads ++ (n, item, stored tables item) ∷ []) × (new.writes ≡ old.writes)
Changes (Write item v) tables n old new = (new.reads ≡ old.reads) × (new.writes ≡ slice_set old.writes item (Some v))
Changes Ended tables n old new = new ≡ old
