-- What is left of a run, as the statements that the definition keeps.
use Rattle.std.specs.Prelude.{List, map, reverse}
use Rattle.txn_runs.specs.declared.program.Stmt.{Stmt}
use Rattle.txn_runs.specs.declared.program.Stmt.TheVariants.{Loop}
use Rattle.plain_runs.specs.declared.left.Left.{Left}
use Rattle.plain_runs.specs.declared.left.Left.TheVariants.{One, Turn}

-- a statement of the program, or a loop with so many turns to go
abbrev pub as_stmt : Left → Stmt
as_stmt (One stmt) = stmt.now
as_stmt (Turn count body) = Loop count body.now

-- the last of the stack comes first
abbrev pub as_rest : List Left → List Stmt
as_rest stack = reverse (map as_stmt stack)
