-- A run before its first step.
use Rattle.std.specs.Prelude.{◌≡◌, List, length}
use Rattle.std.proofs.Common.{refl}
use Rattle.txn_runs.specs.declared.program.Stmt.{Stmt}
use Rattle.txn_runs.specs.Run.{Tables, start, after}

pub after_none : (body : List Stmt) (tables : Tables) → after body tables 0 ≡ start body (length tables)
unfolding after
after_none body tables = refl
