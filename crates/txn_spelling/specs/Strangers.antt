-- The tables of a program that names don't have.
use Rattle.std.specs.Prelude.{ℕ, ◌+◌, ◌==◌, ◌&&◌, Bool, false, if◌then◌else◌, List}
use Rattle.std.specs.Option.{option_map_or}
use Rattle.txn_runs.specs.declared.program.TableRef.{TableRef}
use Rattle.txn_runs.specs.declared.program.Stmt.{Stmt}
use Rattle.txn_runs.specs.declared.program.Stmt.TheOpen.{Stmt-F}
use Rattle.txn_runs.specs.Fold.{Row, of_list}
use Rattle.txn_runs.specs.Bounds.{plus}
use Rattle.txn_names.specs.Tables.{Named, table_at}

-- the same place and the same size
abbrev pub same_extent : TableRef → TableRef → Bool
same_extent table other = (table.base == other.base) && (table.size == other.size)

-- whether a table is the one of its number
abbrev pub is_of : List Named → TableRef → Bool
is_of names table = option_map_or (same_extent table) (table_at names table.number) false

abbrev pub stranger : List Named → TableRef → ℕ
stranger names table = if is_of names table then 0 else 1

-- one statement, with the numbers of its blocks in their places
abbrev pub stranger_row : List Named → Row
stranger_row names (Stmt-F.Read to table at) = stranger names table
stranger_row names (Stmt-F.Write table at from) = stranger names table
stranger_row names (Stmt-F.If left cmp right first second) = first + second
stranger_row names (Stmt-F.Loop count body) = body
stranger_row names _ = 0

-- how many times a program reads or writes a table that isn't one of the names'
abbrev pub strangers : List Named → List Stmt → ℕ
strangers names = of_list (stranger_row names) plus
