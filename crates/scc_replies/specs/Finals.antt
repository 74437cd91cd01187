-- The lines of the last tables.
use Rattle.std.specs.Prelude.{ℕ, ◌+◌, List, [], ◌∷◌, ◌++◌, slice_range}
use Rattle.txn_runs.specs.Run.{Tables}
use Rattle.txn_names.specs.Tables.{Named}
use Rattle.scc_replies.specs.Lines.{final_line}

-- the last values of the tables, of which the first begins at this item
abbrev pub final_lines : Tables → ℕ → List Named → List ℕ
final_lines tables base [] = []
final_lines tables base (table ∷ names) = final_line table.0 (slice_range tables base (base + table.1)) ++ final_lines tables (base + table.1) names
