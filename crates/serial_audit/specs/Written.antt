-- Entries whose rows are read as they were written.
use Rattle.std.specs.Prelude.{◌≡◌, ◌≤◌}
use Rattle.std.specs.Prelude.{List}
use Rattle.txn_runs.specs.Bounds.{IsProgram}
use Rattle.txn_names.specs.Tables.{Named}
use Rattle.txn_spelling.specs.Strangers.{strangers}
use Rattle.journal_core.specs.declared.entry.Entry.{Entry}
use Rattle.journal_core.specs.declared.entry.Entry.TheVariants.{Began, Sealed, Committed, Withdrawn}

-- the program keeps the limits and has no tables but those of the names, and the deadline is within its limit
abbrev pub IsWritten : List Named → Entry → Type 0
IsWritten names (Began txn deadline program) = IsProgram program × (strangers names program ≡ 0) × (deadline ≤ 1000000000000)
IsWritten names Sealed = Unit {0}
IsWritten names (Committed txn outcome) = Unit {0}
IsWritten names (Withdrawn txn) = Unit {0}
