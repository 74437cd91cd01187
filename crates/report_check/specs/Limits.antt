-- Limits that hold of all programs and tables, and so of the lines of their reports.
use Rattle.std.specs.Prelude.{ℕ, ◌<◌, ◌^◌, ℤ, [], List, length, slice_index_or}
use Rattle.std.specs.Int.Signed.{mag}
use Rattle.txn_runs.specs.Bounds.{IsProgram}
use Rattle.txn_runs.specs.Run.{Tables, stored}
use Rattle.txn_runs.specs.declared.program.Program.{Program}

-- a number of 64 bits
abbrev pub IsNarrow : ℤ → Type 0
IsNarrow v = mag v < 2 ^ 63

-- each value of the tables is one
abbrev pub AreNarrowTables : Tables → Type 0
AreNarrowTables tables = (item : ℕ) → IsNarrow (stored tables item)

-- each program keeps the limits
abbrev pub AreLimited : List Program → Type 0
AreLimited programs = (k : ℕ) → k < length programs → IsProgram (slice_index_or programs k [])
