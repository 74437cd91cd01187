-- A journal that is taken in row by row.
use Rattle.std.specs.Prelude.{◌≡◌, ℕ, ◌+◌, ◌<◌, ◌≤◌, Bool, true, false, List, [], ◌∷◌, ◌++◌, length, Some, slice_get, slice_index_or}
use Rattle.txn_runs.specs.Run.{Tables}
use Rattle.txn_runs.specs.Bounds.{reach}
use Rattle.txn_runs.specs.declared.program.Program.{Program}
use Rattle.txn_names.specs.Tables.{Named}
use Rattle.journal_core.specs.declared.entry.Entry.{Entry}
use Rattle.journal_core.specs.declared.entry.Entry.TheVariants.{Began}
use Rattle.journal_core.specs.Journal.{began, has_begun, program_of, tables_after, Continues, IsLegal}
use Rattle.journal_table.specs.Rows.{Row}
use Rattle.journal_table.specs.Spelled.{rows_in, Spells}

-- the tables that it opened with, and its entries
pub record Replayed : Type 0 where
  pub opening : Tables
  pub entries : List Entry

-- no entry that the row spells may follow this journal
abbrev pub IsNoEntry : List Named → Replayed → Row → Type 0
IsNoEntry names r row = (entry : Entry) → Spells names entry row → Continues r.opening r.entries entry → ⊥

-- the entry that the row spells, which may follow, stands behind the others now
pub record AddsRow (names : List Named) (old new : Replayed) (row : Row) : Type 0 where
  pub entry : Entry
  pub spells : Spells names entry row
  pub continues : Continues old.opening old.entries entry
  pub opening : new.opening ≡ old.opening
  pub entries : new.entries ≡ old.entries ++ entry ∷ []

-- a row was taken in, or is none that may follow, and then nothing changes
abbrev pub TakesRow : List Named → Replayed → Replayed → Row → Bool → Type 0
TakesRow names old new row true = AddsRow names old new row
TakesRow names old new row false = IsNoEntry names old row × (new ≡ old)

-- the same of bytes: they are one row, which was taken in; or they are none, or more, or one that may not follow, and then nothing changes
abbrev pub TakesBytes : List Named → Replayed → Replayed → List ℕ → Bool → Type 0
TakesBytes names old new bytes true = (row : Row) × (rows_in bytes ≡ row ∷ []) × AddsRow names old new row
TakesBytes names old new bytes false = ((row : Row) → rows_in bytes ≡ row ∷ [] → IsNoEntry names old row) × (new ≡ old)

-- the entry at this place begins t, with a program that lies within so many items
pub record IsBegin (entries : List Entry) (items t place : ℕ) : Type 0 where
  pub deadline : ℕ
  pub program : Program
  pub there : slice_get entries place ≡ Some (Began t deadline program)
  pub begun : has_begun entries t ≡ true
  pub is : program_of entries t ≡ program
  pub fits : reach program ≤ items

-- what a replay keeps: where each transaction began, by its number, and the tables of now
pub record IsKept (opening : Tables) (entries : List Entry) (begins : List ℕ) (tables : Tables) (items : ℕ) : Type 0 where
  pub legal : IsLegal opening entries
  pub many : length begins ≡ began entries
  pub each : (k : ℕ) → k < length begins → IsBegin entries items (k + 1) (slice_index_or begins k 0)
  pub serial : tables ≡ tables_after opening entries
  pub opened : length opening ≡ items
  pub sized : length tables ≡ items
