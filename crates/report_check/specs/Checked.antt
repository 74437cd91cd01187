-- The lines of a report that were taken in, one after another.
use Rattle.std.specs.Prelude.{◌≡◌, ℕ, ◌+◌, ◌-◌, ◌^◌, ◌==◌, ◌<◌, ◌≤◌, Bool, true, false, List, [], ◌∷◌, ◌++◌, length, Some, slice_get, slice_set, slice_index_or, take}
use Rattle.std.specs.List.{All, AllByRecursion, list_any, count_by}
use Rattle.txn_runs.specs.Run.{Tables}
use Rattle.txn_runs.specs.Bounds.{reach}
use Rattle.txn_runs.specs.Serial.{outcome_of, effect_of, over, last_tables}
use Rattle.txn_runs.specs.declared.program.Program.{Program}
use Rattle.txn_names.specs.Tables.{Named, items_of}
use Rattle.journal_core.specs.Numbered.{AreDistinct}
use Rattle.report_text.specs.Report.{in_order}
use Rattle.report_text.specs.Rows.{commit_row, last_rows, order_rows}
use Rattle.report_check.specs.Judging.{IsBegun}
use Rattle.report_check.specs.Reports.{AreReport}

-- What is kept of the lines so far: the tables behind the commits, which programs were committed and how many, how many lines came
-- behind the commits, and for tables of how many items programs can be run.
pub record Held : Type 0 where
  pub table : Tables
  pub taken : List Bool
  pub commits : ℕ
  pub told : ℕ
  pub room : ℕ

-- all of it fits together, and fits the names and the programs
pub record IsSound (names : List Named) (programs : List Program) (h : Held) : Type 0 where
  pub items : items_of names ≡ length h.table
  pub room : h.room ≡ length h.table
  pub fit : All (λ p. reach p ≤ length h.table) programs
  pub few : length programs < 2 ^ 32
  pub many : length h.taken ≡ length programs
  pub counted : h.commits ≡ count_by (λ b. b) h.taken
  pub told : h.told ≤ length names + 1

-- These lines were taken in, over tables that opened so: commits in some order, each once and of a program that is there, and behind
-- those of all programs so many of the last lines.
pub record Stands (names : List Named) (opening : Tables) (programs : List Program) (h : Held) (lines : List (List ℕ)) : Type 0 where
  pub order : List ℕ
  pub distinct : AreDistinct order
  pub within : AllByRecursion (λ t. (1 ≤ t) × (t ≤ length programs)) order
  pub each : (t : ℕ) → 1 ≤ t → t ≤ length programs → slice_index_or h.taken (t - 1) false ≡ list_any (λ u. u == t) order
  pub count : h.commits ≡ length order
  pub serial : h.table ≡ last_tables opening (in_order programs order)
  pub ripe : 0 < h.told → h.commits ≡ length programs
  pub rows : lines ≡ order_rows opening programs order ++ take h.told (last_rows names h.table (length order))

-- the line is the commit of a program that isn't committed yet
pub record IsNext (programs : List Program) (h : Held) (line : List ℕ) (t : ℕ) : Type 0 where
  pub some : 1 ≤ t
  pub most : t ≤ length programs
  pub free : slice_index_or h.taken (t - 1) false ≡ false
  pub row : line ≡ commit_row t (outcome_of (slice_index_or programs (t - 1) []) h.table)

-- with the commit of this number
abbrev pub committed : List Program → Held → ℕ → Held
committed programs h t = record h {
  table = over (effect_of (slice_index_or programs (t - 1) []) h.table) h.table;
  taken = slice_set h.taken (t - 1) true;
  commits = h.commits + 1;
}

-- a commit was taken in, or the line is none that may follow
abbrev pub Commits : List Program → Held → Held → List ℕ → Bool → Type 0
Commits programs old new line true = (t : ℕ) × IsNext programs old line t × (new ≡ committed programs old t)
Commits programs old new line false = (t : ℕ) → IsNext programs old line t → ⊥

-- the line is the next one behind the commits, and all programs are committed
pub record IsLast (names : List Named) (h : Held) (line : List ℕ) : Type 0 where
  pub all : h.commits ≡ length h.taken
  pub row : slice_get (last_rows names h.table h.commits) h.told ≡ Some line

-- a line behind the commits was taken in, or it is none that may follow
abbrev pub Tells : List Named → Held → Held → List ℕ → Bool → Type 0
Tells names old new line true = IsLast names old line × (new ≡ record old { told = old.told + 1 })
Tells names old new line false = IsLast names old line → ⊥

-- a line was taken in behind those before it, or no report has it there
abbrev pub Takes : List Named → List Program → Held → Held → List ℕ → Bool → Type 0
Takes names programs old new line true =
    IsSound names programs new × ((opening : Tables) (lines : List (List ℕ)) → Stands names opening programs old lines → Stands names opening programs new (lines ++ line ∷ []))
Takes names programs old new line false =
    (opening : Tables) (lines : List (List ℕ)) → Stands names opening programs old lines → IsBegun (AreReport names opening programs) (lines ++ line ∷ []) → ⊥

-- no report has such a line here
abbrev pub Differs : List Named → List Program → Held → List ℕ → Type 0
Differs names programs h line = Takes names programs h h line false
