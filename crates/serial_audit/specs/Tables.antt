-- The verdict on the rows of a journal.
use Rattle.std.specs.Prelude.{◌≡◌, ℕ, ◌+◌, List, ◌∷◌, length}
use Rattle.txn_runs.specs.Run.{Tables}
use Rattle.txn_names.specs.Tables.{Named}
use Rattle.journal_core.specs.declared.entry.Entry.{Entry}
use Rattle.journal_core.specs.Journal.{commits, IsLegal}
use Rattle.journal_table.specs.Rows.{Row, heading}
use Rattle.journal_table.specs.Spelled.{AreSpelled}
use Rattle.report_check.specs.declared.verdict.Verdict.{Verdict}
use Rattle.report_check.specs.declared.verdict.Verdict.TheVariants.{Yes, No}
use Rattle.report_check.specs.Judging.{IsFirstWrong}

-- the rows are the heading and those of the entries of a legal journal
pub record IsTable (names : List Named) (opening : Tables) (rows : List Row) : Type 0 where
  pub entries : List Entry
  pub entry_rows : List Row
  pub all : rows ≡ heading ∷ entry_rows
  pub spelled : AreSpelled names entries entry_rows
  pub legal : IsLegal opening entries

-- The verdict on rows, counted from 1: they are a legal journal with so many commits; or which is the first that no legal journal has
-- behind those before it, or 1 where there is no row.
abbrev pub IsTableVerdict : List Named → Tables → List Row → Verdict → Type 0
IsTableVerdict names opening rows (Yes number) = (t : IsTable names opening rows) × (number ≡ length (commits t.entries))
IsTableVerdict names opening rows (No line) = (place : ℕ) × (line ≡ place + 1) × IsFirstWrong (IsTable names opening) rows place
