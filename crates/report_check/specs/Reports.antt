-- The verdict on the lines of a report.
use Rattle.std.specs.Prelude.{◌≡◌, ℕ, ◌+◌, List, length, filter_map}
use Rattle.scc_text.specs.Lines.{lines_of}
use Rattle.txn_runs.specs.Run.{Tables}
use Rattle.txn_runs.specs.declared.program.Program.{Program}
use Rattle.txn_names.specs.Tables.{Named}
use Rattle.report_text.specs.Report.{report}
use Rattle.report_text.specs.Order.{commit_number, NamesEachOnce}
use Rattle.report_check.specs.declared.verdict.Verdict.{Verdict}
use Rattle.report_check.specs.declared.verdict.Verdict.TheVariants.{Yes, No}
use Rattle.report_check.specs.Judging.{IsFirstWrong}

-- the numbers that the `commit` lines among these lines name, in order
abbrev pub named_in : List (List ℕ) → List ℕ
named_in lines = filter_map commit_number lines

-- The lines are those of the full report of these programs over these tables in the order that they name themselves, and they name
-- each program once.
pub record AreReport (names : List Named) (tables : Tables) (programs : List Program) (lines : List (List ℕ)) : Type 0 where
  pub whole : lines ≡ lines_of (report names tables programs (named_in lines))
  pub once : NamesEachOnce (length programs) (named_in lines)

-- The verdict on lines that follow so many others: they are such a report; or which is the first that no such report has behind those
-- before it, or the number behind the last one where the report is cut.
abbrev pub IsReportVerdict : List Named → Tables → List Program → ℕ → List (List ℕ) → Verdict → Type 0
IsReportVerdict names tables programs before lines (Yes commits) = AreReport names tables programs lines × (commits ≡ length programs)
IsReportVerdict names tables programs before lines (No line) = (place : ℕ) × (line ≡ before + place + 1) × IsFirstWrong (AreReport names tables programs) lines place
