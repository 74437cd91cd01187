-- What an audit of a report has read, and what its answer says.
use Rattle.std.specs.Prelude.{◌≡◌, ◌↔◌, ℕ, ◌≤◌, List, ◌++◌, length, Option, Result, Ok, Err}
use Rattle.std.specs.Io.KnownBytes.{Consumes, IsAtEnd}
use Rattle.scc_text.specs.Lines.{lines_of, whole_lines, within_limit}
use Rattle.txn_runs.specs.Run.{Tables}
use Rattle.txn_runs.specs.declared.program.Program.{Program}
use Rattle.txn_names.specs.Tables.{Named}
use Rattle.batch_input.specs.Unread.{IsReadThrough}
use Rattle.report_check.specs.declared.verdict.Verdict.{Verdict}
use Rattle.report_check.specs.declared.verdict.Verdict.TheVariants.{Yes, No}
use Rattle.report_check.specs.declared.verdict.AuditEnd.{AuditEnd}
use Rattle.report_check.specs.declared.verdict.AuditEnd.TheVariants as ends
use Rattle.report_check.specs.Judging.{IsBegun}
use Rattle.report_check.specs.Reports.{AreReport, IsReportVerdict}

-- the source gave its end; or the newline of the line that is named was read
abbrev pub IsReadFor : Verdict → List ℕ → Option (List ℕ) → Type 0
IsReadFor (Yes commits) read left = IsAtEnd left
IsReadFor (No line) read left = IsReadThrough read line left

-- no line whose newline is among the bytes that count is wrong
abbrev pub NoneWrong : List Named → Tables → List Program → List (List ℕ) → List ℕ → Type 0
NoneWrong names tables programs done read = (lines : List (List ℕ)) × (whole_lines (within_limit read) ≡ done ++ lines) × IsBegun (AreReport names tables programs) lines

-- what is said of the lines that the bytes read have behind these lines
abbrev pub Says : List Named → Tables → List Program → List (List ℕ) → List ℕ → Option (List ℕ) → Result Verdict AuditEnd → Type 0
Says names tables programs done read left (Ok verdict) =
    (lines : List (List ℕ)) × (lines_of read ≡ done ++ lines) × IsReportVerdict names tables programs (length done) lines verdict × IsReadFor verdict read left
Says names tables programs done read left (Err ends.ReadFault) = NoneWrong names tables programs done read
Says names tables programs done read left (Err ends.InputLimit) = NoneWrong names tables programs done read
Says names tables programs done read left (Err ends.OutOfMemory) = Unit {0}

-- an audit by a reader that had answered these lines before
pub record Audited (names : List Named) (tables : Tables) (programs : List Program) (done : List (List ℕ)) (left_old left_new : Option (List ℕ)) (result : Result Verdict AuditEnd) : Type 0 where
  -- all bytes that were read, those before too
  pub read : List ℕ
  pub took : Consumes left_old left_new read
  pub few : length read ≤ 67108865
  pub limit : (result ≡ Err ends.InputLimit) ↔ (length read ≡ 67108865)
  pub says : Says names tables programs done read left_new result
