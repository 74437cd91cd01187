-- What an audit has read and written at each end of it.
use Rattle.std.specs.Prelude.{◌≡◌, ◌⊎◌, ◌↔◌, ◌≤◌, ℕ, List, [], codes, length, drop, Option, Result, Ok, Err}
use Rattle.std.specs.Io.KnownBytes.{Consumes, IsAtEnd}
use Rattle.scc_ports.specs.Ports.{Gains, GainsPrefix}
use Rattle.scc_text.specs.Lines.{lines_of}
use Rattle.scc_replies.specs.Lines.{number_line}
use Rattle.scc_replies.specs.declared.status.Status.{Status}
use Rattle.scc_replies.specs.declared.status.Status.TheVariants as status
use Rattle.batch_input.specs.Input.{Bad, programs_of}
use Rattle.batch_input.specs.Unread.{IsReadThrough}
use Rattle.audit_head.specs.declared.form.Form.{Form}
use Rattle.audit_head.specs.declared.form.Form.TheVariants as forms
use Rattle.audit_head.specs.Head.{Head, input_head}
use Rattle.audit_head.specs.Behind.{past_lines}
use Rattle.refused_input.specs.Refused.{bad_line}
use Rattle.journal_table.specs.Spelled.{rows_in}
use Rattle.report_check.specs.declared.verdict.Verdict.{Verdict}
use Rattle.report_check.specs.declared.verdict.Verdict.TheVariants.{Yes, No}
use Rattle.report_check.specs.Reports.{IsReportVerdict}
use Rattle.report_check.specs.Audited.{IsReadFor}
use Rattle.serial_audit.specs.Tables.{IsTableVerdict}

-- the verdict on what is behind a head: the lines of a report, or the rows of a journal
abbrev pub IsVerdictBehind : Form → Head → List ℕ → Verdict → Type 0
IsVerdictBehind forms.Report head read verdict =
    IsReportVerdict head.batch.opening.names head.batch.opening.tables (programs_of head.batch.requests) head.lines (drop head.lines (lines_of read)) verdict
IsVerdictBehind forms.Journal head read verdict = IsTableVerdict head.batch.opening.names head.batch.opening.tables (rows_in (past_lines head.lines read)) verdict

-- the input was read to its end, or, where a line of a report is wrong, to the newline of that line
abbrev pub IsReadFar : Form → Verdict → List ℕ → Option (List ℕ) → Type 0
IsReadFar forms.Report verdict read left = IsReadFor verdict read left
IsReadFar forms.Journal verdict read left = IsAtEnd left

-- These bytes have a head, this is the verdict on what is behind it, and no more had to be read for it.
pub record IsInputVerdict (read : List ℕ) (left : Option (List ℕ)) (verdict : Verdict) : Type 0 where
  pub head : Head
  pub begins : input_head read ≡ Ok head
  pub judged : IsVerdictBehind head.form head read verdict
  pub far : IsReadFar head.form verdict read left

-- These bytes have no head: this line is refused so, and no more had to be read for it.
pub record IsInputBad (read : List ℕ) (left : Option (List ℕ)) (line code : ℕ) : Type 0 where
  pub refused : input_head read ≡ Err (record { line = line; code = code })
  pub far : IsReadThrough read line left

-- the line that says a verdict
abbrev pub verdict_line : Verdict → List ℕ
verdict_line (Yes commits) = number_line (codes "yes ") commits
verdict_line (No line) = number_line (codes "no ") line

-- the line that an audit of these bytes writes
abbrev pub IsAnswer : List ℕ → Option (List ℕ) → List ℕ → Type 0
IsAnswer read left text =
    ((verdict : Verdict) × IsInputVerdict read left verdict × (text ≡ verdict_line verdict)) ⊎ ((bad : Bad) × IsInputBad read left bad.line bad.code × (text ≡ bad_line bad.line bad.code))

-- what was written at each end, and what it says of the bytes that were read
abbrev pub Tells : Status → List ℕ → Option (List ℕ) → Option (List ℕ) → Option (List ℕ) → Type 0
Tells status.Done read left old new = (commits : ℕ) × IsAtEnd left × IsInputVerdict read left (Yes commits) × Gains old new (number_line (codes "yes ") commits)
Tells (status.AuditNo line) read left old new = IsInputVerdict read left (No line) × Gains old new (number_line (codes "no ") line)
Tells (status.BadInput line) read left old new = (code : ℕ) × IsInputBad read left line code × Gains old new (bad_line line code)
Tells status.WriteFault read left old new = (text : List ℕ) × IsAnswer read left text × GainsPrefix old new text
Tells status.ReadFault read left old new = Gains old new []
Tells status.InputLimit read left old new = Gains old new []
Tells status.OutOfMemory read left old new = Gains old new []
Tells status.BadWords read left old new = ⊥

-- An audit that read these bytes, and ended so.
pub record AuditTold (answer : Status) (read : List ℕ) (left_old left_new written_old written_new : Option (List ℕ)) : Type 0 where
  pub took : Consumes left_old left_new read
  pub few : length read ≤ 67108865
  pub limit : (answer ≡ status.InputLimit) ↔ (length read ≡ 67108865)
  pub told : Tells answer read left_new written_old written_new
