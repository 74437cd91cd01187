-- How the judging of an input ended, and what was read by then.
use Rattle.std.specs.Prelude.{◌≡◌, ◌↔◌, ◌≤◌, ℕ, List, [], length, Option, Result, Ok, Err}
use Rattle.std.specs.Io.KnownBytes.{Consumes}
use Rattle.scc_ports.specs.Ports.{Gains, GainsPrefix}
use Rattle.scc_replies.specs.declared.status.Status.{Status}
use Rattle.scc_replies.specs.declared.status.Status.TheVariants as status
use Rattle.audit_head.specs.declared.form.HeadEnd.{HeadEnd}
use Rattle.audit_head.specs.declared.form.HeadEnd.TheVariants as ends
use Rattle.report_check.specs.declared.verdict.Verdict.{Verdict}
use Rattle.report_check.specs.declared.verdict.Verdict.TheVariants.{Yes, No}
use Rattle.report_check.specs.declared.verdict.AuditEnd.{AuditEnd}
use Rattle.report_check.specs.declared.verdict.AuditEnd.TheVariants as audit_ends
use Rattle.scc_audit.specs.Told.{IsInputVerdict, IsInputBad, verdict_line}

-- what the bytes that were read are, with this end
abbrev pub IsJudged : Result Verdict HeadEnd → List ℕ → Option (List ℕ) → Type 0
IsJudged (Ok verdict) read left = IsInputVerdict read left verdict
IsJudged (Err (ends.Bad line code)) read left = IsInputBad read left line code
IsJudged (Err ends.ReadFault) read left = Unit {0}
IsJudged (Err ends.InputLimit) read left = Unit {0}
IsJudged (Err ends.OutOfMemory) read left = Unit {0}

-- an input of which these bytes were read, and that was judged so
pub record InputJudged (result : Result Verdict HeadEnd) (read : List ℕ) (left_old left_new : Option (List ℕ)) : Type 0 where
  pub took : Consumes left_old left_new read
  pub few : length read ≤ 67108865
  pub limit : (result ≡ Err ends.InputLimit) ↔ (length read ≡ 67108865)
  pub judged : IsJudged result read left_new

-- the end of an input by the end of its report
abbrev pub end_by : AuditEnd → HeadEnd
end_by audit_ends.ReadFault = ends.ReadFault
end_by audit_ends.InputLimit = ends.InputLimit
end_by audit_ends.OutOfMemory = ends.OutOfMemory

-- a verdict was written, or the front of it, or nothing
abbrev pub HasSaid : Status → Verdict → Option (List ℕ) → Option (List ℕ) → Type 0
HasSaid status.Done (Yes commits) old new = Gains old new (verdict_line (Yes commits))
HasSaid status.Done (No line) old new = ⊥
HasSaid (status.AuditNo named) verdict old new = (verdict ≡ No named) × Gains old new (verdict_line verdict)
HasSaid status.WriteFault verdict old new = GainsPrefix old new (verdict_line verdict)
HasSaid status.OutOfMemory verdict old new = Gains old new []
HasSaid status.BadWords verdict old new = ⊥
HasSaid (status.BadInput line) verdict old new = ⊥
HasSaid status.ReadFault verdict old new = ⊥
HasSaid status.InputLimit verdict old new = ⊥
