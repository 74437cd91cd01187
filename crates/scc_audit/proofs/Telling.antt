-- What was written of a verdict or a refused line.
use Rattle.std.proofs.Common.{◌≡◌, ◌≢◌, ◌↔◌, ◌≤◌, inl, inr, ℕ, List, [], length, Option, Result, Ok, Err, refl, sym, ap, ◌∙◌, subst, arith}
use Rattle.std.specs.Io.KnownBytes.{IsAtEnd}
use Rattle.scc_ports.specs.Ports.{Gains}
use Rattle.scc_ports.proofs.Gained.{Gains-nil}
use Rattle.scc_replies.specs.declared.status.Status.{Status}
use Rattle.scc_replies.specs.declared.status.Status.TheVariants as status
use Rattle.audit_head.specs.declared.form.Form.{Form}
use Rattle.audit_head.specs.declared.form.Form.TheVariants as forms
use Rattle.audit_head.specs.declared.form.HeadEnd.{HeadEnd}
use Rattle.audit_head.specs.declared.form.HeadEnd.TheVariants as ends
use Rattle.refused_input.specs.Refused.{HasRefused, bad_line}
use Rattle.report_check.specs.declared.verdict.Verdict.{Verdict}
use Rattle.report_check.specs.declared.verdict.Verdict.TheVariants.{Yes, No}
use Rattle.scc_audit.specs.Told.{verdict_line, IsReadFar, IsInputVerdict, IsInputBad, Tells, AuditTold}
use Rattle.scc_audit.specs.Judged.{HasSaid, InputJudged}

-- a good verdict comes at the end
read-all : (form : Form) (commits : ℕ) (read : List ℕ) (left : Option (List ℕ)) → IsReadFar form (Yes commits) read left → IsAtEnd left
read-all forms.Report commits read left far = far
read-all forms.Journal commits read left far = far

told-verdict : (answer : Status) (verdict : Verdict) (read : List ℕ) (left old new : Option (List ℕ)) → IsInputVerdict read left verdict → HasSaid answer verdict old new → Tells answer read left old new
told-verdict status.Done (Yes commits) read left old new is said = (commits, read-all is.head.form commits read left is.far, is, said)
told-verdict status.Done (No line) read left old new is said = absurd said
told-verdict (status.AuditNo line) (Yes commits) read left old new is said = absurd (let e = said.0 in cc)
told-verdict (status.AuditNo named) (No line) read left old new is said =
    (subst (λ v. IsInputVerdict read left v) said.0 is, subst (λ v. Gains old new (verdict_line v)) said.0 said.1)
told-verdict status.WriteFault verdict read left old new is said = (_, inl (verdict, is, refl), said)
told-verdict status.OutOfMemory verdict read left old new is said = said
told-verdict status.BadWords verdict read left old new is said = said
told-verdict (status.BadInput line) verdict read left old new is said = absurd said
told-verdict status.ReadFault verdict read left old new is said = absurd said
told-verdict status.InputLimit verdict read left old new is said = absurd said

told-bad : (answer : Status) (line code : ℕ) (read : List ℕ) (left old new : Option (List ℕ)) → IsInputBad read left line code → HasRefused answer line code old new → Tells answer read left old new
told-bad (status.BadInput named) line code read left old new is refused =
    (code, subst (λ n. IsInputBad read left n code) (sym refused.0) is, subst (λ n. Gains old new (bad_line n code)) (sym refused.0) refused.1)
told-bad status.WriteFault line code read left old new is refused = (_, inr (record { line = line; code = code }, is, refl), refused)
told-bad status.OutOfMemory line code read left old new is refused = refused
told-bad status.Done line code read left old new is refused = absurd refused
told-bad status.BadWords line code read left old new is refused = refused
told-bad status.ReadFault line code read left old new is refused = absurd refused
told-bad status.InputLimit line code read left old new is refused = absurd refused
told-bad (status.AuditNo wrong) line code read left old new is refused = absurd refused

said-no-limit : (verdict : Verdict) (old new : Option (List ℕ)) → HasSaid status.InputLimit verdict old new → ⊥
said-no-limit verdict old new said = said

pub audit-verdict : (answer : Status) (verdict : Verdict) (read : List ℕ) (left_old left_new old new : Option (List ℕ)) → InputJudged (Ok verdict) read left_old left_new → HasSaid answer verdict old new
    → AuditTold answer read left_old left_new old new
audit-verdict answer verdict read left_old left_new old new judged said = record {
  took = judged.took;
  few = judged.few;
  limit = (λ is. absurd (said-no-limit verdict old new (subst (λ a. HasSaid a verdict old new) is said)), λ many. absurd (let e = judged.limit.1 many in cc));
  told = told-verdict answer verdict read left_new old new judged.judged said;
}

pub audit-bad : (answer : Status) (line code : ℕ) (read : List ℕ) (left_old left_new old new : Option (List ℕ)) → InputJudged (Err (ends.Bad line code)) read left_old left_new → HasRefused answer line code old new
    → AuditTold answer read left_old left_new old new
audit-bad answer line code read left_old left_new old new judged refused = record {
  took = judged.took;
  few = judged.few;
  limit = (λ is. absurd (subst (λ a. HasRefused a line code old new) is refused), λ many. absurd (let e = judged.limit.1 many in cc));
  told = told-bad answer line code read left_new old new judged.judged refused;
}

-- The ends at which nothing was written.

pub audit-fault : (read : List ℕ) (left_old left_new written : Option (List ℕ)) → InputJudged (Err ends.ReadFault) read left_old left_new → AuditTold status.ReadFault read left_old left_new written written
audit-fault read left_old left_new written judged = record {
  took = judged.took;
  few = judged.few;
  limit = (λ is. absurd (cc), λ many. absurd (let e = judged.limit.1 many in cc));
  told = Gains-nil written;
}

pub audit-limit : (read : List ℕ) (left_old left_new written : Option (List ℕ)) → InputJudged (Err ends.InputLimit) read left_old left_new → AuditTold status.InputLimit read left_old left_new written written
audit-limit read left_old left_new written judged = record {
  took = judged.took;
  few = judged.few;
  limit = (λ _. judged.limit.0 refl, λ _. refl);
  told = Gains-nil written;
}

pub audit-memory : (read : List ℕ) (left_old left_new written : Option (List ℕ)) → InputJudged (Err ends.OutOfMemory) read left_old left_new → AuditTold status.OutOfMemory read left_old left_new written written
audit-memory read left_old left_new written judged = record {
  took = judged.took;
  few = judged.few;
  limit = (λ is. absurd (cc), λ many. absurd (let e = judged.limit.1 many in cc));
  told = Gains-nil written;
}
