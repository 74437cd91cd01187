use Rattle.std.proofs.Common.{ℕ, List, Err, subst}
use Rattle.scc_audit.specs.Judged.{InputJudged}
use Rattle.scc_audit.proofs.Telling.{audit-bad}
use Rattle.scc_audit.proofs.running.audit_input.Goals as goal

pub returns-in-Err-Bad-clause-told : goal.returns-in-Err-Bad-clause-told
returns-in-Err-Bad-clause-told g c =
    let judged = subst (λ e. (read : List ℕ) × InputJudged (Err e) read (g.S.Source.left c.args.source.now) (g.S.Source.left c.judge_input.new.source)) c.in-Err-Bad.field-0-is c.in-Err-Bad.ensures.judged in
    (judged.0, audit-bad c.refuse_input.result c.in-Err-Bad.line c.in-Err-Bad.code judged.0 _ _ _ _ judged.1 c.refuse_input.ensures.told)
