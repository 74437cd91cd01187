use Rattle.std.proofs.Common.{◌≡◌, ◌≤◌, ℕ, List, length, Ok, Err, sym, ap, ◌∙◌, subst}
use Rattle.std.specs.List.{All}
use Rattle.txn_runs.specs.Bounds.{reach}
use Rattle.batch_input.specs.Input.{programs_of}
use Rattle.scc_audit.specs.Judged.{InputJudged}
use Rattle.scc_audit.proofs.Behind.{judged-report, audited-same, all-reach}
use Rattle.scc_audit.proofs.judging.judge_report.Goals as goal

pub audit-requires-clause-fit : goal.audit-requires-clause-fit
audit-requires-clause-fit g c =
    let parts = c.into_parts-names.ensures in
    subst (All (λ p. reach p ≤ length c.into_parts-names.result.1)) (sym (c.deref.ensures.value ∙ c.in-Ok.ensures)) (all-reach _ _ _ parts.opening.items parts.fit)

pub returns-in-Ok-audit-clause-judged : goal.returns-in-Ok-audit-clause-judged
returns-in-Ok-audit-clause-judged g c = λ left before goes_on h.
    let parts = c.into_parts-names.ensures in
    let audited = c.in-Ok-audit.ensures.audited left before h.done h.pending c.requires h.lines in
    judged-report c.args.input goes_on _ left _ _ before (Ok c.in-Ok-audit.verdict) h
    (audited-same _ _ _ _ _ _ _ _ _ _ parts.names parts.values (c.deref.ensures.value ∙ c.in-Ok.ensures ∙ ap programs_of parts.requests) audited)

pub returns-clause-judged : goal.returns-clause-judged
returns-clause-judged g c = λ left before goes_on h.
    let parts = c.into_parts-names.ensures in
    let audited = c.in-Err.ensures.audited left before h.done h.pending c.requires h.lines in
    subst (λ e. (read : List ℕ) × InputJudged (Err e) read left (g.S.Source.left c.audit.new.source)) (sym c.end_by.ensures)
    (judged-report c.args.input goes_on _ left _ _ before (Err c.in-Err.end) h
    (audited-same _ _ _ _ _ _ _ _ _ _ parts.names parts.values (c.deref.ensures.value ∙ c.in-Ok.ensures ∙ ap programs_of parts.requests) audited))
