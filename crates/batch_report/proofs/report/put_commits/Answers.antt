use Rattle.std.proofs.Common.{◌++◌, ◌∷◌, [], take, ap, sym, ◌∙◌, append_assoc}
use Rattle.journal_core.specs.Begins.{commit_replies}
use Rattle.report_text.specs.Report.{commit_lines}
use Rattle.batch_report.proofs.Reports.{entry-more}
use Rattle.batch_report.proofs.report.put_commits.Goals as goal

pub loop-place-preserved : goal.loop-place-preserved
loop-place-preserved c =
    let journal = c.args.journal.now.entries in
    let n = c.loop-place.place in
    c.in_ok-put_entry.ensures
    ∙ ap (λ x. x ++ commit_lines (commit_replies (c.entry.result.now ∷ []))) c.loop-place.invariant
    ∙ append_assoc c.args.out.now.items (commit_lines (commit_replies (take n journal))) (commit_lines (commit_replies (c.entry.result.now ∷ [])))
    ∙ ap (λ x. c.args.out.now.items ++ x) (sym (entry-more journal n c.entry.result.now c.entry.ensures))
