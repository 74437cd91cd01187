use Rattle.std.proofs.Common.{ℕ, ◌++◌, List, length, ap, ◌∙◌, append_assoc}
use Rattle.journal_core.specs.Journal.{commits}
use Rattle.journal_core.specs.Begins.{commit_replies}
use Rattle.scc_replies.specs.Lines.{end_line}
use Rattle.scc_replies.specs.Finals.{final_lines}
use Rattle.report_text.specs.Report.{commit_lines}
use Rattle.batch_report.proofs.Reports.{report-of}
use Rattle.batch_report.proofs.report.put_report.Goals as goal

pub returns : goal.returns
returns c = λ programs is.
    let journal = c.args.journal.now in
    let old : List ℕ = c.args.out.now.items in
    let lines : List ℕ = commit_lines (commit_replies journal.entries) in
    let finals : List ℕ = final_lines c.args.tables.now 0 c.args.names.now in
    let end : List ℕ = end_line (length (commits journal.entries)) in
    c.in_ok-put_end.ensures
    ∙ ap (λ n. c.put_finals.new.out.items ++ end_line n) c.commits.ensures
    ∙ ap (λ x. x ++ end) (c.in_ok-put_finals.ensures ∙ ap (λ x. x ++ finals) c.in_ok-put_commits.ensures ∙ append_assoc old lines finals)
    ∙ append_assoc old (lines ++ finals) end
    ∙ ap (λ x. old ++ x) (report-of c.args.names.now journal.opening c.args.tables.now journal.entries programs c.len.ensures.legal c.requires.serial is)
