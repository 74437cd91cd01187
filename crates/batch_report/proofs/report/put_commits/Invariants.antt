use Rattle.std.proofs.Common.{◌≡◌, ◌++◌, take}
use Rattle.journal_core.specs.Begins.{commit_replies}
use Rattle.report_text.specs.Report.{commit_lines}
use Rattle.batch_report.proofs.report.put_commits.Given as goal

-- the lines of the entries so far
abbrev pub invariant-loop-place : goal.invariant-loop-place
invariant-loop-place l = l.out.items ≡ l.fn.out.items ++ commit_lines (commit_replies (take l.place l.journal.entries))
