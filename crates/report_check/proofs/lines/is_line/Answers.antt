use Rattle.report_check.proofs.Words.{line-of}
use Rattle.report_check.proofs.lines.is_line.Goals as goal

pub returns-then-newline-eq10 : goal.returns-then-newline-eq10
returns-then-newline-eq10 c = line-of _ _ _ _ _ c.in-Some.ensures.cases.0 c.if-newline-eq10.true c.is_same.ensures
