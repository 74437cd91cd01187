use Rattle.std.proofs.Common.{[]}
use Rattle.scc_text.proofs.LinesRead.{lines_read_opened}
use Rattle.table_input.proofs.Ends.{loop-read}
use Rattle.table_input.proofs.read.read_lines.Goals as goal

-- the account of the loop, from a reader that has answered no line
pub returns-clause-read : goal.returns-clause-read
returns-clause-read g c =
    (loop-read _ _ _ _ _ _ _ _ _ _ c.requires.empty (c.answer_lines.ensures.looped _ [] [] [] (lines_read_opened _ _ c.requires.opened))).0

pub returns-clause-silent : goal.returns-clause-silent
returns-clause-silent g c =
    (loop-read _ _ _ _ _ _ _ _ _ _ c.requires.empty (c.answer_lines.ensures.looped _ [] [] [] (lines_read_opened _ _ c.requires.opened))).1
