use Rattle.std.proofs.Common.{[]}
use Rattle.scc_text.proofs.LinesRead.{lines_read_opened}
use Rattle.scc_text.specs.declared.command.Dialect.TheVariants as dialect
use Rattle.line_loop.proofs.Functional.{ran_functional}
use Rattle.scc_script.specs.Text.{meaning}
use Rattle.scc_script.proofs.run.answer_all.Goals as goal

-- the account of the loop, from a reader that has answered no line, is what the script's definitions say
pub returns-clause-ran : goal.returns-clause-ran
returns-clause-ran g c =
    ran_functional (meaning dialect.Script) _ _ _ _ _ _ _ _ _ _ (c.answer_lines.ensures.looped _ [] [] [] (lines_read_opened _ _ c.requires.opened))
