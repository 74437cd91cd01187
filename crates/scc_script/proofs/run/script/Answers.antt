use Rattle.std.proofs.Common.{[], refl}
use Rattle.line_loop.specs.declared.ending.Ending.TheVariants.{OutOfMemory}
use Rattle.line_loop.proofs.Functional.{ran_nothing}
use Rattle.scc_text.specs.declared.command.Dialect.TheVariants as dialect
use Rattle.scc_script.specs.Text.{meaning, opening_script}
use Rattle.scc_script.proofs.Endings.{script_ran}
use Rattle.scc_script.proofs.run.script.Goals as goal

pub returns-in_default-clause-ran : goal.returns-in_default-clause-ran
returns-in_default-clause-ran g c =
    ([], record { ending = OutOfMemory; status = refl; ran = ran_nothing (meaning dialect.Script) (opening_script c.args.k c.args.lanes) (g.S.Source.left c.args.source.now) (g.K.Sink.written c.args.sink.now) c.args.steps.now })

pub returns-in_default-open-clause-ran : goal.returns-in_default-open-clause-ran
returns-in_default-open-clause-ran g c =
    ([], record { ending = OutOfMemory; status = refl; ran = ran_nothing (meaning dialect.Script) (opening_script c.args.k c.args.lanes) (g.S.Source.left c.args.source.now) (g.K.Sink.written c.args.sink.now) c.args.steps.now })

pub returns-clause-ran : goal.returns-clause-ran
returns-clause-ran g c = script_ran c.args.k c.args.lanes c.in-Ok.machine c.answer_all-ending.result c.status_of.ensures.status c.in-Ok.ensures c.answer_all-ending.ensures.ran
