use Rattle.std.proofs.Common.{subst}
use Rattle.batch_input.specs.Unread.{ReadInput}
use Rattle.scc_batch.proofs.WholeRuns.{batched}
use Rattle.scc_batch.proofs.running.batch.Goals as goal

pub returns-in-Ok-clause-ran : goal.returns-in-Ok-clause-ran
returns-in-Ok-clause-ran g c =
    let read = c.read_input.ensures.read in
    (read.0, batched c.run.result c.in-Ok.input read.0 _ _ _ _ _ (subst (λ made. ReadInput made read.0 (g.S.Source.left c.args.source.now) (g.S.Source.left c.read_input.new.source)) c.in-Ok.is read.1) c.read_input.ensures.silent c.run.ensures.told)
