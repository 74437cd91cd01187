use Rattle.scc.specs.declared.words.Mode.TheVariants.{Batch}
use Rattle.scc.proofs.top.batch_words.Goals as goal

pub returns-in-Err-clause-none : goal.returns-in-Err-clause-none
returns-in-Err-clause-none c = λ k lanes workers spelled. c.in-Err.ensures.err (Batch k lanes workers) spelled
