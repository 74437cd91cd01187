use Rattle.gen_laws.proofs.Lines.{gen-batch, gen-small}
use Rattle.gen_laws.proofs.generated_batches.Goals as goal

pub returns-clause-batch : goal.returns-clause-batch
returns-clause-batch c = gen-batch

pub returns-clause-small : goal.returns-clause-small
returns-clause-small c = gen-small
