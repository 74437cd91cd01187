use Rattle.access_sets.proofs.Agreeing.{agreeing}
use Rattle.access_sets.proofs.laws.agreeing_tables.Goals as goal

pub returns : goal.returns
returns c = agreeing
