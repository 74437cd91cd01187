use Rattle.forest_model.proofs.OrderLaws.{wanted-front}
use Rattle.forest_model.proofs.laws.wanting.Goals as goal

pub returns : goal.returns
returns c = wanted-front
