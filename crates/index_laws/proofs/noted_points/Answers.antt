use Rattle.index_laws.proofs.Ties.{points-same}
use Rattle.index_laws.proofs.noted_points.Goals as goal

pub returns : goal.returns
returns c = points-same
