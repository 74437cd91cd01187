use Rattle.conflict_index.proofs.MaskLaws.{has-union}
use Rattle.conflict_index.proofs.mask.union.Goals as goal

pub returns : goal.returns
returns c lane = has-union c.args.a c.args.b lane
