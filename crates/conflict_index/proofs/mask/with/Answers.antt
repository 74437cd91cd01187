use Rattle.conflict_index.proofs.MaskLaws.{has-with}
use Rattle.conflict_index.proofs.mask.with.Goals as goal

pub returns : goal.returns
returns c other = has-with c.args.mask c.args.lane other c.requires
