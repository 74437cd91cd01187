use Rattle.std.proofs.Common.{arith}
use Rattle.conflict_index.proofs.MaskLaws.{has-without, without-smaller}
use Rattle.conflict_index.proofs.mask.without.Goals as goal

pub returns-clause-lanes : goal.returns-clause-lanes
returns-clause-lanes c other = has-without c.args.mask c.args.lane other c.requires (omega arith)

pub returns-clause-smaller : goal.returns-clause-smaller
returns-clause-smaller c e = without-smaller c.args.mask c.args.lane c.requires e
