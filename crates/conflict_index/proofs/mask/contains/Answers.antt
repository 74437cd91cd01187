use Rattle.std.proofs.Common.{arith, tests}
use Rattle.std.proofs.lemmas.Nat.{one_shl, pow_pos}
use Rattle.std.proofs.lemmas.Nat.Bits.{and_pow, bit_at-lt}
use Rattle.conflict_index.specs.Masks.{has}
use Rattle.conflict_index.proofs.mask.contains.Goals as goal

pub returns : goal.returns
unfolding has
returns c = grind (arith, tests, one_shl c.args.lane 64 c.requires, and_pow c.args.mask c.args.lane, pow_pos c.args.lane, bit_at-lt c.args.mask c.args.lane)
