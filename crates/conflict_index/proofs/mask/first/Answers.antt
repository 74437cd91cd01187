use Rattle.std.proofs.Common.{arith, w64}
use Rattle.std.proofs.lemmas.Nat.Bits.{bit_at-trailing_zeros}
use Rattle.conflict_index.proofs.MaskLaws.{has-one}
use Rattle.conflict_index.proofs.mask.first.Goals as goal

pub returns-clause-member : goal.returns-clause-member
returns-clause-member c = has-one c.args.mask _ (bit_at-trailing_zeros w64 c.args.mask c.requires (omega arith)).1
