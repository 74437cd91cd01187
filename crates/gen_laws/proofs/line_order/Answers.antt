use Rattle.std.proofs.Common.{arith}
use Rattle.scc_gen.specs.Generated.{transfers}
use Rattle.gen_laws.proofs.Lines.{transfers-small, transfers-many}
use Rattle.gen_laws.proofs.Orders.{line-order}
use Rattle.gen_laws.proofs.line_order.Goals as goal

pub returns : goal.returns
returns c = λ seed count most. let many = transfers-many seed count in line-order (transfers seed count) (transfers-small seed count) (omega (arith, most, many))
