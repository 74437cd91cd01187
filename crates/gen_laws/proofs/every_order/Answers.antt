use Rattle.std.proofs.Common.{subst, sym}
use Rattle.report_text.specs.Order.{NamesEachOnce}
use Rattle.scc_gen.specs.Generated.{transfers}
use Rattle.gen_laws.proofs.Lines.{transfers-small, transfers-many}
use Rattle.gen_laws.proofs.Orders.{every-order, order-length}
use Rattle.gen_laws.proofs.every_order.Goals as goal
use Rattle.std.proofs.Common.{arith}

pub returns : goal.returns
returns c = λ seed count order most once.
    let ts = transfers seed count in
    let many = transfers-many seed count in
    (every-order ts order (transfers-small seed count) (omega (arith, most, many)) (subst (λ n. NamesEachOnce n order) (sym many) once), order-length count order once)
