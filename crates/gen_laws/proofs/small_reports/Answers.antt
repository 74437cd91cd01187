use Rattle.std.proofs.Common.{sym, subst, arith}
use Rattle.report_text.specs.Order.{NamesEachOnce}
use Rattle.scc_gen.specs.Generated.{transfers}
use Rattle.gen_laws.proofs.Lines.{transfers-small, transfers-many}
use Rattle.gen_laws.proofs.Reports.{short-report}
use Rattle.gen_laws.proofs.small_reports.Goals as goal

pub returns : goal.returns
returns c = λ seed count order most once.
    let many = transfers-many seed count in
    short-report (transfers seed count) order (transfers-small seed count) (omega (arith, most, many)) (subst (λ n. NamesEachOnce n order) (sym many) once)
