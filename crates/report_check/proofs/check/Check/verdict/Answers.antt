use Rattle.std.proofs.Common.{length, arith}
use Rattle.report_check.specs.Kept.{held}
use Rattle.report_check.proofs.First.{first-missing}
use Rattle.report_check.proofs.Taking.{ends-whole}
use Rattle.report_check.proofs.check.Check.verdict.Goals as goal

pub returns-then-self-count : goal.returns-then-self-count
returns-then-self-count c =
    let over = c.if-self-count.true in
    let count = c.count.ensures.value in
    λ opening programs before lines sound stands number.
    ends-whole c.args.names.now opening programs (held c.args.self.now) lines c.count.ensures.limits sound stands (omega (arith, over, count))

pub returns : goal.returns
returns c =
    let short = c.if-self-count.false in
    let count = c.count.ensures.value in
    λ opening programs before lines sound stands number. (
      length lines,
      omega (arith, number),
      first-missing c.args.names.now opening programs (held c.args.self.now) lines c.count.ensures.limits sound stands (omega (arith, short, count)),
    )
