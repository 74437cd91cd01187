use Rattle.std.proofs.Common.{◌∙◌, sym}
use Rattle.fork_rule.proofs.Positions.{kept-before}
use Rattle.fork_rule.proofs.origin.Goals as goal

pub returns-then-has_kept-clause-fresh : goal.returns-then-has_kept-clause-fresh
returns-then-has_kept-clause-fresh c = (
  (λ h. cc),
  λ h. absurd (kept-before c.args.guard c.args.point c.args.positions.now (sym c.has_kept.ensures ∙ c.if-has_kept.true) h),
)
