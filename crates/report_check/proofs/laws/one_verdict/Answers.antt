use Rattle.report_check.proofs.One.{one-verdict}
use Rattle.report_check.proofs.laws.one_verdict.Goals as goal

pub returns : goal.returns
returns c = one-verdict
