use Rattle.batch_report.proofs.Once.{each-once}
use Rattle.batch_report.proofs.laws.each_is_committed_once.Goals as goal

pub returns : goal.returns
returns c = each-once
