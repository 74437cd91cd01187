use Rattle.batch_report.proofs.Once.{sealed-commits}
use Rattle.batch_report.proofs.laws.sealed_journals.Goals as goal

pub returns : goal.returns
returns c = sealed-commits
