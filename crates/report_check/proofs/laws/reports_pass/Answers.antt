use Rattle.report_text.proofs.Told.{report-lines}
use Rattle.report_text.proofs.Fits.{tables-fit}
use Rattle.report_check.proofs.Next.{reports}
use Rattle.report_check.proofs.laws.reports_pass.Goals as goal

pub returns : goal.returns
returns c = λ names tables programs order plain few once. reports names tables programs order _ plain few once (report-lines names tables programs order (tables-fit names plain.tables))
