use Rattle.report_text.proofs.Told.{order-told}
use Rattle.report_text.proofs.laws.order_is_told.Goals as goal

pub returns : goal.returns
returns c = order-told
