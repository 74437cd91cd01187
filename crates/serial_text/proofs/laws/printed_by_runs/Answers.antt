use Rattle.serial_text.proofs.Printing.{ran-printed}
use Rattle.serial_text.proofs.laws.printed_by_runs.Goals as goal

pub returns : goal.returns
returns c = ran-printed
