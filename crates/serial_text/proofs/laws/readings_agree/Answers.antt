use Rattle.serial_text.proofs.Agreeing.{notes-same}
use Rattle.serial_text.proofs.laws.readings_agree.Goals as goal

pub returns : goal.returns
returns c = notes-same
