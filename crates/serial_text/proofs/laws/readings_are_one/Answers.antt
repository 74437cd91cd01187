use Rattle.serial_text.proofs.Splits.{text-same, so-far-same}
use Rattle.serial_text.proofs.laws.readings_are_one.Goals as goal

pub returns-clause-whole : goal.returns-clause-whole
returns-clause-whole c = text-same

pub returns-clause-so_far : goal.returns-clause-so_far
returns-clause-so_far c = so-far-same
