use Rattle.serial_text.proofs.Wrongs.{too-many, other-outcome}
use Rattle.serial_text.proofs.WrongFinals.{opening-finals}
use Rattle.serial_text.proofs.laws.refused_texts.Goals as goal

pub returns-clause-too_many : goal.returns-clause-too_many
returns-clause-too_many c = too-many

pub returns-clause-other_outcome : goal.returns-clause-other_outcome
returns-clause-other_outcome c = other-outcome

pub returns-clause-opening_finals : goal.returns-clause-opening_finals
returns-clause-opening_finals c = opening-finals
