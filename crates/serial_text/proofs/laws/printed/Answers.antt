use Rattle.serial_text.proofs.Printing.{text-serial, lines-serial}
use Rattle.serial_text.proofs.laws.printed.Goals as goal

pub returns-clause-whole : goal.returns-clause-whole
returns-clause-whole c = text-serial

pub returns-clause-so_far : goal.returns-clause-so_far
returns-clause-so_far c = lines-serial
