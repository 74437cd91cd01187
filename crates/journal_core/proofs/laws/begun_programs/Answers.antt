use Rattle.journal_core.proofs.Begins.{begun-named, program-named, begins-count}
use Rattle.journal_core.proofs.laws.begun_programs.Goals as goal

pub returns : goal.returns
returns c = record { named = begun-named; program = program-named; count = begins-count }
