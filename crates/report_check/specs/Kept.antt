-- What a check keeps of the lines so far.
use Rattle.report_check.specs.declared.check.Check.{Check}
use Rattle.report_check.specs.Checked.{Held}

abbrev pub held : Check → Held
held c = record { table = c.table; taken = c.taken.items; commits = c.commits; told = c.told; room = c.runner.items }
