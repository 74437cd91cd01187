use Rattle.journal_core.proofs.Begins.{begun-longer, program-longer, begins-longer, commit_replies-longer}
use Rattle.journal_core.proofs.laws.longer_journals.Goals as goal

pub returns : goal.returns
returns c = record { begun = begun-longer; program = program-longer; begins = begins-longer; replies = commit_replies-longer }
