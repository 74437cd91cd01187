use Rattle.journal_tests.proofs.runs.judged.Given as goal

abbrev pub ghosts-counted_audit : goal.ghosts-counted_audit
ghosts-counted_audit a = record { name = a.blank.name; parts = a.blank.parts }
