use Rattle.journal_tests.proofs.runs.printed.Given as goal

abbrev pub ghosts-counted_script : goal.ghosts-counted_script
ghosts-counted_script a = record { name = a.blank.name; parts = a.blank.parts }
