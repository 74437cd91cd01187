use Rattle.core_tests.proofs.tests.goes_on.Given as goal

abbrev pub ghosts-copied : goal.ghosts-copied
ghosts-copied a = record { name = a.blank.name; parts = a.blank.parts }
