use Rattle.core_tests.proofs.tests.comes_to.Given as goal

abbrev pub ghosts-ending : goal.ghosts-ending
ghosts-ending a = record { name = a.blank.name; parts = a.blank.parts }
