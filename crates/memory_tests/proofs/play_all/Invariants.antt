use Rattle.memory_tests.proofs.play_all.Given as goal

abbrev pub ghosts-played : goal.ghosts-played
ghosts-played a = record { name = a.blank.name; parts = a.blank.parts }
