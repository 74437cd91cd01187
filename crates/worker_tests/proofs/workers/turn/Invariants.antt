use Rattle.worker_tests.proofs.workers.turn.Given as goal

abbrev pub ghosts-counted_turn : goal.ghosts-counted_turn
ghosts-counted_turn a = record { name = a.blank.name; parts = a.blank.parts }
