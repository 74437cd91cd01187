use Rattle.worker_tests.proofs.batches.ran.Given as goal

abbrev pub ghosts-counted_batch : goal.ghosts-counted_batch
ghosts-counted_batch g a = record { name = a.blank.name; parts = a.blank.parts }
