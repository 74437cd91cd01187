use Rattle.core_tests.proofs.tests.runs_locally.Given as goal

abbrev pub ghosts-local_runs : goal.ghosts-local_runs
ghosts-local_runs a = record { name = a.blank.name; parts = a.blank.parts }
