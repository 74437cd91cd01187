use Rattle.scc.proofs.tests.status_over.Given as goal

abbrev pub ghosts-top_uncounted : goal.ghosts-top_uncounted
ghosts-top_uncounted a called = record { name = called.blank.name; parts = called.blank.parts }
