use Rattle.session_tests.proofs.served.said_at.Given as goal

abbrev pub ghosts-counted_session : goal.ghosts-counted_session
ghosts-counted_session g a = record { name = a.blank.name; parts = a.blank.parts }
