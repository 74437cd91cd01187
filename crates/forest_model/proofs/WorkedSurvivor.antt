-- The worked history of a survivor that a copy is made of.
use Rattle.std.proofs.Common.{pos, List, [], ◌∷◌, ◌++◌, None, refl}
use denote.Hole.Carrier
use Rattle.txn_runs.specs.Run.{after}
use Rattle.txn_runs.specs.declared.outcome.Outcome.TheVariants.{Failed}
use Rattle.txn_runs.specs.declared.program.Stmt as statement
use Rattle.block_rule.specs.declared.standing.Standing.TheVariants.{Runnable, Blocked}
use Rattle.journal_core.specs.declared.entry.Entry.{Entry}
use Rattle.journal_core.specs.declared.entry.Entry.TheVariants.{Began, Committed}
use Rattle.forest_model.specs.Forest.{Started}
use Rattle.forest_model.specs.World.{World, opened}
use Rattle.forest_model.specs.Programs.{three_reader, failing_writer, writer}
use Rattle.forest_model.specs.Told.{Show, Starts, At, Ends, Looks}
use Rattle.forest_model.specs.Worked.{items, begins, steps, commits, stands, waits_at}
use Rattle.forest_model.proofs.Programs.{three_reader_steps, failing_writer_steps, writer_steps}
use Rattle.forest_model.proofs.Leads.{Leads, world, stood, shadow}

abbrev pub four_began : List Entry
four_began = Began 1 10 three_reader ∷ Began 2 20 (failing_writer 1) ∷ Began 3 30 (writer 2 3) ∷ Began 4 40 (writer 0 9) ∷ []

abbrev pub four : List Started → World
four started = world (items 0 0) 3 4 four_began (items 0 0) started

abbrev pub four_committed : World
four_committed = world (items 0 0) 3 4 (four_began ++ Committed 2 (Failed (pos 7)) ∷ []) (items 0 0) (stood 1 4 (shadow 4 1 ∷ shadow 3 2 ∷ []) ∷ stood 3 1 [] ∷ stood 4 1 [] ∷ [])

pub four_begun : Leads (opened (items 0 0) 3 4) (begins three_reader 10 ∷ begins (failing_writer 1) 20 ∷ begins (writer 2 3) 30 ∷ begins (writer 0 9) 40 ∷ []) (Starts 1 ∷ Starts 2 ∷ Starts 3 ∷ Starts 4 ∷ []) (four (stood 1 0 [] ∷ stood 2 0 [] ∷ stood 3 0 [] ∷ stood 4 0 [] ∷ []))
unfolding after statement.out-Stmt Carrier.out three_reader failing_writer writer
four_begun = record { told = refl; ends = refl }

pub four_fails : Leads (four (stood 1 0 [] ∷ stood 2 0 [] ∷ stood 3 0 [] ∷ stood 4 0 [] ∷ [])) (steps 2 ∷ steps 2 ∷ []) (At 1 ∷ At 2 ∷ []) (four (stood 1 0 [] ∷ stood 2 2 [] ∷ stood 3 0 [] ∷ stood 4 0 [] ∷ []))
unfolding after statement.out-Stmt Carrier.out three_reader failing_writer writer
four_fails = record { told = simp (failing_writer_steps 1) refl; ends = simp (failing_writer_steps 1) refl }

pub four_writes : Leads (four (stood 1 0 [] ∷ stood 2 2 [] ∷ stood 3 0 [] ∷ stood 4 0 [] ∷ [])) (steps 3 ∷ steps 4 ∷ []) (At 1 ∷ At 1 ∷ []) (four (stood 1 0 [] ∷ stood 2 2 [] ∷ stood 3 1 [] ∷ stood 4 1 [] ∷ []))
unfolding after statement.out-Stmt Carrier.out three_reader failing_writer writer
four_writes = record { told = simp (writer_steps 2 3, writer_steps 0 9) refl; ends = simp (writer_steps 2 3, writer_steps 0 9) refl }

pub four_first : Leads (four (stood 1 0 [] ∷ stood 2 2 [] ∷ stood 3 1 [] ∷ stood 4 1 [] ∷ [])) (steps 1 ∷ []) (At 1 ∷ []) (four (stood 1 1 [] ∷ stood 2 2 [] ∷ stood 3 1 [] ∷ stood 4 1 [] ∷ []))
unfolding after statement.out-Stmt Carrier.out three_reader failing_writer writer
four_first = record { told = simp three_reader_steps refl; ends = simp three_reader_steps refl }

pub four_second : Leads (four (stood 1 1 [] ∷ stood 2 2 [] ∷ stood 3 1 [] ∷ stood 4 1 [] ∷ [])) (steps 1 ∷ []) (At 2 ∷ []) (four (stood 1 2 (shadow 4 1 ∷ []) ∷ stood 2 2 [] ∷ stood 3 1 [] ∷ stood 4 1 [] ∷ []))
unfolding after statement.out-Stmt Carrier.out three_reader failing_writer writer
four_second = record { told = simp three_reader_steps refl; ends = simp three_reader_steps refl }

pub four_third : Leads (four (stood 1 2 (shadow 4 1 ∷ []) ∷ stood 2 2 [] ∷ stood 3 1 [] ∷ stood 4 1 [] ∷ [])) (steps 1 ∷ []) (At 3 ∷ []) (four (stood 1 3 (shadow 4 1 ∷ shadow 2 2 ∷ []) ∷ stood 2 2 [] ∷ stood 3 1 [] ∷ stood 4 1 [] ∷ []))
unfolding after statement.out-Stmt Carrier.out three_reader failing_writer writer
four_third = record { told = simp three_reader_steps refl; ends = simp three_reader_steps refl }

pub four_fourth : Leads (four (stood 1 3 (shadow 4 1 ∷ shadow 2 2 ∷ []) ∷ stood 2 2 [] ∷ stood 3 1 [] ∷ stood 4 1 [] ∷ [])) (steps 1 ∷ []) (At 4 ∷ []) (four (stood 1 4 (shadow 4 1 ∷ shadow 2 2 ∷ []) ∷ stood 2 2 [] ∷ stood 3 1 [] ∷ stood 4 1 [] ∷ []))
unfolding after statement.out-Stmt Carrier.out three_reader failing_writer writer
four_fourth = record { told = simp three_reader_steps refl; ends = simp three_reader_steps refl }

pub four_shows : Leads (four (stood 1 4 (shadow 4 1 ∷ shadow 2 2 ∷ []) ∷ stood 2 2 [] ∷ stood 3 1 [] ∷ stood 4 1 [] ∷ [])) (Show 1 ∷ []) (Looks (stands 4 Runnable ∷ waits_at 4 1 1 Blocked ∷ waits_at 2 2 2 Blocked ∷ []) ∷ []) (four (stood 1 4 (shadow 4 1 ∷ shadow 2 2 ∷ []) ∷ stood 2 2 [] ∷ stood 3 1 [] ∷ stood 4 1 [] ∷ []))
unfolding after statement.out-Stmt Carrier.out three_reader failing_writer writer
four_shows = record { told = simp three_reader_steps refl; ends = refl }

pub four_commits : Leads (four (stood 1 4 (shadow 4 1 ∷ shadow 2 2 ∷ []) ∷ stood 2 2 [] ∷ stood 3 1 [] ∷ stood 4 1 [] ∷ [])) (commits 2 ∷ []) (Ends (Failed (pos 7)) [] None ∷ []) (four_committed)
unfolding after statement.out-Stmt Carrier.out three_reader failing_writer writer
four_commits = record { told = simp (failing_writer_steps 1) refl; ends = simp (failing_writer_steps 1) refl }

pub four_shows_copy : Leads (four_committed) (Show 1 ∷ []) (Looks (stands 4 Runnable ∷ waits_at 4 1 1 Blocked ∷ waits_at 3 2 3 Runnable ∷ []) ∷ []) (four_committed)
unfolding after statement.out-Stmt Carrier.out three_reader failing_writer writer
four_shows_copy = record { told = simp three_reader_steps refl; ends = refl }
