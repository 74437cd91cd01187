-- Worked histories of what is a read of the tables, and of a writer that fails.
use Rattle.std.proofs.Common.{ℕ, pos, List, [], ◌∷◌, ◌++◌, None, refl}
use denote.Hole.Carrier
use Rattle.txn_runs.specs.Run.{after}
use Rattle.txn_runs.specs.declared.outcome.Outcome.TheVariants.{Done, Failed}
use Rattle.txn_runs.specs.declared.program.Stmt as statement
use Rattle.block_rule.specs.declared.standing.Standing.TheVariants.{Runnable, Blocked}
use Rattle.journal_core.specs.declared.entry.Entry.{Entry}
use Rattle.journal_core.specs.declared.entry.Entry.TheVariants.{Began, Committed}
use Rattle.forest_model.specs.Forest.{Started}
use Rattle.forest_model.specs.World.{World, opened}
use Rattle.forest_model.specs.Programs.{reader, writer, own_reader, twice_reader, failing_writer}
use Rattle.forest_model.specs.Told.{Run, Show, Starts, At, Ends, Makes, Looks}
use Rattle.forest_model.specs.Worked.{items, begins, steps, commits, stands, waits_at}
use Rattle.forest_model.proofs.Programs.{reader_steps, writer_steps, own_reader_steps, twice_reader_steps, failing_writer_steps}
use Rattle.forest_model.proofs.Leads.{Leads, world, stood, shadow}

abbrev pub own_began : List Entry
own_began = Began 1 10 own_reader ∷ Began 2 20 (writer 0 5) ∷ []

abbrev pub own : List Started → World
own started = world (items 0 0) 2 2 own_began (items 0 0) started

abbrev pub own_committed : World
own_committed = world (items 0 0) 2 2 (own_began ++ Committed 2 (Done []) ∷ []) (items 5 0) (stood 1 2 [] ∷ [])

abbrev pub own_ended : World
own_ended = world (items 0 0) 2 2 (own_began ++ Committed 2 (Done []) ∷ Committed 1 (Done (pos 1 ∷ [])) ∷ []) (items 1 0) []

pub own_begun : Leads (opened (items 0 0) 2 2) (begins own_reader 10 ∷ begins (writer 0 5) 20 ∷ []) (Starts 1 ∷ Starts 2 ∷ []) (own (stood 1 0 [] ∷ stood 2 0 [] ∷ []))
unfolding after statement.out-Stmt Carrier.out own_reader writer
own_begun = record { told = refl; ends = refl }

pub own_steps : Leads (own (stood 1 0 [] ∷ stood 2 0 [] ∷ [])) (steps 1 ∷ steps 1 ∷ steps 2 ∷ []) (At 1 ∷ At 2 ∷ At 1 ∷ []) (own (stood 1 2 [] ∷ stood 2 1 [] ∷ []))
unfolding after statement.out-Stmt Carrier.out own_reader writer
own_steps = record { told = simp (own_reader_steps, writer_steps 0 5) refl; ends = simp (own_reader_steps, writer_steps 0 5) refl }

pub own_commits : Leads (own (stood 1 2 [] ∷ stood 2 1 [] ∷ [])) (commits 2 ∷ Show 1 ∷ []) (Ends (Done []) [] None ∷ Looks (stands 2 Runnable ∷ []) ∷ []) (own_committed)
unfolding after statement.out-Stmt Carrier.out own_reader writer
own_commits = record { told = simp (own_reader_steps, writer_steps 0 5) refl; ends = simp (writer_steps 0 5) refl }

pub own_ends : Leads (own_committed) (Run ∷ commits 1 ∷ []) (Makes 1 ∷ Ends (Done (pos 1 ∷ [])) [] None ∷ []) (own_ended)
unfolding after statement.out-Stmt Carrier.out own_reader writer
own_ends = record { told = simp own_reader_steps refl; ends = simp own_reader_steps refl }

abbrev pub twice_began : List Entry
twice_began = Began 1 10 twice_reader ∷ Began 2 20 (writer 1 9) ∷ []

abbrev pub twice : List Started → World
twice started = world (items 3 0) 2 2 twice_began (items 3 0) started

abbrev pub twice_committed : ℕ → World
twice_committed position = world (items 3 0) 2 2 (twice_began ++ Committed 2 (Done []) ∷ []) (items 3 9) (stood 1 position [] ∷ [])

abbrev pub twice_ended : World
twice_ended = world (items 3 0) 2 2 (twice_began ++ Committed 2 (Done []) ∷ Committed 1 (Done (pos 6 ∷ [])) ∷ []) (items 3 9) []

pub twice_begun : Leads (opened (items 3 0) 2 2) (begins twice_reader 10 ∷ begins (writer 1 9) 20 ∷ []) (Starts 1 ∷ Starts 2 ∷ []) (twice (stood 1 0 [] ∷ stood 2 0 [] ∷ []))
unfolding after statement.out-Stmt Carrier.out twice_reader writer
twice_begun = record { told = refl; ends = refl }

pub twice_steps : Leads (twice (stood 1 0 [] ∷ stood 2 0 [] ∷ [])) (steps 1 ∷ steps 2 ∷ []) (At 1 ∷ At 1 ∷ []) (twice (stood 1 1 [] ∷ stood 2 1 [] ∷ []))
unfolding after statement.out-Stmt Carrier.out twice_reader writer
twice_steps = record { told = simp (twice_reader_steps, writer_steps 1 9) refl; ends = simp (twice_reader_steps, writer_steps 1 9) refl }

pub twice_commits : Leads (twice (stood 1 1 [] ∷ stood 2 1 [] ∷ [])) (commits 2 ∷ []) (Ends (Done []) [] None ∷ []) (twice_committed 1)
unfolding after statement.out-Stmt Carrier.out twice_reader writer
twice_commits = record { told = simp (writer_steps 1 9) refl; ends = simp (writer_steps 1 9) refl }

pub twice_runs : Leads (twice_committed 1) (Run ∷ []) (Makes 3 ∷ []) (twice_committed 4)
unfolding after statement.out-Stmt Carrier.out twice_reader writer
twice_runs = record { told = simp twice_reader_steps refl; ends = simp twice_reader_steps refl }

pub twice_ends : Leads (twice_committed 4) (commits 1 ∷ []) (Ends (Done (pos 6 ∷ [])) [] None ∷ []) (twice_ended)
unfolding after statement.out-Stmt Carrier.out twice_reader writer
twice_ends = record { told = simp twice_reader_steps refl; ends = simp twice_reader_steps refl }

abbrev pub failing_began : List Entry
failing_began = Began 1 10 (failing_writer 0) ∷ Began 2 20 reader ∷ []

abbrev pub failing : List Started → World
failing started = world (items 0 0) 2 2 failing_began (items 0 0) started

abbrev pub failing_committed : World
failing_committed = world (items 0 0) 2 2 (failing_began ++ Committed 1 (Failed (pos 7)) ∷ []) (items 0 0) (stood 2 1 [] ∷ [])

abbrev pub failing_ended : World
failing_ended = world (items 0 0) 2 2 (failing_began ++ Committed 1 (Failed (pos 7)) ∷ Committed 2 (Done (pos 0 ∷ [])) ∷ []) (items 0 0) []

pub failing_begun : Leads (opened (items 0 0) 2 2) (begins (failing_writer 0) 10 ∷ begins reader 20 ∷ []) (Starts 1 ∷ Starts 2 ∷ []) (failing (stood 1 0 [] ∷ stood 2 0 [] ∷ []))
unfolding after statement.out-Stmt Carrier.out failing_writer reader
failing_begun = record { told = refl; ends = refl }

pub failing_steps : Leads (failing (stood 1 0 [] ∷ stood 2 0 [] ∷ [])) (steps 2 ∷ steps 1 ∷ steps 1 ∷ Show 2 ∷ []) (At 1 ∷ At 1 ∷ At 2 ∷ Looks (stands 1 Runnable ∷ waits_at 1 0 0 Blocked ∷ []) ∷ []) (failing (stood 1 2 [] ∷ stood 2 1 (shadow 1 0 ∷ []) ∷ []))
unfolding after statement.out-Stmt Carrier.out failing_writer reader
failing_steps = record { told = simp (failing_writer_steps 0, reader_steps) refl; ends = simp (failing_writer_steps 0, reader_steps) refl }

pub failing_commits : Leads (failing (stood 1 2 [] ∷ stood 2 1 (shadow 1 0 ∷ []) ∷ [])) (commits 1 ∷ Show 2 ∷ []) (Ends (Failed (pos 7)) [] None ∷ Looks (stands 1 Runnable ∷ []) ∷ []) (failing_committed)
unfolding after statement.out-Stmt Carrier.out failing_writer reader
failing_commits = record { told = simp (failing_writer_steps 0, reader_steps) refl; ends = simp (failing_writer_steps 0) refl }

pub failing_ends : Leads (failing_committed) (Run ∷ commits 2 ∷ []) (Makes 1 ∷ Ends (Done (pos 0 ∷ [])) [] None ∷ []) (failing_ended)
unfolding after statement.out-Stmt Carrier.out failing_writer reader
failing_ends = record { told = simp reader_steps refl; ends = simp reader_steps refl }

abbrev pub second : List Started → World
second started = world (items 3 0) 2 2 (Began 1 10 twice_reader ∷ Began 2 20 (writer 0 5) ∷ []) (items 3 0) started

pub second_begun : Leads (opened (items 3 0) 2 2) (begins twice_reader 10 ∷ begins (writer 0 5) 20 ∷ []) (Starts 1 ∷ Starts 2 ∷ []) (second (stood 1 0 [] ∷ stood 2 0 [] ∷ []))
unfolding after statement.out-Stmt Carrier.out twice_reader writer
second_begun = record { told = refl; ends = refl }

pub second_steps : Leads (second (stood 1 0 [] ∷ stood 2 0 [] ∷ [])) (steps 1 ∷ steps 1 ∷ steps 2 ∷ Show 1 ∷ []) (At 1 ∷ At 2 ∷ At 1 ∷ Looks (stands 2 Runnable ∷ waits_at 2 0 0 Blocked ∷ []) ∷ []) (second (stood 1 2 (shadow 2 0 ∷ []) ∷ stood 2 1 [] ∷ []))
unfolding after statement.out-Stmt Carrier.out twice_reader writer
second_steps = record { told = simp (twice_reader_steps, writer_steps 0 5) refl; ends = simp (twice_reader_steps, writer_steps 0 5) refl }
