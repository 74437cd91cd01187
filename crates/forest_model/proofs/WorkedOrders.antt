-- Worked histories of refusals, and of who starts.
use Rattle.std.proofs.Common.{List, [], ◌∷◌, ◌++◌, Some, None, refl}
use denote.Hole.Carrier
use Rattle.txn_runs.specs.Run.{after}
use Rattle.txn_runs.specs.declared.outcome.Outcome.TheVariants.{Done}
use Rattle.txn_runs.specs.declared.program.Stmt as statement
use Rattle.journal_core.specs.declared.entry.Entry.{Entry}
use Rattle.journal_core.specs.declared.entry.Entry.TheVariants.{Began, Committed}
use Rattle.forest_model.specs.Forest.{Started}
use Rattle.forest_model.specs.Events.{Unknown, NotStarted, NoShadow, HasEnded, IsBlocked, NotEnded}
use Rattle.forest_model.specs.World.{World, opened}
use Rattle.forest_model.specs.Programs.{nothing, reader, writer}
use Rattle.forest_model.specs.Told.{Drain, Refused, Starts, Waits, At, Ends, Drains}
use Rattle.forest_model.specs.Worked.{items, begins, steps, steps_for, commits}
use Rattle.forest_model.proofs.Programs.{reader_steps, writer_steps}
use Rattle.forest_model.proofs.Leads.{Leads, world, stood, shadow}

abbrev pub refusing_began : List Entry
refusing_began = Began 1 10 reader ∷ Began 2 20 (writer 0 5) ∷ Began 3 30 nothing ∷ []

abbrev pub refusing : List Started → World
refusing started = world (items 0 0) 2 2 refusing_began (items 0 0) started

pub refusing_begun : Leads (opened (items 0 0) 2 2) (begins reader 10 ∷ begins (writer 0 5) 20 ∷ begins nothing 30 ∷ []) (Starts 1 ∷ Starts 2 ∷ Waits 3 ∷ []) (refusing (stood 1 0 [] ∷ stood 2 0 [] ∷ []))
unfolding after statement.out-Stmt Carrier.out reader writer nothing
refusing_begun = record { told = refl; ends = refl }

pub refusing_steps : Leads (refusing (stood 1 0 [] ∷ stood 2 0 [] ∷ [])) (steps 1 ∷ steps 2 ∷ []) (At 1 ∷ At 1 ∷ []) (refusing (stood 1 1 (shadow 2 0 ∷ []) ∷ stood 2 1 [] ∷ []))
unfolding after statement.out-Stmt Carrier.out reader writer nothing
refusing_steps = record { told = simp (reader_steps, writer_steps 0 5) refl; ends = simp (reader_steps, writer_steps 0 5) refl }

pub refused_first : Leads (refusing (stood 1 1 (shadow 2 0 ∷ []) ∷ stood 2 1 [] ∷ [])) (steps_for 1 2 ∷ steps_for 1 3 ∷ steps 2 ∷ commits 1 ∷ []) (Refused IsBlocked ∷ Refused NoShadow ∷ Refused HasEnded ∷ Refused NotEnded ∷ []) (refusing (stood 1 1 (shadow 2 0 ∷ []) ∷ stood 2 1 [] ∷ []))
unfolding after statement.out-Stmt Carrier.out reader writer nothing
refused_first = record { told = simp (reader_steps, writer_steps 0 5) refl; ends = simp (reader_steps, writer_steps 0 5) refl }

pub refused_last : Leads (refusing (stood 1 1 (shadow 2 0 ∷ []) ∷ stood 2 1 [] ∷ [])) (steps 3 ∷ commits 3 ∷ steps 9 ∷ commits 9 ∷ []) (Refused NotStarted ∷ Refused NotStarted ∷ Refused Unknown ∷ Refused Unknown ∷ []) (refusing (stood 1 1 (shadow 2 0 ∷ []) ∷ stood 2 1 [] ∷ []))
unfolding after statement.out-Stmt Carrier.out reader writer nothing
refused_last = record { told = refl; ends = refl }

abbrev pub idle_began : List Entry
idle_began = Began 1 30 nothing ∷ Began 2 20 nothing ∷ Began 3 10 nothing ∷ []

abbrev pub idle : World
idle = world [] 1 1 idle_began [] (stood 1 0 [] ∷ [])

abbrev pub idle_ended : World
idle_ended = world [] 1 1 (idle_began ++ Committed 1 (Done []) ∷ Committed 3 (Done []) ∷ Committed 2 (Done []) ∷ []) [] []

pub idle_begun : Leads (opened [] 1 1) (begins nothing 30 ∷ begins nothing 20 ∷ begins nothing 10 ∷ []) (Starts 1 ∷ Waits 2 ∷ Waits 3 ∷ []) (idle)
unfolding after statement.out-Stmt Carrier.out nothing
idle_begun = record { told = refl; ends = refl }

pub idle_drains : Leads (idle) (Drain ∷ []) (Drains (1 ∷ 3 ∷ 2 ∷ []) ∷ []) (idle_ended)
unfolding after statement.out-Stmt Carrier.out nothing
idle_drains = record { told = refl; ends = refl }

pub idle_commits : Leads (idle) (commits 1 ∷ commits 3 ∷ commits 2 ∷ []) (Ends (Done []) [] (Some 3) ∷ Ends (Done []) [] (Some 2) ∷ Ends (Done []) [] None ∷ []) (idle_ended)
unfolding after statement.out-Stmt Carrier.out nothing
idle_commits = record { told = refl; ends = refl }
