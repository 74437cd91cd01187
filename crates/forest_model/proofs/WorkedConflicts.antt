-- Worked histories of one reader and one writer.
use Rattle.std.proofs.Common.{ℕ, pos, List, [], ◌∷◌, ◌++◌, None, refl}
use denote.Hole.Carrier
use Rattle.txn_runs.specs.Run.{after}
use Rattle.txn_runs.specs.declared.outcome.Outcome.TheVariants.{Done}
use Rattle.txn_runs.specs.declared.program.Stmt as statement
use Rattle.block_rule.specs.declared.standing.Standing.TheVariants.{Runnable, Blocked, Ended}
use Rattle.journal_core.specs.declared.entry.Entry.{Entry}
use Rattle.journal_core.specs.declared.entry.Entry.TheVariants.{Began, Committed}
use Rattle.forest_model.specs.Forest.{Started}
use Rattle.forest_model.specs.World.{World, opened}
use Rattle.forest_model.specs.Programs.{reader, writer, late_reader, crosses}
use Rattle.forest_model.specs.Told.{Run, Show, Starts, At, Ends, Makes, Looks}
use Rattle.forest_model.specs.Worked.{items, begins, steps, commits, stands, waits_at}
use Rattle.forest_model.proofs.Programs.{reader_steps, writer_steps, late_reader_steps, crosses_steps}
use Rattle.forest_model.proofs.Leads.{Leads, world, stood, shadow}

abbrev pub both_began : List Entry
both_began = Began 1 10 reader ∷ Began 2 20 (writer 0 5) ∷ []

-- both are started, and none is committed yet
abbrev pub at_first : ℕ → List Started → World
at_first k started = world (items 0 0) k 2 both_began (items 0 0) started

pub begun : (k : ℕ) → Leads (opened (items 0 0) k 2) (begins reader 10 ∷ begins (writer 0 5) 20 ∷ []) (Starts 1 ∷ Starts 2 ∷ []) (at_first k (stood 1 0 [] ∷ stood 2 0 [] ∷ []))
unfolding after statement.out-Stmt Carrier.out reader writer
begun k = record { told = refl; ends = refl }

abbrev pub restart_committed : World
restart_committed = world (items 0 0) 1 2 (both_began ++ Committed 2 (Done []) ∷ []) (items 5 0) (stood 1 0 [] ∷ [])

abbrev pub restart_ended : World
restart_ended = world (items 0 0) 1 2 (both_began ++ Committed 2 (Done []) ∷ Committed 1 (Done (pos 5 ∷ [])) ∷ []) (items 5 0) []

pub restart_steps : Leads (at_first 1 (stood 1 0 [] ∷ stood 2 0 [] ∷ [])) (steps 1 ∷ steps 2 ∷ []) (At 1 ∷ At 1 ∷ []) (at_first 1 (stood 1 1 [] ∷ stood 2 1 [] ∷ []))
unfolding after statement.out-Stmt Carrier.out reader writer
restart_steps = record { told = simp (reader_steps, writer_steps 0 5) refl; ends = simp (reader_steps, writer_steps 0 5) refl }

pub restart_commits : Leads (at_first 1 (stood 1 1 [] ∷ stood 2 1 [] ∷ [])) (commits 2 ∷ Show 1 ∷ []) (Ends (Done []) ((1, 0) ∷ []) None ∷ Looks (stands 0 Runnable ∷ []) ∷ []) (restart_committed)
unfolding after statement.out-Stmt Carrier.out reader writer
restart_commits = record { told = simp (reader_steps, writer_steps 0 5) refl; ends = simp (writer_steps 0 5) refl }

pub restart_ends : Leads (restart_committed) (Run ∷ commits 1 ∷ []) (Makes 2 ∷ Ends (Done (pos 5 ∷ [])) [] None ∷ []) (restart_ended)
unfolding after statement.out-Stmt Carrier.out reader writer
restart_ends = record { told = simp reader_steps refl; ends = simp reader_steps refl }

pub write_rule_steps : Leads (at_first 2 (stood 1 0 [] ∷ stood 2 0 [] ∷ [])) (steps 1 ∷ steps 2 ∷ Show 1 ∷ []) (At 1 ∷ At 1 ∷ Looks (stands 1 Runnable ∷ waits_at 2 0 0 Blocked ∷ []) ∷ []) (at_first 2 (stood 1 1 (shadow 2 0 ∷ []) ∷ stood 2 1 [] ∷ []))
unfolding after statement.out-Stmt Carrier.out reader writer
write_rule_steps = record { told = simp (reader_steps, writer_steps 0 5) refl; ends = simp (reader_steps, writer_steps 0 5) refl }

abbrev pub late_began : List Entry
late_began = Began 1 10 late_reader ∷ Began 2 20 (writer 0 5) ∷ []

abbrev pub late : List Started → World
late started = world (items 0 0) 2 2 late_began (items 0 0) started

abbrev pub late_committed : World
late_committed = world (items 0 0) 2 2 (late_began ++ Committed 2 (Done []) ∷ []) (items 5 0) (stood 1 1 [] ∷ [])

abbrev pub late_ended : World
late_ended = world (items 0 0) 2 2 (late_began ++ Committed 2 (Done []) ∷ Committed 1 (Done (pos 5 ∷ [])) ∷ []) (items 5 0) []

pub late_begun : Leads (opened (items 0 0) 2 2) (begins late_reader 10 ∷ begins (writer 0 5) 20 ∷ []) (Starts 1 ∷ Starts 2 ∷ []) (late (stood 1 0 [] ∷ stood 2 0 [] ∷ []))
unfolding after statement.out-Stmt Carrier.out late_reader writer
late_begun = record { told = refl; ends = refl }

pub late_steps : Leads (late (stood 1 0 [] ∷ stood 2 0 [] ∷ [])) (steps 2 ∷ steps 1 ∷ steps 1 ∷ Show 1 ∷ []) (At 1 ∷ At 1 ∷ At 2 ∷ Looks (stands 2 Runnable ∷ waits_at 2 1 1 Blocked ∷ []) ∷ []) (late (stood 1 2 (shadow 2 1 ∷ []) ∷ stood 2 1 [] ∷ []))
unfolding after statement.out-Stmt Carrier.out late_reader writer
late_steps = record { told = simp (late_reader_steps, writer_steps 0 5) refl; ends = simp (late_reader_steps, writer_steps 0 5) refl }

pub late_commits : Leads (late (stood 1 2 (shadow 2 1 ∷ []) ∷ stood 2 1 [] ∷ [])) (commits 2 ∷ Show 1 ∷ []) (Ends (Done []) ((1, 1) ∷ []) None ∷ Looks (stands 1 Runnable ∷ []) ∷ []) (late_committed)
unfolding after statement.out-Stmt Carrier.out late_reader writer
late_commits = record { told = simp (late_reader_steps, writer_steps 0 5) refl; ends = simp (writer_steps 0 5) refl }

pub late_ends : Leads (late_committed) (Run ∷ commits 1 ∷ []) (Makes 2 ∷ Ends (Done (pos 5 ∷ [])) [] None ∷ []) (late_ended)
unfolding after statement.out-Stmt Carrier.out late_reader writer
late_ends = record { told = simp late_reader_steps refl; ends = simp late_reader_steps refl }

abbrev pub crossed_began : List Entry
crossed_began = Began 1 10 (crosses 0 1) ∷ Began 2 20 (crosses 1 0) ∷ []

abbrev pub cross : List Started → World
cross started = world (items 0 0) 2 2 crossed_began (items 0 0) started

abbrev pub cross_committed : World
cross_committed = world (items 0 0) 2 2 (crossed_began ++ Committed 1 (Done []) ∷ []) (items 0 1) (stood 2 0 [] ∷ [])

abbrev pub cross_ended : World
cross_ended = world (items 0 0) 2 2 (crossed_began ++ Committed 1 (Done []) ∷ Committed 2 (Done []) ∷ []) (items 1 1) []

pub cross_begun : Leads (opened (items 0 0) 2 2) (begins (crosses 0 1) 10 ∷ begins (crosses 1 0) 20 ∷ []) (Starts 1 ∷ Starts 2 ∷ []) (cross (stood 1 0 [] ∷ stood 2 0 [] ∷ []))
unfolding after statement.out-Stmt Carrier.out crosses
cross_begun = record { told = refl; ends = refl }

pub cross_steps : Leads (cross (stood 1 0 [] ∷ stood 2 0 [] ∷ [])) (steps 1 ∷ steps 2 ∷ steps 1 ∷ steps 2 ∷ []) (At 1 ∷ At 1 ∷ At 2 ∷ At 2 ∷ []) (cross (stood 1 2 (shadow 2 0 ∷ []) ∷ stood 2 2 (shadow 1 0 ∷ []) ∷ []))
unfolding after statement.out-Stmt Carrier.out crosses
cross_steps = record { told = simp (crosses_steps 0 1, crosses_steps 1 0) refl; ends = simp (crosses_steps 0 1, crosses_steps 1 0) refl }

pub cross_shows : Leads (cross (stood 1 2 (shadow 2 0 ∷ []) ∷ stood 2 2 (shadow 1 0 ∷ []) ∷ [])) (Show 1 ∷ Show 2 ∷ []) (Looks (stands 2 Ended ∷ waits_at 2 0 0 Blocked ∷ []) ∷ Looks (stands 2 Ended ∷ waits_at 1 0 0 Blocked ∷ []) ∷ []) (cross (stood 1 2 (shadow 2 0 ∷ []) ∷ stood 2 2 (shadow 1 0 ∷ []) ∷ []))
unfolding after statement.out-Stmt Carrier.out crosses
cross_shows = record { told = simp (crosses_steps 0 1, crosses_steps 1 0) refl; ends = refl }

pub cross_commits : Leads (cross (stood 1 2 (shadow 2 0 ∷ []) ∷ stood 2 2 (shadow 1 0 ∷ []) ∷ [])) (commits 1 ∷ Show 2 ∷ []) (Ends (Done []) ((2, 0) ∷ []) None ∷ Looks (stands 0 Runnable ∷ []) ∷ []) (cross_committed)
unfolding after statement.out-Stmt Carrier.out crosses
cross_commits = record { told = simp (crosses_steps 0 1, crosses_steps 1 0) refl; ends = simp (crosses_steps 0 1) refl }

pub cross_ends : Leads (cross_committed) (Run ∷ commits 2 ∷ []) (Makes 2 ∷ Ends (Done []) [] None ∷ []) (cross_ended)
unfolding after statement.out-Stmt Carrier.out crosses
cross_ends = record { told = simp (crosses_steps 1 0) refl; ends = simp (crosses_steps 1 0) refl }
