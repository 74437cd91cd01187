-- Worked histories of a reader with two writers.
use Rattle.std.proofs.Common.{◌≡◌, ℕ, false, List, [], ◌∷◌, ◌++◌, Some, None, refl}
use denote.Hole.Carrier
use Rattle.txn_runs.specs.Run.{after}
use Rattle.txn_runs.specs.declared.outcome.Outcome.TheVariants.{Done}
use Rattle.txn_runs.specs.declared.program.Stmt as statement
use Rattle.block_rule.specs.declared.standing.Standing.TheVariants.{Runnable, Blocked, Ended}
use Rattle.journal_core.specs.declared.entry.Entry.{Entry}
use Rattle.journal_core.specs.declared.entry.Entry.TheVariants.{Began, Committed, Withdrawn}
use Rattle.forest_model.specs.Forest.{Started, Forest}
use Rattle.block_rule.specs.declared.role.Row.{Row}
use Rattle.block_rule.specs.declared.role.Role.TheVariants.{Optimistic, Guard}
use Rattle.forest_model.specs.Pick.{pick}
use Rattle.forest_model.specs.Work.{work}
use Rattle.forest_model.specs.Drain.{step_row, run_idle}
use Rattle.forest_model.specs.World.{World, opened}
use Rattle.forest_model.specs.Programs.{writer, two_reader, late_two_reader}
use Rattle.forest_model.specs.Told.{Run, Show, Starts, At, Ends, Leaves, Makes, Looks}
use Rattle.forest_model.specs.Worked.{items, begins, withdraws, steps, steps_for, commits, stands, waits_at}
use Rattle.forest_model.proofs.Programs.{writer_steps, two_reader_steps, late_two_reader_steps}
use Rattle.forest_model.proofs.Leads.{Leads, world, stood, shadow, run_by, run_more, run_over, runs}

abbrev pub three_began : List Entry
three_began = Began 1 10 two_reader ∷ Began 2 20 (writer 1 7) ∷ Began 3 30 (writer 0 9) ∷ []

abbrev pub three : ℕ → List Started → World
three k started = world (items 0 0) k 3 three_began (items 0 0) started

abbrev pub three_committed : ℕ → List Started → World
three_committed k started = world (items 0 0) k 3 (three_began ++ Committed 2 (Done []) ∷ []) (items 0 7) started

pub three_begun : (k : ℕ) → Leads (opened (items 0 0) k 3) (begins two_reader 10 ∷ begins (writer 1 7) 20 ∷ begins (writer 0 9) 30 ∷ []) (Starts 1 ∷ Starts 2 ∷ Starts 3 ∷ []) (three k (stood 1 0 [] ∷ stood 2 0 [] ∷ stood 3 0 [] ∷ []))
unfolding after statement.out-Stmt Carrier.out two_reader writer
three_begun k = record { told = refl; ends = refl }

pub latest_steps : Leads (three 2 (stood 1 0 [] ∷ stood 2 0 [] ∷ stood 3 0 [] ∷ [])) (steps 1 ∷ steps 1 ∷ steps 2 ∷ Show 1 ∷ []) (At 1 ∷ At 2 ∷ At 1 ∷ Looks (stands 2 Runnable ∷ waits_at 2 0 1 Runnable ∷ []) ∷ []) (three 2 (stood 1 2 (shadow 2 0 ∷ []) ∷ stood 2 1 [] ∷ stood 3 0 [] ∷ []))
unfolding after statement.out-Stmt Carrier.out two_reader writer
latest_steps = record { told = simp (two_reader_steps, writer_steps 1 7) refl; ends = simp (two_reader_steps, writer_steps 1 7) refl }

pub latest_gives_up : Leads (three 2 (stood 1 2 (shadow 2 0 ∷ []) ∷ stood 2 1 [] ∷ stood 3 0 [] ∷ [])) (steps 3 ∷ Show 1 ∷ []) (At 1 ∷ Looks (stands 2 Runnable ∷ waits_at 3 0 0 Blocked ∷ []) ∷ []) (three 2 (stood 1 2 (shadow 3 0 ∷ []) ∷ stood 2 1 [] ∷ stood 3 1 [] ∷ []))
unfolding after statement.out-Stmt Carrier.out two_reader writer
latest_gives_up = record { told = simp (two_reader_steps, writer_steps 0 9) refl; ends = simp (writer_steps 0 9) refl }

pub latest_commits : Leads (three 2 (stood 1 2 (shadow 3 0 ∷ []) ∷ stood 2 1 [] ∷ stood 3 1 [] ∷ [])) (commits 2 ∷ Show 1 ∷ []) (Ends (Done []) ((1, 0) ∷ []) None ∷ Looks (stands 0 Runnable ∷ []) ∷ []) (three_committed 2 (stood 1 0 [] ∷ stood 3 1 [] ∷ []))
unfolding after statement.out-Stmt Carrier.out two_reader writer
latest_commits = record { told = simp (two_reader_steps, writer_steps 1 7) refl; ends = simp (writer_steps 1 7) refl }

pub both_steps : Leads (three 3 (stood 1 0 [] ∷ stood 2 0 [] ∷ stood 3 0 [] ∷ [])) (steps 1 ∷ steps 1 ∷ steps 2 ∷ []) (At 1 ∷ At 2 ∷ At 1 ∷ []) (three 3 (stood 1 2 (shadow 2 0 ∷ []) ∷ stood 2 1 [] ∷ stood 3 0 [] ∷ []))
unfolding after statement.out-Stmt Carrier.out two_reader writer
both_steps = record { told = simp (two_reader_steps, writer_steps 1 7) refl; ends = simp (two_reader_steps, writer_steps 1 7) refl }

pub both_step : Leads (three 3 (stood 1 2 (shadow 2 0 ∷ []) ∷ stood 2 1 [] ∷ stood 3 0 [] ∷ [])) (steps 3 ∷ []) (At 1 ∷ []) (three 3 (stood 1 2 (shadow 3 0 ∷ shadow 2 0 ∷ []) ∷ stood 2 1 [] ∷ stood 3 1 [] ∷ []))
unfolding after statement.out-Stmt Carrier.out two_reader writer
both_step = record { told = simp (writer_steps 0 9) refl; ends = simp (writer_steps 0 9) refl }

abbrev pub before_run : Forest
before_run = (three 3 (stood 1 2 (shadow 3 0 ∷ shadow 2 0 ∷ []) ∷ stood 2 1 [] ∷ stood 3 1 [] ∷ [])).forest

abbrev pub in_run : Forest
in_run = (three 3 (stood 1 3 (shadow 3 0 ∷ shadow 2 0 ∷ []) ∷ stood 2 1 [] ∷ stood 3 1 [] ∷ [])).forest

abbrev pub after_run : Forest
after_run = (three 3 (stood 1 3 (shadow 3 0 ∷ shadow 2 1 ∷ []) ∷ stood 2 1 [] ∷ stood 3 1 [] ∷ [])).forest

abbrev pub first_row : Row
first_row = record { txn = 1; deadline = 10; role = Optimistic; place = 0; standing = Runnable; out = false }

abbrev pub next_row : Row
next_row = record { txn = 1; deadline = 10; role = Guard 2; place = 2; standing = Runnable; out = false }

pub both_work : work before_run ≡ 17
unfolding after statement.out-Stmt Carrier.out two_reader writer
both_work = simp (two_reader_steps, writer_steps 1 7, writer_steps 0 9) refl

pub both_pick : pick before_run ≡ Some first_row
unfolding after statement.out-Stmt Carrier.out two_reader writer
both_pick = simp (two_reader_steps, writer_steps 1 7, writer_steps 0 9) refl

pub both_moves : step_row before_run first_row ≡ in_run
unfolding after statement.out-Stmt Carrier.out two_reader writer
both_moves = simp two_reader_steps refl

pub both_pick_next : pick in_run ≡ Some next_row
unfolding after statement.out-Stmt Carrier.out two_reader writer
both_pick_next = simp (two_reader_steps, writer_steps 1 7, writer_steps 0 9) refl

pub both_moves_next : step_row in_run next_row ≡ after_run
unfolding after statement.out-Stmt Carrier.out two_reader writer
both_moves_next = refl

pub both_pick_none : pick after_run ≡ None
unfolding after statement.out-Stmt Carrier.out two_reader writer
both_pick_none = simp (two_reader_steps, writer_steps 1 7, writer_steps 0 9) refl

pub both_runs : run_idle before_run ≡ (2, after_run)
both_runs =
    run_by before_run 17 _ both_work
    (run_more before_run in_run 16 first_row _ both_pick both_moves
    (run_more in_run after_run 15 next_row _ both_pick_next both_moves_next (run_over after_run 14 both_pick_none)))

pub both_run : Leads (three 3 (stood 1 2 (shadow 3 0 ∷ shadow 2 0 ∷ []) ∷ stood 2 1 [] ∷ stood 3 1 [] ∷ [])) (Run ∷ []) (Makes 2 ∷ []) (three 3 (stood 1 3 (shadow 3 0 ∷ shadow 2 1 ∷ []) ∷ stood 2 1 [] ∷ stood 3 1 [] ∷ []))
both_run = runs (three 3 (stood 1 2 (shadow 3 0 ∷ shadow 2 0 ∷ []) ∷ stood 2 1 [] ∷ stood 3 1 [] ∷ [])) 2 after_run both_runs

pub both_shows : Leads (three 3 (stood 1 3 (shadow 3 0 ∷ shadow 2 1 ∷ []) ∷ stood 2 1 [] ∷ stood 3 1 [] ∷ [])) (Show 1 ∷ []) (Looks (stands 3 Ended ∷ waits_at 3 0 0 Blocked ∷ waits_at 2 1 1 Blocked ∷ []) ∷ []) (three 3 (stood 1 3 (shadow 3 0 ∷ shadow 2 1 ∷ []) ∷ stood 2 1 [] ∷ stood 3 1 [] ∷ []))
unfolding after statement.out-Stmt Carrier.out two_reader writer
both_shows = record { told = simp two_reader_steps refl; ends = refl }

pub both_commits : Leads (three 3 (stood 1 3 (shadow 3 0 ∷ shadow 2 1 ∷ []) ∷ stood 2 1 [] ∷ stood 3 1 [] ∷ [])) (commits 2 ∷ Show 1 ∷ []) (Ends (Done []) ((1, 1) ∷ []) None ∷ Looks (stands 1 Runnable ∷ waits_at 3 0 0 Blocked ∷ []) ∷ []) (three_committed 3 (stood 1 1 (shadow 3 0 ∷ []) ∷ stood 3 1 [] ∷ []))
unfolding after statement.out-Stmt Carrier.out two_reader writer
both_commits = record { told = simp (two_reader_steps, writer_steps 1 7) refl; ends = simp (writer_steps 1 7) refl }

abbrev pub refill_began : List Entry
refill_began = Began 1 10 late_two_reader ∷ Began 2 20 (writer 1 7) ∷ Began 3 30 (writer 0 9) ∷ []

abbrev pub filled : List Started → World
filled started = world (items 0 0) 2 3 refill_began (items 0 0) started

abbrev pub refilled : World
refilled = world (items 0 0) 2 3 (refill_began ++ Withdrawn 3 ∷ []) (items 0 0) (stood 1 3 (shadow 2 1 ∷ []) ∷ stood 2 1 [] ∷ [])

pub refill_begun : Leads (opened (items 0 0) 2 3) (begins late_two_reader 10 ∷ begins (writer 1 7) 20 ∷ begins (writer 0 9) 30 ∷ []) (Starts 1 ∷ Starts 2 ∷ Starts 3 ∷ []) (filled (stood 1 0 [] ∷ stood 2 0 [] ∷ stood 3 0 [] ∷ []))
unfolding after statement.out-Stmt Carrier.out late_two_reader writer
refill_begun = record { told = refl; ends = refl }

pub refill_steps : Leads (filled (stood 1 0 [] ∷ stood 2 0 [] ∷ stood 3 0 [] ∷ [])) (steps 2 ∷ steps 1 ∷ steps 1 ∷ []) (At 1 ∷ At 1 ∷ At 2 ∷ []) (filled (stood 1 2 [] ∷ stood 2 1 [] ∷ stood 3 0 [] ∷ []))
unfolding after statement.out-Stmt Carrier.out late_two_reader writer
refill_steps = record { told = simp (late_two_reader_steps, writer_steps 1 7) refl; ends = simp (late_two_reader_steps, writer_steps 1 7) refl }

pub refill_reads : Leads (filled (stood 1 2 [] ∷ stood 2 1 [] ∷ stood 3 0 [] ∷ [])) (steps 1 ∷ []) (At 3 ∷ []) (filled (stood 1 3 (shadow 2 2 ∷ []) ∷ stood 2 1 [] ∷ stood 3 0 [] ∷ []))
unfolding after statement.out-Stmt Carrier.out late_two_reader writer
refill_reads = record { told = simp late_two_reader_steps refl; ends = simp late_two_reader_steps refl }

pub refill_gives_up : Leads (filled (stood 1 3 (shadow 2 2 ∷ []) ∷ stood 2 1 [] ∷ stood 3 0 [] ∷ [])) (steps 3 ∷ steps_for 1 3 ∷ []) (At 1 ∷ At 1 ∷ []) (filled (stood 1 3 (shadow 3 1 ∷ []) ∷ stood 2 1 [] ∷ stood 3 1 [] ∷ []))
unfolding after statement.out-Stmt Carrier.out late_two_reader writer
refill_gives_up = record { told = simp (writer_steps 0 9) refl; ends = simp (writer_steps 0 9) refl }

pub refill_withdraws : Leads (filled (stood 1 3 (shadow 3 1 ∷ []) ∷ stood 2 1 [] ∷ stood 3 1 [] ∷ [])) (withdraws 3 ∷ Show 1 ∷ []) (Leaves None ∷ Looks (stands 3 Runnable ∷ waits_at 2 1 2 Runnable ∷ []) ∷ []) (refilled)
unfolding after statement.out-Stmt Carrier.out late_two_reader writer
refill_withdraws = record { told = simp late_two_reader_steps refl; ends = refl }
