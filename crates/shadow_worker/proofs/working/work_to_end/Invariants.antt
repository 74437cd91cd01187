use Rattle.std.proofs.Common.{◌≡◌, ◌≤◌, ℕ}
use Rattle.turn_cell.specs.Passes.{IsOf, seen_by, turns_of, seats_of}
use Rattle.shadow_worker.specs.Worked.{Fits, HasWorked}
use Rattle.shadow_worker.proofs.working.work_to_end.Given as goal

abbrev pub invariant-loop : goal.invariant-loop
invariant-loop g l =
    IsOf l.pass l.cell × (seats_of l.pass ≡ seats_of l.fn.pass)
    × ((n : ℕ) × HasWorked (seen_by l.fn.pass) (turns_of l.fn.pass) n (seen_by l.pass) (turns_of l.pass))
    × Fits (seen_by l.pass) l.bench × (l.bench.items ≡ l.fn.bench.items) × (l.fn.steps ≤ l.steps)
