use Rattle.std.proofs.Common.{◌≡◌, ◌≤◌, None}
use Rattle.turn_cell.specs.Passes.{IsOf, seen_by, turns_of, seats_of}
use Rattle.shadow_worker.specs.Worked.{Fits, HasWorked}
use Rattle.shadow_worker.proofs.working.work_turns.Given as goal

abbrev pub invariant-loop-turn : goal.invariant-loop-turn
invariant-loop-turn g l =
    IsOf l.pass l.cell × (seats_of l.pass ≡ seats_of l.fn.pass)
    × HasWorked (seen_by l.fn.pass) (turns_of l.fn.pass) l.turn (seen_by l.pass) (turns_of l.pass)
    × Fits (seen_by l.pass) l.bench × (l.bench.items ≡ l.fn.bench.items) × (l.turn ≡ l.turns → l.bench.outside ≡ None) × (l.fn.steps ≤ l.steps)
