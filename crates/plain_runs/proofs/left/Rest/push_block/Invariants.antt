use Rattle.std.specs.Prelude.{◌≡◌, ◌++◌, ◌≤◌, drop, length}
use Rattle.plain_runs.proofs.left.Rest.push_block.Given as goal

abbrev pub invariant-loop-at : goal.invariant-loop-at
invariant-loop-at l = (l.at ≤ length l.stmts) × (l.self ≡ drop l.at l.stmts ++ l.fn.self)

abbrev pub decreases-loop-at : goal.decreases-loop-at
decreases-loop-at l = l.at
