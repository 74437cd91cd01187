-- Short words for worked histories.
use Rattle.std.specs.Prelude.{ℕ, pos, [], ◌∷◌, Some, None}
use Rattle.txn_runs.specs.Run.{Tables}
use Rattle.txn_runs.specs.declared.program.Program.{Program}
use Rattle.block_rule.specs.declared.role.Role.TheVariants.{Optimistic, Guard}
use Rattle.block_rule.specs.declared.standing.Standing.{Standing}
use Rattle.forest_model.specs.World.{Begin, Step, Commit, Withdraw}
use Rattle.forest_model.specs.Told.{Look, Line, Happens}

-- four items, of which the first two are these
abbrev pub items : ℕ → ℕ → Tables
items one other = pos one ∷ pos other ∷ pos 0 ∷ pos 0 ∷ []

-- a program begins
abbrev pub begins : Program → ℕ → Line
begins p deadline = Happens (Begin p deadline)

-- the optimistic shadow of t makes a step
abbrev pub steps : ℕ → Line
steps t = Happens (Step t Optimistic)

-- the shadow of t that waits for u makes a step
abbrev pub steps_for : ℕ → ℕ → Line
steps_for t u = Happens (Step t (Guard u))

-- t is committed
abbrev pub commits : ℕ → Line
commits t = Happens (Commit t)

-- t is withdrawn
abbrev pub withdraws : ℕ → Line
withdraws t = Happens (Withdraw t)

-- the optimistic shadow stands here
abbrev pub stands : ℕ → Standing → Look
stands position standing = (Optimistic, (position, (None, standing)))

-- the shadow that waits for u stands here, and has this point
abbrev pub waits_at : ℕ → ℕ → ℕ → Standing → Look
waits_at u position point standing = (Guard u, (position, (Some point, standing)))
