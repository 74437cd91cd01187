-- Whether a shadow may make a step.
use Rattle.std.specs.Prelude.{ℕ, Bool, true, false, nat_lt, if◌then◌else◌, Option, Some, None, is_some}
use Rattle.block_rule.specs.declared.role.Role.{Role}
use Rattle.block_rule.specs.declared.role.Role.TheVariants.{Optimistic, Guard}
use Rattle.block_rule.specs.declared.standing.Standing.{Standing}
use Rattle.block_rule.specs.declared.standing.Standing.TheVariants.{Runnable, Blocked, Ended}

-- an optimistic shadow may step until its run has ended
abbrev pub unless_ended : Bool → Standing
unless_ended ended = if ended then Ended else Runnable

-- a shadow that waits for its guard may step until it stands at its point
abbrev pub up_to_point : ℕ → ℕ → Standing
up_to_point position point = if nat_lt position point then Runnable else Blocked

abbrev pub up_to : ℕ → Option ℕ → Standing
up_to position None = Runnable
up_to position (Some point) = up_to_point position point

abbrev pub standing : Role → ℕ → Option ℕ → Bool → Standing
standing Optimistic position point ended = unless_ended ended
standing (Guard u) position point ended = up_to position point

-- a guard's shadow has its point
abbrev pub has_point : Role → Option ℕ → Bool
has_point Optimistic point = true
has_point (Guard u) point = is_some point

abbrev pub is_runnable : Standing → Bool
is_runnable Runnable = true
is_runnable Blocked = false
is_runnable Ended = false
