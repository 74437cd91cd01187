-- A set of lanes as the bits of a number.
use Rattle.std.specs.Prelude.{ℕ, Bool, ◌==◌}
use Rattle.std.specs.Int.{bit_at}

-- the lane is in the set
unfoldable pub has : ℕ → ℕ → Bool
has mask lane = bit_at mask lane == 1
