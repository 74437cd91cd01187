-- The benches of workers.
use Rattle.std.specs.Prelude.{◌≡◌, ℕ, Option, Some, None}
use Rattle.shadow_forest.specs.Bench.{Benched}

-- the bench has no job, and room for so many items
pub record IsFreeFor (room : Option ℕ) (bench : Benched) : Type 0 where
  pub empty : bench.outside ≡ None
  pub items : room ≡ Some bench.items
