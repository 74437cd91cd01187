-- What was appended, however much.
use Rattle.std.specs.Prelude.{◌≡◌, ℕ, List, ◌++◌}

-- a list with more behind it, or with nothing
pub record HasGrown (old new : List ℕ) : Type 0 where
  pub more : List ℕ
  pub is : new ≡ old ++ more
