-- How a batch of the tests may run.
use Rattle.std.specs.Prelude.{◌≤◌, ℕ}

-- as many shadows, lanes and workers as there may be
pub record IsShape (k lanes workers : ℕ) : Type 0 where
  pub least : 1 ≤ k
  pub most : k ≤ 8
  pub some : 1 ≤ lanes
  pub many : lanes ≤ 64
  pub working : 1 ≤ workers
