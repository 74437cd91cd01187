-- A line that is too long.
use Rattle.std.proofs.Common.{◌≡◌, ℕ, ◌<◌, List, length, Err, refl, nat_lt, true, arith}
use Rattle.std.proofs.lemmas.Bool.Decides.{nat_tests}
use Rattle.scc_setup.specs.Opening.{Opening}
use Rattle.table_input.specs.Tables.{after_line}

-- it is refused
pub too_long : (b : Opening) (line : List ℕ) → 8192 < length line → after_line b line ≡ Err 11
unfolding after_line
too_long b line long = let is : nat_lt 8192 (length line) ≡ true = grind (arith, nat_tests) in rw is refl
