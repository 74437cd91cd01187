-- Numbers of a program text.
use Rattle.std.specs.Prelude.{ℕ, ◌+◌, ◌-◌, ◌*◌, ◌^◌, min, List, [], ◌∷◌}

-- the number that digits spell behind those of a number
abbrev pub number_from : ℕ → List ℕ → ℕ
number_from number [] = number
number_from number (digit ∷ digits) = number_from (10 * number + (digit - 48)) digits

-- the number that digits spell
abbrev pub number_of : List ℕ → ℕ
number_of digits = number_from 0 digits

-- the number that digits spell, or the greatest one of 64 bits where it is greater
abbrev pub capped_number : List ℕ → ℕ
capped_number digits = min (number_of digits) (2 ^ 64 - 1)
