-- Numbers that stay at a greatest one.
use Rattle.std.proofs.Common.{◌≡◌, inl, inr, ℕ, ◌+◌, ◌-◌, ◌*◌, ◌≤◌, min, List, [], ◌∷◌, ap, arith}
use Rattle.std.proofs.lemmas.Bool.{cases_lt}
use Rattle.txn_tokens.specs.Number.{number_from}

-- more digits make no smaller number
pub number_from_grows : (n : ℕ) (bytes : List ℕ) → n ≤ number_from n bytes
number_from_grows n [] = omega arith
number_from_grows n (byte ∷ bytes) = let more = number_from_grows (10 * n + (byte - 48)) bytes in omega arith

-- A number may stay at the greatest one before more digits.
pub number_from-min : (k most : ℕ) (bytes : List ℕ) → min (number_from (min k most) bytes) most ≡ min (number_from k bytes) most
number_from-min k most bytes = elim (cases_lt most k) [
  | inl above ↦ (
      let same : min k most ≡ most = omega arith in
      let one = number_from_grows (min k most) bytes in
      let two = number_from_grows k bytes in
      omega arith)
  | inr below ↦ let same : min k most ≡ k = omega arith in ap (λ n. min (number_from n bytes) most) same
]
