-- What is in a set of lanes after a change.
use Rattle.std.proofs.Common.{◌≡◌, ◌≢◌, ℕ, ◌*◌, ◌%◌, ◌^◌, ◌<◌, ◌≤◌, max, true, false, cond, not, ◌↔◌, ◌||◌, ◌==◌, sym, ap, ◌∙◌, arith, ◌⊎◌, inl, inr, bit_and, bit_or, w64}
use Rattle.std.specs.Int.{bit_at, bit_not, trailing_zeros}
use Rattle.std.proofs.lemmas.Bool.{cases_eq, both_ways, cases_lt, cases_order, eqb-true, eq-eqb, ne_eqb}
use Rattle.std.proofs.lemmas.Bool.Decides.{nat_tests}
use Rattle.std.proofs.lemmas.Nat.{and_le_l}
use Rattle.std.proofs.lemmas.Nat.Bits.{bit_at-zero, bit_at-trailing_zeros, bit_at_or, bit_at-lt, bit_at_above, bit_at_set_same, bit_at_set_other, bit_at_clear_same, bit_at_clear_other}
use Rattle.conflict_index.specs.Masks.{has}

pub has-bits : (m n i : ℕ) → bit_at m i ≡ bit_at n i → has m i ≡ has n i
unfolding has
has-bits m n i e = ap (λ b. b == 1) e

pub has-one : (m i : ℕ) → bit_at m i ≡ 1 → has m i ≡ true
unfolding has
has-one m i e = ap (λ b. b == 1) e

pub has-zero : (m i : ℕ) → bit_at m i ≡ 0 → has m i ≡ false
unfolding has
has-zero m i e = ap (λ b. b == 1) e

pub one-has : (m i : ℕ) → has m i ≡ true → bit_at m i ≡ 1
unfolding has
one-has m i e = eqb-true (bit_at m i) 1 e

-- the empty set
pub has-none : (i : ℕ) → has 0 i ≡ false
has-none i = has-zero 0 i (bit_at-zero i)

-- a set that isn't empty has a lane
pub some-lane : (m : ℕ) → m ≢ 0 → m < 2 ^ 64 → (i : ℕ) × (has m i ≡ true)
some-lane m n l = (trailing_zeros w64 m, has-one m _ (bit_at-trailing_zeros w64 m (omega arith) l).1)

-- the test for a set that isn't empty
pub is-some : (m : ℕ) → (not (m == 0) ≡ true) ↔ (m ≢ 0)
is-some m = go (cases_eq m 0)
  where
    go : (m ≡ 0) ⊎ (m ≢ 0) → (not (m == 0) ≡ true) ↔ (m ≢ 0)
    go (inl e) = ((λ h _. both_ways (not (m == 0)) (ap not (eq-eqb m 0 e)) h), λ n. absurd (n e))
    go (inr n) = ((λ _. n), λ _. ap not (ne_eqb m 0 n))

pub has-with : (m k i : ℕ) → k < 64 → has (bit_or m (1 * 2 ^ k % 2 ^ 64)) i ≡ cond (i == k) true (has m i)
has-with m k i h = go (cases_eq i k)
  where
    go : (i ≡ k) ⊎ (i ≢ k) → has (bit_or m (1 * 2 ^ k % 2 ^ 64)) i ≡ cond (i == k) true (has m i)
    go (inl e) = has-one _ i (rw e (bit_at_set_same w64 m k h)) ∙ sym (ap (λ t. cond t true (has m i)) (eq-eqb i k e))
    go (inr n) = has-bits _ m i (bit_at_set_other w64 m k h i n) ∙ sym (ap (λ t. cond t true (has m i)) (ne_eqb i k n))

pub has-without : (m k i : ℕ) → k < 64 → m < 2 ^ 64 → has (bit_and m (bit_not w64 (1 * 2 ^ k % 2 ^ 64))) i ≡ cond (i == k) false (has m i)
has-without m k i h small = go (cases_eq i k) (cases_lt i 64)
  where
    go : (i ≡ k) ⊎ (i ≢ k) → (i < 64) ⊎ (64 ≤ i) → has (bit_and m (bit_not w64 (1 * 2 ^ k % 2 ^ 64))) i ≡ cond (i == k) false (has m i)
    go (inl e) _ = has-zero _ i (rw e (bit_at_clear_same w64 m k h)) ∙ sym (ap (λ t. cond t false (has m i)) (eq-eqb i k e))
    go (inr n) (inl l) = has-bits _ m i (bit_at_clear_other w64 m k h i l n) ∙ sym (ap (λ t. cond t false (has m i)) (ne_eqb i k n))
    go (inr n) (inr g) =
        let below : bit_and m (bit_not w64 (1 * 2 ^ k % 2 ^ 64)) < 2 ^ 64 = omega (arith, and_le_l m (bit_not w64 (1 * 2 ^ k % 2 ^ 64))) in
        has-bits _ m i (bit_at_above _ 64 i below g ∙ sym (bit_at_above m 64 i small g)) ∙ sym (ap (λ t. cond t false (has m i)) (ne_eqb i k n))

-- a set without one of its lanes is a smaller number
pub without-smaller : (m k : ℕ) → k < 64 → has m k ≡ true → bit_and m (bit_not w64 (1 * 2 ^ k % 2 ^ 64)) < m
without-smaller m k h e = go (cases_order (bit_and m (bit_not w64 (1 * 2 ^ k % 2 ^ 64))) m)
  where
    go : (bit_and m (bit_not w64 (1 * 2 ^ k % 2 ^ 64)) ≡ m) ⊎ ((bit_and m (bit_not w64 (1 * 2 ^ k % 2 ^ 64)) < m) ⊎ (m < bit_and m (bit_not w64 (1 * 2 ^ k % 2 ^ 64)))) → bit_and m (bit_not w64 (1 * 2 ^ k % 2 ^ 64)) < m
    go (inl q) =
        let one = one-has m k e in
        let none : bit_at m k ≡ 0 = ap (λ n. bit_at n k) (sym q) ∙ bit_at_clear_same w64 m k h in
        let clash : 1 ≡ 0 = sym one ∙ none in
        omega (arith, clash)
    go (inr (inl l)) = l
    go (inr (inr g)) = omega (arith, and_le_l m (bit_not w64 (1 * 2 ^ k % 2 ^ 64)))

or-bits : (a b : ℕ) → a < 2 → b < 2 → (max a b == 1) ≡ ((a == 1) || (b == 1))
or-bits a b p q = grind (arith, nat_tests)

pub has-union : (a b i : ℕ) → has (bit_or a b) i ≡ (has a i || has b i)
unfolding has
has-union a b i = ap (λ n. n == 1) (bit_at_or a b i) ∙ or-bits (bit_at a i) (bit_at b i) (bit_at-lt a i) (bit_at-lt b i)
