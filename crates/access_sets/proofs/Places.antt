-- Where halving ends among ascending entries, and what stands there.
use Rattle.std.specs.Prelude.{◌≡◌, ℕ, zero, suc, ◌<◌, ◌≤◌, ℤ, pos, Bool, true, false, if◌then◌else◌, nat_eq, nat_lt, [], ◌∷◌, Some, length, get_or, slice_get}
use Rattle.std.specs.List.Sorted.{IsNonDecreasingBy, IsPartitionPoint}
use Rattle.std.proofs.Common.{refl, ap, ◌∙◌, arith, ltb}
use Rattle.std.proofs.lemmas.List.Sorted.{IsNonDecreasingBy-from_default}
use Rattle.access_sets.specs.Entries.{found, place_of, value_at, AreAscending}
use Rattle.access_sets.proofs.Maps.{Entries, found_below, found_other}

-- more room does no harm
pub ascending_within : (from room more : ℕ) (es : Entries) → room ≤ more → AreAscending from room es → AreAscending from more es
ascending_within from room more [] le h = tt
ascending_within from room more (e ∷ es) le h = (h.0, omega (arith, h.1, le), ascending_within (suc e.0) room more es le h.2)

-- each item is at least the bound from which they ascend
at_least : (from room : ℕ) (es : Entries) (j : ℕ) → AreAscending from room es → j < length es → from ≤ (get_or es j (0, pos 0)).0
at_least from room [] j h lt = absurd (omega arith)
at_least from room (e ∷ es) zero h lt = h.0
at_least from room (e ∷ es) (suc j) h lt = omega (arith, h.0, at_least (suc e.0) room es j h.2 (omega arith))

rise : (from room : ℕ) (es : Entries) (i j : ℕ) → AreAscending from room es → i ≤ j → j < length es → (get_or es i (0, pos 0)).0 ≤ (get_or es j (0, pos 0)).0
rise from room [] i j h le lt = absurd (omega arith)
rise from room (e ∷ es) zero zero h le lt = omega arith
rise from room (e ∷ es) zero (suc j) h le lt = omega (arith, at_least (suc e.0) room es j h.2 (omega arith))
rise from room (e ∷ es) (suc i) zero h le lt = absurd (omega arith)
rise from room (e ∷ es) (suc i) (suc j) h le lt = rise (suc e.0) room es i j h.2 (omega arith) (omega arith)

pub items_rise : (from room : ℕ) (es : Entries) → AreAscending from room es → IsNonDecreasingBy (λ (e : ℕ × ℤ). e.0) es
items_rise from room es h = IsNonDecreasingBy-from_default (λ (e : ℕ × ℤ). e.0) es (0, pos 0) (λ i j le lt. rise from room es i j h le lt)

-- entries whose items are below this one up to here, and not from here on
abbrev pub Parted : Entries → ℕ → ℕ → Type 0
Parted es item i = IsPartitionPoint (λ (e : ℕ × ℤ). ltb e.0 item ≡ true) (λ (e : ℕ × ℤ). ltb e.0 item ≡ false) es i

tail : (e : ℕ × ℤ) (es : Entries) (item i : ℕ) → Parted (e ∷ es) item (suc i) → Parted es item i
tail e es item i h = (λ k d low high. h.0 (suc k) d (omega arith) (omega (arith, high)), λ k d low high. h.1 (suc k) d (omega (arith, low)) (omega (arith, high)))

parted_by : (e : ℕ × ℤ) (es : Entries) (item i : ℕ) (b : Bool) → ltb e.0 item ≡ b → i ≤ length (e ∷ es) → Parted (e ∷ es) item i → ((j : ℕ) → j ≤ length es → Parted es item j → j ≡ place_of es item) → i ≡ (if b then suc (place_of es item) else 0)
parted_by e es item zero true lt le h rest = let not = h.1 0 e (omega arith) (omega arith) in cc
parted_by e es item zero false lt le h rest = refl
parted_by e es item (suc i) true lt le h rest = ap suc (rest i (omega (arith, le)) (tail e es item i h))
parted_by e es item (suc i) false lt le h rest = let is = h.0 0 e (omega arith) (omega arith) in cc

pub parted_is : (es : Entries) (item i : ℕ) → i ≤ length es → Parted es item i → i ≡ place_of es item
parted_is [] item i le h = omega (arith, le)
parted_is (e ∷ es) item i le h = parted_by e es item i (ltb e.0 item) refl le h (parted_is es item)

-- an item's value is that of the entry at its place, where it is of that item
here_by : (from room item : ℕ) (e : ℕ × ℤ) (es : Entries) (b : Bool) → nat_eq e.0 item ≡ b → nat_lt e.0 item ≡ false → AreAscending from room (e ∷ es) → found (e ∷ es) item ≡ value_at (Some e) item
here_by from room item e es true same lt h = rw same refl
here_by from room item e es false same lt h = rw same (found_below es (suc e.0) room item h.2 (grind (arith, lt)))

found_by : (from room item : ℕ) (e : ℕ × ℤ) (es : Entries) (b : Bool) → nat_lt e.0 item ≡ b → AreAscending from room (e ∷ es) → found es item ≡ value_at (slice_get es (place_of es item)) item → found (e ∷ es) item ≡ value_at (slice_get (e ∷ es) (if b then suc (place_of es item) else 0)) item
found_by from room item e es true lt h rest = found_other e es item (grind (arith, lt)) ∙ rest
found_by from room item e es false lt h rest = here_by from room item e es (nat_eq e.0 item) refl lt h

pub found_at : (from room item : ℕ) (es : Entries) → AreAscending from room es → found es item ≡ value_at (slice_get es (place_of es item)) item
found_at from room item [] h = refl
found_at from room item (e ∷ es) h = found_by from room item e es (nat_lt e.0 item) refl h (found_at (suc e.0) room item es h.2)
