-- Fields of rows.
use Rattle.std.proofs.Common.{◌≡◌, ℕ, zero, suc, List, [], ◌∷◌, Some, None, refl, arith, length, get_or}
use Rattle.csv.specs.Records.{field_at}

-- a field by its place
pub field-found : (fields : List (List ℕ)) (place : ℕ) (field : List ℕ) → Some field ≡ field_at fields place → field ≡ get_or fields place []
unfolding field_at
field-found [] place field is = cc
field-found (f ∷ fields) zero field is = cc
field-found (f ∷ fields) (suc place) field is = field-found fields place field is

pub field-none : (fields : List (List ℕ)) (place : ℕ) → None ≡ field_at fields place → [] ≡ get_or fields place []
unfolding field_at
field-none [] place is = refl
field-none (f ∷ fields) zero is = cc
field-none (f ∷ fields) (suc place) is = field-none fields place is

-- four fields
pub four : (fields : List (List ℕ)) → length fields ≡ 4 → fields ≡ get_or fields 0 [] ∷ get_or fields 1 [] ∷ get_or fields 2 [] ∷ get_or fields 3 [] ∷ []
four [] is = absurd (omega (arith, is))
four (a ∷ []) is = absurd (omega (arith, is))
four (a ∷ b ∷ []) is = absurd (omega (arith, is))
four (a ∷ b ∷ c ∷ []) is = absurd (omega (arith, is))
four (a ∷ b ∷ c ∷ d ∷ []) is = refl
four (a ∷ b ∷ c ∷ d ∷ e ∷ more) is = absurd (omega (arith, is))
