-- The element at a place of a list, and what is found among mapped elements.
use Rattle.std.proofs.Common.{◌≡◌, ℕ, zero, suc, ◌+◌, ◌<◌, Bool, List, [], ◌∷◌, ◌++◌, length, map, find, take, Option, Some, None, refl, ap, arith}
use Rattle.std.specs.Prelude.{slice_get, option_map}
use Rattle.std.specs.List.{AllByRecursion}
use Rattle.std.proofs.lemmas.Bool.{cases_Bool}
use Rattle.forest_model.proofs.Lists.{either}

-- below the length there is an element
pub placed : {X : Type 0} (xs : List X) (i : ℕ) → i < length xs → (x : X) × (slice_get xs i ≡ Some x)
placed [] i h = absurd (omega arith)
placed (x ∷ xs) zero h = (x, refl)
placed (x ∷ xs) (suc i) h = placed xs i (omega arith)

-- what holds of all holds of the one at a place
pub all-placed : {X : Type 0} (P : X → Type 0) (xs : List X) (i : ℕ) (x : X) → slice_get xs i ≡ Some x → AllByRecursion P xs → P x
all-placed P [] i x e all = cc
all-placed P (y ∷ ys) zero x e all = let same : y ≡ x = cc in rw same at all.0
all-placed P (y ∷ ys) (suc i) x e all = all-placed P ys i x e all.1

-- what is found among mapped elements is mapped from what is found
pub find-map : {X Y : Type 0} (test : Y → Bool) (g : X → Y) (xs : List X) → find test (map g xs) ≡ option_map g (find (λ x. test (g x)) xs)
find-map test g [] = refl
find-map test g (x ∷ xs) = either (cases_Bool (test (g x))) (λ e. rw e refl) (λ e. rw e (find-map test g xs))

-- one more element at the end of the first ones
pub take-more : {X : Type 0} (xs : List X) (i : ℕ) (x : X) → slice_get xs i ≡ Some x → take (i + 1) xs ≡ take i xs ++ x ∷ []
take-more [] i x e = cc
take-more (y ∷ ys) zero x e = let same : y ≡ x = cc in rw same refl
take-more (y ∷ ys) (suc i) x e = let next : suc i + 1 ≡ suc (i + 1) = omega arith in rw next (ap (λ zs. y ∷ zs) (take-more ys i x e))

-- what something mapped is, where it is known what was mapped
pub mapped-is : {X Y : Type 0} (g : X → Y) (o : Option X) (x : X) (y : Y) → option_map g o ≡ Some y → o ≡ Some x → y ≡ g x
mapped-is g None x y h e = cc
mapped-is g (Some z) x y h e = cc

-- the element at a place of a list stays there where more follows
pub slice_left : {X : Type 0} (xs ys : List X) (i : ℕ) → i < length xs → slice_get (xs ++ ys) i ≡ slice_get xs i
slice_left [] ys i h = absurd (omega (arith, h))
slice_left (x ∷ xs) ys zero h = refl
slice_left (x ∷ xs) ys (suc i) h = slice_left xs ys i (omega (arith, h))

-- one more element is the last
pub slice_last : {X : Type 0} (xs : List X) (y : X) → slice_get (xs ++ y ∷ []) (length xs) ≡ Some y
slice_last [] y = refl
slice_last (x ∷ xs) y = slice_last xs y
