-- Lists by places: an element read or changed at one, and a change of each element from the left.
use Rattle.std.proofs.Common.{add-one, ◌≡◌, ℕ, zero, suc, ◌+◌, ◌<◌, ◌≤◌, List, [], ◌∷◌, ◌++◌, length, map, filter_map, take, drop, Option, Some, option_map, refl, ap, sym, ◌∙◌, arith, slice_get}
use Rattle.std.specs.List.{AllByRecursion}
use Rattle.shadow_state.specs.Bank.{at_place}

-- Reading.

-- there is an element at each place below the length
pub slice_get-some : {X : Type 0} (xs : List X) (i : ℕ) → i < length xs → (x : X) × (slice_get xs i ≡ Some x)
slice_get-some [] i lt = absurd (omega arith)
slice_get-some (x ∷ xs) zero lt = (x, refl)
slice_get-some (x ∷ xs) (suc i) lt = slice_get-some xs i (omega arith)

pub option_map-some : {X Y : Type 0} (f : X → Y) (o : Option X) (x : X) (y : Y) → o ≡ Some x → option_map f o ≡ Some y → f x ≡ y
option_map-some f o x y is e = let there : Some (f x) ≡ Some y = rw is at e in cc

pub all-at : {X : Type 0} (P : X → Type 0) (xs : List X) (i : ℕ) (x : X) → slice_get xs i ≡ Some x → AllByRecursion P xs → P x
all-at P [] i x is all = cc
all-at P (y ∷ ys) zero x is all = let same : y ≡ x = cc in rw same at all.0
all-at P (y ∷ ys) (suc i) x is all = all-at P ys i x is all.1

-- An element changed.

pub length-at_place : {X : Type 0} (n : ℕ) (f : X → X) (xs : List X) → length (at_place n f xs) ≡ length xs
length-at_place n f [] = refl
length-at_place zero f (x ∷ xs) = refl
length-at_place (suc n) f (x ∷ xs) = ap suc (length-at_place n f xs)

pub slice_get-at_place_same : {X : Type 0} (n : ℕ) (f : X → X) (xs : List X) (x : X) → slice_get xs n ≡ Some x → slice_get (at_place n f xs) n ≡ Some (f x)
slice_get-at_place_same n f [] x is = cc
slice_get-at_place_same zero f (y ∷ ys) x is = let same : y ≡ x = cc in rw same refl
slice_get-at_place_same (suc n) f (y ∷ ys) x is = slice_get-at_place_same n f ys x is

-- two changes that agree on the element that is there
pub at_place-agree : {X : Type 0} (n : ℕ) (f g : X → X) (xs : List X) (x : X) → slice_get xs n ≡ Some x → f x ≡ g x → at_place n f xs ≡ at_place n g xs
at_place-agree n f g [] x is e = refl
at_place-agree zero f g (y ∷ ys) x is e = let same : y ≡ x = cc in rw same (ap (λ z. z ∷ ys) e)
at_place-agree (suc n) f g (y ∷ ys) x is e = ap (λ zs. y ∷ zs) (at_place-agree n f g ys x is e)

-- a change that leaves the element that is there
pub at_place-still : {X : Type 0} (n : ℕ) (f : X → X) (xs : List X) (x : X) → slice_get xs n ≡ Some x → f x ≡ x → at_place n f xs ≡ xs
at_place-still n f [] x is e = refl
at_place-still zero f (y ∷ ys) x is e = let same : y ≡ x = cc in rw same (ap (λ z. z ∷ ys) e)
at_place-still (suc n) f (y ∷ ys) x is e = ap (λ zs. y ∷ zs) (at_place-still n f ys x is e)

-- Each element changed, from the left.

-- the first i are changed
abbrev pub so_far : {X : Type 0} → (X → X) → ℕ → List X → List X
so_far f i xs = map f (take i xs) ++ drop i xs

pub so_far-all : {X : Type 0} (f : X → X) (i : ℕ) (xs : List X) → length xs ≤ i → so_far f i xs ≡ map f xs
so_far-all f zero [] le = refl
so_far-all f (suc i) [] le = refl
so_far-all f zero (x ∷ xs) le = absurd (omega arith)
so_far-all f (suc i) (x ∷ xs) le = ap (λ zs. f x ∷ zs) (so_far-all f i xs (omega arith))

-- the element at the place that is next is as it was
pub slice_get-so_far : {X : Type 0} (f : X → X) (i : ℕ) (xs : List X) → slice_get (so_far f i xs) i ≡ slice_get xs i
slice_get-so_far f zero xs = refl
slice_get-so_far f (suc i) [] = refl
slice_get-so_far f (suc i) (x ∷ xs) = slice_get-so_far f i xs

-- an element that the change leaves is as it was everywhere
pub slice_get-so_far_still : {X : Type 0} (f : X → X) (i n : ℕ) (xs : List X) (x : X) → slice_get xs n ≡ Some x → f x ≡ x → slice_get (so_far f i xs) n ≡ Some x
slice_get-so_far_still f zero n xs x is e = is
slice_get-so_far_still f (suc i) n [] x is e = cc
slice_get-so_far_still f (suc i) zero (y ∷ ys) x is e = let same : y ≡ x = cc in rw same (ap Some e)
slice_get-so_far_still f (suc i) (suc n) (y ∷ ys) x is e = slice_get-so_far_still f i n ys x is e

-- the next is changed
pub so_far_more : {X : Type 0} (f : X → X) (i : ℕ) (xs : List X) → at_place i f (so_far f i xs) ≡ so_far f (i + 1) xs
so_far_more f i xs = rw add-one (by_suc f i xs)
  where
    by_suc : {X : Type 0} (f : X → X) (i : ℕ) (xs : List X) → at_place i f (so_far f i xs) ≡ so_far f (suc i) xs
    by_suc f zero [] = refl
    by_suc f (suc i) [] = refl
    by_suc f zero (x ∷ xs) = refl
    by_suc f (suc i) (x ∷ xs) = ap (λ zs. f x ∷ zs) (by_suc f i xs)

-- the next is changed as the change says of the element there
pub so_far_more-at : {X : Type 0} (f g : X → X) (i : ℕ) (xs : List X) (x : X) → slice_get xs i ≡ Some x → g x ≡ f x → at_place i g (so_far f i xs) ≡ so_far f (i + 1) xs
so_far_more-at f g i xs x is e = at_place-agree i g f (so_far f i xs) x (slice_get-so_far f i xs ∙ is) e ∙ so_far_more f i xs

-- the next is one that the change leaves
pub so_far_more-still : {X : Type 0} (f : X → X) (i : ℕ) (xs : List X) (x : X) → slice_get xs i ≡ Some x → f x ≡ x → so_far f i xs ≡ so_far f (i + 1) xs
so_far_more-still f i xs x is e = sym (at_place-still i f (so_far f i xs) x (slice_get-so_far f i xs ∙ is) e) ∙ so_far_more f i xs

-- what reads the same of a changed element
pub filter_map-so_far : {X Y : Type 0} (h : X → Option Y) (f : X → X) → ((x : X) → h (f x) ≡ h x) → (i : ℕ) (xs : List X) → filter_map h (so_far f i xs) ≡ filter_map h xs
filter_map-so_far h f same zero xs = refl
filter_map-so_far h f same (suc i) [] = refl
filter_map-so_far h f same (suc i) (x ∷ xs) = rw (same x, filter_map-so_far h f same i xs) refl
