-- Laws of a list with one element changed.
use Rattle.std.specs.Prelude.{◌≡◌, ◌≢◌, ◌<◌, ℕ, zero, suc, List, [], ◌∷◌, ◌++◌, length, get_or, slice_get, slice_set, Some}
use Rattle.std.proofs.Common.{refl, sym, ap, subst, arith, ◌∙◌}
use Rattle.std.proofs.lemmas.Option.{slice_get-get_or}
use Rattle.std.specs.List.{AllByRecursion}
use Rattle.shadow_state.specs.Bank.{at_place}

-- an element at a place is there
pub get_at : {A : Type 0} (xs : List A) (n : ℕ) (x : A) → n < length xs → x ≡ get_or xs n x → slice_get xs n ≡ Some x
get_at xs n x lt is = slice_get-get_or xs n x lt ∙ ap (λ y. Some y) (sym is)

-- the element at a place within the list
pub some_at : {A : Type 0} (xs : List A) (n : ℕ) → n < length xs → (x : A) × (slice_get xs n ≡ Some x)
some_at [] n lt = absurd (omega (arith, lt))
some_at (y ∷ ys) zero lt = (y, refl)
some_at (y ∷ ys) (suc n) lt = some_at ys n (omega (arith, lt))

pub length_at : {A : Type 0} (n : ℕ) (f : A → A) (xs : List A) → length (at_place n f xs) ≡ length xs
length_at n f [] = refl
length_at zero f (x ∷ xs) = refl
length_at (suc n) f (x ∷ xs) = ap suc (length_at n f xs)

-- setting a place changes it to what is set
pub set_at : {A : Type 0} (xs : List A) (n : ℕ) (x y : A) (f : A → A) → slice_get xs n ≡ Some x → y ≡ f x → slice_set xs n y ≡ at_place n f xs
set_at [] n x y f is e = cc
set_at (z ∷ zs) zero x y f is e = let same : z ≡ x = cc in λ i. (e ∙ ap f (sym same)) i ∷ zs
set_at (z ∷ zs) (suc n) x y f is e = ap (λ rest. z ∷ rest) (set_at zs n x y f is e)

-- what the changed list has at the place, and at any other
pub get_same : {A : Type 0} (n : ℕ) (f : A → A) (xs : List A) (x : A) → slice_get xs n ≡ Some x → slice_get (at_place n f xs) n ≡ Some (f x)
get_same n f [] x is = cc
get_same zero f (y ∷ ys) x is = let same : y ≡ x = cc in ap (λ z. Some (f z)) same
get_same (suc n) f (y ∷ ys) x is = get_same n f ys x is

pub get_other : {A : Type 0} (n m : ℕ) (f : A → A) (xs : List A) → m ≢ n → slice_get (at_place n f xs) m ≡ slice_get xs m
get_other n m f [] ne = refl
get_other zero zero f (y ∷ ys) ne = absurd (ne refl)
get_other zero (suc m) f (y ∷ ys) ne = refl
get_other (suc n) zero f (y ∷ ys) ne = refl
get_other (suc n) (suc m) f (y ∷ ys) ne = get_other n m f ys (λ e. ne (ap suc e))

-- two changes of one place are one
pub at_twice : {A : Type 0} (n : ℕ) (f g : A → A) (xs : List A) → at_place n f (at_place n g xs) ≡ at_place n (λ x. f (g x)) xs
at_twice n f g [] = refl
at_twice zero f g (x ∷ xs) = refl
at_twice (suc n) f g (x ∷ xs) = ap (λ rest. x ∷ rest) (at_twice n f g xs)

-- two changes that make the same of the element are one
pub at_alike : {A : Type 0} (n : ℕ) (f g : A → A) (xs : List A) (x : A) → slice_get xs n ≡ Some x → f x ≡ g x → at_place n f xs ≡ at_place n g xs
at_alike n f g [] x is e = refl
at_alike zero f g (y ∷ ys) x is e = let same : y ≡ x = cc in λ i. (ap f same ∙ e ∙ ap g (sym same)) i ∷ ys
at_alike (suc n) f g (y ∷ ys) x is e = ap (λ rest. y ∷ rest) (at_alike n f g ys x is e)

-- what holds of each element holds of the one at a place
pub all_get : {A : Type 0} (P : A → Type 0) (xs : List A) (n : ℕ) (x : A) → AllByRecursion P xs → slice_get xs n ≡ Some x → P x
all_get P [] n x all is = cc
all_get P (y ∷ ys) zero x all is = let same : y ≡ x = cc in subst P same all.0
all_get P (y ∷ ys) (suc n) x all is = all_get P ys n x all.1 is

-- and of each after a change that keeps it at the one that changes
pub all_at : {A : Type 0} (P : A → Type 0) (n : ℕ) (f : A → A) (xs : List A) → ((x : A) → slice_get xs n ≡ Some x → P x → P (f x)) → AllByRecursion P xs → AllByRecursion P (at_place n f xs)
all_at P n f [] keeps all = all
all_at P zero f (x ∷ xs) keeps all = (keeps x refl all.0, all.1)
all_at P (suc n) f (x ∷ xs) keeps all = (all.0, all_at P n f xs keeps all.1)

-- or after an element was set
pub all_set : {A : Type 0} (P : A → Type 0) (xs : List A) (n : ℕ) (x : A) → P x → AllByRecursion P xs → AllByRecursion P (slice_set xs n x)
all_set P [] n x here all = all
all_set P (y ∷ ys) zero x here all = (here, all.1)
all_set P (y ∷ ys) (suc n) x here all = (all.0, all_set P ys n x here all.1)

-- and of each that is put behind
pub all_more : {A : Type 0} (P : A → Type 0) (xs : List A) (x : A) → AllByRecursion P xs → P x → AllByRecursion P (xs ++ x ∷ [])
all_more P [] x all here = (here, tt)
all_more P (y ∷ ys) x all here = (all.0, all_more P ys x all.1 here)

-- setting what is there changes nothing
pub set_kept : {A : Type 0} (xs : List A) (n : ℕ) (x : A) → slice_get xs n ≡ Some x → slice_set xs n x ≡ xs
set_kept [] n x is = cc
set_kept (y ∷ ys) zero x is = let same : y ≡ x = cc in λ i. sym same i ∷ ys
set_kept (y ∷ ys) (suc n) x is = ap (λ rest. y ∷ rest) (set_kept ys n x is)
