-- Laws of lists: one element more or fewer, and what a function makes of them.
use Rattle.std.specs.Prelude.{◌≡◌, ◌≤◌, ℕ, zero, suc, Bool, true, false, if◌then◌else◌, List, [], ◌∷◌, ◌++◌, length, map, filter, take, insert, remove, slice_get, slice_set, Option, None, Some, option_map, Result, Ok, Err, IsOk, is_ok}
use Rattle.std.proofs.Common.{refl, sym, ap, subst, arith, ◌∙◌}
use Rattle.std.proofs.Math.Seq.{take-suc}
use Rattle.std.proofs.lemmas.List.{append-nil}
use Rattle.std.proofs.lemmas.List.Elements.{filter-append}
use Rattle.std.proofs.lemmas.Option.{slice_get-map, slice_get_within, get_or_from_slice_get}
use Rattle.std.specs.List.{AllByRecursion}

-- what is at a place of what a function makes
pub get_map : {A B : Type 0} (g : A → B) (xs : List A) (i : ℕ) (x : A) → slice_get xs i ≡ Some x → slice_get (map g xs) i ≡ Some (g x)
get_map g xs i x is = slice_get-map g xs i ∙ ap (option_map g) is

-- what is found where a function of the element is known
pub got_map : {A B : Type 0} (g : A → B) (o : Option A) (x : A) (y : B) → o ≡ Some x → option_map g o ≡ Some y → y ≡ g x
got_map g None x y is e = cc
got_map g (Some z) x y is e = let same : z ≡ x = cc in (let at : y ≡ g z = cc in at) ∙ ap g same

pub take_next : {A : Type 0} (xs : List A) (i : ℕ) (x : A) → slice_get xs i ≡ Some x → take (suc i) xs ≡ take i xs ++ x ∷ []
take_next xs i x is = take-suc xs i x (slice_get_within xs i x is) ∙ ap (λ y. take i xs ++ y ∷ []) (get_or_from_slice_get xs i x x is)

pub map_set : {A B : Type 0} (g : A → B) (xs : List A) (n : ℕ) (x y : A) → slice_get xs n ≡ Some x → g y ≡ g x → map g (slice_set xs n y) ≡ map g xs
map_set g [] n x y is e = cc
map_set g (z ∷ xs) zero x y is e = let same : z ≡ x = cc in λ i. (e ∙ ap g (sym same)) i ∷ map g xs
map_set g (z ∷ xs) (suc n) x y is e = ap (λ rest. g z ∷ rest) (map_set g xs n x y is e)

-- what holds of each and of what comes holds of all then
pub all_insert : {A : Type 0} (P : A → Type 0) (xs : List A) (i : ℕ) (x : A) → i ≤ length xs → AllByRecursion P xs → P x → AllByRecursion P (insert xs i x)
all_insert P [] zero x le all new = (new, tt)
all_insert P [] (suc i) x le all new = absurd (omega (arith, le))
all_insert P (y ∷ xs) zero x le all new = (new, all)
all_insert P (y ∷ xs) (suc i) x le all new = (all.0, all_insert P xs i x (omega (arith, le)) all.1 new)

pub map_insert : {A B : Type 0} (g : A → B) (xs : List A) (i : ℕ) (x : A) → i ≤ length xs → map g (insert xs i x) ≡ insert (map g xs) i (g x)
map_insert g [] zero x le = refl
map_insert g [] (suc i) x le = absurd (omega (arith, le))
map_insert g (y ∷ xs) zero x le = refl
map_insert g (y ∷ xs) (suc i) x le = ap (λ rest. g y ∷ rest) (map_insert g xs i x (omega (arith, le)))

pub none_left : {A : Type 0} (i : ℕ) → remove {X = A} [] i ≡ []
none_left zero = refl
none_left (suc i) = refl

pub all_remove : {A : Type 0} (P : A → Type 0) (xs : List A) (i : ℕ) → AllByRecursion P xs → AllByRecursion P (remove xs i)
all_remove P [] i all = subst (AllByRecursion P) (sym (none_left i)) all
all_remove P (y ∷ xs) zero all = all.1
all_remove P (y ∷ xs) (suc i) all = (all.0, all_remove P xs i all.1)

pub map_remove : {A B : Type 0} (g : A → B) (xs : List A) (i : ℕ) → map g (remove xs i) ≡ remove (map g xs) i
map_remove g [] i = ap (map g) (none_left i) ∙ sym (none_left i)
map_remove g (y ∷ xs) zero = refl
map_remove g (y ∷ xs) (suc i) = ap (λ rest. g y ∷ rest) (map_remove g xs i)

pub all_last : {A : Type 0} (P : A → Type 0) (xs : List A) (x : A) → AllByRecursion P (xs ++ x ∷ []) → AllByRecursion P xs × P x
all_last P [] x all = (tt, all.0)
all_last P (y ∷ xs) x all = let rest = all_last P xs x all.1 in ((all.0, rest.0), rest.1)

-- one more that passes, or doesn't
pub filter_more : {A : Type 0} (p : A → Bool) (xs : List A) (x : A) → p x ≡ true → filter p (xs ++ x ∷ []) ≡ filter p xs ++ x ∷ []
filter_more p xs x is = filter-append p xs (x ∷ []) ∙ ap (λ b. filter p xs ++ (if b then x ∷ [] else [])) is

pub filter_same : {A : Type 0} (p : A → Bool) (xs : List A) (x : A) → p x ≡ false → filter p (xs ++ x ∷ []) ≡ filter p xs
filter_same p xs x is = filter-append p xs (x ∷ []) ∙ ap (λ b. filter p xs ++ (if b then x ∷ [] else [])) is ∙ append-nil (filter p xs)

few_by : {A : Type 0} (b : Bool) (y : A) (xs : List A) (n : ℕ) → length xs ≤ n → length (if b then y ∷ xs else xs) ≤ suc n
few_by true y xs n le = omega (arith, le)
few_by false y xs n le = omega (arith, le)

pub filter_few : {A : Type 0} (p : A → Bool) (xs : List A) → length (filter p xs) ≤ length xs
filter_few p [] = omega arith
filter_few p (y ∷ xs) = few_by (p y) y (filter p xs) (length xs) (filter_few p xs)

all_by : {A : Type 0} (P : A → Type 0) (b : Bool) (y : A) (xs : List A) → P y → AllByRecursion P xs → AllByRecursion P (if b then y ∷ xs else xs)
all_by P true y xs here all = (here, all)
all_by P false y xs here all = all

pub all_filter : {A : Type 0} (P : A → Type 0) (p : A → Bool) (xs : List A) → AllByRecursion P xs → AllByRecursion P (filter p xs)
all_filter P p [] all = tt
all_filter P p (y ∷ xs) all = all_by P (p y) y (filter p xs) all.0 (all_filter P p xs all.1)

-- what an insertion that found room leaves
pub inserted : {A E : Type 0} (r : Result (Unit {0}) E) (old new more : List A) → new ≡ (if is_ok r then more else old) → IsOk r → new ≡ more
inserted (Ok u) old new more is ok = is
inserted (Err e) old new more is ok = cc
