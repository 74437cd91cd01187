-- Lemmas on lists, with nothing of transactions in them.
use Rattle.std.proofs.Common.{◌⊎◌, inl, inr, ◌++◌, ◌≡◌, ℕ, suc, ◌≤◌, Bool, true, ◌||◌, List, [], ◌∷◌, length, map, filter, find, filter_map, Option, Some, refl, ap, arith, max, leb}
use Rattle.std.specs.List.{AllByRecursion, cons_option, list_any}
use Rattle.std.proofs.lemmas.Bool.{cases_Bool, cond_both, leb-true}
use Rattle.forest_model.specs.Choose.{greatest_up_to}

pub either : {A B C : Type 0} → A ⊎ B → (A → C) → (B → C) → C
either (inl a) f g = f a
either (inr b) f g = g b

pub all-append_left : {X : Type 0} (P : X → Type 0) (xs ys : List X) → AllByRecursion P (xs ++ ys) → AllByRecursion P xs
all-append_left P [] ys h = tt
all-append_left P (x ∷ xs) ys h = (h.0, all-append_left P xs ys h.1)

pub all-append_right : {X : Type 0} (P : X → Type 0) (xs ys : List X) → AllByRecursion P (xs ++ ys) → AllByRecursion P ys
all-append_right P [] ys h = h
all-append_right P (x ∷ xs) ys h = all-append_right P xs ys h.1

pub all-append : {X : Type 0} (P : X → Type 0) (xs ys : List X) → AllByRecursion P xs → AllByRecursion P ys → AllByRecursion P (xs ++ ys)
all-append P [] ys g h = h
all-append P (x ∷ xs) ys g h = (g.0, all-append P xs ys g.1 h)

pub all-weaken : {X : Type 0} (P Q : X → Type 0) → ((x : X) → P x → Q x) → (xs : List X) → AllByRecursion P xs → AllByRecursion Q xs
all-weaken P Q f [] h = tt
all-weaken P Q f (x ∷ xs) h = (f x h.0, all-weaken P Q f xs h.1)

pub all-map : {X Y : Type 0} (P : Y → Type 0) (g : X → Y) (xs : List X) → AllByRecursion (λ x. P (g x)) xs → AllByRecursion P (map g xs)
all-map P g [] h = tt
all-map P g (x ∷ xs) h = (h.0, all-map P g xs h.1)

pub all-everywhere : {X : Type 0} (P : X → Type 0) → ((x : X) → P x) → (xs : List X) → AllByRecursion P xs
all-everywhere P f [] = tt
all-everywhere P f (x ∷ xs) = (f x, all-everywhere P f xs)

pub all-both : {X : Type 0} (P Q R : X → Type 0) → ((x : X) → P x → Q x → R x) → (xs : List X) → AllByRecursion P xs → AllByRecursion Q xs → AllByRecursion R xs
all-both P Q R f [] g h = tt
all-both P Q R f (x ∷ xs) g h = (f x g.0 h.0, all-both P Q R f xs g.1 h.1)

pub all-filter : {X : Type 0} (P : X → Type 0) (test : X → Bool) (xs : List X) → AllByRecursion P xs → AllByRecursion P (filter test xs)
all-filter P test [] h = tt
all-filter P test (x ∷ xs) h =
    cond_both (test x) (x ∷ filter test xs) (filter test xs) (AllByRecursion P)
    (λ e. (h.0, all-filter P test xs h.1)) (λ e. all-filter P test xs h.1)

pub filter-passes : {X : Type 0} (test : X → Bool) (xs : List X) → AllByRecursion (λ x. test x ≡ true) (filter test xs)
filter-passes test [] = tt
filter-passes test (x ∷ xs) =
    cond_both (test x) (x ∷ filter test xs) (filter test xs) (AllByRecursion (λ x. test x ≡ true))
    (λ e. (e, filter-passes test xs)) (λ e. filter-passes test xs)

pub map-map : {X Y Z : Type 0} (f : Y → Z) (g : X → Y) (xs : List X) → map f (map g xs) ≡ map (λ x. f (g x)) xs
map-map f g [] = refl
map-map f g (x ∷ xs) = ap (λ ys. f (g x) ∷ ys) (map-map f g xs)

pub map-agree : {X Y : Type 0} (f g : X → Y) (xs : List X) → AllByRecursion (λ x. f x ≡ g x) xs → map f xs ≡ map g xs
map-agree f g [] h = refl
map-agree f g (x ∷ xs) h = rw (h.0, map-agree f g xs h.1) refl

pub filter_map-map : {X Y Z : Type 0} (f : Y → Option Z) (g : X → Y) (xs : List X) → filter_map f (map g xs) ≡ filter_map (λ x. f (g x)) xs
filter_map-map f g [] = refl
filter_map-map f g (x ∷ xs) = ap (cons_option (f (g x))) (filter_map-map f g xs)

pub filter_map-agree : {X Z : Type 0} (f g : X → Option Z) (xs : List X) → AllByRecursion (λ x. f x ≡ g x) xs → filter_map f xs ≡ filter_map g xs
filter_map-agree f g [] h = refl
filter_map-agree f g (x ∷ xs) h = rw (h.0, filter_map-agree f g xs h.1) refl

pub list_any-map : {X Y : Type 0} (test : Y → Bool) (g : X → Y) (xs : List X) → list_any test (map g xs) ≡ list_any (λ x. test (g x)) xs
list_any-map test g [] = refl
list_any-map test g (x ∷ xs) = ap (λ b. test (g x) || b) (list_any-map test g xs)

pub list_any-agree : {X : Type 0} (f g : X → Bool) → ((x : X) → f x ≡ g x) → (xs : List X) → list_any f xs ≡ list_any g xs
list_any-agree f g h [] = refl
list_any-agree f g h (x ∷ xs) = rw (h x, list_any-agree f g h xs) refl

pub find-passes : {X : Type 0} (test : X → Bool) (xs : List X) (x : X) → find test xs ≡ Some x → test x ≡ true
find-passes test [] x h = cc
find-passes test (y ∷ ys) x h =
    either (cases_Bool (test y))
    (λ e. let found : Some y ≡ Some x = rw e at h in let same : y ≡ x = cc in rw same at e)
    (λ e. find-passes test ys x (rw e at h))

pub all-found : {X : Type 0} (P : X → Type 0) (test : X → Bool) (xs : List X) (x : X) → find test xs ≡ Some x → AllByRecursion P xs → P x
all-found P test [] x h all = cc
all-found P test (y ∷ ys) x h all =
    either (cases_Bool (test y))
    (λ e. let found : Some y ≡ Some x = rw e at h in let same : y ≡ x = cc in rw same at all.0)
    (λ e. all-found P test ys x (rw e at h) all.1)

pub greatest_up_to-le : (limit : ℕ) (ns : List ℕ) → greatest_up_to limit ns ≤ limit
greatest_up_to-le limit [] = omega arith
greatest_up_to-le limit (n ∷ ns) =
    cond_both (leb n limit) (max n (greatest_up_to limit ns)) (greatest_up_to limit ns) (λ m. m ≤ limit)
    (λ e. let low : n ≤ limit = leb-true n limit e in omega (arith, greatest_up_to-le limit ns))
    (λ e. greatest_up_to-le limit ns)

pub length-map' : {X Y : Type 0} (g : X → Y) (xs : List X) → length (map g xs) ≡ length xs
length-map' g [] = refl
length-map' g (x ∷ xs) = ap suc (length-map' g xs)
