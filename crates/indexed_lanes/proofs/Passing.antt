-- One more element of a list is passed.
use Rattle.std.proofs.Common.{add-one, ◌≡◌, ℕ, zero, suc, ◌+◌, List, [], ◌∷◌, ◌++◌, filter_map, take, Option, Some, None, ap, ◌∙◌, slice_get}
use Rattle.std.specs.List.{cons_option}
use Rattle.std.proofs.lemmas.List.{append-nil}
use Rattle.std.proofs.lemmas.List.Elements.{filter_map-append}

pub take_more-at : {X : Type 0} (xs : List X) (i : ℕ) (x : X) → slice_get xs i ≡ Some x → take (i + 1) xs ≡ take i xs ++ x ∷ []
take_more-at xs i x is = rw add-one (by_suc xs i x is)
  where
    by_suc : {X : Type 0} (xs : List X) (i : ℕ) (x : X) → slice_get xs i ≡ Some x → take (suc i) xs ≡ take i xs ++ x ∷ []
    by_suc [] i x is = cc
    by_suc (y ∷ ys) zero x is = cc
    by_suc (y ∷ ys) (suc i) x is = ap (λ zs. y ∷ zs) (by_suc ys i x is)

pub filter_map_more-at : {X Y : Type 0} (h : X → Option Y) (xs : List X) (i : ℕ) (x : X) → slice_get xs i ≡ Some x
    → filter_map h (take (i + 1) xs) ≡ filter_map h (take i xs) ++ cons_option (h x) []
filter_map_more-at h xs i x is = rw (take_more-at xs i x is) (filter_map-append h (take i xs) (x ∷ []))

pub filter_map_more-none : {X Y : Type 0} (h : X → Option Y) (xs : List X) (i : ℕ) (x : X) → slice_get xs i ≡ Some x → h x ≡ None
    → filter_map h (take (i + 1) xs) ≡ filter_map h (take i xs)
filter_map_more-none h xs i x is e = filter_map_more-at h xs i x is ∙ ap (λ o. filter_map h (take i xs) ++ cons_option o []) e ∙ append-nil (filter_map h (take i xs))

pub filter_map_more-some : {X Y : Type 0} (h : X → Option Y) (xs : List X) (i : ℕ) (x : X) (y : Y) → slice_get xs i ≡ Some x → h x ≡ Some y
    → filter_map h (take (i + 1) xs) ≡ filter_map h (take i xs) ++ y ∷ []
filter_map_more-some h xs i x y is e = filter_map_more-at h xs i x is ∙ ap (λ o. filter_map h (take i xs) ++ cons_option o []) e
