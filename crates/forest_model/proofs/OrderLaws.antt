-- Elements put in order are the same elements, and none is before the one in front of it.
use Rattle.std.proofs.Common.{◌≡◌, ℕ, zero, suc, ◌+◌, ◌-◌, ◌<◌, Bool, false, List, [], ◌∷◌, ◌++◌, length, drop, min, fold, get_or, ap, subst, ◌∙◌, arith, append-nil, take-append-drop}
use Rattle.std.specs.Cmp.{IsStrictWeakOrder}
use Rattle.std.specs.List.{AllByRecursion}
use Rattle.std.specs.List.Sorted.{IsPermutation, IsSortedBy}
use Rattle.std.proofs.lemmas.Bool.{cond_both}
use Rattle.std.proofs.lemmas.Bool.Decides.{nat_tests}
use Rattle.std.proofs.lemmas.List.{length-take}
use Rattle.std.proofs.lemmas.List.Sorted.{length_permutation, IsPermutation-refl, IsPermutation-cons, IsPermutation-trans, IsPermutation-append_left, IsPermutation-append_comm, IsPermutation-middle}
use Rattle.forest_model.specs.Choose.{put_in_order, in_order}
use Rattle.forest_model.specs.Point.{Conflict, is_sooner, wanted_of}
use Rattle.forest_model.proofs.Lists.{all-weaken}
use Rattle.forest_model.proofs.StartedLaws.{all-put}

-- The same elements.

put-moves : {X : Type 0} (before : X → X → Bool) (x : X) (xs : List X) → IsPermutation (x ∷ xs) (put_in_order before x xs)
put-moves before x [] = IsPermutation-refl (x ∷ [])
put-moves before x (y ∷ ys) =
    cond_both (before y x) (y ∷ put_in_order before x ys) (x ∷ y ∷ ys) (IsPermutation (x ∷ y ∷ ys))
    (λ e. IsPermutation-trans _ (y ∷ x ∷ ys) _
    (IsPermutation-append_left ys (x ∷ y ∷ []) (y ∷ x ∷ []) (IsPermutation-append_comm (x ∷ []) (y ∷ [])))
    (IsPermutation-cons y (x ∷ ys) (put_in_order before x ys) (put-moves before x ys)))
    (λ e. IsPermutation-refl (x ∷ y ∷ ys))

fold-moves : {X : Type 0} (before : X → X → Bool) (done xs : List X) → IsPermutation (done ++ xs) (fold (λ done x. put_in_order before x done) done xs)
fold-moves before done [] = rw append-nil (IsPermutation-refl done)
fold-moves before done (x ∷ xs) =
    IsPermutation-trans (done ++ x ∷ xs) ((x ∷ done) ++ xs) _ (IsPermutation-middle done x xs)
    (IsPermutation-trans ((x ∷ done) ++ xs) (put_in_order before x done ++ xs) _
    (IsPermutation-append_left xs (x ∷ done) (put_in_order before x done) (put-moves before x done))
    (fold-moves before (put_in_order before x done) xs))

pub in_order-moves : {X : Type 0} (before : X → X → Bool) (xs : List X) → IsPermutation xs (in_order before xs)
in_order-moves before xs = fold-moves before [] xs

-- In order.

-- none is before one in front of it
abbrev pub Rises : {X : Type 0} → (X → X → Bool) → List X → Type 0
Rises before [] = Unit {0}
Rises before (x ∷ xs) = AllByRecursion (λ y. before y x ≡ false) xs × Rises before xs

rises-sorted : {X : Type 0} (before : X → X → Bool) (xs : List X) → Rises before xs → IsSortedBy before xs
rises-sorted before [] h = λ k d low lt. absurd (omega (arith, lt))
rises-sorted before (x ∷ []) h = λ k d low lt. absurd (omega (arith, lt))
rises-sorted {X = X} before (x ∷ y ∷ ys) h = λ k d low lt. go (rises-sorted before (y ∷ ys) h.1) k d lt
  where
    go : IsSortedBy before (y ∷ ys) → (k : ℕ) (d : X) → k + 1 < length (x ∷ y ∷ ys) → before (get_or (x ∷ y ∷ ys) (k + 1) d) (get_or (x ∷ y ∷ ys) k d) ≡ false
    go rest zero d lt = h.0.0
    go rest (suc k) d lt =
        let e : suc (k + 1) ≡ suc k + 1 = omega arith in
        subst (λ n. before (get_or (x ∷ y ∷ ys) n d) (get_or (y ∷ ys) k d) ≡ false) e (rest k d (omega arith) (omega (arith, lt)))

module _ {X : Type 0} (before : X → X → Bool) (order : IsStrictWeakOrder before) where
  rises-put : (x : X) (xs : List X) → Rises before xs → Rises before (put_in_order before x xs)
  rises-put x [] h = (tt, tt)
  rises-put x (y ∷ ys) h =
      cond_both (before y x) (y ∷ put_in_order before x ys) (x ∷ y ∷ ys) (Rises before)
      (λ e. (all-put (λ z. before z y ≡ false) before x ys (order.one_way y x e) h.0, rises-put x ys h.1))
      (λ e. ((e, all-weaken (λ z. before z y ≡ false) (λ z. before z x ≡ false) (λ z g. order.chain z y x g e) ys h.0), h))

  rises-fold : (done xs : List X) → Rises before done → Rises before (fold (λ done x. put_in_order before x done) done xs)
  rises-fold done [] h = h
  rises-fold done (x ∷ xs) h = rises-fold (put_in_order before x done) xs (rises-put x done h)

  pub in_order-sorted : (xs : List X) → IsSortedBy before (in_order before xs)
  in_order-sorted xs = rises-sorted before (in_order before xs) (rises-fold [] xs tt)

-- What is wanted.

sooner_order : IsStrictWeakOrder is_sooner
sooner_order = record {
  one_way = λ a b h. grind (arith, nat_tests);
  chain = λ a b c g h. grind (arith, nat_tests);
}

-- the wanted and the rest are the conflicts in order
pub wanted-front : (xs : List Conflict) (k : ℕ)
    → (rest : List Conflict) × IsPermutation xs (wanted_of xs k ++ rest) × IsSortedBy is_sooner (wanted_of xs k ++ rest) × (length (wanted_of xs k) ≡ min (k - 1) (length xs))
wanted-front xs k =
    let all = in_order is_sooner xs in
    let whole : wanted_of xs k ++ drop (k - 1) all ≡ all = take-append-drop (k - 1) all in
    let many : length all ≡ length xs = length_permutation xs all (in_order-moves is_sooner xs) in (
      drop (k - 1) all,
      rw whole (in_order-moves is_sooner xs),
      rw whole (in_order-sorted is_sooner sooner_order xs),
      length-take (k - 1) all ∙ ap (min (k - 1)) many,
    )
