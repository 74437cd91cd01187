-- An element put at its place in an ordered list, by index, and what is kept of a list that is cut.
use Rattle.std.proofs.Common.{◌≡◌, ℕ, zero, suc, ◌+◌, ◌-◌, ◌<◌, ◌≤◌, Bool, true, false, List, [], ◌∷◌, ◌++◌, length, insert, take, drop, get_or, refl, ap, sym, ◌∙◌, arith, append_assoc}
use Rattle.std.proofs.lemmas.Bool.{cond_both}
use Rattle.std.proofs.lemmas.List.{drop_more, take_more, take_all, drop_all, take-take, length-append, length-take, length-drop}
use Rattle.std.proofs.lemmas.List.Sums.{fold_more}
use Rattle.forest_model.specs.Choose.{put_in_order, in_order}

module _ {X : Type 0} (before : X → X → Bool) where
  -- all in front of place i come before x
  abbrev pub IsPassed : X → List X → ℕ → Type 0
  IsPassed x xs i = put_in_order before x xs ≡ take i xs ++ put_in_order before x (drop i xs)

  pub passed_more : (x y : X) (xs : List X) (i : ℕ) → i < length xs → y ≡ get_or xs i y → before y x ≡ true → IsPassed x xs i → IsPassed x xs (i + 1)
  passed_more x y xs i lt is e h =
      let here : drop i xs ≡ y ∷ drop (i + 1) xs = drop_more xs i y lt ∙ ap (λ z. z ∷ drop (i + 1) xs) (sym is) in
      let more : take (i + 1) xs ≡ take i xs ++ y ∷ [] = take_more xs i y lt ∙ ap (λ z. take i xs ++ z ∷ []) (sym is) in
      let put : put_in_order before x (drop i xs) ≡ y ∷ put_in_order before x (drop (i + 1) xs) = rw (here, e) refl in
      h ∙ rw (put, more) (sym (append_assoc (take i xs) (y ∷ []) (put_in_order before x (drop (i + 1) xs))))

  pub placed_here : (x y : X) (xs : List X) (i : ℕ) → i < length xs → y ≡ get_or xs i y → before y x ≡ false → IsPassed x xs i → insert xs i x ≡ put_in_order before x xs
  placed_here x y xs i lt is e h =
      let here : drop i xs ≡ y ∷ drop (i + 1) xs = drop_more xs i y lt ∙ ap (λ z. z ∷ drop (i + 1) xs) (sym is) in
      let put : put_in_order before x (drop i xs) ≡ x ∷ drop i xs = rw (here, e) refl in
      sym (h ∙ rw put refl)

  pub placed_last : (x : X) (xs : List X) → IsPassed x xs (length xs) → insert xs (length xs) x ≡ put_in_order before x xs
  placed_last x xs h =
      let none : drop (length xs) xs ≡ [] = drop_all (length xs) xs (omega arith) in
      sym (h ∙ rw none refl)

  -- to cut the list first makes no difference to what is kept
  pub put-take : (n : ℕ) (x : X) (xs : List X) → take n (put_in_order before x (take n xs)) ≡ take n (put_in_order before x xs)
  put-take zero x xs = refl
  put-take (suc n) x [] = refl
  put-take (suc n) x (y ∷ ys) =
      cond_both {A = List X} (before y x) _ _ (λ zs. take (suc n) (put_in_order before x (y ∷ take n ys)) ≡ take (suc n) zs)
      (λ e. rw e (ap (λ zs. y ∷ zs) (put-take n x ys)))
      (λ e. rw e (ap (λ zs. x ∷ zs) (cut n y ys)))
    where
      cut : (m : ℕ) (z : X) (zs : List X) → take m (z ∷ take m zs) ≡ take m (z ∷ zs)
      cut zero z zs = refl
      cut (suc m) z [] = refl
      cut (suc m) z (w ∷ zs) = ap (λ vs. z ∷ vs) (cut m w zs)

  pub in_order_more : (xs : List X) (i : ℕ) (d : X) → i < length xs → in_order before (take (i + 1) xs) ≡ put_in_order before (get_or xs i d) (in_order before (take i xs))
  in_order_more xs i d lt = fold_more (λ done x. put_in_order before x done) [] xs i d lt

-- what is inserted within the room may push out only the last
insert-take : {X : Type 0} (n i : ℕ) (x : X) (xs : List X) → i ≤ n → take (suc n) (insert (take n xs) i x) ≡ take (suc n) (insert xs i x)
insert-take n zero x xs le = ap (λ zs. x ∷ zs) (take-take n n xs (omega arith))
insert-take zero (suc i) x xs le = absurd (omega arith)
insert-take (suc n) (suc i) x [] le = refl
insert-take (suc n) (suc i) x (y ∷ ys) le = ap (λ zs. y ∷ zs) (insert-take n i x ys (omega arith))

length-insert-le : {X : Type 0} (i : ℕ) (x : X) (xs : List X) → length (insert xs i x) ≤ suc (length xs)
length-insert-le i x xs = rw length-append (omega (arith, length-take i xs, length-drop i xs))

pub insert_full : {X : Type 0} (room i : ℕ) (x : X) (xs : List X) → length xs ≡ room → i < room → insert (take (length xs - 1) xs) i x ≡ take room (insert xs i x)
insert_full zero i x xs e lt = absurd (omega arith)
insert_full (suc n) i x xs e lt =
    let less : length xs - 1 ≡ n = omega arith in
    let short : length (insert (take n xs) i x) ≤ suc n = omega (arith, length-insert-le i x (take n xs), length-take n xs) in
    rw less (sym (take_all (suc n) (insert (take n xs) i x) short) ∙ insert-take n i x xs (omega arith))

pub insert_room : {X : Type 0} (room i : ℕ) (x : X) (xs : List X) → length xs < room → insert xs i x ≡ take room (insert xs i x)
insert_room room i x xs lt = sym (take_all room (insert xs i x) (omega (arith, length-insert-le i x xs)))
