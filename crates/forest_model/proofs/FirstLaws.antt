-- The first of a list: what it has, by another order, of a mapped list; and by a strict order with one element more at its end.
use Rattle.std.proofs.Common.{◌≡◌, ℕ, ◌+◌, ◌<◌, Bool, true, false, cond, List, [], ◌∷◌, ◌++◌, length, take, map, filter, get_or, Option, Some, None, IfSome, option_map, refl, ap, sym, ◌∙◌, true≢false, append-nil}
use Rattle.std.specs.Cmp.{IsStrictWeakOrder}
use Rattle.std.specs.List.{AllByRecursion}
use Rattle.std.proofs.lemmas.Bool.{cases_Bool, cond_both}
use Rattle.std.proofs.lemmas.List.Elements.{filter_more}
use Rattle.forest_model.specs.Choose.{first_by, earlier_of}
use Rattle.forest_model.proofs.Lists.{either}

-- the first has what each has
pub first_by-has : {X : Type 0} (P : X → Type 0) (before : X → X → Bool) (xs : List X) → AllByRecursion P xs → IfSome (first_by before xs) P
first_by-has P before [] all = tt
first_by-has {X = X} P before (x ∷ xs) all = among (first_by before xs) (first_by-has P before xs all.1)
  where
    among : (o : Option X) → IfSome o P → P (earlier_of before x o)
    among None has = all.0
    among (Some y) has = cond_both (before y x) y x P (λ e. has) (λ e. all.0)

-- the first by orders that agree on all elements is the same
pub first_by-agree : {X : Type 0} (P : X → Type 0) (before other : X → X → Bool) → ((x y : X) → P x → P y → before x y ≡ other x y) → (xs : List X) → AllByRecursion P xs → first_by before xs ≡ first_by other xs
first_by-agree P before other agree [] all = refl
first_by-agree {X = X} P before other agree (x ∷ xs) all =
    ap (λ o. Some (earlier_of before x o)) (first_by-agree P before other agree xs all.1) ∙ ap Some (go (first_by other xs) (first_by-has P other xs all.1))
  where
    go : (o : Option X) → IfSome o P → earlier_of before x o ≡ earlier_of other x o
    go None has = refl
    go (Some y) has = rw (agree y x has all.0) refl

-- the first of a mapped list
pub first_by-map : {X Y : Type 0} (f : X → Y) (before : Y → Y → Bool) (xs : List X) → first_by before (map f xs) ≡ option_map f (first_by (λ x y. before (f x) (f y)) xs)
first_by-map f before [] = refl
first_by-map {X = X} f before (x ∷ xs) =
    ap (λ o. Some (earlier_of before (f x) o)) (first_by-map f before xs) ∙ go (first_by (λ y z. before (f y) (f z)) xs)
  where
    go : (o : Option X) → Some (earlier_of before (f x) (option_map f o)) ≡ option_map f (Some (earlier_of (λ y z. before (f y) (f z)) x o))
    go None = refl
    go (Some y) =
        either (cases_Bool (before (f y) (f x)))
        (λ e. rw e refl)
        (λ e. rw e refl)

-- what comes first of those that o came first of, and x
abbrev pub first_with : {X : Type 0} → (X → X → Bool) → Option X → X → Option X
first_with before None x = Some x
first_with before (Some y) x = Some (earlier_of before y (Some x))

module _ {X : Type 0} (before : X → X → Bool) (order : IsStrictWeakOrder before) where
  first_assoc : (x b y : X) → earlier_of before x (Some (earlier_of before b (Some y))) ≡ earlier_of before (earlier_of before x (Some b)) (Some y)
  first_assoc x b y =
      either (cases_Bool (before y b))
      (λ yb. either (cases_Bool (before b x))
      (λ bx.
      let yx : before y x ≡ true =
      either (cases_Bool (before y x)) (λ t. t)
      (λ f. absurd (true≢false (sym yb ∙ order.chain y x b f (order.one_way b x bx))))
      in
      rw (yb, bx, yx, yb) refl)
      (λ bx. rw (yb, bx) refl))
      (λ yb. either (cases_Bool (before b x))
      (λ bx. rw (yb, bx, yb) refl)
      (λ bx. rw (yb, bx, order.chain y b x yb bx) refl))

  pub first_by-push : (xs : List X) (y : X) → first_by before (xs ++ y ∷ []) ≡ first_with before (first_by before xs) y
  first_by-push [] y = refl
  first_by-push (x ∷ xs) y = ap (λ o. Some (earlier_of before x o)) (first_by-push xs y) ∙ cases (first_by before xs)
    where
      cases : (o : Option X) → let before_x : Option X → Option X = λ p. Some (earlier_of before x p) in before_x (first_with before o y) ≡ first_with before (before_x o) y
      cases None = refl
      cases (Some b) = ap Some (first_assoc x b y)

  pub first_by_more : (p : X → Bool) (xs : List X) (i : ℕ) (d : X) → i < length xs
      → first_by before (filter p (take (i + 1) xs)) ≡ cond (p (get_or xs i d)) (first_with before (first_by before (filter p (take i xs))) (get_or xs i d)) (first_by before (filter p (take i xs)))
  first_by_more p xs i d lt = rw (filter_more p xs i d lt) (cases (p (get_or xs i d)))
    where
      cases : (t : Bool) → first_by before (filter p (take i xs) ++ cond t (get_or xs i d ∷ []) []) ≡ cond t (first_with before (first_by before (filter p (take i xs))) (get_or xs i d)) (first_by before (filter p (take i xs)))
      cases true = first_by-push (filter p (take i xs)) (get_or xs i d)
      cases false = rw append-nil refl
