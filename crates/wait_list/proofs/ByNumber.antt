-- Lists in the order of numbers: one more, one less.
use Rattle.std.proofs.Common.{◌≡◌, suc, ◌<◌, Bool, true, false, cond, List, [], ◌∷◌, ◌++◌, length, filter, Option, Some, None, IfSome, refl, ap, sym, ◌∙◌, arith}
use Rattle.std.specs.List.{AllByRecursion}
use Rattle.std.proofs.lemmas.Bool.{cases_Bool, cond_both}
use Rattle.std.proofs.lemmas.Bool.Decides.{nat_tests}
use Rattle.forest_model.specs.Choose.{put_in_order, first_by, earlier_of}
use Rattle.forest_model.proofs.Lists.{either, all-weaken, all-filter}
use Rattle.forest_model.proofs.StartedLaws.{all-put, length-put}
use Rattle.wait_list.specs.Waiting.{Waiting, comes_first, is_lower, by_number}

-- what holds of a list in which x was put holds of x and of the list
pub all-put_back : {X : Type 0} (P : X → Type 0) (before : X → X → Bool) (x : X) (xs : List X) → AllByRecursion P (put_in_order before x xs) → P x × AllByRecursion P xs
all-put_back P before x [] h = (h.0, tt)
all-put_back P before x (y ∷ ys) h =
    either (cases_Bool (before y x))
    (λ e. let all : P y × AllByRecursion P (put_in_order before x ys) = rw e at h in let rest = all-put_back P before x ys all.1 in (rest.0, (all.0, rest.1)))
    (λ e. let all : P x × (P y × AllByRecursion P ys) = rw e at h in (all.0, all.1))

pub all-by_number : (P : Waiting → Type 0) (ws : List Waiting) → AllByRecursion P ws → AllByRecursion P (by_number ws)
all-by_number P [] all = tt
all-by_number P (w ∷ ws) all = all-put P is_lower w (by_number ws) all.0 (all-by_number P ws all.1)

pub length-by_number : (ws : List Waiting) → length (by_number ws) ≡ length ws
length-by_number [] = refl
length-by_number (w ∷ ws) = length-put is_lower w (by_number ws) ∙ ap suc (length-by_number ws)

-- One with a greater number than all.

pub put-last : (k : Waiting) (ws : List Waiting) → AllByRecursion (λ w. w.1 < k.1) ws → put_in_order is_lower k ws ≡ ws ++ k ∷ []
put-last k [] all = refl
put-last k (w ∷ ws) all =
    let e : is_lower w k ≡ true = let lt : w.1 < k.1 = all.0 in grind (arith, nat_tests) in
    rw e (ap (λ vs. w ∷ vs) (put-last k ws all.1))

pub put-before_last : (x k : Waiting) (ws : List Waiting) → is_lower k x ≡ false → put_in_order is_lower x (ws ++ k ∷ []) ≡ put_in_order is_lower x ws ++ k ∷ []
put-before_last x k [] e = rw e refl
put-before_last x k (w ∷ ws) e =
    either (cases_Bool (is_lower w x))
    (λ t. rw t (ap (λ vs. w ∷ vs) (put-before_last x k ws e)))
    (λ t. rw t refl)

-- The one that comes first.

not_back : (x y : Waiting) → comes_first x y ≡ true → comes_first y x ≡ false
not_back x y h = grind (arith, nat_tests)

first-has : {X : Type 0} (P : X → Type 0) (before : X → X → Bool) (xs : List X) → AllByRecursion P xs → IfSome (first_by before xs) P
first-has P before [] all = tt
first-has {X = X} P before (x ∷ xs) all = among (first_by before xs) (first-has P before xs all.1)
  where
    among : (o : Option X) → IfSome o P → P (earlier_of before x o)
    among None has = all.0
    among (Some y) has = cond_both (before y x) y x P (λ e. has) (λ e. all.0)

stays_first : (x : Waiting) (o : Option Waiting) → IfSome o (λ y. comes_first x y ≡ true) → earlier_of comes_first x o ≡ x
stays_first x None h = refl
stays_first x (Some y) h = rw (not_back x y h) refl

pub first-put : (x : Waiting) (ws : List Waiting) → AllByRecursion (λ w. comes_first x w ≡ true) ws → first_by comes_first (put_in_order is_lower x ws) ≡ Some x
first-put x [] all = refl
first-put x (w ∷ ws) all =
    either (cases_Bool (is_lower w x))
    (λ t. rw t (ap (λ o. Some (earlier_of comes_first w o)) (first-put x ws all.1) ∙ rw (all.0) refl))
    (λ t. rw t (ap Some (stays_first x (first_by comes_first (w ∷ ws)) (first-has (λ y. comes_first x y ≡ true) comes_first (w ∷ ws) all))))

-- One less.

-- no number is lower than one before it
pub AreUp : List Waiting → Type 0
AreUp [] = Unit {0}
AreUp (w ∷ ws) = AllByRecursion (λ v. is_lower v w ≡ false) ws × AreUp ws

up-put : (x : Waiting) (ws : List Waiting) → AreUp ws → AreUp (put_in_order is_lower x ws)
unfolding AreUp
up-put x [] h = (tt, tt)
up-put x (w ∷ ws) h =
    cond_both (is_lower w x) (w ∷ put_in_order is_lower x ws) (x ∷ w ∷ ws) AreUp
    (λ e. (all-put (λ v. is_lower v w ≡ false) is_lower x ws (let t : is_lower w x ≡ true = e in grind (arith, nat_tests)) h.0, up-put x ws h.1))
    (λ e. ((e, all-weaken (λ v. is_lower v w ≡ false) (λ v. is_lower v x ≡ false) (λ v g. let t : is_lower w x ≡ false = e in grind (arith, nat_tests)) ws h.0), h))

pub up-by_number : (ws : List Waiting) → AreUp (by_number ws)
unfolding AreUp
up-by_number [] = tt
up-by_number (w ∷ ws) = up-put w (by_number ws) (up-by_number ws)

put-front : (x : Waiting) (ws : List Waiting) → AllByRecursion (λ v. is_lower v x ≡ false) ws → put_in_order is_lower x ws ≡ x ∷ ws
put-front x [] all = refl
put-front x (w ∷ ws) all = rw (all.0) refl

pub filter-put : (test : Waiting → Bool) (x : Waiting) (ws : List Waiting) → AreUp ws
    → filter test (put_in_order is_lower x ws) ≡ cond (test x) (put_in_order is_lower x (filter test ws)) (filter test ws)
unfolding AreUp
filter-put test x [] h = refl
filter-put test x (w ∷ ws) h =
    let more : filter test (put_in_order is_lower x ws) ≡ cond (test x) (put_in_order is_lower x (filter test ws)) (filter test ws) = filter-put test x ws h.1 in
    either (cases_Bool (is_lower w x))
    (λ t.
    either (cases_Bool (test w))
    (λ e. rw (t, e, t) (ap (λ vs. w ∷ vs) more ∙ behind (test x)))
    (λ e. rw (t, e) more))
    (λ t. rw t (higher t (test x)))
  where
    behind : (b : Bool) → w ∷ cond b (put_in_order is_lower x (filter test ws)) (filter test ws) ≡ cond b (w ∷ put_in_order is_lower x (filter test ws)) (w ∷ filter test ws)
    behind true = refl
    behind false = refl

    higher : is_lower w x ≡ false → (b : Bool) → cond b (x ∷ filter test (w ∷ ws)) (filter test (w ∷ ws)) ≡ cond b (put_in_order is_lower x (filter test (w ∷ ws))) (filter test (w ∷ ws))
    higher t true =
        sym
        (put-front x (filter test (w ∷ ws))
        (all-filter (λ v. is_lower v x ≡ false) test (w ∷ ws)
        (t, all-weaken (λ v. is_lower v w ≡ false) (λ v. is_lower v x ≡ false) (λ v g. grind (arith, nat_tests)) ws h.0)))
    higher t false = refl
