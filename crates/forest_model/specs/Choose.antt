-- The least number of a list, a list in order, and the first of a list by an order. Nothing here speaks of transactions.
use Rattle.std.specs.Prelude.{ℕ, Bool, nat_le, if◌then◌else◌, List, [], ◌∷◌, Option, Some, None, min, max, fold}

-- the lesser of a number and n, if there is one
abbrev pub less_or : Option ℕ → ℕ → ℕ
less_or None n = n
less_or (Some m) n = min m n

-- the least of the numbers, if there is one
abbrev pub least : List ℕ → Option ℕ
least [] = None
least (n ∷ ns) = Some (less_or (least ns) n)

-- the greatest of the numbers that are at most the limit, or 0
abbrev pub greatest_up_to : ℕ → List ℕ → ℕ
greatest_up_to limit [] = 0
greatest_up_to limit (n ∷ ns) = if nat_le n limit then max n (greatest_up_to limit ns) else greatest_up_to limit ns

-- x put in front of the first element that is not before it
abbrev pub put_in_order : {X : Type 0} → (X → X → Bool) → X → List X → List X
put_in_order before x [] = x ∷ []
put_in_order before x (y ∷ ys) = if before y x then y ∷ put_in_order before x ys else x ∷ y ∷ ys

-- the elements in order
abbrev pub in_order : {X : Type 0} → (X → X → Bool) → List X → List X
in_order before xs = fold (λ done x. put_in_order before x done) [] xs

-- y where it comes before x, and else x
abbrev pub earlier_of : {X : Type 0} → (X → X → Bool) → X → Option X → X
earlier_of before x None = x
earlier_of before x (Some y) = if before y x then y else x

-- the element that comes first by the order; of several, the first in the list
abbrev pub first_by : {X : Type 0} → (X → X → Bool) → List X → Option X
first_by before [] = None
first_by before (x ∷ xs) = Some (earlier_of before x (first_by before xs))
