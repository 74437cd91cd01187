-- Transactions that wait for a lane, each told by its deadline and its number.
use Rattle.std.specs.Prelude.{ℕ, Bool, ◌&&◌, ◌||◌, ◌==◌, nat_lt, List, [], ◌∷◌}
use Rattle.std.specs.List.Sorted.{IsStrictlySortedBy}
use Rattle.std.specs.Ordering.{nat_cmp, ordering_then}
use Rattle.std.specs.declared.cmp.Ordering.{Ordering}
use Rattle.forest_model.specs.Choose.{put_in_order}

-- a deadline and a number
abbrev pub Waiting : Type 0
Waiting = ℕ × ℕ

-- the smaller deadline comes first, and of equal ones the smaller number
abbrev pub comes_first : Waiting → Waiting → Bool
comes_first x y = nat_lt x.0 y.0 || (x.0 == y.0 && nat_lt x.1 y.1)

-- one has the smaller number
abbrev pub is_lower : Waiting → Waiting → Bool
is_lower x y = nat_lt x.1 y.1

-- the same deadline and number
abbrev pub is_same : Waiting → Waiting → Bool
is_same x y = x.0 == y.0 && x.1 == y.1

-- in the order of their numbers
abbrev pub by_number : List Waiting → List Waiting
by_number [] = []
by_number (w ∷ ws) = put_in_order is_lower w (by_number ws)

-- the order in which they are kept
abbrev pub in_line : Waiting → Waiting → Ordering
in_line x y = ordering_then (nat_cmp x.0 y.0) (nat_cmp x.1 y.1)

-- they stand in that order, each once
abbrev pub AreInLine : List Waiting → Type 0
AreInLine ws = IsStrictlySortedBy in_line ws
