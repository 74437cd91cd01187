-- Conflicts: the point of a reader against a writer, and which writers a reader wants a shadow against.
use Rattle.std.specs.Prelude.{ℕ, ◌-◌, Bool, ◌&&◌, ◌||◌, ◌==◌, nat_lt, List, Option, map, filter, take, is_some}
use Rattle.txn_runs.specs.Run.{Read, Writes, own}
use Rattle.forest_model.specs.Choose.{least, in_order}

-- the item of the read is among the writes
abbrev pub is_changed : Writes → Read → Bool
is_changed ws r = is_some (own ws r.1)

-- the position of the earliest read of an item that is among the writes, if there is one
abbrev pub point : List Read → Writes → Option ℕ
point rs ws = least (map (λ (r : Read). r.0) (filter (is_changed ws) rs))

-- a guard, and the point of the reader against it
abbrev pub Conflict : Type 0
Conflict = ℕ × ℕ

-- the smaller point comes first, and of equal ones the smaller guard
abbrev pub is_sooner : Conflict → Conflict → Bool
is_sooner x y = nat_lt x.1 y.1 || (x.1 == y.1 && nat_lt x.0 y.0)

-- of the conflicts the first k - 1
abbrev pub wanted_of : List Conflict → ℕ → List Conflict
wanted_of conflicts k = take (k - 1) (in_order is_sooner conflicts)
