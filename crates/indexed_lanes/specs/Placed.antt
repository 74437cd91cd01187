-- An index of conflicts whose lanes stand in an order.
use Rattle.std.specs.Prelude.{ℕ, ◌≡◌, ◌≢◌, ◌<◌, false, List, length, map, insert, remove, slice_get, Option, None, Some}
use Rattle.conflict_index.specs.Index.{Index, lane_at, is_marked, point_at}

-- the index with its lanes in this order
abbrev pub in_places : Index → List ℕ → Index
in_places index order = record { items = index.items; lanes = map (lane_at index) order; marks = map (is_marked index) order }

-- the element, if there is one, stands at a place, and those from there on behind it
abbrev pub put_at : {A : Type 0} → Option A → ℕ → List A → List A
put_at None to xs = xs
put_at (Some x) to xs = insert xs to x

-- what stands at one place stands at another
abbrev pub moved : {A : Type 0} → ℕ → ℕ → List A → List A
moved from to xs = put_at (slice_get xs from) to (remove xs from)

-- a lane that isn't marked after a change wasn't before it, and has the points that it had
abbrev pub AreUnmoved : Index → Index → Type 0
AreUnmoved old new = (place : ℕ) → place < length old.lanes → is_marked new place ≡ false
    → (is_marked old place ≡ false) × ((writer : ℕ) → writer < length old.lanes → writer ≢ place → point_at new place writer ≡ point_at old place writer)
