-- The shadows that transactions want.
use Rattle.std.specs.Prelude.{ℕ, ◌≡◌, Bool, true, false, ◌&&◌, ◌==◌, if◌then◌else◌, List, [], ◌∷◌, length, filter_map, slice_get, is_some, Option, None, Some}
use Rattle.std.specs.List.{AllByRecursion}
use Rattle.txn_runs.specs.Run.{Writes, own}
use Rattle.txn_code.specs.declared.node.Node.{Node}
use Rattle.forest_model.specs.Point.{Conflict, point, wanted_of}
use Rattle.forest_model.specs.Forest.{conflict_at}
use Rattle.shadow_lanes.specs.Seats.{Seat, Seated, conflicts_of, settled_seat}
use Rattle.conflict_index.specs.Index.{Index, is_marked}
use Rattle.indexed_lanes.specs.Noted.{IsNoted}

-- Conflicts.

-- the point of a reader that is about to read an item, or isn't: its point so far, or else the position of that read
abbrev pub point_with : Option ℕ → ℕ → Writes → Option ℕ → Option ℕ
point_with None position ws p = p
point_with (Some item) position ws (Some p) = Some p
point_with (Some item) position ws None = if is_some (own ws item) then Some position else None

-- the conflict of r, which is about to read an item or isn't, with u
abbrev pub conflict_between : Option ℕ → Seat → Seat → Option Conflict
conflict_between next r u =
    if u.number == r.number then None
    else conflict_at u.number (point_with next r.optimistic.state.position u.optimistic.state.writes (point r.optimistic.state.log.reads u.optimistic.state.writes))

-- the conflicts against which r wants a shadow
abbrev pub wanted_among : ℕ → Option ℕ → List Seat → Seat → List Conflict
wanted_among k next seats r = wanted_of (filter_map (conflict_between next r) seats) k

-- Settling.

-- the same guard and point
abbrev pub same_conflict : Conflict → Conflict → Bool
same_conflict x y = x.0 == y.0 && x.1 == y.1

-- the same conflicts in the same order
abbrev pub same_conflicts : List Conflict → List Conflict → Bool
same_conflicts [] [] = true
same_conflicts [] (y ∷ ys) = false
same_conflicts (x ∷ xs) [] = false
same_conflicts (x ∷ xs) (y ∷ ys) = same_conflict x y && same_conflicts xs ys

-- r with the shadows for these conflicts; it stays as it is where it has them
abbrev pub renewed : List Node → ℕ → List Conflict → Seat → Seat
renewed nodes items ws r = if same_conflicts (conflicts_of r) ws then r else settled_seat nodes items ws r

-- What is kept.

-- each has the shadows that it wants
abbrev pub AreWanted : Seated → Type 0
AreWanted s = AllByRecursion (λ (r : Seat). conflicts_of r ≡ wanted_among s.most None s.seats r) s.seats

-- each that isn't marked has
abbrev pub AreSettled : Seated → Index → Type 0
AreSettled s index = (place : ℕ) (r : Seat) → slice_get s.seats place ≡ Some r → is_marked index place ≡ false → conflicts_of r ≡ wanted_among s.most None s.seats r

-- what an index keeps of the transactions
pub record IsKept (s : Seated) (index : Index) : Type 0 where
  pub noted : IsNoted s index
  pub marks : length index.marks ≡ s.lanes
  pub settled : AreSettled s index

-- where a transaction has no shadow but the optimistic one, there is no index
abbrev pub IsIndexed : Seated → Option Index → Type 0
IsIndexed s None = s.most ≡ 1
IsIndexed s (Some index) = IsKept s index
