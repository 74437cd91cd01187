-- What lanes have read and written, where each reader's point against each writer lies, and which lanes' points have moved.
use Rattle.std.specs.Prelude.{ℕ, ◌≡◌, true, ◌≢◌, ◌<◌, min, Bool, false, ◌&&◌, ◌||◌, ◌==◌, nat_eq, nat_lt, if◌then◌else◌, List, [], ◌∷◌, map, filter, length, Option, Some, None, slice_index_or, slice_set, IsTrue, ◌↔◌, ◌⊎◌}
use Rattle.std.specs.List.{list_any}

-- a read: its position, and its item
abbrev pub Read : Type 0
Read = ℕ × ℕ

-- the reads of a lane by position and then item, and the items that it has written, ascending
pub record Lane : Type 0 where
  pub reads : List Read
  pub writes : List ℕ

-- how many items there are, what each lane has read and written, and whether it is marked
pub record Index : Type 0 where
  pub items : ℕ
  pub lanes : List Lane
  pub marks : List Bool

-- a lane that has read nothing and written nothing
abbrev pub forgotten : Lane
forgotten = record { reads = []; writes = [] }

abbrev pub lane_at : Index → ℕ → Lane
lane_at index lane = slice_index_or index.lanes lane forgotten

abbrev pub is_marked : Index → ℕ → Bool
is_marked index lane = slice_index_or index.marks lane false

-- the lesser of a number and n, if there is one
abbrev pub less_or : Option ℕ → ℕ → ℕ
less_or None n = n
less_or (Some m) n = min m n

-- the least of the numbers, if there is one
abbrev pub least : List ℕ → Option ℕ
least [] = None
least (n ∷ ns) = Some (less_or (least ns) n)

abbrev pub is_among : List ℕ → ℕ → Bool
is_among items item = list_any (nat_eq item) items

-- the least position of a read whose item is among the written ones, if there is one
abbrev pub point : List Read → List ℕ → Option ℕ
point reads writes = least (map (λ (r : Read). r.0) (filter (λ (r : Read). is_among writes r.1) reads))

-- the point of a reading lane against a writing one
abbrev pub point_at : Index → ℕ → ℕ → Option ℕ
point_at index reader writer = point (lane_at index reader).reads (lane_at index writer).writes

-- the smaller position comes first, and of equal ones the smaller item
abbrev pub is_sooner : Read → Read → Bool
is_sooner a b = nat_lt a.0 b.0 || (a.0 == b.0 && nat_lt a.1 b.1)

-- x put in front of the first element that is not before it
abbrev pub put_in_order : {X : Type 0} → (X → X → Bool) → X → List X → List X
put_in_order before x [] = x ∷ []
put_in_order before x (y ∷ ys) = if before y x then y ∷ put_in_order before x ys else x ∷ y ∷ ys

-- one of the reads is of the item
abbrev pub is_read : List Read → ℕ → Bool
is_read reads item = list_any (λ (r : Read). nat_eq item r.1) reads

-- the lane after a read, of an item that it may have read before
abbrev pub with_read : Lane → Read → Lane
with_read lane read = record { reads = if is_read lane.reads read.1 then lane.reads else put_in_order is_sooner read lane.reads; writes = lane.writes }

-- the lane after a write, of an item that it may have written before
abbrev pub with_write : Lane → ℕ → Lane
with_write lane item = record { reads = lane.reads; writes = if is_among lane.writes item then lane.writes else put_in_order nat_lt item lane.writes }

-- the index with another lane in the place of one
abbrev pub lanes_with : Index → ℕ → Lane → List Lane
lanes_with index lane new = slice_set index.lanes lane new

-- between the two the point of the lane against another has become another one
abbrev pub HasMoved : Index → Index → ℕ → Type 0
HasMoved old new lane = (writer : ℕ) × (writer < length new.lanes) × (writer ≢ lane) × (point_at new lane writer ≢ point_at old lane writer)

-- the marked lanes are those that were marked before and those of which a point has moved, and no others
abbrev pub MarksMoved : Index → Index → Type 0
MarksMoved old new = (lane : ℕ) → lane < length new.lanes → (IsTrue (is_marked new lane) ↔ (IsTrue (is_marked old lane) ⊎ HasMoved old new lane))

-- another lane has written the item, against which the lane has no point
abbrev pub Fills : Index → ℕ → ℕ → Type 0
Fills index lane item = (writer : ℕ) × (writer < length index.lanes) × (writer ≢ lane) × (is_among (lane_at index writer).writes item ≡ true) × (point_at index lane writer ≡ None)
