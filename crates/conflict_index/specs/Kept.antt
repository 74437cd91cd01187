-- How an index is kept: for each item who has read and written it and where, and for each pair of lanes the point.
use Rattle.std.specs.Prelude.{ℕ, zero, suc, false, ◌↔◌, ◌==◌, ◌+◌, ◌*◌, ◌≡◌, ◌≢◌, ◌<◌, ◌≤◌, Bool, true, if◌then◌else◌, List, [], ◌∷◌, map, length, Option, None, slice_index_or}
use Rattle.std.specs.List.{range_with_len}
use Rattle.conflict_index.specs.Index.{Read, Lane, Index, point, is_sooner, put_in_order}
use Rattle.conflict_index.specs.Masks.{has}

-- of so many items from this one on those that were read, with their positions, in order
abbrev pub reads_of : (ℕ → Bool) → (ℕ → ℕ) → ℕ → ℕ → List Read
reads_of is_read position item zero = []
reads_of is_read position item (suc many) =
    if is_read item then put_in_order is_sooner (position item, item) (reads_of is_read position (suc item) many) else reads_of is_read position (suc item) many

-- of so many items from this one on those that were written
abbrev pub writes_of : (ℕ → Bool) → ℕ → ℕ → List ℕ
writes_of is_written item zero = []
writes_of is_written item (suc many) =
    if is_written item then item ∷ writes_of is_written (suc item) many else writes_of is_written (suc item) many

-- at each item the lanes that have it
abbrev pub has_item : List ℕ → ℕ → ℕ → Bool
has_item masks lane item = has (slice_index_or masks item 0) lane

abbrev pub position_of : List ℕ → ℕ → ℕ → ℕ → ℕ
position_of positions lanes lane item = slice_index_or positions (item * lanes + lane) 0

-- the lists of a lane
abbrev pub lane_of : List ℕ → List ℕ → List ℕ → ℕ → ℕ → Lane
lane_of readers writers positions lanes lane =
    record { reads = reads_of (has_item readers lane) (position_of positions lanes lane) 0 (length readers); writes = writes_of (has_item writers lane) 0 (length readers) }

-- what the parts of an index are seen as
abbrev pub index_of : ℕ → List ℕ → List ℕ → List ℕ → ℕ → Index
index_of lanes readers writers positions marks =
    record {
      items = length readers;
      lanes = map (lane_of readers writers positions lanes) (range_with_len 0 lanes);
      marks = map (has marks) (range_with_len 0 lanes);
    }

-- no lane from this number on is in one of the sets
abbrev pub AreBelow : ℕ → List ℕ → Type 0
AreBelow lanes masks = (item lane : ℕ) → lanes ≤ lane → has_item masks lane item ≡ false

-- at each reading lane and writing lane, where they differ, stands the point
abbrev pub AreMet : (lanes : ℕ) → (ℕ → Lane) → List (Option ℕ) → Type 0
AreMet lanes lists points = (reader writer : ℕ) → reader < lanes → writer < lanes → reader ≢ writer
    → slice_index_or points (reader * lanes + writer) None ≡ point (lists reader).reads (lists writer).writes

-- no lane has a point against itself
abbrev pub AreAlone : ℕ → List (Option ℕ) → Type 0
AreAlone lanes points = (lane : ℕ) → lane < lanes → slice_index_or points (lane * lanes + lane) None ≡ None

-- what an index keeps
pub record IsKept (lanes : ℕ) (readers writers positions : List ℕ) (points : List (Option ℕ)) : Type 0 where
  pub few : lanes ≤ 64
  pub small : length readers ≤ 1024
  pub same : length writers ≡ length readers
  pub wide : length positions ≡ length readers * lanes
  pub square : length points ≡ lanes * lanes
  pub reading : AreBelow lanes readers
  pub writing : AreBelow lanes writers
  pub alone : AreAlone lanes points
  pub met : AreMet lanes (lane_of readers writers positions lanes) points

-- the points of these lanes, each at its place, have become what it becomes, and no others; the moved ones are those that this changed
pub record AreChanged (done : ℕ → Bool) (place : ℕ → ℕ) (becomes : ℕ → Option ℕ → Option ℕ) (old new : List (Option ℕ)) (moved : ℕ) : Type 0 where
  pub long : length new ≡ length old
  pub changed : (lane : ℕ) → done lane ≡ true → slice_index_or new (place lane) None ≡ becomes lane (slice_index_or old (place lane) None)
  pub others : (at : ℕ) → ((lane : ℕ) → done lane ≡ true → place lane ≢ at) → slice_index_or new at None ≡ slice_index_or old at None
  pub moves : (lane : ℕ) → (has moved lane ≡ true) ↔ ((done lane ≡ true) × (slice_index_or new (place lane) None ≢ slice_index_or old (place lane) None))

-- each set without the lane
pub record AreWithout (lane : ℕ) (old new : List ℕ) : Type 0 where
  pub long : length new ≡ length old
  pub without : (item other : ℕ) → has_item new other item ≡ (if other == lane then false else has_item old other item)
