-- How large an index is.
use Rattle.std.specs.Prelude.{ℕ, ◌≡◌, length}
use Rattle.conflict_index.specs.Index.{Index}

-- it has so many items and lanes
pub record IsOf (index : Index) (items lanes : ℕ) : Type 0 where
  pub items_are : index.items ≡ items
  pub lanes_are : length index.lanes ≡ lanes
