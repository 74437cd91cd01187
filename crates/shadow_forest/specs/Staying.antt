-- What a step of an optimistic shadow leaves as it was.
use Rattle.std.specs.Prelude.{◌≡◌, ◌≢◌, ℕ, suc, List, Some, slice_get}
use Rattle.forest_model.specs.Forest.{Started, Forest, wanted, find_started}
use Rattle.forest_model.specs.Events.{move_to}

-- after the next step of r's optimistic shadow each other transaction wants the shadows that it wants now
abbrev pub LeavesOthers : Forest → Started → Type 0
LeavesOthers f r = (x : Started) → find_started f.started x.number ≡ Some x → x.number ≢ r.number → wanted (move_to r.number (suc r.position) f) x ≡ wanted f x

-- t stands at this place among these
abbrev pub IsPlaced : List Started → ℕ → ℕ → Type 0
IsPlaced started place t = (r : Started) × (slice_get started place ≡ Some r) × (find_started started t ≡ Some r)
