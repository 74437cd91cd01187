-- Settling: each started transaction gets the shadows that it wants, out of those that were there before.
use Rattle.std.specs.Prelude.{ℕ, Bool, false, ◌&&◌, ◌==◌, nat_le, List, [], ◌∷◌, Option, Some, None, map, find}
use Rattle.forest_model.specs.Choose.{greatest_up_to}
use Rattle.forest_model.specs.Point.{Conflict}
use Rattle.forest_model.specs.Forest.{Shadow, Started, Forest, wanted, find_started}

-- the shadows that wait of a transaction as it was, if it was started
abbrev pub shadows_in : Option Started → List Shadow
shadows_in None = []
shadows_in (Some r) = r.shadows

-- the positions of all its shadows, the optimistic one first
abbrev pub positions_in : Option Started → List ℕ
positions_in None = []
positions_in (Some r) = r.position ∷ map (λ s. s.position) r.shadows

-- the shadow waits for this guard, and has not passed the point
abbrev pub stands_for : Conflict → Shadow → Bool
stands_for w s = s.guard == w.0 && nat_le s.position w.1

-- a shadow that stands for the guard stays; else there is a copy of the furthest one that is not past the point, or a fresh one
abbrev pub stay_or_copy : Option Shadow → List ℕ → Conflict → Shadow
stay_or_copy (Some s) positions w = s
stay_or_copy None positions w = record { guard = w.0; position = greatest_up_to w.1 positions; out = false }

-- the shadows for these conflicts, out of those of the transaction as it was
abbrev pub settled_shadows : Option Started → List Conflict → List Shadow
settled_shadows old ws = map (λ w. stay_or_copy (find (stands_for w) (shadows_in old)) (positions_in old) w) ws

-- r with the shadows that it wants now
abbrev pub resettled : List Started → Forest → Started → Started
resettled before f r = record r { shadows = settled_shadows (find_started before r.number) (wanted f r) }

-- each started transaction has the shadows that it wants now, taken from those before
abbrev pub settle : List Started → Forest → Forest
settle before f = record f { started = map (resettled before f) f.started }
