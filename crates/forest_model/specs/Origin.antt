-- Where the state of a shadow comes from, by the roles and positions of a transaction's shadows.
use Rattle.std.specs.Prelude.{◌≢◌, ℕ, Bool, false, ◌&&◌, ◌==◌, nat_lt, nat_le, if◌then◌else◌, List, [], ◌∷◌, Option, Some, None, map, filter, find, option_map}
use Rattle.std.specs.List.{AllByRecursion, list_any}
use Rattle.block_rule.specs.declared.role.Role.{Role}
use Rattle.block_rule.specs.declared.role.Role.TheVariants.{Optimistic, Guard}
use Rattle.block_rule.specs.declared.role.Origin.{Origin}
use Rattle.block_rule.specs.declared.role.Origin.TheVariants.{Keep, From, Fresh}
use Rattle.forest_model.specs.Choose.{first_by}
use Rattle.forest_model.specs.Point.{Conflict}
use Rattle.forest_model.specs.Forest.{Shadow, Started}
use Rattle.forest_model.specs.Settle.{stands_for}

-- a shadow's role and position
abbrev pub Placed : Type 0
Placed = Role × ℕ

-- the role is that of a shadow for this guard
abbrev pub waits_for : ℕ → Role → Bool
waits_for u Optimistic = false
waits_for u (Guard v) = v == u

-- it waits for this guard, and has not passed the point
abbrev pub is_kept : ℕ → ℕ → Placed → Bool
is_kept u p x = waits_for u x.0 && nat_le x.1 p

-- x stands further than y
abbrev pub is_further : Placed → Placed → Bool
is_further x y = nat_lt y.1 x.1

-- of those at or before a position the furthest; of several the first
abbrev pub furthest : List Placed → ℕ → Option Placed
furthest xs limit = first_by is_further (filter (λ (x : Placed). nat_le x.1 limit) xs)

-- a copy of the one that was found, or a fresh one
abbrev pub from_found : Option Placed → Origin
from_found None = Fresh
from_found (Some x) = From x.0

-- the shadow for this guard and point: the one that is there, or else a copy of the furthest that is not past the point
abbrev pub origin : List Placed → ℕ → ℕ → Origin
origin xs u p = if list_any (is_kept u p) xs then Keep else from_found (furthest xs p)

-- the optimistic shadow after a cut that the old one does not survive: the furthest survivor
abbrev pub successor : List Placed → ℕ → Origin
successor xs cut = from_found (furthest xs cut)

-- where it stands
abbrev pub position_of : Option Placed → ℕ
position_of None = 0
position_of (Some x) = x.1

-- a shadow's role and position
abbrev pub placed : Shadow → Placed
placed s = (Guard s.guard, s.position)

-- the shadows of r, the optimistic one first
abbrev pub placed_of : Started → List Placed
placed_of r = (Optimistic, r.position) ∷ map placed r.shadows

-- no two of the shadows wait for one guard
abbrev pub AreApart : List Shadow → Type 0
AreApart [] = Unit {0}
AreApart (s ∷ ss) = AllByRecursion (λ x. s.guard ≢ x.guard) ss × AreApart ss

-- the shadow for this guard, if there is one
abbrev pub waiting_for : ℕ → List Shadow → Option Shadow
waiting_for u ss = find (λ s. s.guard == u) ss

-- where the shadow of r with this role stands, if there is one
abbrev pub position_at : Started → Role → Option ℕ
position_at r Optimistic = Some r.position
position_at r (Guard u) = option_map (λ s. s.position) (waiting_for u r.shadows)

-- a new shadow for the conflict, at a position
abbrev pub new_for : Conflict → ℕ → Shadow
new_for w position = record { guard = w.0; position = position; out = false }

-- the shadow of r for the conflict, with its state from there: the one that is there, a copy, or one at the start
abbrev pub from_origin : Origin → Started → Conflict → Option Shadow
from_origin Keep r w = find (stands_for w) r.shadows
from_origin (From role) r w = option_map (new_for w) (position_at r role)
from_origin Fresh r w = Some (new_for w 0)

-- the shadow that waits and is named there, if one is
abbrev pub waiting_at : Origin → List Shadow → Option Shadow
waiting_at Keep ss = None
waiting_at (From Optimistic) ss = None
waiting_at (From (Guard u)) ss = waiting_for u ss
waiting_at Fresh ss = None
