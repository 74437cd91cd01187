-- States in lanes: each lane has two sides of slots, the present one and the other one.
use Rattle.std.specs.Prelude.{◌≡◌, ◌≤◌, ℕ, zero, suc, Bool, false, List, [], ◌∷◌, length, slice_get, slice_set, Option, None, Some}
use Rattle.std.specs.List.{AllByRecursion}
use Rattle.txn_code.specs.declared.node.Node.{Node}
use Rattle.txn_interp.specs.State.{Held, fresh_state}

-- a state, and whether it is out
pub record Slot : Type 0 where
  pub state : Held
  pub out : Bool

-- the slots of a lane: those of now, and those that it had before its sides were exchanged
pub record Sides : Type 0 where
  pub present : List Slot
  pub other : List Slot

-- the lanes' sides, each of so many slots, whose states are over so many items
pub record Banked : Type 0 where
  pub items : ℕ
  pub most : ℕ
  pub sides : List Sides

-- the list with one element changed
abbrev pub at_place : {A : Type 0} → ℕ → (A → A) → List A → List A
at_place n f [] = []
at_place zero f (x ∷ xs) = f x ∷ xs
at_place (suc n) f (x ∷ xs) = x ∷ at_place n f xs

-- the slot's state is over so many items
abbrev pub IsOver : ℕ → Slot → Type 0
IsOver items s = s.state.log.room ≡ items

-- a side has so many slots, with states over so many items
pub record IsSide (items most : ℕ) (slots : List Slot) : Type 0 where
  pub many : length slots ≡ most
  pub over : AllByRecursion (IsOver items) slots

-- both sides of a lane
pub record AreSides (items most : ℕ) (lane : Sides) : Type 0 where
  pub present : IsSide items most lane.present
  pub other : IsSide items most lane.other

-- the sides of all lanes, of which there are 1 to 64 with 1 to 8 slots a side, over at most 1,024 items
pub record IsBanked (items most : ℕ) (sides : List Sides) : Type 0 where
  pub small : items ≤ 1024
  pub least : 1 ≤ most
  pub few : most ≤ 8
  pub some : 1 ≤ length sides
  pub many : length sides ≤ 64
  pub each : AllByRecursion (AreSides items most) sides

-- a slot with nothing done of the program that these nodes are of
abbrev pub fresh_slot : List Node → ℕ → Slot
fresh_slot nodes items = record { state = fresh_state nodes items; out = false }

-- the slot at this place, if there is one, stands at that place of the list
abbrev pub put_some : Option Slot → ℕ → List Slot → List Slot
put_some None to slots = slots
put_some (Some s) to slots = slice_set slots to s

-- the present side has a copy of the slot of the other side
abbrev pub forked : (from to : ℕ) → Sides → Sides
forked from to lane = record lane { present = put_some (slice_get lane.other from) to lane.present }

-- this slot stands there in the present side
abbrev pub placed_slot : ℕ → Slot → Sides → Sides
placed_slot to s lane = record lane { present = slice_set lane.present to s }

-- the sides exchanged
abbrev pub swapped : Sides → Sides
swapped lane = record { present = lane.other; other = lane.present }

-- the slot with this mark
abbrev pub marked_slot : Bool → Slot → Slot
marked_slot out s = record s { out = out }

-- the present slot there has this mark
abbrev pub marked_in : ℕ → Bool → Sides → Sides
marked_in slot out lane = record lane { present = at_place slot (marked_slot out) lane.present }

-- the slot with this state
abbrev pub with_state : Held → Slot → Slot
with_state state s = record s { state = state }

-- the present slot there has this state
abbrev pub state_in : ℕ → Held → Sides → Sides
state_in slot state lane = record lane { present = at_place slot (with_state state) lane.present }

-- the slot with this state, which is not out
abbrev pub stored_slot : Held → Slot → Slot
stored_slot state s = record { state = state; out = false }

-- the present slot there has this state, and is not out
abbrev pub stored_in : ℕ → Held → Sides → Sides
stored_in slot state lane = record lane { present = at_place slot (stored_slot state) lane.present }

-- the bank with one lane changed
abbrev pub lane_with : ℕ → (Sides → Sides) → Banked → Banked
lane_with lane f bank = record bank { sides = at_place lane f bank.sides }

-- the present slot of a lane, if there is one
abbrev pub present_in : Option Sides → ℕ → Option Slot
present_in None slot = None
present_in (Some lane) slot = slice_get lane.present slot

-- the present slot there
abbrev pub present_at : Banked → ℕ → ℕ → Option Slot
present_at bank lane slot = present_in (slice_get bank.sides lane) slot
