-- How started transactions are kept: each with the lane where its slots are, while the bank has the slots.
use Rattle.std.specs.Prelude.{◌≡◌, ℕ, zero, suc, ◌+◌, ◌<◌, ◌≤◌, Bool, true, false, ◌==◌, nat_lt, if◌then◌else◌, List, [], ◌∷◌, length, map, filter, take, drop, slice_get, Option, None, Some}
use Rattle.std.specs.List.{AllByRecursion}
use Rattle.block_rule.specs.declared.role.Role.{Role}
use Rattle.block_rule.specs.declared.role.Origin.{Origin}
use Rattle.txn_code.specs.declared.node.Node.{Node}
use Rattle.forest_model.specs.Point.{Conflict}
use Rattle.forest_model.specs.Sound.{IsRising}
use Rattle.shadow_state.specs.Bank.{Slot, Sides, Banked, IsBanked, fresh_slot, marked_slot, placed_slot}
use Rattle.shadow_lanes.specs.Seats.{Waiter, Seat, Seated, slots_of, role_slot, slot_from, stays, waiter_with}

-- a started transaction: its number, its lane, and the conflicts that it has shadows for
pub record Kept : Type 0 where
  pub number : ℕ
  pub lane : ℕ
  pub conflicts : List Conflict

-- the first slot
abbrev pub first_slot : List Slot → Slot
first_slot [] = fresh_slot [] 0
first_slot (s ∷ slots) = s

-- the shadow for this conflict, in this slot
abbrev pub waiter_in : Conflict → Slot → Waiter
waiter_in c s = record { guard = c.0; point = c.1; slot = s }

-- the shadows for the conflicts, in these slots
abbrev pub waiters_of : List Conflict → List Slot → List Waiter
waiters_of [] slots = []
waiters_of (c ∷ cs) [] = []
waiters_of (c ∷ cs) (s ∷ slots) = waiter_in c s ∷ waiters_of cs slots

-- the transaction whose shadows are in these slots, the optimistic one in the first
abbrev pub seat_of : Kept → List Slot → Seat
seat_of k slots = record { number = k.number; optimistic = first_slot slots; waiters = waiters_of k.conflicts (drop 1 slots) }

-- the present slots of a lane
abbrev pub present_slots : Option Sides → List Slot
present_slots None = []
present_slots (Some lane) = lane.present

-- the transaction whose shadows are in the present slots of its lane
abbrev pub seat_in : List Sides → Kept → Seat
seat_in sides k = seat_of k (present_slots (slice_get sides k.lane))

-- the transactions
abbrev pub seats_in : List Sides → List Kept → List Seat
seats_in sides kept = map (seat_in sides) kept

-- all of it
abbrev pub seated_in : Banked → List Kept → Seated
seated_in bank kept = record { most = bank.most; lanes = length bank.sides; items = bank.items; seats = seats_in bank.sides kept }

-- their lanes
abbrev pub lanes_of : List Kept → List ℕ
lanes_of kept = map (λ (k : Kept). k.lane) kept

-- their numbers
abbrev pub numbers_of : List Kept → List ℕ
numbers_of kept = map (λ (k : Kept). k.number) kept

-- 1 if it is so
abbrev pub one_if : Bool → ℕ
one_if true = 1
one_if false = 0

-- how often a number is in the list
abbrev pub times : ℕ → List ℕ → ℕ
times n [] = 0
times n (m ∷ ms) = one_if (m == n) + times n ms

-- its shadows find slots
abbrev pub IsFew : ℕ → Kept → Type 0
IsFew most k = suc (length k.conflicts) ≤ most

-- Each transaction has a lane of its own, and all other lanes are free; there is room for as many transactions and as many
-- free lanes as there are lanes.
pub record AreKept (bank : Banked) (kept : List Kept) (free : List ℕ) (room free_room : ℕ) : Type 0 where
  pub banked : IsBanked bank.items bank.most bank.sides
  pub few : AllByRecursion (IsFew bank.most) kept
  pub rising : IsRising (numbers_of kept)
  pub used_within : AllByRecursion (λ n. n < length bank.sides) (lanes_of kept)
  pub free_within : AllByRecursion (λ n. n < length bank.sides) free
  pub once : (n : ℕ) → times n (lanes_of kept) + times n free ≤ 1
  pub all : length kept + length free ≡ length bank.sides
  pub fits : length bank.sides ≤ room
  pub free_fits : length bank.sides ≤ free_room

-- all numbers below n, each once, with room for as many
pub record AreAll (n : ℕ) (ms : List ℕ) (room : ℕ) : Type 0 where
  pub many : length ms ≡ n
  pub within : AllByRecursion (λ m. m < n) ms
  pub once : (m : ℕ) → times m ms ≤ 1
  pub fits : n ≤ room

-- how many transactions have a smaller number, up to the first that has not
abbrev pub place_in : ℕ → List Kept → ℕ
place_in n [] = 0
place_in n (k ∷ kept) = if nat_lt k.number n then suc (place_in n kept) else 0

-- both sides have so many slots
pub record IsLong (most : ℕ) (lane : Sides) : Type 0 where
  pub present : length lane.present ≡ most
  pub other : length lane.other ≡ most

-- In place.

-- the slots with these in place of the first
abbrev pub laid : List Slot → List Slot → List Slot
laid [] slots = slots
laid (n ∷ new) [] = []
laid (n ∷ new) (s ∷ slots) = n ∷ laid new slots

-- the present side begins with the slots of what becomes of the transaction that the other side has
abbrev pub refilled : Kept → (Seat → Seat) → Sides → Sides
refilled k f lane = record lane { present = laid (slots_of (f (seat_of k lane.other))) lane.present }

-- the present side has there the slot for this guard, by where it comes from
abbrev pub filled_at : List Node → ℕ → Kept → Origin → ℕ → ℕ → Sides → Sides
filled_at nodes items k o guard to lane = placed_slot to (slot_from o nodes items (seat_of k lane.other) guard) lane

-- the shadow with this role becomes the optimistic one, and of the first so many others those at or before the cut stay
abbrev pub cut_back : Role → ℕ → ℕ → Seat → Seat
cut_back heir cut many r = record r { optimistic = role_slot heir r; waiters = filter (stays cut heir) (take many r.waiters) }

-- the first so many elements changed
abbrev pub map_first : {A : Type 0} → ℕ → (A → A) → List A → List A
map_first zero f xs = xs
map_first (suc n) f [] = []
map_first (suc n) f (x ∷ xs) = f x ∷ map_first n f xs

-- the optimistic shadow and so many others are not out
abbrev pub recalled_to : ℕ → Seat → Seat
recalled_to n r = record r { optimistic = marked_slot false r.optimistic; waiters = map_first n (waiter_with (marked_slot false)) r.waiters }

-- the shadow with this role becomes the optimistic one, and the others at or before the cut stay
abbrev pub succeeded : Role → ℕ → Seat → Seat
succeeded heir cut r = record r { optimistic = role_slot heir r; waiters = filter (stays cut heir) r.waiters }

-- one shadow, at the start of the program
abbrev pub begun_again : List Node → ℕ → Seat → Seat
begun_again nodes items r = record r { optimistic = fresh_slot nodes items; waiters = [] }
