-- Started transactions with the states of their shadows, in rising order of their numbers.
use Rattle.std.specs.Prelude.{ℕ, zero, suc, ◌≤◌, Bool, false, not, ◌&&◌, ◌==◌, nat_lt, nat_le, if◌then◌else◌, List, [], ◌∷◌, length, map, filter, find, slice_get, Option, option_map, option_and_then, ℤ}
use Rattle.std.specs.List.{AllByRecursion}
use Rattle.block_rule.specs.declared.role.Role.{Role}
use Rattle.block_rule.specs.declared.role.Role.TheVariants.{Optimistic, Guard}
use Rattle.block_rule.specs.declared.role.Origin.{Origin}
use Rattle.block_rule.specs.declared.role.Origin.TheVariants.{Keep, From, Fresh}
use Rattle.txn_code.specs.declared.node.Node.{Node}
use Rattle.txn_interp.specs.State.{Held}
use Rattle.forest_model.specs.Point.{Conflict}
use Rattle.forest_model.specs.Forest.{Shadow, Started}
use Rattle.forest_model.specs.Origin.{waits_for, placed_of, origin, successor}
use Rattle.forest_model.specs.Choose.{put_in_order}
use Rattle.forest_model.specs.Sound.{IsRising}
use Rattle.shadow_state.specs.Step as step
use Rattle.shadow_state.specs.Bank.{Slot, at_place, IsOver, fresh_slot, marked_slot}

-- a shadow that waits for its guard's commit: the guard, the point and the state
pub record Waiter : Type 0 where
  pub guard : ℕ
  pub point : ℕ
  pub slot : Slot

-- a started transaction: its number, its optimistic state, and the shadows that wait
pub record Seat : Type 0 where
  pub number : ℕ
  pub optimistic : Slot
  pub waiters : List Waiter

-- at most so many shadows a transaction, at most so many transactions, over so many items; and those that are started
pub record Seated : Type 0 where
  pub most : ℕ
  pub lanes : ℕ
  pub items : ℕ
  pub seats : List Seat

-- In numbers.

-- the guard and the point
abbrev pub conflict_of : Waiter → Conflict
conflict_of w = (w.guard, w.point)

-- the conflicts that a transaction has shadows for
abbrev pub conflicts_of : Seat → List Conflict
conflicts_of r = map conflict_of r.waiters

-- where the shadow stands
abbrev pub shadow_of : Waiter → Shadow
shadow_of w = record { guard = w.guard; position = w.slot.state.position; out = w.slot.out }

-- where the shadows of a transaction stand
abbrev pub started_of : Seat → Started
started_of r = record { number = r.number; position = r.optimistic.state.position; out = r.optimistic.out; shadows = map shadow_of r.waiters }

-- The transactions.

-- the transaction of this number, if it is started
abbrev pub find_seat : List Seat → ℕ → Option Seat
find_seat seats t = find (λ (r : Seat). r.number == t) seats

-- one comes before the other
abbrev pub comes_before : Seat → Seat → Bool
comes_before x y = nat_lt x.number y.number

-- a transaction that starts has one shadow, at the start of its program
abbrev pub fresh_seat : ℕ → List Node → ℕ → Seat
fresh_seat t nodes items = record { number = t; optimistic = fresh_slot nodes items; waiters = [] }

-- the transactions with one more that starts
abbrev pub seats_with : ℕ → List Node → ℕ → List Seat → List Seat
seats_with t nodes items seats = put_in_order comes_before (fresh_seat t nodes items) seats

-- the transactions but one
abbrev pub seats_without : ℕ → List Seat → List Seat
seats_without t seats = filter (λ (r : Seat). not (r.number == t)) seats

-- The slots of a transaction.

-- all its slots, the optimistic one first
abbrev pub slots_of : Seat → List Slot
slots_of r = r.optimistic ∷ map (λ (w : Waiter). w.slot) r.waiters

-- the slots at a place
abbrev pub slots_at : List Seat → ℕ → Option (List Slot)
slots_at seats place = option_map slots_of (slice_get seats place)

-- the slot of the transaction at a place, if there is one
abbrev pub slot_at : List Seat → ℕ → ℕ → Option Slot
slot_at seats place slot = option_and_then (λ (slots : List Slot). slice_get slots slot) (slots_at seats place)

-- the slot with this state, which is not out
abbrev pub stepped_slot : Held → Slot → Slot
stepped_slot state s = record { state = state; out = false }

-- the shadow with another slot
abbrev pub waiter_with : (Slot → Slot) → Waiter → Waiter
waiter_with f w = record w { slot = f w.slot }

-- the transaction with one of its slots changed; 0 is the optimistic one
abbrev pub seat_with : ℕ → (Slot → Slot) → Seat → Seat
seat_with zero f r = record r { optimistic = f r.optimistic }
seat_with (suc n) f r = record r { waiters = at_place n (waiter_with f) r.waiters }

-- none of its slots is out
abbrev pub recalled_seat : Seat → Seat
recalled_seat r = record r { optimistic = marked_slot false r.optimistic; waiters = map (waiter_with (marked_slot false)) r.waiters }

-- Settling.

-- the slot of the first shadow for this guard, or this one
abbrev pub guard_slot : ℕ → List Waiter → Slot → Slot
guard_slot u [] otherwise = otherwise
guard_slot u (w ∷ ws) otherwise = if w.guard == u then w.slot else guard_slot u ws otherwise

-- the slot of the shadow with this role
abbrev pub role_slot : Role → Seat → Slot
role_slot Optimistic r = r.optimistic
role_slot (Guard u) r = guard_slot u r.waiters r.optimistic

-- the slot for this guard: the one that is there, a copy that is not out, or a fresh one
abbrev pub slot_from : Origin → List Node → ℕ → Seat → ℕ → Slot
slot_from Keep nodes items r u = role_slot (Guard u) r
slot_from (From role) nodes items r u = marked_slot false (role_slot role r)
slot_from Fresh nodes items r u = fresh_slot nodes items

-- the shadow for this conflict, out of those of the transaction as it was
abbrev pub waiter_for : List Node → ℕ → Seat → Conflict → Waiter
waiter_for nodes items r w = record { guard = w.0; point = w.1; slot = slot_from (origin (placed_of (started_of r)) w.0 w.1) nodes items r w.0 }

-- the transaction with the shadows for these conflicts
abbrev pub settled_seat : List Node → ℕ → List Conflict → Seat → Seat
settled_seat nodes items ws r = record r { waiters = map (waiter_for nodes items r) ws }

-- After a cut.

-- the shadow stays where another becomes the optimistic one: it stands at or before the cut, and is not that one
abbrev pub stays : ℕ → Role → Waiter → Bool
stays cut heir w = nat_le w.slot.state.position cut && not (waits_for w.guard heir)

-- the shadow with this role is the optimistic one from now on, with its mark, and the others at or before the cut stay; or a fresh one is
abbrev pub promoted_by : Origin → List Node → ℕ → ℕ → Seat → Seat
promoted_by Keep nodes items cut r = r
promoted_by (From heir) nodes items cut r = record r { optimistic = role_slot heir r; waiters = filter (stays cut heir) r.waiters }
promoted_by Fresh nodes items cut r = record r { optimistic = fresh_slot nodes items; waiters = [] }

-- the transaction whose optimistic shadow is the furthest at or before the cut
abbrev pub promoted_seat : List Node → ℕ → ℕ → Seat → Seat
promoted_seat nodes items cut r = promoted_by (successor (placed_of (started_of r)) cut) nodes items cut r

-- What each transaction keeps.

-- at most so many shadows, each over so many items
pub record IsSeat (most items : ℕ) (r : Seat) : Type 0 where
  pub few : suc (length r.waiters) ≤ most
  pub optimistic : IsOver items r.optimistic
  pub waiters : AllByRecursion (λ (w : Waiter). IsOver items w.slot) r.waiters

-- the limits, numbers that rise, and what each transaction keeps
pub record AreSeats (s : Seated) : Type 0 where
  pub least : 1 ≤ s.most
  pub most : s.most ≤ 8
  pub some : 1 ≤ s.lanes
  pub many : s.lanes ≤ 64
  pub small : s.items ≤ 1024
  pub few : length s.seats ≤ s.lanes
  pub rising : IsRising (map (λ (r : Seat). r.number) s.seats)
  pub each : AllByRecursion (IsSeat s.most s.items) s.seats

-- One step of a slot over these tables.

-- the new state is that after one step of the run of this program over these tables, whatever program that is
abbrev pub StepsOver : List Node → List ℤ → Held → Held → Type 0
StepsOver nodes tables old new = step.StepsOver nodes tables old new

-- the new state is that after so many Local steps, of at most so many, whatever program and tables the run is of
abbrev pub RunsLocal : List Node → ℕ → Held → Held → ℕ → Type 0
RunsLocal nodes most old new made = step.RunsLocal nodes most old new made
