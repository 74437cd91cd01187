-- At which stage a pass may make a step, and what the step tells it.
use Rattle.std.specs.Prelude.{◌≡◌, ◌≢◌, ℕ, ◌%◌, ◌^◌, ◌<◌, true, List, [], ◌∷◌, Option, Some, None}
use mathlib.Core.List.{IsPrefix}
use Rattle.atomic_table.specs.Table.{Me}
use Rattle.atomic_table.specs.Seated.{TableId}
use Rattle.atomic_table.specs.declared.shared.Seat.{Seat}
use Rattle.turn_cell.specs.declared.view.View.{View}
use Rattle.turn_cell.specs.declared.view.Stage.TheVariants.{Idle, Waits, Holds, Joined}
use Rattle.turn_cell.specs.Views.{is_waiting, is_holding, list_found, at_stage, after_turn, longer}

abbrev LockSeat : Type 0 → Type 0 → Type 0
LockSeat V I = Seat (Option V) (View I)

-- a pass's view, and the slot if it holds it, with what lies in it
abbrev Knowing : Type 0 → Type 0 → Type 0
Knowing V I = Me (Option V) (View I)

module _ {V I : Type 0} where
  abbrev pub SitsAt : LockSeat V I → TableId → Type 0
  SitsAt seat table = seat.table_id ≡ table

  -- a pass between two calls
  abbrev pub IsIdle : LockSeat V I → Type 0
  IsIdle seat = (seat.me.0.stage ≡ Idle) × (seat.me.1 ≡ []) × (0 < seat.me.0.seats)

  -- a pass that has drawn a ticket
  abbrev pub IsWaiting : LockSeat V I → Type 0
  IsWaiting seat = (is_waiting seat.me.0.stage ≡ true) × (seat.me.1 ≡ [])

  -- a pass that holds the slot with a value in it
  abbrev pub HasValue : LockSeat V I → Type 0
  HasValue seat = (x : V) × (seat.me.1 ≡ (0, Some x) ∷ [])

  -- a pass that has taken the value out of the slot
  abbrev pub IsOut : LockSeat V I → Type 0
  IsOut seat = (is_holding seat.me.0.stage ≡ true) × (seat.me.1 ≡ (0, None) ∷ []) × (0 < seat.me.0.seats)

  -- a pass that has put a value into the slot, whose list begins with the one that it found
  abbrev pub HasLaid : (V → List I) → LockSeat V I → Type 0
  HasLaid items seat = (is_holding seat.me.0.stage ≡ true) × ((x : V) × (seat.me.1 ≡ (0, Some x) ∷ []) × IsPrefix (list_found seat.me.0.stage) (items x))

  -- a pass that took in another, and has seen the longer of their lists
  abbrev pub HasJoined : LockSeat V I → Type 0
  HasJoined seat = ((a : List I) × (b : List I) × (seat.me.0.stage ≡ Joined a b) × (seat.me.0.seen ≡ longer a b)) × (seat.me.1 ≡ [])

  -- a ticket was drawn, which is the number found
  abbrev pub Drew : Knowing V I → ℕ → Knowing V I → Type 0
  Drew m found m' = (t : ℕ) × (t % 2 ^ 64 ≡ found) × (m' ≡ (at_stage m.0 (Waits t), m.1))

  -- the slot is the pass's own where its ticket is served, and its value begins with all that the pass had seen
  abbrev pub Looked : (V → List I) → Knowing V I → ℕ → Knowing V I → Type 0
  Looked items m found m' = (t : ℕ) → m.0.stage ≡ Waits t
      → (found ≡ t % 2 ^ 64 → (x : V) × IsPrefix m.0.seen (items x) × (m' ≡ (at_stage m.0 (Holds t (items x)), (0, Some x) ∷ [])))
      × (found ≢ t % 2 ^ 64 → m' ≡ m)

  -- the slot went home, and the turn is over
  abbrev pub PassedOn : (V → List I) → Knowing V I → Knowing V I → Type 0
  PassedOn items m m' = (x : V) → m.1 ≡ (0, Some x) ∷ [] → m' ≡ (after_turn m.0 (list_found m.0.stage) (items x), [])

  -- what the two passes of a join had seen begins what is seen
  abbrev pub Met : Knowing V I → Knowing V I → Type 0
  Met m m' = (a b : List I) → m.0.stage ≡ Joined a b → (m' ≡ (at_stage m.0 Idle, m.1)) × IsPrefix a m.0.seen × IsPrefix b m.0.seen
