-- What is read of the transaction at a place.
use Rattle.std.proofs.Common.{◌≡◌, ℕ, List, Some, option_map, slice_get}
use Rattle.txn_interp.specs.State.{Held}
use Rattle.shadow_state.specs.Bank.{Slot}
use Rattle.shadow_lanes.specs.Seats.{Seat, Seated, slot_at}
use Rattle.shadow_forest.proofs.Places.{option_map-some}

-- its number
pub number-at : (seats : List Seat) (place : ℕ) (r : Seat) (number : ℕ) → slice_get seats place ≡ Some r
    → option_map (λ (x : Seat). x.number) (slice_get seats place) ≡ Some number → r.number ≡ number
number-at seats place r number is e = option_map-some (λ (x : Seat). x.number) (slice_get seats place) r number is e

-- the state of its optimistic shadow
pub state-at : (seats : List Seat) (place : ℕ) (r : Seat) (state : Held) → slice_get seats place ≡ Some r
    → option_map (λ (s : Slot). s.state) (slot_at seats place 0) ≡ Some state → r.optimistic.state ≡ state
state-at seats place r state is e = let there : Some r.optimistic.state ≡ Some state = rw is at e in cc

-- the same with other transactions
abbrev pub with_seats : Seated → List Seat → Seated
with_seats s seats = record s { seats = seats }
