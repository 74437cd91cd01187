-- What is noted at the places of transactions.
use Rattle.std.specs.Prelude.{◌≡◌, ◌<◌, ◌-◌, ℕ, zero, suc, List, [], ◌∷◌, ◌++◌, length, map, replicate, slice_get, slice_set, slice_index_or, Option, None, Some, option_map}
use Rattle.std.proofs.Common.{refl, sym, ap, ap₂, arith, ◌∙◌, length-set, length-append}
use Rattle.std.proofs.lemmas.List.{length-map}
use Rattle.std.proofs.lemmas.Option.{same_Some}
use Rattle.txn_interp.specs.State.{Held}
use Rattle.shadow_state.specs.Bank.{Slot, at_place}
use Rattle.shadow_state.proofs.Places.{length_at}
use Rattle.shadow_lanes.specs.Seats.{Seat, Seated, slot_at, seat_with}
use Rattle.conflict_index.specs.Index.{Lane, Index, forgotten, lane_at, lanes_with}
use Rattle.index_laws.specs.Noted.{lane_of_run}
use Rattle.indexed_lanes.specs.Noted.{noted_of, IsNoted}

-- Where a transaction is changed.

pub place_within : (s : Seated) (index : Index) (place : ℕ) → IsNoted s index → place < length s.seats → place < length index.lanes
place_within s index place h lt =
    omega (arith, ap length h.lanes, length-append (map noted_of s.seats) (replicate (s.lanes - length s.seats) forgotten), length-map s.seats noted_of, lt)

noted_there : (seats : List Seat) (rest : List Lane) (place : ℕ) (r : Seat) → slice_get seats place ≡ Some r → slice_index_or (map noted_of seats ++ rest) place forgotten ≡ noted_of r
noted_there [] rest place r is = cc
noted_there (x ∷ seats) rest zero r is = let same : x ≡ r = cc in ap noted_of same
noted_there (x ∷ seats) rest (suc place) r is = noted_there seats rest place r is

-- what is noted of the transaction at a place
pub noted_at : (s : Seated) (index : Index) (place : ℕ) (r : Seat) → IsNoted s index → slice_get s.seats place ≡ Some r → lane_at index place ≡ noted_of r
noted_at s index place r h is = ap (λ ls. slice_index_or ls place forgotten) h.lanes ∙ noted_there s.seats (replicate (s.lanes - length s.seats) forgotten) place r is

noted_set : (seats : List Seat) (rest : List Lane) (place : ℕ) (r : Seat) (f : Seat → Seat) (new : Lane) → slice_get seats place ≡ Some r → new ≡ noted_of (f r)
    → slice_set (map noted_of seats ++ rest) place new ≡ map noted_of (at_place place f seats) ++ rest
noted_set [] rest place r f new is e = cc
noted_set (x ∷ seats) rest zero r f new is e = let same : x ≡ r = cc in ap (λ l. l ∷ (map noted_of seats ++ rest)) (e ∙ ap (λ y. noted_of (f y)) (sym same))
noted_set (x ∷ seats) rest (suc place) r f new is e = ap (λ ls. noted_of x ∷ ls) (noted_set seats rest place r f new is e)

-- what is noted of it now is what it has read and written now
pub changed_noted : (s : Seated) (index new : Index) (place : ℕ) (r : Seat) (f : Seat → Seat) (lane : Lane) → slice_get s.seats place ≡ Some r → lane ≡ noted_of (f r) → new.items ≡ index.items → new.lanes ≡ lanes_with index place lane
    → IsNoted s index → IsNoted (record s { seats = at_place place f s.seats }) new
changed_noted s index new place r f lane is e items lanes h = record {
  items = items ∙ h.items;
  many = ap length lanes ∙ length-set index.lanes place lane ∙ h.many;
  lanes =
      lanes ∙ ap (λ ls. slice_set ls place lane) h.lanes ∙ noted_set s.seats (replicate (s.lanes - length s.seats) forgotten) place r f lane is e
      ∙ ap (λ n. map noted_of (at_place place f s.seats) ++ replicate (s.lanes - n) forgotten) (sym (length_at place f s.seats));
}

noted_alike : (f : Seat → Seat) (seats : List Seat) (place : ℕ) → ((r : Seat) → slice_get seats place ≡ Some r → noted_of (f r) ≡ noted_of r) → map noted_of (at_place place f seats) ≡ map noted_of seats
noted_alike f [] place e = refl
noted_alike f (x ∷ seats) zero e = ap (λ l. l ∷ map noted_of seats) (e x refl)
noted_alike f (x ∷ seats) (suc place) e = ap (λ ls. noted_of x ∷ ls) (noted_alike f seats place e)

-- a change that leaves what it has read and written
pub still_noted : (s : Seated) (index : Index) (place : ℕ) (f : Seat → Seat) → ((r : Seat) → slice_get s.seats place ≡ Some r → noted_of (f r) ≡ noted_of r) → IsNoted s index → IsNoted (record s { seats = at_place place f s.seats }) index
still_noted s index place f e h = record {
  items = h.items;
  many = h.many;
  lanes =
      h.lanes ∙ ap (λ ls. ls ++ replicate (s.lanes - length s.seats) forgotten) (sym (noted_alike f s.seats place e))
      ∙ ap (λ n. map noted_of (at_place place f s.seats) ++ replicate (s.lanes - n) forgotten) (sym (length_at place f s.seats));
}

-- and one of all transactions
pub all_noted : (s : Seated) (index : Index) (f : Seat → Seat) → ((r : Seat) → noted_of (f r) ≡ noted_of r) → IsNoted s index → IsNoted (record s { seats = map f s.seats }) index
all_noted s index f e h = record {
  items = h.items;
  many = h.many;
  lanes =
      h.lanes ∙ ap (λ ls. ls ++ replicate (s.lanes - length s.seats) forgotten) (alike s.seats)
      ∙ ap (λ n. map noted_of (map f s.seats) ++ replicate (s.lanes - n) forgotten) (sym (length-map s.seats f));
}
  where
    alike : (seats : List Seat) → map noted_of seats ≡ map noted_of (map f seats)
    alike [] = refl
    alike (x ∷ seats) = rw (e x) (ap (λ ls. noted_of x ∷ ls) (alike seats))

-- A slot changed.

-- a change of a slot leaves what is noted, where it leaves what the optimistic one has read and written
pub slot_alike : (slot : ℕ) (f : Slot → Slot) (r : Seat) → (slot ≡ 0 → ((f r.optimistic).state.log.reads ≡ r.optimistic.state.log.reads) × ((f r.optimistic).state.writes ≡ r.optimistic.state.writes))
    → noted_of (seat_with slot f r) ≡ noted_of r
slot_alike zero f r same = let two = same refl in ap₂ lane_of_run two.0 two.1
slot_alike (suc n) f r same = refl

-- the first slot is the optimistic one
pub first_slot : (seats : List Seat) (place slot : ℕ) (r : Seat) → slice_get seats place ≡ Some r → slot ≡ 0 → slot_at seats place slot ≡ Some r.optimistic
first_slot seats place slot r at is = ap (slot_at seats place) is ∙ rw at refl

pub first_there : (seats : List Seat) (place slot : ℕ) (r : Seat) (s : Slot) → slice_get seats place ≡ Some r → slot ≡ 0 → slot_at seats place slot ≡ Some s → s ≡ r.optimistic
first_there seats place slot r s at is here = let both : Some s ≡ Some r.optimistic = sym here ∙ first_slot seats place slot r at is in same_Some s r.optimistic both

-- the slot whose state is known
pub slot_there : (o : Option Slot) (state : Held) → option_map (λ (s : Slot). s.state) o ≡ Some state → (s : Slot) × (o ≡ Some s) × (s.state ≡ state)
slot_there None state is = cc
slot_there (Some s) state is = (s, refl, same_Some s.state state is)

-- the state of the first slot
pub first_state : (seats : List Seat) (place : ℕ) (r : Seat) (state : Held) → slice_get seats place ≡ Some r → option_map (λ (s : Slot). s.state) (slot_at seats place 0) ≡ Some state → state ≡ r.optimistic.state
first_state seats place r state at is =
    let there = slot_there (slot_at seats place 0) state is in
    sym there.2 ∙ ap (λ (s : Slot). s.state) (first_there seats place 0 r there.0 at refl there.1)
