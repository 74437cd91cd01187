-- Changes of the bank and of a transaction, one after another.
use Rattle.std.specs.Prelude.{◌≡◌, ◌<◌, ◌≤◌, ◌+◌, ℕ, zero, suc, false, List, [], ◌∷◌, length, map, slice_get, slice_set, Some}
use Rattle.std.proofs.Common.{refl, ap, arith, ◌∙◌, add-one}
use Rattle.txn_interp.specs.State.{Held}
use Rattle.shadow_state.specs.Bank.{Slot, Sides, Banked, IsOver, AreSides, at_place, lane_with, marked_slot, marked_in, with_state, state_in, placed_slot}
use Rattle.shadow_state.proofs.Places.{at_twice, at_alike, some_at}
use Rattle.shadow_state.proofs.Kept.{side_set}
use Rattle.shadow_lanes.specs.Seats.{Waiter, Seat, seat_with, stepped_slot, waiter_with, recalled_seat}
use Rattle.shadow_lanes.specs.Kept.{Kept, seat_of, map_first, recalled_to}
use Rattle.shadow_lanes.proofs.Slots.{seat_at}

-- two changes of one lane are one
pub lane_twice : (old mid new : Banked) (n : ℕ) (f g : Sides → Sides) → mid ≡ lane_with n f old → new ≡ lane_with n g mid → new ≡ lane_with n (λ s. g (f s)) old
lane_twice old mid new n f g first second = second ∙ ap (lane_with n g) first ∙ ap (λ sides. record old { sides = sides }) (at_twice n g f old.sides)

-- two changes that make the same of the lane are one
pub lane_alike : (bank : Banked) (n : ℕ) (f g : Sides → Sides) → ((lane : Sides) → slice_get bank.sides n ≡ Some lane → f lane ≡ g lane) → n < length bank.sides → lane_with n f bank ≡ lane_with n g bank
lane_alike bank n f g same lt =
    let lane = some_at bank.sides n lt in
    ap (λ sides. record bank { sides = sides }) (at_alike n f g bank.sides lane.0 lane.1 (same lane.0 lane.1))

pub placed_sides : (items most to : ℕ) (s : Slot) (lane : Sides) → IsOver items s → AreSides items most lane → AreSides items most (placed_slot to s lane)
placed_sides items most to s lane over h = record { present = side_set items most to s lane.present over h.present; other = h.other }

-- a state that made a step, and its mark taken away
pub seat_stepped : (k : Kept) (n : ℕ) (state : Held) (lane : Sides) → length k.conflicts < length lane.present → seat_of k (marked_in n false (state_in n state lane)).present ≡ seat_with n (stepped_slot state) (seat_of k lane.present)
seat_stepped k n state lane lt = ap (seat_of k) (at_twice n (marked_slot false) (with_state state) lane.present) ∙ seat_at k n (stepped_slot state) lane.present lt

-- a transaction with one slot
pub seat_fresh : (k : Kept) (s : Slot) (slots : List Slot) → 0 < length slots → seat_of (record k { conflicts = [] }) (slice_set slots 0 s) ≡ record (seat_of k slots) { optimistic = s; waiters = [] }
seat_fresh k s [] lt = absurd (omega (arith, lt))
seat_fresh k s (t ∷ slots) lt = refl

-- Recalling, one after another.

pub map_next : {A : Type 0} (n : ℕ) (f : A → A) (xs : List A) → at_place n f (map_first n f xs) ≡ map_first (suc n) f xs
map_next zero f [] = refl
map_next zero f (x ∷ xs) = refl
map_next (suc n) f [] = refl
map_next (suc n) f (x ∷ xs) = ap (λ rest. f x ∷ rest) (map_next n f xs)

pub map_more : {A : Type 0} (n : ℕ) (f : A → A) (xs : List A) → at_place n f (map_first n f xs) ≡ map_first (n + 1) f xs
map_more n f xs = rw add-one (map_next n f xs)

pub map_all : {A : Type 0} (n : ℕ) (f : A → A) (xs : List A) → length xs ≤ n → map_first n f xs ≡ map f xs
map_all zero f [] le = refl
map_all zero f (x ∷ xs) le = absurd (omega (arith, le))
map_all (suc n) f [] le = refl
map_all (suc n) f (x ∷ xs) le = ap (λ rest. f x ∷ rest) (map_all n f xs (omega (arith, le)))

pub recalled_next : (n : ℕ) (r : Seat) → seat_with (n + 1) (marked_slot false) (recalled_to n r) ≡ recalled_to (n + 1) r
recalled_next n r = rw add-one (ap (λ (ws : List Waiter). record r { optimistic = marked_slot false r.optimistic; waiters = ws }) (map_next n (waiter_with (marked_slot false)) r.waiters))

pub recalled_all : (n : ℕ) (r : Seat) → length r.waiters ≤ n → recalled_to n r ≡ recalled_seat r
recalled_all n r le = ap (λ (ws : List Waiter). record r { optimistic = marked_slot false r.optimistic; waiters = ws }) (map_all n (waiter_with (marked_slot false)) r.waiters le)

pub length_first : {A : Type 0} (n : ℕ) (f : A → A) (xs : List A) → length (map_first n f xs) ≡ length xs
length_first zero f xs = refl
length_first (suc n) f [] = refl
length_first (suc n) f (x ∷ xs) = ap suc (length_first n f xs)

-- what is at a place after a change of it
pub got_at : {A : Type 0} (n : ℕ) (f : A → A) (xs : List A) (y : A) → slice_get (at_place n f xs) n ≡ Some y → (x : A) × ((slice_get xs n ≡ Some x) × (y ≡ f x))
got_at n f [] y is = cc
got_at zero f (x ∷ xs) y is = (x, (refl, let e : y ≡ f x = cc in e))
got_at (suc n) f (x ∷ xs) y is = got_at n f xs y is

-- how many wait while they are recalled
pub recalled_waiters : (n : ℕ) (r : Seat) → length (recalled_to n r).waiters ≡ length r.waiters
recalled_waiters n r = length_first n (waiter_with (marked_slot false)) r.waiters
