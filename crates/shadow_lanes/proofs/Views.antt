-- The transactions that are seen through the bank, where one of them changes.
use Rattle.shadow_lanes.proofs.Lists.{get_map}
use Rattle.std.proofs.lemmas.List.{length-map}
use Rattle.std.specs.Prelude.{◌≡◌, ◌≢◌, ◌<◌, ◌≤◌, ℕ, zero, suc, true, false, nat_eq, List, [], ◌∷◌, length, get_or, slice_get, slice_set, Some}
use Rattle.std.proofs.Common.{refl, sym, ap, arith, ◌∙◌}
use Rattle.shadow_state.specs.Bank.{Slot, Sides, Banked, AreSides, at_place, lane_with, present_at, present_in}
use Rattle.shadow_state.proofs.Places.{get_at, some_at, length_at, set_kept, get_same, get_other, all_get}
use Rattle.shadow_lanes.specs.Seats.{Seat, slots_of, slot_at}
use Rattle.shadow_lanes.specs.Kept.{Kept, AreKept, IsFew, seat_of, seat_in, seats_in, seated_in, present_slots, lanes_of, one_if, times}
use Rattle.shadow_lanes.proofs.Slots.{seat_slot, seat_length}

-- How often a number is there.

pub one_same : (a b : ℕ) → a ≡ b → one_if (nat_eq a b) ≡ 1
one_same a b e = let t : nat_eq a b ≡ true = grind (arith, e) in rw t refl

pub one_other : (a b : ℕ) → a ≢ b → one_if (nat_eq a b) ≡ 0
one_other a b ne = let t : nat_eq a b ≡ false = grind (arith, ne) in rw t refl

pub differs : (a b : ℕ) → one_if (nat_eq a b) ≡ 0 → a ≢ b
differs a b none = λ e. absurd (omega (arith, one_same a b e, none))

pub times_get : (ns : List ℕ) (i n : ℕ) → slice_get ns i ≡ Some n → 1 ≤ times n ns
times_get [] i n is = cc
times_get (m ∷ ns) zero n is = let same : m ≡ n = cc in omega (arith, one_same m n same)
times_get (m ∷ ns) (suc i) n is = omega (arith, times_get ns i n is)

-- The transactions at their places.

-- a transaction with another lane stays as it is
pub other_seat : (n : ℕ) (f : Sides → Sides) (sides : List Sides) (k : Kept) → k.lane ≢ n → seat_in (at_place n f sides) k ≡ seat_in sides k
other_seat n f sides k ne = ap (λ o. seat_of k (present_slots o)) (get_other n k.lane f sides ne)

-- and so do all, where none has the lane
pub other_seats : (n : ℕ) (f : Sides → Sides) (sides : List Sides) (kept : List Kept) → times n (lanes_of kept) ≡ 0 → seats_in (at_place n f sides) kept ≡ seats_in sides kept
other_seats n f sides [] none = refl
other_seats n f sides (k ∷ kept) none =
    let ne : k.lane ≢ n = differs k.lane n (omega (arith, none)) in
    λ i. other_seat n f sides k ne i ∷ other_seats n f sides kept (omega (arith, none)) i

-- where one transaction has the lane, only that one changes
pub one_seat : (sides : List Sides) (f : Sides → Sides) (kept : List Kept) (place : ℕ) (k new : Kept) (h : Seat → Seat) → slice_get kept place ≡ Some k → times k.lane (lanes_of kept) ≤ 1 → seat_in (at_place k.lane f sides) new ≡ h (seat_in sides k) → seats_in (at_place k.lane f sides) (slice_set kept place new) ≡ at_place place h (seats_in sides kept)
one_seat sides f [] place k new h is once e = cc
one_seat sides f (x ∷ kept) zero k new h is once e =
    let same : x ≡ k = cc in
    let one = one_same x.lane k.lane (ap (λ (j : Kept). j.lane) same) in
    let head = e ∙ ap (λ (j : Kept). h (seat_in sides j)) (sym same) in
    λ i. head i ∷ other_seats k.lane f sides kept (omega (arith, once, one)) i
one_seat sides f (x ∷ kept) (suc place) k new h is once e =
    let one = times_get (lanes_of kept) place k.lane (get_map (λ (j : Kept). j.lane) kept place k is) in
    let ne : x.lane ≢ k.lane = differs x.lane k.lane (omega (arith, once, one)) in
    λ i. other_seat k.lane f sides x ne i ∷ one_seat sides f kept place k new h is (omega (arith, once)) e i

-- A transaction at a place with its lane.

pub record Here (bank : Banked) (kept : List Kept) (place : ℕ) (k : Kept) : Type 0 where
  pub is : slice_get kept place ≡ Some k
  pub lane : Sides
  pub has : slice_get bank.sides k.lane ≡ Some lane
  pub sides : AreSides bank.items bank.most lane
  pub few : suc (length k.conflicts) ≤ bank.most
  pub within : k.lane < length bank.sides
  pub once : times k.lane (lanes_of kept) ≤ 1

pub here : (bank : Banked) (kept : List Kept) (free : List ℕ) (room free_room place : ℕ) (k : Kept) → AreKept bank kept free room free_room → place < length (seats_in bank.sides kept) → k ≡ get_or kept place k → Here bank kept place k
here bank kept free room free_room place k h lt at =
    let is = get_at kept place k (omega (arith, lt, length-map kept (seat_in bank.sides))) at in
    let within = all_get (λ n. n < length bank.sides) (lanes_of kept) place k.lane h.used_within (get_map (λ (j : Kept). j.lane) kept place k is) in
    let lane = some_at bank.sides k.lane within in
    record {
      is = is;
      lane = lane.0;
      has = lane.1;
      sides = all_get (AreSides bank.items bank.most) bank.sides k.lane lane.0 h.banked.each lane.1;
      few = all_get (IsFew bank.most) kept place k h.few is;
      within = within;
      once = omega (arith, h.once k.lane);
    }

module _ {bank : Banked} {kept : List Kept} {place : ℕ} {k : Kept} where
  -- its slots are within the lane
  pub fits : (h : Here bank kept place k) → length k.conflicts < length h.lane.present
  fits h = omega (arith, h.few, h.sides.present.many)

  pub seat_there : (h : Here bank kept place k) → seat_in bank.sides k ≡ seat_of k h.lane.present
  seat_there h = ap (λ o. seat_of k (present_slots o)) h.has

  pub seat_here : (h : Here bank kept place k) → slice_get (seats_in bank.sides kept) place ≡ Some (seat_of k h.lane.present)
  seat_here h = get_map (seat_in bank.sides) kept place k h.is ∙ ap (λ r. Some r) (seat_there h)

  pub slot_within : (slot : ℕ) → Here bank kept place k → ((r : Seat) → slice_get (seats_in bank.sides kept) place ≡ Some r → slot < length (slots_of r)) → slot ≤ length k.conflicts
  slot_within slot h lt = omega (arith, lt (seat_of k h.lane.present) (seat_here h), seat_length k h.lane.present (fits h))

  pub slot_is : (slot : ℕ) → Here bank kept place k → slot ≤ length k.conflicts → slot_at (seats_in bank.sides kept) place slot ≡ present_at bank k.lane slot
  slot_is slot h le =
      rw (seat_here h, h.has) (seat_slot k h.lane.present slot (fits h) le)

  -- the transactions where this one changes
  pub turned : (after : Banked) (n : ℕ) (new : Kept) (f : Sides → Sides) (g : Seat → Seat) (h : Here bank kept place k) → after ≡ lane_with n f bank → n ≡ k.lane → new.lane ≡ k.lane → seat_of new (f h.lane).present ≡ g (seat_of k h.lane.present) → seated_in after (slice_set kept place new) ≡ record (seated_in bank kept) { seats = at_place place g (seats_in bank.sides kept) }
  turned after n new f g h is at lane e =
      let there : seat_in (at_place k.lane f bank.sides) new ≡ seat_of new (f h.lane).present = ap (λ m. seat_of new (present_slots (slice_get (at_place k.lane f bank.sides) m))) lane ∙ ap (λ o. seat_of new (present_slots o)) (get_same k.lane f bank.sides h.lane h.has) in
      let all = one_seat bank.sides f kept place k new g h.is h.once (there ∙ e ∙ ap g (sym (seat_there h))) in
      ap (λ (b : Banked). seated_in b (slice_set kept place new)) (is ∙ ap (λ m. lane_with m f bank) at) ∙ (λ i. record { most = bank.most; lanes = length_at k.lane f bank.sides i; items = bank.items; seats = all i })

  pub slot_below : (slot : ℕ) → Here bank kept place k → ((r : Seat) → slice_get (seats_in bank.sides kept) place ≡ Some r → slot < length (slots_of r)) → slot < bank.most
  slot_below slot h lt = omega (arith, slot_within slot h lt, h.few)

  -- the same where only slots change
  pub turned_only : (after : Banked) (n : ℕ) (f : Sides → Sides) (g : Seat → Seat) (h : Here bank kept place k) → after ≡ lane_with n f bank → n ≡ k.lane → seat_of k (f h.lane).present ≡ g (seat_of k h.lane.present) → seated_in after kept ≡ record (seated_in bank kept) { seats = at_place place g (seats_in bank.sides kept) }
  turned_only after n f g h is at e = ap (seated_in after) (sym (set_kept kept place k h.is)) ∙ turned after n k f g h is at refl e

-- a place has one transaction
pub same_kept : {bank : Banked} {kept : List Kept} {place : ℕ} {j k : Kept} → Here bank kept place j → Here bank kept place k → j ≡ k
same_kept a b = let first = a.is in let second = b.is in cc

-- what is at a slot of the lane
pub lane_is : {bank : Banked} {kept : List Kept} {place : ℕ} {k : Kept} (h : Here bank kept place k) (n slot : ℕ) (s : Slot) → n ≡ k.lane → present_at bank n slot ≡ Some s → slice_get h.lane.present slot ≡ Some s
lane_is {bank} h n slot s at is = sym (ap (λ o. present_in o slot) (ap (slice_get bank.sides) at ∙ h.has)) ∙ is
