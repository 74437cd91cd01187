-- What the lanes keep, where one transaction changes.
use Rattle.shadow_lanes.proofs.Lists.{map_set}
use Rattle.std.proofs.lemmas.List.{length-map}
use Rattle.std.specs.Prelude.{◌≡◌, ◌<◌, ◌≤◌, ◌+◌, ℕ, suc, List, [], ◌∷◌, length, map, slice_get, slice_set, Some}
use Rattle.std.proofs.Common.{refl, sym, ap, subst, arith, ◌∙◌, length-set}
use Rattle.std.specs.List.{AllByRecursion}
use Rattle.shadow_state.specs.Bank.{Sides, Banked, AreSides, IsBanked, at_place, lane_with}
use Rattle.shadow_state.proofs.Places.{length_at, all_at, all_set, some_at, all_get}
use Rattle.forest_model.specs.Sound.{IsRising}
use Rattle.shadow_lanes.specs.Seats.{Seat, IsSeat, AreSeats}
use Rattle.shadow_lanes.specs.Kept.{Kept, AreKept, IsFew, lanes_of, numbers_of, seat_of, seat_in, seats_in, seated_in, present_slots}
use Rattle.shadow_lanes.proofs.Slots.{seat_is}

banked_with : (items most n : ℕ) (f : Sides → Sides) (sides : List Sides) → IsBanked items most sides → ((lane : Sides) → slice_get sides n ≡ Some lane → AreSides items most lane → AreSides items most (f lane)) → IsBanked items most (at_place n f sides)
banked_with items most n f sides h keeps = record {
  small = h.small;
  least = h.least;
  few = h.few;
  some = omega (arith, h.some, length_at n f sides);
  many = omega (arith, h.many, length_at n f sides);
  each = all_at (AreSides items most) n f sides keeps h.each;
}

-- one lane of the bank changed
pub kept_with : (bank after : Banked) (kept : List Kept) (free : List ℕ) (room free_room n : ℕ) (f : Sides → Sides) → after ≡ lane_with n f bank → AreKept bank kept free room free_room → ((lane : Sides) → slice_get bank.sides n ≡ Some lane → AreSides bank.items bank.most lane → AreSides bank.items bank.most (f lane)) → AreKept after kept free room free_room
kept_with bank after kept free room free_room n f is h keeps =
    let long = length_at n f bank.sides in
    subst (λ (b : Banked). AreKept b kept free room free_room) (sym is) (record {
      banked = banked_with bank.items bank.most n f bank.sides h.banked keeps;
      few = h.few;
      rising = h.rising;
      used_within = subst (λ m. AllByRecursion (λ l. l < m) (lanes_of kept)) (sym long) h.used_within;
      free_within = subst (λ m. AllByRecursion (λ l. l < m) free) (sym long) h.free_within;
      once = h.once;
      all = h.all ∙ sym long;
      fits = omega (arith, h.fits, long);
      free_fits = omega (arith, h.free_fits, long);
    })

-- other conflicts for one transaction
pub kept_set : (bank : Banked) (kept : List Kept) (free : List ℕ) (room free_room place : ℕ) (k new : Kept) → slice_get kept place ≡ Some k → new.lane ≡ k.lane → new.number ≡ k.number → suc (length new.conflicts) ≤ bank.most → AreKept bank kept free room free_room → AreKept bank (slice_set kept place new) free room free_room
kept_set bank kept free room free_room place k new is lane number few h =
    let lanes : lanes_of (slice_set kept place new) ≡ lanes_of kept = map_set (λ (j : Kept). j.lane) kept place k new is lane in
    let numbers : numbers_of (slice_set kept place new) ≡ numbers_of kept = map_set (λ (j : Kept). j.number) kept place k new is number in
    let long = length-set kept place new in
    record {
      banked = h.banked;
      few = all_set (IsFew bank.most) kept place new few h.few;
      rising = subst IsRising (sym numbers) h.rising;
      used_within = subst (AllByRecursion (λ n. n < length bank.sides)) (sym lanes) h.used_within;
      free_within = h.free_within;
      once = rw lanes h.once;
      all = ap (λ n. n + length free) long ∙ h.all;
      fits = h.fits;
      free_fits = h.free_fits;
    }

-- what callers see of it
seats_each : (bank : Banked) (kept : List Kept) → AllByRecursion (AreSides bank.items bank.most) bank.sides → AllByRecursion (IsFew bank.most) kept → AllByRecursion (λ n. n < length bank.sides) (lanes_of kept) → AllByRecursion (IsSeat bank.most bank.items) (seats_in bank.sides kept)
seats_each bank [] sides few within = tt
seats_each bank (k ∷ kept) sides few within =
    let lane = some_at bank.sides k.lane within.0 in
    let two = all_get (AreSides bank.items bank.most) bank.sides k.lane lane.0 sides lane.1 in
    let one = seat_is bank.most bank.items k lane.0.present few.0 two.present in
    (subst (λ o. IsSeat bank.most bank.items (seat_of k (present_slots o))) (sym lane.1) one, seats_each bank kept sides few.1 within.1)

-- their numbers, as they are kept and as callers see them
numbers_seen : (sides : List Sides) (kept : List Kept) → numbers_of kept ≡ map (λ (r : Seat). r.number) (seats_in sides kept)
numbers_seen sides [] = refl
numbers_seen sides (k ∷ kept) = ap (λ ns. k.number ∷ ns) (numbers_seen sides kept)

pub seats_are : (bank : Banked) (kept : List Kept) (free : List ℕ) (room free_room : ℕ) → AreKept bank kept free room free_room → AreSeats (seated_in bank kept)
seats_are bank kept free room free_room h = record {
  least = h.banked.least;
  most = h.banked.few;
  some = h.banked.some;
  many = h.banked.many;
  small = h.banked.small;
  few = omega (arith, h.all, length-map kept (seat_in bank.sides));
  rising = subst IsRising (numbers_seen bank.sides kept) h.rising;
  each = seats_each bank kept h.banked.each h.few h.used_within;
}
