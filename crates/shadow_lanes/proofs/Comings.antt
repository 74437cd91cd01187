-- A transaction that comes, and one that goes.
use Rattle.shadow_lanes.proofs.Lists.{get_map, all_insert, map_insert, all_remove, map_remove, all_last}
use Rattle.std.proofs.lemmas.List.{length-map}
use Rattle.std.proofs.lemmas.List.Edits.{length-insert, length-remove}
use Rattle.std.proofs.lemmas.Option.{slice_get_within}
use Rattle.std.specs.Prelude.{◌≡◌, ◌≢◌, ◌<◌, ◌≤◌, ℕ, List, [], ◌∷◌, ◌++◌, length, insert, remove, slice_get, slice_set, Some}
use Rattle.std.proofs.Common.{refl, sym, ap, subst, arith, ◌∙◌, length-append}
use Rattle.std.specs.List.{AllByRecursion}
use Rattle.forest_model.specs.Choose.{put_in_order}
use Rattle.shadow_state.specs.Bank.{Slot, Banked, AreSides, lane_with, placed_slot, at_place}
use Rattle.shadow_state.proofs.Places.{some_at, get_same, length_at, all_get, all_more}
use Rattle.shadow_lanes.specs.Seats.{comes_before}
use Rattle.forest_model.specs.Sound.{IsRising}
use Rattle.shadow_lanes.specs.Kept.{Kept, AreKept, IsFew, seat_of, seat_in, seats_in, seated_in, present_slots, lanes_of, numbers_of, times, place_in}
use Rattle.shadow_lanes.proofs.Views.{one_same, other_seats}
use Rattle.shadow_lanes.proofs.Order.{order_is, place_within, times_insert, times_more, rising_insert, times_remove, rising_remove}

pub coming : (bank : Banked) (kept : List Kept) (free : List ℕ) (room free_room : ℕ) (k : Kept) → AreKept bank kept (free ++ k.lane ∷ []) room free_room → IsFew bank.most k → AllByRecursion (λ n. n ≢ k.number) (numbers_of kept) → AreKept bank (insert kept (place_in k.number kept) k) free room free_room
coming bank kept free room free_room k h few new =
    let place = place_in k.number kept in
    let within = place_within k.number kept in
    let at : place ≤ length (lanes_of kept) = omega (arith, within, length-map kept (λ (j : Kept). j.lane)) in
    let lanes = map_insert (λ (j : Kept). j.lane) kept place k within in
    let last = all_last (λ n. n < length bank.sides) free k.lane h.free_within in
    record {
      banked = h.banked;
      few = all_insert (IsFew bank.most) kept place k within h.few few;
      rising = rising_insert k kept new h.rising;
      used_within = subst (AllByRecursion (λ n. n < length bank.sides)) (sym lanes) (all_insert (λ n. n < length bank.sides) (lanes_of kept) place k.lane at h.used_within last.1);
      free_within = last.0;
      once = λ n. omega (arith, ap (times n) lanes, times_insert n (lanes_of kept) place k.lane at, times_more n free k.lane, h.once n);
      all = omega (arith, length-insert kept place k within, length-append free (k.lane ∷ []), h.all);
      fits = h.fits;
      free_fits = h.free_fits;
    }

pub more_room : (bank : Banked) (kept : List Kept) (free : List ℕ) (room wide free_room : ℕ) → room ≤ wide → AreKept bank kept free room free_room → AreKept bank kept free wide free_room
more_room bank kept free room wide free_room le h = record { banked = h.banked; few = h.few; rising = h.rising; used_within = h.used_within; free_within = h.free_within; once = h.once; all = h.all; fits = omega (arith, le, h.fits); free_fits = h.free_fits }

pub leaving : (bank : Banked) (kept : List Kept) (free : List ℕ) (room free_room place : ℕ) (k : Kept) → slice_get kept place ≡ Some k → AreKept bank kept free room free_room → AreKept bank (remove kept place) (free ++ k.lane ∷ []) room free_room
leaving bank kept free room free_room place k is h =
    let lanes = map_remove (λ (j : Kept). j.lane) kept place in
    let numbers = map_remove (λ (j : Kept). j.number) kept place in
    let at = get_map (λ (j : Kept). j.lane) kept place k is in
    record {
      banked = h.banked;
      few = all_remove (IsFew bank.most) kept place h.few;
      rising = subst IsRising (sym numbers) (rising_remove (numbers_of kept) place h.rising);
      used_within = subst (AllByRecursion (λ n. n < length bank.sides)) (sym lanes) (all_remove (λ n. n < length bank.sides) (lanes_of kept) place h.used_within);
      free_within = all_more (λ n. n < length bank.sides) free k.lane h.free_within (all_get (λ n. n < length bank.sides) (lanes_of kept) place k.lane h.used_within at);
      once = λ n. omega (arith, ap (times n) lanes, times_remove n (lanes_of kept) place k.lane at, times_more n free k.lane, h.once n);
      all = omega (arith, length-remove kept place (slice_get_within kept place k is), length-append free (k.lane ∷ []), h.all);
      fits = h.fits;
      free_fits = h.free_fits;
    }

fresh_in : (k : Kept) (s : Slot) (slots : List Slot) → k.conflicts ≡ [] → 0 < length slots → seat_of k (slice_set slots 0 s) ≡ record { number = k.number; optimistic = s; waiters = [] }
fresh_in k s [] none lt = absurd (omega (arith, lt))
fresh_in k s (t ∷ slots) none lt = ap (λ cs. seat_of (record k { conflicts = cs }) (s ∷ slots)) none

-- the transactions with one that comes, at the start of its program
pub come_is : (bank after : Banked) (kept : List Kept) (free : List ℕ) (room free_room : ℕ) (k : Kept) (s : Slot) → AreKept bank kept (free ++ k.lane ∷ []) room free_room → after ≡ lane_with k.lane (placed_slot 0 s) bank → k.conflicts ≡ [] → seated_in after (insert kept (place_in k.number kept) k) ≡ record (seated_in bank kept) { seats = put_in_order comes_before (record { number = k.number; optimistic = s; waiters = [] }) (seats_in bank.sides kept) }
come_is bank after kept free room free_room k s h is none =
    let last = all_last (λ n. n < length bank.sides) free k.lane h.free_within in
    let lane = some_at bank.sides k.lane last.1 in
    let two = all_get (AreSides bank.items bank.most) bank.sides k.lane lane.0 h.banked.each lane.1 in
    let alone : times k.lane (lanes_of kept) ≡ 0 = omega (arith, h.once k.lane, times_more k.lane free k.lane, one_same k.lane k.lane refl) in
    let f = placed_slot 0 s in
    let sides = at_place k.lane f bank.sides in
    let there : seat_in sides k ≡ record { number = k.number; optimistic = s; waiters = [] } = ap (λ o. seat_of k (present_slots o)) (get_same k.lane f bank.sides lane.0 lane.1) ∙ fresh_in k s lane.0.present none (omega (arith, two.present.many, h.banked.least)) in
    let order = order_is sides k kept in
    let all = order ∙ (λ i. put_in_order comes_before (there i) (other_seats k.lane f bank.sides kept alone i)) in
    ap (λ (b : Banked). seated_in b (insert kept (place_in k.number kept) k)) is ∙ (λ i. record { most = bank.most; lanes = length_at k.lane f bank.sides i; items = bank.items; seats = all i })
