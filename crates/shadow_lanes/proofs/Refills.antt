-- A transaction whose lane was swapped and filled anew.
use Rattle.shadow_lanes.proofs.Lists.{got_map}
use Rattle.std.proofs.lemmas.List.{length-map}
use Rattle.std.specs.Prelude.{◌≡◌, ◌<◌, ◌≤◌, ℕ, suc, List, length, slice_get, slice_set, Some, option_map}
use Rattle.std.proofs.Common.{refl, sym, ap, subst, arith, ◌∙◌}
use Rattle.std.specs.List.{AllByRecursion}
use Rattle.shadow_state.specs.Bank.{Sides, Banked, IsOver, at_place, lane_with, swapped}
use Rattle.shadow_state.proofs.Places.{get_same}
use Rattle.block_rule.specs.declared.role.Role.{Role}
use Rattle.txn_code.specs.declared.node.Node.{Node}
use Rattle.forest_model.specs.Point.{Conflict}
use Rattle.forest_model.specs.Origin.{Placed, placed_of}
use Rattle.shadow_lanes.specs.Seats.{Seat, IsSeat, slots_of, conflicts_of, started_of, waiter_for, settled_seat}
use Rattle.shadow_lanes.specs.Kept.{Kept, AreKept, IsLong, seat_of, seats_in, seated_in, refilled, cut_back}
use Rattle.shadow_lanes.proofs.Slots.{seat_is, seat_laid, side_laid, seat_waiters}
use Rattle.shadow_lanes.proofs.Views.{Here, fits, seat_here, turned}
use Rattle.shadow_lanes.proofs.Upkeep.{kept_with, kept_set}
use Rattle.shadow_lanes.proofs.Fills.{settled_over}
use Rattle.shadow_lanes.proofs.Cuts.{cut_few, cut_over}
use Rattle.shadow_lanes.proofs.Changes.{lane_twice}

-- what becomes of a transaction has its number, finds slots, and keeps to the items
pub record IsKeeping (most items : ℕ) (r : Seat) (f : Seat → Seat) : Type 0 where
  pub number : (f r).number ≡ r.number
  pub few : suc (length (f r).waiters) ≤ most
  pub over : AllByRecursion (IsOver items) (slots_of (f r))

module _ {bank : Banked} {kept : List Kept} {place : ℕ} {k : Kept} where
  -- its lane after the exchange
  pub lane_swapped : (mid : Banked) (h : Here bank kept place k) → mid ≡ lane_with k.lane swapped bank → (lane : Sides) → slice_get mid.sides k.lane ≡ Some lane → lane ≡ swapped h.lane
  lane_swapped mid h is lane at =
      let there = sym at ∙ ap (λ (b : Banked). slice_get b.sides k.lane) is ∙ get_same k.lane swapped bank.sides h.lane h.has in
      cc

  pub long_swapped : (mid : Banked) (h : Here bank kept place k) → mid ≡ lane_with k.lane swapped bank → (lane : Sides) → slice_get mid.sides k.lane ≡ Some lane → IsLong mid.most lane
  long_swapped mid h is lane at =
      let same = lane_swapped mid h is lane at in
      let most = ap (λ (b : Banked). b.most) is in
      record {
        present = ap (λ (s : Sides). length s.present) same ∙ h.sides.other.many ∙ sym most;
        other = ap (λ (s : Sides). length s.other) same ∙ h.sides.present.many ∙ sym most;
      }

  pub was_here : (h : Here bank kept place k) → IsSeat bank.most bank.items (seat_of k h.lane.present)
  was_here h = seat_is bank.most bank.items k h.lane.present h.few h.sides.present

  -- the transactions after it
  pub refill_is : (mid after : Banked) (new : Kept) (f : Seat → Seat) (h : Here bank kept place k) → mid ≡ lane_with k.lane swapped bank → after ≡ lane_with k.lane (refilled k f) mid → IsKeeping bank.most bank.items (seat_of k h.lane.present) f → new ≡ record k { conflicts = conflicts_of (f (seat_of k h.lane.present)) } → seated_in after (slice_set kept place new) ≡ record (seated_in bank kept) { seats = at_place place f (seats_in bank.sides kept) }
  refill_is mid after new f h first second keeps is =
      let both = lane_twice bank mid after k.lane swapped (refilled k f) first second in
      let r = seat_of k h.lane.present in
      let number : new.number ≡ (f r).number = ap (λ (j : Kept). j.number) is ∙ sym keeps.number in
      let room : length (f r).waiters < length h.lane.other = omega (arith, keeps.few, h.sides.other.many) in
      turned after k.lane new (λ s. refilled k f (swapped s)) f h both refl (ap (λ (j : Kept). j.lane) is) (seat_laid (f r) h.lane.other new number (ap (λ (j : Kept). j.conflicts) is) room)

  -- and what the lanes keep
  pub refill_kept : (mid after : Banked) (free : List ℕ) (room free_room : ℕ) (new : Kept) (f : Seat → Seat) (h : Here bank kept place k) → mid ≡ lane_with k.lane swapped bank → after ≡ lane_with k.lane (refilled k f) mid → IsKeeping bank.most bank.items (seat_of k h.lane.present) f → new.lane ≡ k.lane → new.number ≡ k.number → suc (length new.conflicts) ≤ bank.most → AreKept bank kept free room free_room → AreKept after (slice_set kept place new) free room free_room
  refill_kept mid after free room free_room new f h first second keeps lane number few was =
      let both = lane_twice bank mid after k.lane swapped (refilled k f) first second in
      let set = kept_set bank kept free room free_room place k new h.is lane number few was in
      kept_with bank after (slice_set kept place new) free room free_room k.lane (λ s. refilled k f (swapped s)) both set (λ s at sides.
      let there = h.has in
      let same : h.lane ≡ s = cc in
      record {
        present = side_laid bank.items bank.most (slots_of (f (seat_of k s.present))) s.other (subst (λ (l : Sides). AllByRecursion (IsOver bank.items) (slots_of (f (seat_of k l.present)))) same keeps.over) sides.other;
        other = sides.present;
      })

  -- what the code reads of its place
  pub rows_here : (rows : List Placed) (mid : Banked) (h : Here bank kept place k) → mid ≡ lane_with k.lane swapped bank → option_map (λ (r : Seat). placed_of (started_of r)) (slice_get (seats_in bank.sides kept) place) ≡ Some rows → (lane : Sides) → slice_get mid.sides k.lane ≡ Some lane → rows ≡ placed_of (started_of (seat_of k lane.other))
  rows_here rows mid h is read lane at =
      got_map (λ (r : Seat). placed_of (started_of r)) (slice_get (seats_in bank.sides kept) place) (seat_of k h.lane.present) rows (seat_here h) read ∙ ap (λ (s : Sides). placed_of (started_of (seat_of k s.other))) (sym (lane_swapped mid h is lane at))

  pub settled_keeps : (nodes : List Node) (cs : List Conflict) (h : Here bank kept place k) → suc (length cs) ≤ bank.most → IsKeeping bank.most bank.items (seat_of k h.lane.present) (settled_seat nodes bank.items cs)
  settled_keeps nodes cs h few = record {
    number = refl;
    few = omega (arith, few, length-map cs (waiter_for nodes bank.items (seat_of k h.lane.present)));
    over = settled_over bank.most bank.items nodes cs (seat_of k h.lane.present) (was_here h);
  }

  pub cut_keeps : (heir : Role) (cut : ℕ) (h : Here bank kept place k) → IsKeeping bank.most bank.items (seat_of k h.lane.present) (cut_back heir cut (length k.conflicts))
  cut_keeps heir cut h =
      let r = seat_of k h.lane.present in
      let many = seat_waiters k h.lane.present (fits h) in
      record {
        number = refl;
        few = omega (arith, cut_few heir cut (length k.conflicts) r (omega (arith, many)), h.few);
        over = cut_over bank.most bank.items heir cut (length k.conflicts) r (was_here h) (omega (arith, many));
      }

  -- the conflicts that stay
  pub stay_here : (cs : List Conflict) (mid : Banked) (f : Seat → Seat) (h : Here bank kept place k) → mid ≡ lane_with k.lane swapped bank → ((lane : Sides) → slice_get mid.sides k.lane ≡ Some lane → cs ≡ conflicts_of (f (seat_of k lane.other))) → cs ≡ conflicts_of (f (seat_of k h.lane.present))
  stay_here cs mid f h is each = each (swapped h.lane) (ap (λ (b : Banked). slice_get b.sides k.lane) is ∙ get_same k.lane swapped bank.sides h.lane h.has)
