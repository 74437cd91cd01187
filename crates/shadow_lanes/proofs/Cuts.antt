-- The present side of a lane, where a waiting shadow becomes the optimistic one.
use Rattle.shadow_lanes.proofs.Lists.{take_next, filter_more, filter_same, filter_few, all_filter}
use Rattle.std.proofs.lemmas.List.{length-map, length-take-le, take_all, map-append}
use Rattle.std.specs.Prelude.{◌≡◌, ◌<◌, ◌≤◌, ◌+◌, ℕ, suc, true, false, not, ◌&&◌, nat_le, get_or, List, [], ◌∷◌, ◌++◌, length, map, filter, take, slice_get, Some}
use Rattle.std.proofs.Common.{sym, ap, subst, arith, ◌∙◌, add-one}
use Rattle.std.specs.List.{AllByRecursion}
use Rattle.block_rule.specs.declared.role.Role.{Role}
use Rattle.shadow_state.specs.Bank.{Slot, Sides, Banked, IsOver, forked, lane_with}
use Rattle.shadow_lanes.specs.Seats.{Waiter, Seat, IsSeat, slots_of, conflict_of, role_slot, stays, started_of}
use Rattle.forest_model.specs.Point.{Conflict}
use Rattle.forest_model.specs.Origin.{Placed, placed_of, waits_for}
use Rattle.shadow_lanes.specs.Kept.{Kept, seat_of, laid, refilled, cut_back}
use Rattle.shadow_lanes.proofs.Slots.{slot, waiters_slots, laid_next, seat_waiters, seat_conflicts, seat_slot}
use Rattle.shadow_lanes.proofs.Changes.{lane_twice, lane_alike}
use Rattle.shadow_lanes.proofs.Rows.{waiter_here, waiter_slot, conflict_here, row_here}
use Rattle.shadow_lanes.proofs.Fills.{forked_is, role_over}

-- the waiting shadows so far
abbrev pub cut_waiters : Role → ℕ → ℕ → Seat → List Waiter
cut_waiters heir cut many r = filter (stays cut heir) (take many r.waiters)

pub cut_more : (heir : Role) (cut i : ℕ) (r : Seat) (w : Waiter) → slice_get r.waiters i ≡ Some w → stays cut heir w ≡ true → cut_waiters heir cut (i + 1) r ≡ cut_waiters heir cut i r ++ w ∷ []
cut_more heir cut i r w is stay = rw add-one (ap (filter (stays cut heir)) (take_next r.waiters i w is) ∙ filter_more (stays cut heir) (take i r.waiters) w stay)

pub cut_same : (heir : Role) (cut i : ℕ) (r : Seat) (w : Waiter) → slice_get r.waiters i ≡ Some w → stays cut heir w ≡ false → cut_waiters heir cut (i + 1) r ≡ cut_waiters heir cut i r
cut_same heir cut i r w is go = rw add-one (ap (filter (stays cut heir)) (take_next r.waiters i w is) ∙ filter_same (stays cut heir) (take i r.waiters) w go)

pub cut_few : (heir : Role) (cut i : ℕ) (r : Seat) → i ≤ length r.waiters → length (cut_waiters heir cut i r) ≤ i
cut_few heir cut i r le = omega (arith, filter_few (stays cut heir) (take i r.waiters), length-take-le i r.waiters le)

-- one shadow more stays
pub cut_forked : (bank mid after : Banked) (k : Kept) (heir : Role) (cut i to : ℕ) → mid ≡ lane_with k.lane (refilled k (cut_back heir cut i)) bank → after ≡ lane_with k.lane (forked (i + 1) to) mid → k.lane < length bank.sides → ((lane : Sides) → slice_get bank.sides k.lane ≡ Some lane → (w : Waiter) × ((slice_get (seat_of k lane.other).waiters i ≡ Some w) × ((slice_get lane.other (i + 1) ≡ Some w.slot) × ((stays cut heir w ≡ true) × ((to ≡ suc (length (cut_waiters heir cut i (seat_of k lane.other)))) × (to < length lane.present)))))) → after ≡ lane_with k.lane (refilled k (cut_back heir cut (i + 1))) bank
cut_forked bank mid after k heir cut i to first second lt each =
    let both = lane_twice bank mid after k.lane (refilled k (cut_back heir cut i)) (forked (i + 1) to) first second in
    both ∙ lane_alike bank k.lane _ (refilled k (cut_back heir cut (i + 1))) (λ lane at.
    let r = seat_of k lane.other in
    let e = each lane at in
    let w = e.0 in
    let ws = cut_waiters heir cut i r in
    let new = slots_of (cut_back heir cut i r) in
    let many : to ≡ length new = e.1.1.1.1.0 ∙ ap suc (sym (length-map ws slot)) in
    let after_fork = forked_is (i + 1) to w.slot (refilled k (cut_back heir cut i) lane) e.1.1.0 in
    let slots : new ++ w.slot ∷ [] ≡ slots_of (cut_back heir cut (i + 1) r) = ap (λ rest. role_slot heir r ∷ rest) (sym (map-append slot ws (w ∷ [])) ∙ ap (map slot) (sym (cut_more heir cut i r w e.1.0 e.1.1.1.0))) in
    after_fork ∙ laid_next new w.slot lane to many (omega (arith, many, e.1.1.1.1.1)) ∙ ap (λ ss. record lane { present = laid ss lane.present }) slots) lt

-- or it doesn't
pub cut_passed : (bank mid : Banked) (k : Kept) (heir : Role) (cut i : ℕ) → mid ≡ lane_with k.lane (refilled k (cut_back heir cut i)) bank → k.lane < length bank.sides → ((lane : Sides) → slice_get bank.sides k.lane ≡ Some lane → (w : Waiter) × ((slice_get (seat_of k lane.other).waiters i ≡ Some w) × (stays cut heir w ≡ false))) → mid ≡ lane_with k.lane (refilled k (cut_back heir cut (i + 1))) bank
cut_passed bank mid k heir cut i first lt each =
    first ∙ lane_alike bank k.lane (refilled k (cut_back heir cut i)) (refilled k (cut_back heir cut (i + 1))) (λ lane at.
    let r = seat_of k lane.other in
    let e = each lane at in
    ap (λ ws. record lane { present = laid (role_slot heir r ∷ map slot ws) lane.present }) (sym (cut_same heir cut i r e.0 e.1.0 e.1.1))) lt

waiters_kept : (items : ℕ) (heir : Role) (cut : ℕ) (ws : List Waiter) → AllByRecursion (λ (w : Waiter). IsOver items w.slot) ws → AllByRecursion (IsOver items) (map slot (filter (stays cut heir) ws))
waiters_kept items heir cut ws all = waiters_slots items (filter (stays cut heir) ws) (all_filter (λ (w : Waiter). IsOver items w.slot) (stays cut heir) ws all)

pub cut_over : (most items : ℕ) (heir : Role) (cut i : ℕ) (r : Seat) → IsSeat most items r → length r.waiters ≤ i → AllByRecursion (IsOver items) (slots_of (cut_back heir cut i r))
cut_over most items heir cut i r h le = (role_over most items heir r h, waiters_kept items heir cut (take i r.waiters) (subst (AllByRecursion (λ (w : Waiter). IsOver items w.slot)) (sym (take_all i r.waiters le)) h.waiters))

-- what the code sees of a shadow that waits
pub record Seen (k : Kept) (slots : List Slot) (rows : List Placed) (cs : List Conflict) (i cut : ℕ) (heir : Role) (c : Conflict) (row : Placed) : Type 0 where
  pub waiter : Waiter
  pub is : slice_get (seat_of k slots).waiters i ≡ Some waiter
  pub there : slice_get slots (i + 1) ≡ Some waiter.slot
  pub conflict : c ≡ conflict_of waiter
  pub stays : (nat_le row.1 cut && not (waits_for c.0 heir)) ≡ stays cut heir waiter

pub seen : (k : Kept) (slots : List Slot) (rows : List Placed) (cs : List Conflict) (i cut : ℕ) (heir : Role) (d : Conflict) (e : Placed) → length k.conflicts < length slots → cs ≡ k.conflicts → rows ≡ placed_of (started_of (seat_of k slots)) → i < length cs → Seen k slots rows cs i cut heir (get_or cs i d) (get_or rows (i + 1) e)
seen k slots rows cs i cut heir d e fit conflicts places lt =
    let r = seat_of k slots in
    let w = waiter_here r.waiters i (omega (arith, lt, ap length conflicts, seat_waiters k slots fit)) in
    let one = conflict_here r cs i w.0 d (conflicts ∙ sym (seat_conflicts k slots fit)) w.1 in
    let two = row_here r rows i w.0 e places w.1 in
    record {
      waiter = w.0;
      is = w.1;
      there = sym (seat_slot k slots (i + 1) fit (omega (arith, lt, ap length conflicts))) ∙ waiter_slot r i w.0 w.1;
      conflict = one;
      stays = λ j. nat_le (two j).1 cut && not (waits_for (one j).0 heir);
    }
