-- The present side of a lane, where it is filled from the other side.
use Rattle.shadow_lanes.proofs.Lists.{take_next}
use Rattle.std.proofs.lemmas.List.{length-map, length-take-le, map-append}
use Rattle.std.proofs.lemmas.Option.{slice_get_within}
use Rattle.std.specs.Prelude.{◌≡◌, ◌<◌, ◌≤◌, ◌+◌, ℕ, zero, suc, Bool, true, false, ◌==◌, if◌then◌else◌, List, [], ◌∷◌, ◌++◌, length, map, take, slice_get, slice_set, Some}
use Rattle.std.proofs.Common.{refl, sym, ap, subst, arith, ◌∙◌, add-one}
use Rattle.std.specs.List.{AllByRecursion}
use Rattle.block_rule.specs.declared.role.Role.{Role}
use Rattle.block_rule.specs.declared.role.Role.TheVariants.{Optimistic, Guard}
use Rattle.block_rule.specs.declared.role.Origin.{Origin}
use Rattle.block_rule.specs.declared.role.Origin.TheVariants.{Keep, From, Fresh}
use Rattle.txn_code.specs.declared.node.Node.{Node}
use Rattle.forest_model.specs.Point.{Conflict}
use Rattle.forest_model.specs.Origin.{Placed, placed_of, origin}
use Rattle.shadow_state.specs.Bank.{Slot, Sides, Banked, IsOver, put_some, forked, placed_slot, marked_in, marked_slot, lane_with, at_place}
use Rattle.shadow_state.proofs.Places.{some_at, length_at, get_same}
use Rattle.shadow_lanes.specs.Seats.{Waiter, Seat, IsSeat, slots_of, conflicts_of, role_slot, guard_slot, slot_from, waiter_for, settled_seat, started_of}
use Rattle.shadow_lanes.specs.Kept.{Kept, IsLong, seat_of, laid, refilled, filled_at}
use Rattle.shadow_lanes.proofs.Slots.{slot, length_laid, laid_next}
use Rattle.shadow_lanes.proofs.Changes.{lane_twice, lane_alike}

-- a copy of what is in the other side
pub forked_is : (from to : ℕ) (s : Slot) (lane : Sides) → slice_get lane.other from ≡ Some s → forked from to lane ≡ placed_slot to s lane
forked_is from to s lane is = ap (λ o. record lane { present = put_some o to lane.present }) is

set_marked : (n : ℕ) (s : Slot) (slots : List Slot) → at_place n (marked_slot false) (slice_set slots n s) ≡ slice_set slots n (marked_slot false s)
set_marked n s [] = refl
set_marked zero s (t ∷ slots) = refl
set_marked (suc n) s (t ∷ slots) = ap (λ rest. t ∷ rest) (set_marked n s slots)

-- the same with the mark taken away
pub marked_is : (from to : ℕ) (s : Slot) (lane : Sides) → slice_get lane.other from ≡ Some s → marked_in to false (forked from to lane) ≡ placed_slot to (marked_slot false s) lane
marked_is from to s lane is = ap (marked_in to false) (forked_is from to s lane is) ∙ ap (λ slots. record lane { present = slots }) (set_marked to s lane.present)

-- a slot in front
front_laid : (s : Slot) (slots : List Slot) → slice_set slots 0 s ≡ laid (s ∷ []) slots
front_laid s [] = refl
front_laid s (t ∷ slots) = refl

pub front_is : (s : Slot) (lane : Sides) → placed_slot 0 s lane ≡ record lane { present = laid (s ∷ []) lane.present }
front_is s lane = ap (λ slots. record lane { present = slots }) (front_laid s lane.present)

pub first_of : (k : Kept) (slots : List Slot) → 0 < length slots → slice_get slots 0 ≡ Some (seat_of k slots).optimistic
first_of k [] lt = absurd (omega (arith, lt))
first_of k (s ∷ slots) lt = refl

-- One shadow more.

pub settled_length : (nodes : List Node) (items : ℕ) (cs : List Conflict) (i : ℕ) (r : Seat) → i ≤ length cs → length (slots_of (settled_seat nodes items (take i cs) r)) ≡ i + 1
settled_length nodes items cs i r le =
    rw add-one (ap suc (length-map (map (waiter_for nodes items r) (take i cs)) slot ∙ length-map (take i cs) (waiter_for nodes items r) ∙ length-take-le i cs le))

settled_more : (nodes : List Node) (items : ℕ) (cs : List Conflict) (i : ℕ) (c : Conflict) (r : Seat) → slice_get cs i ≡ Some c → slots_of (settled_seat nodes items (take (i + 1) cs) r) ≡ slots_of (settled_seat nodes items (take i cs) r) ++ slot_from (origin (placed_of (started_of r)) c.0 c.1) nodes items r c.0 ∷ []
settled_more nodes items cs i c r is =
    let w = waiter_for nodes items r in
    rw add-one (ap (λ ds. r.optimistic ∷ map slot (map w ds)) (take_next cs i c is) ∙ ap (λ ws. r.optimistic ∷ map slot ws) (map-append w (take i cs) (c ∷ [])) ∙ ap (λ slots. r.optimistic ∷ slots) (map-append slot (map w (take i cs)) ((w c) ∷ [])))

-- both sides stay as long as they were
pub refilled_long : (most : ℕ) (k : Kept) (f : Seat → Seat) (lane : Sides) → IsLong most lane → IsLong most (refilled k f lane)
refilled_long most k f lane h = record { present = length_laid (slots_of (f (seat_of k lane.other))) lane.present ∙ h.present; other = h.other }

pub long_after : (bank mid : Banked) (k : Kept) (f : Seat → Seat) → mid ≡ lane_with k.lane (refilled k f) bank → k.lane < length bank.sides → ((lane : Sides) → slice_get bank.sides k.lane ≡ Some lane → IsLong bank.most lane) → (lane : Sides) → slice_get mid.sides k.lane ≡ Some lane → IsLong mid.most lane
long_after bank mid k f is lt long lane at =
    let was = some_at bank.sides k.lane lt in
    let same = get_same k.lane (refilled k f) bank.sides was.0 was.1 in
    let there = sym (ap (λ (b : Banked). slice_get b.sides k.lane) is ∙ same) ∙ at in
    let e : refilled k f was.0 ≡ lane = cc in
    subst (λ n. IsLong n lane) (sym (ap (λ (b : Banked). b.most) is)) (subst (IsLong bank.most) e (refilled_long bank.most k f was.0 (long was.0 was.1)))

pub within_after : (bank mid : Banked) (n : ℕ) (f : Sides → Sides) → mid ≡ lane_with n f bank → n < length bank.sides → n < length mid.sides
within_after bank mid n f is lt = omega (arith, ap (λ (b : Banked). length b.sides) is, length_at n f bank.sides, lt)

pub fill_more : (bank mid after : Banked) (k : Kept) (nodes : List Node) (rows : List Placed) (cs : List Conflict) (i : ℕ) (c : Conflict) (from : Origin) → mid ≡ lane_with k.lane (refilled k (settled_seat nodes bank.items (take i cs))) bank → after ≡ lane_with k.lane (filled_at nodes mid.items k from c.0 (i + 1)) mid → from ≡ origin rows c.0 c.1 → slice_get cs i ≡ Some c → k.lane < length bank.sides → suc (length cs) ≤ bank.most → ((lane : Sides) → slice_get bank.sides k.lane ≡ Some lane → IsLong bank.most lane) → ((lane : Sides) → slice_get bank.sides k.lane ≡ Some lane → rows ≡ placed_of (started_of (seat_of k lane.other))) → after ≡ lane_with k.lane (refilled k (settled_seat nodes bank.items (take (i + 1) cs))) bank
fill_more bank mid after k nodes rows cs i c from first second comes is lt few long row =
    let f = settled_seat nodes bank.items (take i cs) in
    let items = ap (λ (b : Banked). b.items) first in
    let filled = second ∙ ap (λ n. lane_with k.lane (filled_at nodes n k from c.0 (i + 1)) mid) items in
    let both = lane_twice bank mid after k.lane (refilled k f) (filled_at nodes bank.items k from c.0 (i + 1)) first filled in
    both ∙ lane_alike bank k.lane _ (refilled k (settled_seat nodes bank.items (take (i + 1) cs))) (λ lane at.
    let r = seat_of k lane.other in
    let new = slots_of (f r) in
    let below = slice_get_within cs i c is in
    let many = settled_length nodes bank.items cs i r (omega (arith, below)) in
    let room : length new < length lane.present = omega (arith, many, below, few, (long lane at).present) in
    let whence = comes ∙ ap (λ ps. origin ps c.0 c.1) (row lane at) in
    let s = slot_from from nodes bank.items r c.0 in
    laid_next new s lane (i + 1) (sym many) room ∙ ap (λ slots. record lane { present = laid slots lane.present }) (ap (λ o. new ++ slot_from o nodes bank.items r c.0 ∷ []) whence ∙ sym (settled_more nodes bank.items cs i c r is))) lt

-- What the slots are over.

either_over : (items : ℕ) (b : Bool) (s t : Slot) → IsOver items s → IsOver items t → IsOver items (if b then s else t)
either_over items true s t h k = h
either_over items false s t h k = k

guard_over : (items u : ℕ) (ws : List Waiter) (s : Slot) → AllByRecursion (λ (w : Waiter). IsOver items w.slot) ws → IsOver items s → IsOver items (guard_slot u ws s)
guard_over items u [] s all over = over
guard_over items u (w ∷ ws) s all over = either_over items (w.guard == u) w.slot (guard_slot u ws s) all.0 (guard_over items u ws s all.1 over)

pub role_over : (most items : ℕ) (role : Role) (r : Seat) → IsSeat most items r → IsOver items (role_slot role r)
role_over most items Optimistic r h = h.optimistic
role_over most items (Guard u) r h = guard_over items u r.waiters r.optimistic h.waiters h.optimistic

from_over : (most items : ℕ) (o : Origin) (nodes : List Node) (r : Seat) (u : ℕ) → IsSeat most items r → IsOver items (slot_from o nodes items r u)
from_over most items Keep nodes r u h = role_over most items (Guard u) r h
from_over most items (From role) nodes r u h = role_over most items role r h
from_over most items Fresh nodes r u h = refl

waiters_over : (most items : ℕ) (nodes : List Node) (cs : List Conflict) (r : Seat) → IsSeat most items r → AllByRecursion (IsOver items) (map slot (map (waiter_for nodes items r) cs))
waiters_over most items nodes [] r h = tt
waiters_over most items nodes (c ∷ cs) r h = (from_over most items (origin (placed_of (started_of r)) c.0 c.1) nodes r c.0 h, waiters_over most items nodes cs r h)

pub settled_over : (most items : ℕ) (nodes : List Node) (cs : List Conflict) (r : Seat) → IsSeat most items r → AllByRecursion (IsOver items) (slots_of (settled_seat nodes items cs r))
settled_over most items nodes cs r h = (h.optimistic, waiters_over most items nodes cs r h)

pub settled_conflicts : (nodes : List Node) (items : ℕ) (cs : List Conflict) (r : Seat) → conflicts_of (settled_seat nodes items cs r) ≡ cs
settled_conflicts nodes items [] r = refl
settled_conflicts nodes items (c ∷ cs) r = ap (λ rest. c ∷ rest) (settled_conflicts nodes items cs r)
