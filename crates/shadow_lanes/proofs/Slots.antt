-- Shadows in slots.
use Rattle.std.proofs.lemmas.List.{length-map}
use Rattle.std.specs.Prelude.{◌≡◌, ◌<◌, ◌≤◌, ℕ, zero, suc, List, [], ◌∷◌, ◌++◌, length, map, slice_get, slice_set}
use Rattle.std.proofs.Common.{refl, ap, arith, ◌∙◌}
use Rattle.std.specs.List.{AllByRecursion}
use Rattle.forest_model.specs.Point.{Conflict}
use Rattle.shadow_state.specs.Bank.{Slot, Sides, IsOver, IsSide, at_place, placed_slot}
use Rattle.shadow_lanes.specs.Seats.{Waiter, Seat, IsSeat, conflict_of, conflicts_of, slots_of, seat_with, waiter_with}
use Rattle.shadow_lanes.specs.Kept.{Kept, waiter_in, waiters_of, seat_of, laid}

-- the slot of a shadow
abbrev pub slot : Waiter → Slot
slot w = w.slot

pub length_waiters : (cs : List Conflict) (slots : List Slot) → length cs ≤ length slots → length (waiters_of cs slots) ≡ length cs
length_waiters [] slots le = refl
length_waiters (c ∷ cs) [] le = absurd (omega (arith, le))
length_waiters (c ∷ cs) (s ∷ slots) le = ap suc (length_waiters cs slots (omega (arith, le)))

conflicts_are : (cs : List Conflict) (slots : List Slot) → length cs ≤ length slots → map conflict_of (waiters_of cs slots) ≡ cs
conflicts_are [] slots le = refl
conflicts_are (c ∷ cs) [] le = absurd (omega (arith, le))
conflicts_are (c ∷ cs) (s ∷ slots) le = ap (λ rest. c ∷ rest) (conflicts_are cs slots (omega (arith, le)))

slot_in : (cs : List Conflict) (slots : List Slot) (i : ℕ) → length cs ≤ length slots → i < length cs → slice_get (map slot (waiters_of cs slots)) i ≡ slice_get slots i
slot_in [] slots i le lt = absurd (omega (arith, lt))
slot_in (c ∷ cs) [] i le lt = absurd (omega (arith, le))
slot_in (c ∷ cs) (s ∷ slots) zero le lt = refl
slot_in (c ∷ cs) (s ∷ slots) (suc i) le lt = slot_in cs slots i (omega (arith, le)) (omega (arith, lt))

-- The transaction that is in the slots.

pub seat_conflicts : (k : Kept) (slots : List Slot) → length k.conflicts < length slots → conflicts_of (seat_of k slots) ≡ k.conflicts
seat_conflicts k [] lt = absurd (omega (arith, lt))
seat_conflicts k (s ∷ slots) lt = conflicts_are k.conflicts slots (omega (arith, lt))

pub seat_waiters : (k : Kept) (slots : List Slot) → length k.conflicts < length slots → length (seat_of k slots).waiters ≡ length k.conflicts
seat_waiters k [] lt = absurd (omega (arith, lt))
seat_waiters k (s ∷ slots) lt = length_waiters k.conflicts slots (omega (arith, lt))

pub seat_length : (k : Kept) (slots : List Slot) → length k.conflicts < length slots → length (slots_of (seat_of k slots)) ≡ suc (length k.conflicts)
seat_length k slots lt = ap suc (length-map (seat_of k slots).waiters slot ∙ seat_waiters k slots lt)

-- its slots are the first ones
pub seat_slot : (k : Kept) (slots : List Slot) (i : ℕ) → length k.conflicts < length slots → i ≤ length k.conflicts → slice_get (slots_of (seat_of k slots)) i ≡ slice_get slots i
seat_slot k [] i lt le = absurd (omega (arith, lt))
seat_slot k (s ∷ slots) zero lt le = refl
seat_slot k (s ∷ slots) (suc i) lt le = slot_in k.conflicts slots i (omega (arith, lt)) (omega (arith, le))

waiters_at : (n : ℕ) (f : Slot → Slot) (cs : List Conflict) (slots : List Slot) → waiters_of cs (at_place n f slots) ≡ at_place n (waiter_with f) (waiters_of cs slots)
waiters_at n f [] slots = refl
waiters_at n f (c ∷ cs) [] = refl
waiters_at zero f (c ∷ cs) (s ∷ slots) = refl
waiters_at (suc n) f (c ∷ cs) (s ∷ slots) = ap (λ rest. waiter_in c s ∷ rest) (waiters_at n f cs slots)

-- one slot changed
pub seat_at : (k : Kept) (n : ℕ) (f : Slot → Slot) (slots : List Slot) → length k.conflicts < length slots → seat_of k (at_place n f slots) ≡ seat_with n f (seat_of k slots)
seat_at k n f [] lt = absurd (omega (arith, lt))
seat_at k zero f (s ∷ slots) lt = refl
seat_at k (suc n) f (s ∷ slots) lt = ap (λ (ws : List Waiter). record { number = k.number; optimistic = s; waiters = ws }) (waiters_at n f k.conflicts slots)

waiters_over : (items : ℕ) (cs : List Conflict) (slots : List Slot) → AllByRecursion (IsOver items) slots → AllByRecursion (λ (w : Waiter). IsOver items w.slot) (waiters_of cs slots)
waiters_over items [] slots over = tt
waiters_over items (c ∷ cs) [] over = tt
waiters_over items (c ∷ cs) (s ∷ slots) over = (over.0, waiters_over items cs slots over.1)

pub seat_is : (most items : ℕ) (k : Kept) (slots : List Slot) → suc (length k.conflicts) ≤ most → IsSide items most slots → IsSeat most items (seat_of k slots)
seat_is most items k [] few side = let none = side.many in absurd (omega (arith, few, none))
seat_is most items k (s ∷ slots) few side =
    let many = side.many in
    record { few = omega (arith, few, length_waiters k.conflicts slots (omega (arith, few, many))); optimistic = side.over.0; waiters = waiters_over items k.conflicts slots side.over.1 }

-- New slots in place of the first.

pub length_laid : (new slots : List Slot) → length (laid new slots) ≡ length slots
length_laid [] slots = refl
length_laid (n ∷ new) [] = refl
length_laid (n ∷ new) (s ∷ slots) = ap suc (length_laid new slots)

pub laid_more : (new slots : List Slot) (s : Slot) → length new < length slots → slice_set (laid new slots) (length new) s ≡ laid (new ++ s ∷ []) slots
laid_more [] [] s lt = absurd (omega (arith, lt))
laid_more [] (t ∷ slots) s lt = refl
laid_more (n ∷ new) [] s lt = absurd (omega (arith, lt))
laid_more (n ∷ new) (t ∷ slots) s lt = ap (λ rest. n ∷ rest) (laid_more new slots s (omega (arith, lt)))

all_laid : (P : Slot → Type 0) (new slots : List Slot) → AllByRecursion P new → AllByRecursion P slots → AllByRecursion P (laid new slots)
all_laid P [] slots fresh all = all
all_laid P (n ∷ new) [] fresh all = tt
all_laid P (n ∷ new) (s ∷ slots) fresh all = (fresh.0, all_laid P new slots fresh.1 all.1)

waiters_laid : (ws : List Waiter) (slots : List Slot) → length ws ≤ length slots → waiters_of (map conflict_of ws) (laid (map slot ws) slots) ≡ ws
waiters_laid [] slots le = refl
waiters_laid (w ∷ ws) [] le = absurd (omega (arith, le))
waiters_laid (w ∷ ws) (s ∷ slots) le = ap (λ rest. w ∷ rest) (waiters_laid ws slots (omega (arith, le)))

-- a transaction's own slots in place of the first
own_laid : (r : Seat) (slots : List Slot) (k : Kept) → k ≡ record { number = r.number; lane = k.lane; conflicts = conflicts_of r } → length r.waiters < length slots → seat_of k (laid (slots_of r) slots) ≡ r
own_laid r [] k is lt = absurd (omega (arith, lt))
own_laid r (s ∷ slots) k is lt =
    ap (λ (j : Kept). seat_of j (laid (slots_of r) (s ∷ slots))) is ∙ ap (λ (ws : List Waiter). record { number = r.number; optimistic = r.optimistic; waiters = ws }) (waiters_laid r.waiters slots (omega (arith, lt)))

pub seat_laid : (r : Seat) (slots : List Slot) (k : Kept) → k.number ≡ r.number → k.conflicts ≡ conflicts_of r → length r.waiters < length slots → seat_of k (laid (slots_of r) slots) ≡ r
seat_laid r slots k number conflicts lt = own_laid r slots k (λ i. record { number = number i; lane = k.lane; conflicts = conflicts i }) lt

-- one more slot behind those that are laid
pub laid_next : (new : List Slot) (s : Slot) (lane : Sides) (to : ℕ) → to ≡ length new → length new < length lane.present → placed_slot to s (record lane { present = laid new lane.present }) ≡ record lane { present = laid (new ++ s ∷ []) lane.present }
laid_next new s lane to at lt =
    ap (λ n. record lane { present = slice_set (laid new lane.present) n s }) at ∙ ap (λ slots. record lane { present = slots }) (laid_more new lane.present s lt)

-- what the transaction's slots are over
pub waiters_slots : (items : ℕ) (ws : List Waiter) → AllByRecursion (λ (w : Waiter). IsOver items w.slot) ws → AllByRecursion (IsOver items) (map slot ws)
waiters_slots items [] all = tt
waiters_slots items (w ∷ ws) all = (all.0, waiters_slots items ws all.1)

pub side_laid : (items most : ℕ) (new slots : List Slot) → AllByRecursion (IsOver items) new → IsSide items most slots → IsSide items most (laid new slots)
side_laid items most new slots over side = record { many = length_laid new slots ∙ side.many; over = all_laid (IsOver items) new slots over side.over }
