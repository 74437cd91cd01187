-- Rows of roles and positions.
use Rattle.shadow_lanes.proofs.Lists.{get_map, take_next}
use Rattle.std.proofs.lemmas.List.{length-map}
use Rattle.std.proofs.lemmas.Option.{get_or_from_slice_get}
use Rattle.std.specs.Prelude.{◌≡◌, ◌<◌, ◌+◌, ℕ, zero, suc, List, [], ◌∷◌, ◌++◌, length, map, take, get_or, slice_get, Some}
use Rattle.std.proofs.Common.{refl, ap, arith, ◌∙◌, add-one}
use Rattle.block_rule.specs.declared.role.Role.TheVariants.{Guard}
use Rattle.forest_model.specs.Origin.{Placed, placed, placed_of}
use Rattle.forest_model.specs.Point.{Conflict}
use Rattle.shadow_lanes.specs.Seats.{Waiter, Seat, shadow_of, started_of, slots_of, slot_at, conflict_of, conflicts_of}
use Rattle.shadow_lanes.proofs.Slots.{slot}

-- a row for each shadow that waits
abbrev pub row_of : Waiter → Placed
row_of w = (Guard w.guard, w.slot.state.position)

pub rows_are : (ws : List Waiter) → map placed (map shadow_of ws) ≡ map row_of ws
rows_are [] = refl
rows_are (w ∷ ws) = ap (λ rest. row_of w ∷ rest) (rows_are ws)

-- the shadow that waits in this place of the list
pub waiter_here : (ws : List Waiter) (i : ℕ) → i < length ws → (w : Waiter) × (slice_get ws i ≡ Some w)
waiter_here [] i lt = absurd (omega (arith, lt))
waiter_here (w ∷ ws) zero lt = (w, refl)
waiter_here (w ∷ ws) (suc i) lt = waiter_here ws i (omega (arith, lt))

pub length_rows : (r : Seat) → length (placed_of (started_of r)) ≡ suc (length r.waiters)
length_rows r = ap suc (ap length (rows_are r.waiters) ∙ length-map r.waiters row_of)

-- one row more
pub row_next : (r : Seat) (i : ℕ) (w : Waiter) → slice_get r.waiters i ≡ Some w → take (suc (i + 1)) (placed_of (started_of r)) ≡ take (suc i) (placed_of (started_of r)) ++ row_of w ∷ []
row_next r i w is =
    rw add-one (take_next (placed_of (started_of r)) (suc i) (row_of w) (ap (λ rows. slice_get rows i) (rows_are r.waiters) ∙ get_map row_of r.waiters i w is))

-- the slot in a place of the list that has the optimistic one in front
pub slot_got : (seats : List Seat) (place n : ℕ) (r : Seat) → slice_get seats place ≡ Some r → slot_at seats place n ≡ slice_get (slots_of r) n
slot_got seats place n r is = rw is refl

pub waiter_slot : (r : Seat) (i : ℕ) (w : Waiter) → slice_get r.waiters i ≡ Some w → slice_get (slots_of r) (i + 1) ≡ Some w.slot
waiter_slot r i w is = rw add-one (get_map slot r.waiters i w is)

pub conflict_here : (r : Seat) (cs : List Conflict) (i : ℕ) (w : Waiter) (d : Conflict) → cs ≡ conflicts_of r → slice_get r.waiters i ≡ Some w → get_or cs i d ≡ conflict_of w
conflict_here r cs i w d e is = get_or_from_slice_get cs i (conflict_of w) d (ap (λ ds. slice_get ds i) e ∙ get_map conflict_of r.waiters i w is)

pub row_here : (r : Seat) (rows : List Placed) (i : ℕ) (w : Waiter) (d : Placed) → rows ≡ placed_of (started_of r) → slice_get r.waiters i ≡ Some w → get_or rows (i + 1) d ≡ row_of w
row_here r rows i w d e is =
    let there : slice_get rows (i + 1) ≡ Some (row_of w) = ap (λ ps. slice_get ps (i + 1)) e ∙ rw add-one (ap (λ ps. slice_get ps i) (rows_are r.waiters) ∙ get_map row_of r.waiters i w is) in
    get_or_from_slice_get rows (i + 1) (row_of w) d there
