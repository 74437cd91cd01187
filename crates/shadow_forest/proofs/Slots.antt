-- The slots of a transaction and what stands in them.
use Rattle.std.proofs.Common.{◌≡◌, ℕ, zero, suc, ◌+◌, ◌-◌, ◌<◌, ◌≤◌, ◌==◌, List, [], ◌∷◌, length, get_or, map, take, Option, Some, None, refl, ap, sym, ◌∙◌, arith, eq-eqb}
use Rattle.std.proofs.lemmas.Bool.{cases_Bool, ne_eqb}
use Rattle.std.specs.Prelude.{slice_get}
use Rattle.block_rule.specs.declared.role.Role.{Role}
use Rattle.block_rule.specs.declared.role.Role.TheVariants.{Guard}
use Rattle.forest_model.specs.Point.{Conflict}
use Rattle.forest_model.proofs.Lists.{either, length-map'}
use Rattle.shadow_state.specs.Bank.{Slot}
use Rattle.shadow_lanes.specs.Seats.{Seat, Waiter, conflict_of, conflicts_of, slots_of, slot_at}
use Rattle.shadow_forest.specs.Parts.{waiter_role, role_in, further_slot, slot_of}
use Rattle.shadow_forest.proofs.Elements.{placed}

-- one slot for each conflict, and the optimistic one
pub slots-many : (r : Seat) → length (slots_of r) ≡ suc (length (conflicts_of r))
slots-many r = ap suc (length-map' (λ (w : Waiter). w.slot) r.waiters ∙ sym (length-map' conflict_of r.waiters))

waiter-there : (ws : List Waiter) (n : ℕ) → n < length ws
    → (let x : Conflict = get_or (map conflict_of ws) n (0, 0) in ◌≡◌ {A = Role × Option ℕ} (Guard x.0, Some x.1) (waiter_role (slice_get ws n)))
waiter-there [] n h = absurd (omega arith)
waiter-there (w ∷ ws) zero h = refl
waiter-there (w ∷ ws) (suc n) h = waiter-there ws n (omega arith)

-- the role and the point in a slot but the first are those of its conflict
pub role-there : (r : Seat) (slot : ℕ) (conflicts : List Conflict) → conflicts ≡ conflicts_of r → (slot ≡ 0 → ⊥) → slot < length (slots_of r)
    → (let x : Conflict = get_or conflicts (slot - 1) (0, 0) in ◌≡◌ {A = Role × Option ℕ} (Guard x.0, Some x.1) (role_in r slot))
role-there r zero conflicts e apart h = absurd (apart refl)
role-there r (suc n) conflicts e apart h =
    let less : suc n - 1 ≡ n = omega arith in
    let within : n < length r.waiters = omega (arith, length-map' (λ (w : Waiter). w.slot) r.waiters) in
    rw (less, e) (waiter-there r.waiters n within)

-- The first slot for a guard.

later-none : (o : Option ℕ) → further_slot o ≡ None → o ≡ None
later-none None e = refl
later-none (Some n) e = cc

-- where the first ones are for other guards, it is that of the next, if that is for this one
pub slot-here : (ws : List Conflict) (i u : ℕ) → slot_of (take i ws) u ≡ None → i < length ws → (get_or ws i (0, 0)).0 ≡ u → slot_of ws u ≡ Some (i + 1)
slot-here [] i u none h e = absurd (omega arith)
slot-here (w ∷ ws) zero u none h e = rw (eq-eqb w.0 u e) refl
slot-here (w ∷ ws) (suc i) u none h e =
    either (cases_Bool (w.0 == u))
    (λ here. let no : Some 1 ≡ None = rw here at none in cc)
    (λ other.
    let rest : further_slot (slot_of (take i ws) u) ≡ None = rw other at none in
    let next : suc i + 1 ≡ suc (i + 1) = omega arith in
    rw (other, next, slot-here ws i u (later-none _ rest) (omega arith) e) refl)

-- else there is none among them and the next
pub slot-later : (ws : List Conflict) (i u : ℕ) → slot_of (take i ws) u ≡ None → i < length ws → ((get_or ws i (0, 0)).0 ≡ u → ⊥) → slot_of (take (i + 1) ws) u ≡ None
slot-later [] i u none h ne = absurd (omega arith)
slot-later (w ∷ ws) zero u none h ne = rw (ne_eqb w.0 u ne) refl
slot-later (w ∷ ws) (suc i) u none h ne =
    let next : suc i + 1 ≡ suc (i + 1) = omega arith in
    either (cases_Bool (w.0 == u))
    (λ here. let no : Some 1 ≡ None = rw here at none in cc)
    (λ other.
    let rest : further_slot (slot_of (take i ws) u) ≡ None = rw other at none in
    rw (next, other, slot-later ws i u (later-none _ rest) (omega arith) ne) refl)

-- The slot of a transaction at a place.
pub slot-found : (seats : List Seat) (place slot : ℕ) (r : Seat) (s : Slot) → slice_get seats place ≡ Some r → slice_get (slots_of r) slot ≡ Some s → slot_at seats place slot ≡ Some s
slot-found seats place slot r s e h = rw e h

-- there is one for each conflict and one more
pub slot-there : (r : Seat) (slot : ℕ) (conflicts : List Conflict) → conflicts ≡ conflicts_of r → slot ≤ length conflicts → (s : Slot) × (slice_get (slots_of r) slot ≡ Some s)
slot-there r slot conflicts e h = placed (slots_of r) slot (omega (arith, ap length e, slots-many r))
