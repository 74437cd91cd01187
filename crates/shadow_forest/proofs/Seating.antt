-- The shadows that settling and a cut leave, in numbers and as states.
use Rattle.std.proofs.Common.{◌≡◌, ◌≢◌, ℕ, ◌==◌, true, false, leb, List, [], ◌∷◌, map, filter, find, is_some, length, Option, Some, None, option_map, refl, ap, sym, ◌∙◌, true≢false, eqb-true, eq-eqb}
use Rattle.std.specs.List.{AllByRecursion, AllZip, list_any}
use Rattle.std.proofs.lemmas.Bool.{cases_Bool, cond_both, ne_eqb, and_parts}
use Rattle.block_rule.specs.declared.role.Role.{Role}
use Rattle.block_rule.specs.declared.role.Role.TheVariants.{Optimistic, Guard}
use Rattle.block_rule.specs.declared.role.Origin.{Origin}
use Rattle.block_rule.specs.declared.role.Origin.TheVariants.{Keep, From, Fresh}
use Rattle.txn_runs.specs.Run.{Tables}
use Rattle.txn_runs.specs.declared.program.Program.{Program}
use Rattle.txn_code.specs.declared.node.Node.{Node}
use Rattle.txn_code.specs.Nodes.{nodes_of}
use Rattle.txn_interp.proofs.Beginning.{fresh_runs}
use Rattle.forest_model.specs.Choose.{greatest_up_to}
use Rattle.forest_model.specs.Point.{Conflict}
use Rattle.forest_model.specs.Forest.{Shadow}
use Rattle.forest_model.specs.Settle.{stands_for, stay_or_copy, settled_shadows, positions_in}
use Rattle.forest_model.specs.Cut.{survives, survivors, heir, without_guard, resumed_by, after_cut}
use Rattle.forest_model.specs.Sound.{StandsFor}
use Rattle.forest_model.specs.Origin.{Placed, is_kept, furthest, from_found, origin, position_of, placed, placed_of}
use Rattle.forest_model.proofs.Lists.{either, all-map, all-filter, all-everywhere, map-map, map-agree}
use Rattle.forest_model.proofs.StartedLaws.{all-first}
use Rattle.forest_model.proofs.OriginLaws.{copy-position, kept-found, heir-furthest_survivor}
use Rattle.forest_model.proofs.RestLaws.{IsApart, settle_again}
use Rattle.shadow_state.specs.Bank.{Slot, fresh_slot}
use Rattle.shadow_lanes.specs.Seats.{Waiter, Seat, conflict_of, conflicts_of, shadow_of, started_of, guard_slot, role_slot, slot_from, waiter_for, settled_seat, stays, promoted_by, promoted_seat}
use Rattle.indexed_lanes.specs.Wanted.{same_conflicts, renewed}
use Rattle.indexed_lanes.proofs.Renewed.{same_lists, renewed_number, renewed_optimistic}
use Rattle.shadow_forest.specs.Kept.{SlotStands, SeatStands}

-- The slot of a guard.

-- past the shadows for other guards the slot is found behind them
guard_past : (u : ℕ) (w : Waiter) (ws : List Waiter) (o : Slot) → w.guard ≢ u → guard_slot u (w ∷ ws) o ≡ guard_slot u ws o
guard_past u w ws o ne = rw (ne_eqb _ _ ne) refl

-- where no guard stands twice, each shadow is that of its guard
pub guard_slots : (front ws : List Waiter) (o : Slot) → IsApart (map conflict_of ws) → AllByRecursion (λ (w : Waiter). guard_slot w.guard ws o ≡ w.slot) ws
guard_slots front [] o apart = tt
guard_slots front (w ∷ ws) o apart =
    let self : guard_slot w.guard (w ∷ ws) o ≡ w.slot = rw (eq-eqb w.guard w.guard refl) refl in
    (self, rest ws apart.0 (guard_slots front ws o apart.1))
  where
    rest : (xs : List Waiter) → AllByRecursion (λ x. w.guard ≢ x.0) (map conflict_of xs) → AllByRecursion (λ (x : Waiter). guard_slot x.guard ws o ≡ x.slot) xs
        → AllByRecursion (λ (x : Waiter). guard_slot x.guard (w ∷ ws) o ≡ x.slot) xs
    rest [] ne old = tt
    rest (x ∷ xs) ne old = (guard_past x.guard w ws o ne.0 ∙ old.0, rest xs ne.1 old.1)

-- the slot of each role stands where the role is placed, and is out where it is
abbrev pub IsPlacedIn : Seat → Placed → Type 0
IsPlacedIn r x = (role_slot x.0 r).state.position ≡ x.1

placed_waiters : (r : Seat) (ws : List Waiter) → AllByRecursion (λ (w : Waiter). guard_slot w.guard r.waiters r.optimistic ≡ w.slot) ws
    → AllByRecursion (λ (x : Placed). IsPlacedIn r x) (map placed (map shadow_of ws))
placed_waiters r [] h = tt
placed_waiters r (w ∷ ws) h = (ap (λ (s : Slot). s.state.position) h.0, placed_waiters r ws h.1)

pub all_placed : (r : Seat) → IsApart (conflicts_of r) → AllByRecursion (λ (x : Placed). IsPlacedIn r x) (placed_of (started_of r))
all_placed r apart = (refl, placed_waiters r r.waiters (guard_slots [] r.waiters r.optimistic apart))

-- The origin of a shadow.

-- a shadow that stays is the first for its guard
found_slot : (w : Conflict) (s : Shadow) (ws : List Waiter) (o : Slot) → IsApart (map conflict_of ws) → find (stands_for w) (map shadow_of ws) ≡ Some s
    → (s.guard ≡ w.0) × (((guard_slot w.0 ws o).state.position ≡ s.position) × ((guard_slot w.0 ws o).out ≡ s.out))
found_slot w s [] o apart h = cc
found_slot w s (x ∷ xs) o apart h =
    either (cases_Bool (stands_for w (shadow_of x)))
    (λ e.
    let hit : Some (shadow_of x) ≡ Some s = rw e at h in
    let same : shadow_of x ≡ s = cc in
    let guard : x.guard ≡ w.0 = eqb-true _ _ (and_parts _ _ e).0 in
    let slot : guard_slot w.0 (x ∷ xs) o ≡ x.slot = rw (eq-eqb x.guard w.0 guard) refl in
    (ap (λ (y : Shadow). y.guard) (sym same) ∙ guard, (ap (λ (y : Slot). y.state.position) slot ∙ ap (λ (y : Shadow). y.position) same, ap (λ (y : Slot). y.out) slot ∙ ap (λ (y : Shadow). y.out) same)))
    (λ e.
    let later : find (stands_for w) (map shadow_of xs) ≡ Some s = rw e at h in
    let more = found_slot w s xs o apart.1 later in
    let other : x.guard ≢ w.0 = (λ q. away xs s w.0 later more.0 (rw q at apart.0)) in
    let past : guard_slot w.0 (x ∷ xs) o ≡ guard_slot w.0 xs o = guard_past w.0 x xs o other in
    (more.0, (ap (λ (y : Slot). y.state.position) past ∙ more.1.0, ap (λ (y : Slot). y.out) past ∙ more.1.1)))
  where
    away : (ys : List Waiter) (t : Shadow) (u : ℕ) → find (stands_for w) (map shadow_of ys) ≡ Some t → t.guard ≡ u → AllByRecursion (λ y. u ≢ y.0) (map conflict_of ys) → ⊥
    away [] t u h is ne = cc
    away (y ∷ ys) t u h is ne =
        either (cases_Bool (stands_for w (shadow_of y)))
        (λ e.
        let hit : Some (shadow_of y) ≡ Some t = rw e at h in
        let same : shadow_of y ≡ t = cc in
        ne.0 (sym is ∙ ap (λ (z : Shadow). z.guard) (sym same)))
        (λ e. let later : find (stands_for w) (map shadow_of ys) ≡ Some t = rw e at h in away ys t u later is ne.1)

-- a slot for a guard, in numbers
shadow_with : ℕ → Slot → Shadow
shadow_with u s = record { guard = u; position = s.state.position; out = s.out }

-- the furthest is one of those that are placed
furthest_placed : (r : Seat) (p : ℕ) (x : Placed) → IsApart (conflicts_of r) → furthest (placed_of (started_of r)) p ≡ Some x → IsPlacedIn r x
furthest_placed r p x apart h =
    all-first (λ (y : Placed). IsPlacedIn r y) _ (filter (λ (y : Placed). leb y.1 p) (placed_of (started_of r))) x h
    (all-filter (λ (y : Placed). IsPlacedIn r y) (λ (y : Placed). leb y.1 p) (placed_of (started_of r)) (all_placed r apart))

copied : (nodes : List Node) (items : ℕ) (r : Seat) (w : Conflict) → IsApart (conflicts_of r) → (o : Option Placed) → furthest (placed_of (started_of r)) w.1 ≡ o
    → shadow_with w.0 (slot_from (from_found o) nodes items r w.0) ≡ record { guard = w.0; position = greatest_up_to w.1 (positions_in (Some (started_of r))); out = false }
unfolding shadow_with
copied nodes items r w apart None h =
    let zero_is : 0 ≡ greatest_up_to w.1 (positions_in (Some (started_of r))) = ap position_of (sym h) ∙ copy-position (started_of r) w.1 in
    ap (λ (n : ℕ). record { guard = w.0; position = n; out = false }) zero_is
copied nodes items r w apart (Some x) h =
    let there : (role_slot x.0 r).state.position ≡ x.1 = furthest_placed r w.1 x apart h in
    let is : (role_slot x.0 r).state.position ≡ greatest_up_to w.1 (positions_in (Some (started_of r))) = there ∙ ap position_of (sym h) ∙ copy-position (started_of r) w.1 in
    ap (λ (n : ℕ). record { guard = w.0; position = n; out = false }) is

stays_or_copied : (nodes : List Node) (items : ℕ) (r : Seat) (w : Conflict) → IsApart (conflicts_of r) → (o : Option Shadow) → find (stands_for w) (map shadow_of r.waiters) ≡ o
    → shadow_with w.0 (slot_from (origin (placed_of (started_of r)) w.0 w.1) nodes items r w.0) ≡ stay_or_copy o (positions_in (Some (started_of r))) w
unfolding shadow_with
stays_or_copied nodes items r w apart None h =
    let kept : list_any (is_kept w.0 w.1) (placed_of (started_of r)) ≡ false = kept-found (started_of r) w.0 w.1 ∙ ap is_some h in
    let from : origin (placed_of (started_of r)) w.0 w.1 ≡ from_found (furthest (placed_of (started_of r)) w.1) = rw kept refl in
    ap (λ o. shadow_with w.0 (slot_from o nodes items r w.0)) from ∙ copied nodes items r w apart (furthest (placed_of (started_of r)) w.1) refl
stays_or_copied nodes items r w apart (Some s) h =
    let kept : list_any (is_kept w.0 w.1) (placed_of (started_of r)) ≡ true = kept-found (started_of r) w.0 w.1 ∙ ap is_some h in
    let from : origin (placed_of (started_of r)) w.0 w.1 ≡ Keep = rw kept refl in
    let found = found_slot w s r.waiters r.optimistic apart h in
    ap (λ o. shadow_with w.0 (slot_from o nodes items r w.0)) from ∙ same_shadow w.0 (guard_slot w.0 r.waiters r.optimistic) s found.0 found.1.0 found.1.1
  where
    same_shadow : (u : ℕ) (x : Slot) (t : Shadow) → t.guard ≡ u → x.state.position ≡ t.position → x.out ≡ t.out → shadow_with u x ≡ t
    same_shadow u x t a b c = rw (sym a, b, c) refl

-- the shadows that a transaction is settled with are those of settling
pub settled_numbers : (nodes : List Node) (items : ℕ) (r : Seat) (ws : List Conflict) → IsApart (conflicts_of r)
    → map shadow_of (settled_seat nodes items ws r).waiters ≡ settled_shadows (Some (started_of r)) ws
unfolding shadow_with
settled_numbers nodes items r ws apart =
    map-map shadow_of (waiter_for nodes items r) ws
    ∙ map-agree (λ w. shadow_of (waiter_for nodes items r w)) (λ w. stay_or_copy (find (stands_for w) (map shadow_of r.waiters)) (positions_in (Some (started_of r))) w) ws
    (all-everywhere (λ w. shadow_of (waiter_for nodes items r w) ≡ stay_or_copy (find (stands_for w) (map shadow_of r.waiters)) (positions_in (Some (started_of r))) w)
    (λ w. stays_or_copied nodes items r w apart (find (stands_for w) (map shadow_of r.waiters)) refl) ws)

-- As states.

guard_stands : (p : Program) (d : Tables) (u : ℕ) (ws : List Waiter) (o : Slot) → SlotStands p d o → AllByRecursion (λ (w : Waiter). SlotStands p d w.slot) ws → SlotStands p d (guard_slot u ws o)
guard_stands p d u [] o h all = h
guard_stands p d u (w ∷ ws) o h all = cond_both {A = Slot} (w.guard == u) w.slot (guard_slot u ws o) (SlotStands p d) (λ e. all.0) (λ e. guard_stands p d u ws o h all.1)

pub role_stands : (p : Program) (d : Tables) (role : Role) (r : Seat) → SeatStands p d r → SlotStands p d (role_slot role r)
role_stands p d Optimistic r h = h.optimistic
role_stands p d (Guard u) r h = guard_stands p d u r.waiters r.optimistic h.optimistic h.waiters

pub fresh_stands : (p : Program) (d : Tables) (nodes : List Node) (items : ℕ) → nodes ≡ nodes_of p → items ≡ length d → SlotStands p d (fresh_slot nodes items)
fresh_stands p d nodes items code size = rw (code, size) (fresh_runs p d)

slot_stands : (p : Program) (d : Tables) (nodes : List Node) (items : ℕ) (r : Seat) (u : ℕ) (o : Origin) → nodes ≡ nodes_of p → items ≡ length d → SeatStands p d r
    → SlotStands p d (slot_from o nodes items r u)
slot_stands p d nodes items r u Keep code size h = role_stands p d (Guard u) r h
slot_stands p d nodes items r u (From role) code size h = role_stands p d role r h
slot_stands p d nodes items r u Fresh code size h = fresh_stands p d nodes items code size

-- settling leaves states that stand
pub settled_stands : (p : Program) (d : Tables) (nodes : List Node) (items : ℕ) (r : Seat) (ws : List Conflict) → nodes ≡ nodes_of p → items ≡ length d → SeatStands p d r
    → SeatStands p d (settled_seat nodes items ws r)
settled_stands p d nodes items r ws code size h = record {
  optimistic = h.optimistic;
  waiters =
      all-map (λ (w : Waiter). SlotStands p d w.slot) (waiter_for nodes items r) ws
      (all-everywhere (λ w. SlotStands p d (waiter_for nodes items r w).slot) (λ w. slot_stands p d nodes items r w.0 (origin (placed_of (started_of r)) w.0 w.1) code size h) ws);
}

-- Renewing.

untouched : (r : Seat) → IsApart (conflicts_of r) → AllZip StandsFor (started_of r).shadows (conflicts_of r) → map shadow_of r.waiters ≡ settled_shadows (Some (started_of r)) (conflicts_of r)
untouched r apart fits =
    sym (settle_again (positions_in (Some (started_of r))) [] (started_of r).shadows (conflicts_of r) fits apart
    (all-everywhere (λ (w : Conflict). AllByRecursion (λ (s : Shadow). s.guard ≢ w.0) []) (λ w. tt) (conflicts_of r)))

-- a transaction that is renewed has the shadows of settling
pub renewed_numbers : (nodes : List Node) (items : ℕ) (ws : List Conflict) (r : Seat) → IsApart (conflicts_of r) → AllZip StandsFor (started_of r).shadows (conflicts_of r)
    → map shadow_of (renewed nodes items ws r).waiters ≡ settled_shadows (Some (started_of r)) ws
renewed_numbers nodes items ws r apart fits =
    cond_both {A = Seat} (same_conflicts (conflicts_of r) ws) r (settled_seat nodes items ws r) (λ x. map shadow_of x.waiters ≡ settled_shadows (Some (started_of r)) ws)
    (λ e. untouched r apart fits ∙ ap (settled_shadows (Some (started_of r))) (same_lists _ _ e))
    (λ e. settled_numbers nodes items r ws apart)

pub renewed_stands : (p : Program) (d : Tables) (nodes : List Node) (items : ℕ) (ws : List Conflict) (r : Seat) → nodes ≡ nodes_of p → items ≡ length d → SeatStands p d r
    → SeatStands p d (renewed nodes items ws r)
renewed_stands p d nodes items ws r code size h =
    cond_both {A = Seat} (same_conflicts (conflicts_of r) ws) r (settled_seat nodes items ws r) (SeatStands p d)
    (λ e. h) (λ e. settled_stands p d nodes items r ws code size h)

-- in numbers it is settled
pub renewed_started : (nodes : List Node) (items : ℕ) (ws : List Conflict) (r : Seat) → IsApart (conflicts_of r) → AllZip StandsFor (started_of r).shadows (conflicts_of r)
    → started_of (renewed nodes items ws r) ≡ record (started_of r) { shadows = settled_shadows (Some (started_of r)) ws }
renewed_started nodes items ws r apart fits = rw (renewed_number nodes items ws r, renewed_optimistic nodes items ws r, renewed_numbers nodes items ws r apart fits) refl

-- After a cut.

heir_among : (ss : List Shadow) (cut : ℕ) (h : Shadow) (P : Shadow → Type 0) → heir (survivors (Some cut) ss) ≡ Some h → AllByRecursion P ss → P h
heir_among ss cut h P e all = all-first P _ (survivors (Some cut) ss) h e (all-filter P (λ (s : Shadow). survives (Some cut) s.position) ss all)

-- the slot of its guard is that shadow
abbrev pub IsSlotOf : Seat → Shadow → Type 0
IsSlotOf r s = ((guard_slot s.guard r.waiters r.optimistic).state.position ≡ s.position) × ((guard_slot s.guard r.waiters r.optimistic).out ≡ s.out)

slots_of_all : (r : Seat) (ws : List Waiter) → AllByRecursion (λ (w : Waiter). guard_slot w.guard r.waiters r.optimistic ≡ w.slot) ws → AllByRecursion (λ (s : Shadow). IsSlotOf r s) (map shadow_of ws)
slots_of_all r [] h = tt
slots_of_all r (w ∷ ws) h = ((ap (λ (s : Slot). s.state.position) h.0, ap (λ (s : Slot). s.out) h.0), slots_of_all r ws h.1)

kept_numbers : (cut u : ℕ) (ws : List Waiter) → map shadow_of (filter (stays cut (Guard u)) ws) ≡ without_guard u (survivors (Some cut) (map shadow_of ws))
kept_numbers cut u [] = refl
kept_numbers cut u (w ∷ ws) =
    either (cases_Bool (leb w.slot.state.position cut))
    (λ e.
    either (cases_Bool (w.guard == u))
    (λ q. rw (e, eq-eqb u w.guard (sym (eqb-true _ _ q)), q) (kept_numbers cut u ws))
    (λ q. rw (e, ne_eqb u w.guard (λ z. true≢false (sym (eq-eqb w.guard u (sym z)) ∙ q)), q) (ap (λ xs. shadow_of w ∷ xs) (kept_numbers cut u ws))))
    (λ e. rw e (kept_numbers cut u ws))

promoted_heir : (nodes : List Node) (items cut : ℕ) (r : Seat) → IsApart (conflicts_of r) → leb r.optimistic.state.position cut ≡ false
    → (o : Option Shadow) → heir (survivors (Some cut) (map shadow_of r.waiters)) ≡ o
    → started_of (promoted_by (from_found (option_map placed o)) nodes items cut r) ≡ resumed_by o (started_of r) (survivors (Some cut) (map shadow_of r.waiters))
promoted_heir nodes items cut r apart past None e = refl
promoted_heir nodes items cut r apart past (Some h) e =
    let slot : IsSlotOf r h = heir_among (map shadow_of r.waiters) cut h (λ s. IsSlotOf r s) e (slots_of_all r r.waiters (guard_slots [] r.waiters r.optimistic apart)) in
    rw (slot.0, slot.1, kept_numbers cut h.guard r.waiters) refl

-- a transaction after a cut that its optimistic shadow does not survive
pub promoted_numbers : (nodes : List Node) (items cut : ℕ) (r : Seat) → IsApart (conflicts_of r) → leb r.optimistic.state.position cut ≡ false
    → started_of (promoted_seat nodes items cut r) ≡ after_cut (Some cut) (started_of r)
promoted_numbers nodes items cut r apart past =
    let heir_is = heir-furthest_survivor (started_of r) cut past in
    ap (λ o. started_of (promoted_by (from_found o) nodes items cut r)) heir_is
    ∙ promoted_heir nodes items cut r apart past (heir (survivors (Some cut) (map shadow_of r.waiters))) refl
    ∙ sym (rw past refl)
