-- States that stand on the same run over other tables.
use Rattle.std.proofs.Common.{◌≡◌, ℕ, ◌≤◌, ◌==◌, Bool, true, leb, List, [], ◌∷◌, filter, length, Option, Some, None, refl, ap, subst, ◌∙◌, arith}
use Rattle.std.specs.List.{AllByRecursion}
use Rattle.std.proofs.lemmas.Bool.{cond_both, and_parts}
use Rattle.block_rule.specs.declared.role.Role.{Role}
use Rattle.block_rule.specs.declared.role.Role.TheVariants.{Optimistic, Guard}
use Rattle.txn_runs.specs.Run.{Tables, after}
use Rattle.txn_runs.specs.Serial.{has_ended}
use Rattle.txn_runs.specs.declared.program.Program.{Program}
use Rattle.txn_code.specs.declared.node.Node.{Node}
use Rattle.txn_code.specs.Nodes.{nodes_of}
use Rattle.txn_interp.specs.State.{Is}
use Rattle.forest_model.specs.Origin.{Placed, furthest, from_found, placed_of}
use Rattle.forest_model.proofs.Lists.{all-both, filter-passes, all-filter}
use Rattle.forest_model.proofs.StartedLaws.{all-first}
use Rattle.forest_model.proofs.RestLaws.{IsApart}
use Rattle.shadow_state.specs.Bank.{Slot}
use Rattle.shadow_lanes.specs.Seats.{Waiter, Seat, conflicts_of, started_of, guard_slot, role_slot, stays, promoted_by, promoted_seat}
use Rattle.shadow_forest.specs.Kept.{SlotStands, SeatStands}
use Rattle.shadow_forest.proofs.Seating.{IsPlacedIn, all_placed, role_stands, fresh_stands}

-- at positions up to a limit that survive a cut the runs over both tables are the same
pub record SameRuns (p : Program) (d e : Tables) (limit : ℕ) (such : ℕ → Bool) : Type 0 where
  pub size : length e ≡ length d
  pub same : (q : ℕ) → q ≤ limit → such q ≡ true → after p d q ≡ after p e q

pub slot_moves : (p : Program) (d e : Tables) (limit : ℕ) (such : ℕ → Bool) (s : Slot) → SameRuns p d e limit such → s.state.position ≤ limit → such s.state.position ≡ true → SlotStands p d s → SlotStands p e s
slot_moves p d e limit such s runs le is h =
    let same : after p d s.state.position ≡ after p e s.state.position = runs.same s.state.position le is in
    record { code = h.code; items = runs.size ∙ h.items; is = subst (Is (nodes_of p) s.state) same h.is; done = h.done ∙ ap has_ended same }

-- no waiting shadow is ahead of the optimistic one
pub record IsBehind (r : Seat) : Type 0 where
  pub each : AllByRecursion (λ (w : Waiter). w.slot.state.position ≤ r.optimistic.state.position) r.waiters

guard_behind : (u limit : ℕ) (ws : List Waiter) (o : Slot) → o.state.position ≤ limit → AllByRecursion (λ (w : Waiter). w.slot.state.position ≤ limit) ws → (guard_slot u ws o).state.position ≤ limit
guard_behind u limit [] o h all = h
guard_behind u limit (w ∷ ws) o h all = cond_both {A = Slot} (w.guard == u) w.slot (guard_slot u ws o) (λ s. s.state.position ≤ limit) (λ e. all.0) (λ e. guard_behind u limit ws o h all.1)

pub role_behind : (role : Role) (r : Seat) → IsBehind r → (role_slot role r).state.position ≤ r.optimistic.state.position
role_behind Optimistic r h = (omega arith)
role_behind (Guard u) r h = guard_behind u r.optimistic.state.position r.waiters r.optimistic (omega arith) h.each

-- where all positions are among those, all states stand
pub seat_moves : (p : Program) (d e : Tables) (such : ℕ → Bool) (r : Seat) → SameRuns p d e r.optimistic.state.position such → IsBehind r → ((q : ℕ) → such q ≡ true) → SeatStands p d r → SeatStands p e r
seat_moves p d e such r runs behind all h = record {
  optimistic = slot_moves p d e r.optimistic.state.position such r.optimistic runs (omega arith) (all r.optimistic.state.position) h.optimistic;
  waiters =
      all-both (λ (w : Waiter). w.slot.state.position ≤ r.optimistic.state.position) (λ (w : Waiter). SlotStands p d w.slot) (λ (w : Waiter). SlotStands p e w.slot)
      (λ w le stands. slot_moves p d e r.optimistic.state.position such w.slot runs le (all w.slot.state.position) stands) r.waiters behind.each h.waiters;
}

found_survives : (r : Seat) (cut : ℕ) (x : Placed) → IsApart (conflicts_of r) → furthest (placed_of (started_of r)) cut ≡ Some x → leb (role_slot x.0 r).state.position cut ≡ true
found_survives r cut x apart h =
    let test : Placed → Bool = (λ (y : Placed). leb y.1 cut) in
    let both : IsPlacedIn r x × (leb x.1 cut ≡ true) =
    all-first (λ (y : Placed). IsPlacedIn r y × (leb y.1 cut ≡ true)) _ (filter (λ (y : Placed). leb y.1 cut) (placed_of (started_of r))) x h
    (all-both (λ (y : Placed). IsPlacedIn r y) (λ (y : Placed). leb y.1 cut ≡ true) (λ (y : Placed). IsPlacedIn r y × (leb y.1 cut ≡ true)) (λ y a b. (a, b)) (filter (λ (y : Placed). leb y.1 cut) (placed_of (started_of r)))
    (all-filter (λ (y : Placed). IsPlacedIn r y) (λ (y : Placed). leb y.1 cut) (placed_of (started_of r)) (all_placed r apart))
    (filter-passes (λ (y : Placed). leb y.1 cut) (placed_of (started_of r))))
    in
    ap (λ n. leb n cut) both.0 ∙ both.1

survivor_waiters : (p : Program) (d e : Tables) (cut limit : ℕ) (role : Role) (ws : List Waiter) → SameRuns p d e limit (λ q. leb q cut)
    → AllByRecursion (λ (w : Waiter). w.slot.state.position ≤ limit) ws → AllByRecursion (λ (w : Waiter). SlotStands p d w.slot) ws
    → AllByRecursion (λ (w : Waiter). SlotStands p e w.slot) (filter (stays cut role) ws)
survivor_waiters p d e cut limit role [] runs le h = tt
survivor_waiters p d e cut limit role (w ∷ ws) runs le h =
    cond_both {A = List Waiter} (stays cut role w) (w ∷ filter (stays cut role) ws) (filter (stays cut role) ws) (AllByRecursion (λ (x : Waiter). SlotStands p e x.slot))
    (λ q. (slot_moves p d e limit (λ n. leb n cut) w.slot runs le.0 (and_parts _ _ q).0 h.0, survivor_waiters p d e cut limit role ws runs le.1 h.1))
    (λ q. survivor_waiters p d e cut limit role ws runs le.1 h.1)

promoted_found : (p : Program) (d e : Tables) (nodes : List Node) (items cut : ℕ) (r : Seat) → nodes ≡ nodes_of p → items ≡ length e → IsApart (conflicts_of r)
    → SameRuns p d e r.optimistic.state.position (λ q. leb q cut) → IsBehind r → SeatStands p d r → (o : Option Placed) → furthest (placed_of (started_of r)) cut ≡ o
    → SeatStands p e (promoted_by (from_found o) nodes items cut r)
promoted_found p d e nodes items cut r code size apart runs behind h None found = record { optimistic = fresh_stands p e nodes items code size; waiters = tt }
promoted_found p d e nodes items cut r code size apart runs behind h (Some x) found = record {
  optimistic = slot_moves p d e r.optimistic.state.position (λ q. leb q cut) (role_slot x.0 r) runs (role_behind x.0 r behind) (found_survives r cut x apart found) (role_stands p d x.0 r h);
  waiters = survivor_waiters p d e cut r.optimistic.state.position x.0 r.waiters runs behind.each h.waiters;
}

-- what a cut leaves stands over the new tables
pub promoted_stands : (p : Program) (d e : Tables) (nodes : List Node) (items cut : ℕ) (r : Seat) → nodes ≡ nodes_of p → items ≡ length e → IsApart (conflicts_of r)
    → SameRuns p d e r.optimistic.state.position (λ q. leb q cut) → IsBehind r → SeatStands p d r → SeatStands p e (promoted_seat nodes items cut r)
promoted_stands p d e nodes items cut r code size apart runs behind h = promoted_found p d e nodes items cut r code size apart runs behind h (furthest (placed_of (started_of r)) cut) refl
