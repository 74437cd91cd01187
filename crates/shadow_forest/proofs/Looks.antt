-- How the shadows of a started transaction are seen.
use Rattle.std.proofs.Common.{◌≡◌, ℕ, zero, suc, ◌<◌, Bool, false, List, [], ◌∷◌, length, map, Option, Some, None, refl, ap, sym, ◌∙◌, arith}
use Rattle.std.specs.Prelude.{slice_get}
use Rattle.std.specs.List.{AllByRecursion}
use Rattle.std.proofs.lemmas.Option.{slice_get_past}
use Rattle.block_rule.specs.declared.standing.Standing.{Standing}
use Rattle.block_rule.specs.declared.role.Role.{Role}
use Rattle.block_rule.specs.declared.role.Role.TheVariants.{Optimistic, Guard}
use Rattle.block_rule.specs.Standing.{standing}
use Rattle.txn_runs.specs.Run.{Tables}
use Rattle.txn_runs.specs.declared.program.Program.{Program}
use Rattle.txn_interp.specs.State.{IsRun}
use Rattle.forest_model.specs.Forest.{Forest, Shadow}
use Rattle.forest_model.specs.Told.{Look, waiting_looks, looks}
use Rattle.forest_model.proofs.Lists.{length-map'}
use Rattle.shadow_state.specs.Bank.{Slot}
use Rattle.shadow_lanes.specs.Seats.{Seat, Waiter, conflict_of, conflicts_of, shadow_of, started_of, slots_of}
use Rattle.shadow_forest.specs.declared.txn.Txn.{Txn}
use Rattle.shadow_forest.specs.Answers.{outs}
use Rattle.shadow_forest.specs.Parts.{waiter_role, role_in}
use Rattle.shadow_forest.specs.Kept.{SeatStands, SlotStands}
use Rattle.shadow_forest.proofs.Seen.{IsSeen}

-- the look of a shadow that waits
abbrev pub waiter_look : Waiter → Look
waiter_look w = (Guard w.guard, (w.slot.state.position, (Some w.point, standing (Guard w.guard) w.slot.state.position (Some w.point) false)))

-- the looks of r's shadows
abbrev pub seat_looks : Seat → List Look
seat_looks r = (Optimistic, (r.optimistic.state.position, (None, standing Optimistic r.optimistic.state.position None r.optimistic.state.done))) ∷ map waiter_look r.waiters

waiting-seen : (ws : List Waiter) → waiting_looks (map shadow_of ws) (map conflict_of ws) ≡ map waiter_look ws
waiting-seen [] = refl
waiting-seen (w ∷ ws) = ap (λ ls. waiter_look w ∷ ls) (waiting-seen ws)

pub looks-seen : (f : Forest) (txns : List Txn) (r : Seat) → IsSeen f txns r → looks f (Some (started_of r)) ≡ seat_looks r
looks-seen f txns r h = rw (← h.noted, ← h.ended) (ap (λ ls. (Optimistic, (r.optimistic.state.position, (None, standing Optimistic r.optimistic.state.position None r.optimistic.state.done))) ∷ ls) (waiting-seen r.waiters))

-- there is one for each conflict, and the optimistic one's
pub looks-many : (r : Seat) → length (seat_looks r) ≡ suc (length (conflicts_of r))
looks-many r = ap suc (length-map' waiter_look r.waiters ∙ sym (length-map' conflict_of r.waiters))

-- Those that are out.

outs-waiting : (ws : List Waiter) → map (λ (s : Shadow). s.out) (map shadow_of ws) ≡ map (λ (w : Waiter). w.slot.out) ws
outs-waiting [] = refl
outs-waiting (w ∷ ws) = ap (λ bs. w.slot.out ∷ bs) (outs-waiting ws)

-- One of them.

-- the look of a shadow with this role and point in this slot
abbrev pub look_by : Role × Option ℕ → Slot → Look
look_by role s = (role.0, (s.state.position, (role.1, standing role.0 s.state.position role.1 s.state.done)))

waiter-look : (ws : List Waiter) (n : ℕ) (s : Slot) → slice_get (map (λ (w : Waiter). w.slot) ws) n ≡ Some s
    → Some (look_by (waiter_role (slice_get ws n)) s) ≡ slice_get (map waiter_look ws) n
waiter-look [] n s e = cc
waiter-look (w ∷ ws) zero s e = let same : w.slot ≡ s = cc in rw (← same) refl
waiter-look (w ∷ ws) (suc n) s e = waiter-look ws n s e

pub look-there : (r : Seat) (slot : ℕ) (s : Slot) → slice_get (slots_of r) slot ≡ Some s → Some (look_by (role_in r slot) s) ≡ slice_get (seat_looks r) slot
look-there r zero s e = let same : r.optimistic ≡ s = cc in rw (← same) refl
look-there r (suc n) s e = waiter-look r.waiters n s e

waiter-out : (ws : List Waiter) (n : ℕ) (s : Slot) → slice_get (map (λ (w : Waiter). w.slot) ws) n ≡ Some s
    → Some s.out ≡ slice_get (map (λ (w : Waiter). w.slot.out) ws) n
waiter-out [] n s e = cc
waiter-out (w ∷ ws) zero s e = let same : w.slot ≡ s = cc in rw (← same) refl
waiter-out (w ∷ ws) (suc n) s e = waiter-out ws n s e

pub out-there : (r : Seat) (slot : ℕ) (s : Slot) → slice_get (slots_of r) slot ≡ Some s → Some s.out ≡ slice_get (outs (Some (started_of r))) slot
out-there r zero s e = let same : r.optimistic ≡ s = cc in rw (← same) refl
out-there r (suc n) s e = waiter-out r.waiters n s e ∙ ap (λ bs. slice_get bs n) (sym (outs-waiting r.waiters))

-- each of the slots has a run of the program
waiter-stands : (p : Program) (d : Tables) (ws : List Waiter) (n : ℕ) (s : Slot) → slice_get (map (λ (w : Waiter). w.slot) ws) n ≡ Some s
    → AllByRecursion (λ (w : Waiter). SlotStands p d w.slot) ws → IsRun p d s.state
waiter-stands p d [] n s e all = cc
waiter-stands p d (w ∷ ws) zero s e all = let same : w.slot ≡ s = cc in rw (← same) all.0
waiter-stands p d (w ∷ ws) (suc n) s e all = waiter-stands p d ws n s e all.1

pub stands-there : (p : Program) (d : Tables) (r : Seat) (slot : ℕ) (s : Slot) → slice_get (slots_of r) slot ≡ Some s → SeatStands p d r → IsRun p d s.state
stands-there p d r zero s e h = let same : r.optimistic ≡ s = cc in rw (← same) h.optimistic
stands-there p d r (suc n) s e h = waiter-stands p d r.waiters n s e h.waiters

-- what is told of this slot is its look
pub look-is : (role is : Role × Option ℕ) (position again : ℕ) (stands : Standing) (ended : Bool) (s : Slot) → role ≡ is → position ≡ s.state.position → again ≡ s.state.position → ended ≡ s.state.done
    → stands ≡ standing role.0 again role.1 ended → ◌≡◌ {A = Option Look} (Some (role.0, (position, (role.1, stands)))) (Some (look_by is s))
look-is role is position again stands ended s r p q e t = rw (t, p, q, e, r) refl

-- and that is how the forest shows it
pub look-seen : (f : Forest) (txns : List Txn) (r : Seat) (slot : ℕ) (s : Slot) → IsSeen f txns r → slice_get (slots_of r) slot ≡ Some s
    → Some (look_by (role_in r slot) s) ≡ slice_get (looks f (Some (started_of r))) slot
look-seen f txns r slot s h e = look-there r slot s e ∙ ap (λ ls. slice_get ls slot) (sym (looks-seen f txns r h))

-- past the last there is none
pub look-past : (f : Forest) (txns : List Txn) (r : Seat) (slot : ℕ) → IsSeen f txns r → length (conflicts_of r) < slot → slice_get (looks f (Some (started_of r))) slot ≡ None
look-past f txns r slot h past = ap (λ ls. slice_get ls slot) (looks-seen f txns r h) ∙ slice_get_past (seat_looks r) slot (omega (arith, looks-many r))

pub out-past : (r : Seat) (slot : ℕ) → length (conflicts_of r) < slot → slice_get (outs (Some (started_of r))) slot ≡ None
out-past r slot past =
    let many : length (outs (Some (started_of r))) ≡ suc (length (conflicts_of r)) =
    ap suc (length-map' (λ (s : Shadow). s.out) (map shadow_of r.waiters) ∙ (length-map' shadow_of r.waiters ∙ sym (length-map' conflict_of r.waiters)))
    in
    slice_get_past (outs (Some (started_of r))) slot (omega arith)
