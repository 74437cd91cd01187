-- A step of a shadow that waits.
use Rattle.std.proofs.Common.{◌≡◌, ℕ, zero, suc, ◌≤◌, ◌<◌, ◌==◌, false, List, [], ◌∷◌, map, Option, Some, None, Result, Ok, Err, IfOk, refl, ap, sym, subst, ◌∙◌, arith, eqb-true, ltb}
use Rattle.std.proofs.lemmas.Option.{get_or_from_slice_get}
use Rattle.std.specs.Prelude.{◌-◌, ◌+◌, get_or, length, slice_get, option_map, option_and_then}
use Rattle.std.specs.List.{AllByRecursion, AllZip}
use Rattle.std.proofs.lemmas.Bool.{cases_Bool, cond_both}
use Rattle.block_rule.specs.declared.role.Role.{Role}
use Rattle.block_rule.specs.declared.role.Role.TheVariants.{Guard}
use Rattle.block_rule.specs.declared.standing.Standing.{Standing}
use Rattle.block_rule.specs.declared.standing.Standing.TheVariants.{Runnable, Blocked, Ended}
use Rattle.block_rule.specs.Standing.{standing, up_to_point}
use Rattle.txn_runs.specs.Bounds.{steps_max}
use Rattle.txn_runs.proofs.Ending.{length_within}
use Rattle.txn_runs.specs.Run.{Tables}
use Rattle.txn_runs.specs.Serial.{run_length}
use Rattle.forest_model.specs.Forest.{length_of}
use Rattle.forest_model.specs.Sound.{StandsFor}
use Rattle.forest_model.proofs.PointLaws.{wanted-below}
use Rattle.forest_model.proofs.RunLaws.{going-below_length}
use Rattle.txn_runs.specs.declared.program.Program.{Program}
use Rattle.txn_code.specs.declared.node.Node.{Node}
use Rattle.txn_code.specs.Nodes.{nodes_of}
use Rattle.txn_interp.specs.State.{Held, RunsOver}
use Rattle.journal_core.specs.Recorded.{Recorded}
use Rattle.journal_core.specs.Journal.{program_of}
use Rattle.forest_model.specs.Point.{Conflict}
use Rattle.forest_model.specs.Forest.{Shadow, Started, Forest, wanted, find_started}
use Rattle.forest_model.specs.Events.{Refusal, NoShadow, IsBlocked, if_runnable, given_shadows, give_shadows, put_first, step_guard, with_shadows, step_role, step}
use Rattle.forest_model.specs.Sound.{IsRising, IsSound}
use Rattle.forest_model.proofs.Lists.{either, all-weaken, map-map, map-agree}
use Rattle.forest_model.proofs.SettleLaws.{wanted-mapped}
use Rattle.forest_model.proofs.StepLaws.{step-sound}
use Rattle.shadow_state.specs.Bank.{Slot, at_place}
use Rattle.shadow_lanes.specs.Seats.{Waiter, Seat, Seated, conflict_of, conflicts_of, shadow_of, started_of, stepped_slot, slots_of, slot_at, waiter_with, seat_with, StepsOver}
use Rattle.indexed_lanes.specs.Noted.{RunsHere}
use Rattle.shadow_forest.specs.declared.txn.Txn.{Txn}
use Rattle.shadow_forest.specs.Parts.{further_slot, slot_of, nodes_at}
use Rattle.shadow_forest.specs.Kept.{forest_of, SlotStands, SeatStands, IsForest}
use Rattle.shadow_forest.proofs.Keeping.{seat_number, at_number, at_number_keeps, place_is_number, alone, all_at, all_at_number, IsChange, changed}
use Rattle.shadow_forest.proofs.Placing.{IsAt, IsAtView, some_same, slice_below, nodes_are, runs_here}
use Rattle.shadow_forest.specs.View.{View}

first_runs : (s : Shadow) (st : Standing) (a : ℕ × List Shadow) → put_first s (if_runnable st a) ≡ if_runnable st (a.0, s ∷ a.1)
first_runs s Runnable a = refl
first_runs s Blocked a = refl
first_runs s Ended a = refl

with_runs : (f : Forest) (r : Started) (st : Standing) (a : ℕ × List Shadow) → with_shadows f r (if_runnable st a) ≡ if_runnable st (a.0, give_shadows r.number a.1 f)
with_runs f r Runnable a = refl
with_runs f r Blocked a = refl
with_runs f r Ended a = refl

-- where no shadow waits for the guard
pub no_shadow : (u : ℕ) (ws : List Waiter) → slot_of (map conflict_of ws) u ≡ None → step_guard u (map shadow_of ws) (map conflict_of ws) ≡ Err NoShadow
no_shadow u [] h = refl
no_shadow u (w ∷ ws) h =
    either (cases_Bool (w.guard == u))
    (λ e. let hit : Some 1 ≡ None = rw e at h in cc)
    (λ e. let later : further_slot (slot_of (map conflict_of ws) u) ≡ None = rw e at h in
    rw (e, no_shadow u ws (no_further (slot_of (map conflict_of ws) u) later)) refl)
  where
    no_further : (o : Option ℕ) → further_slot o ≡ None → o ≡ None
    no_further None e = refl
    no_further (Some n) e = cc

-- the waiting shadow in a slot, for this guard
pub record IsSlotFor (u : ℕ) (ws : List Waiter) (slot : ℕ) : Type 0 where
  pub place : ℕ
  pub waiter : Waiter
  pub is_slot : slot ≡ suc place
  pub there : slice_get ws place ≡ Some waiter
  pub guard : waiter.guard ≡ u
  pub steps : (st : Held) → st.position ≡ suc waiter.slot.state.position
      → step_guard u (map shadow_of ws) (map conflict_of ws)
      ≡ if_runnable (standing (Guard u) waiter.slot.state.position (Some waiter.point) false) (st.position, map shadow_of (at_place place (waiter_with (stepped_slot st)) ws))

later_slot : (o : Option ℕ) (slot : ℕ) → further_slot o ≡ Some slot → (n : ℕ) × (o ≡ Some n) × (slot ≡ suc n)
later_slot None slot e = cc
later_slot (Some n) slot e = (n, refl, cc)

-- the step of the shadow in the slot for a guard
pub slot_steps : (u : ℕ) (ws : List Waiter) (slot : ℕ) → slot_of (map conflict_of ws) u ≡ Some slot → IsSlotFor u ws slot
slot_steps u [] slot h = cc
slot_steps u (w ∷ ws) slot h =
    either (cases_Bool (w.guard == u))
    (λ e.
    let is : Some 1 ≡ Some slot = rw e at h in
    let guard : w.guard ≡ u = eqb-true _ _ e in
    record {
      place = 0;
      waiter = w;
      is_slot = cc;
      there = refl;
      guard = guard;
      steps = λ st at. rw (e, at) refl;
    })
    (λ e.
    let later : further_slot (slot_of (map conflict_of ws) u) ≡ Some slot = rw e at h in
    let n = later_slot (slot_of (map conflict_of ws) u) slot later in
    let more : IsSlotFor u ws n.0 = slot_steps u ws n.0 n.1 in
    record {
      place = suc more.place;
      waiter = more.waiter;
      is_slot = n.2 ∙ ap suc more.is_slot;
      there = more.there;
      guard = more.guard;
      steps = λ st at. rw e (ap (put_first (shadow_of w)) (more.steps st at) ∙ first_runs (shadow_of w) (standing (Guard u) more.waiter.slot.state.position (Some more.waiter.point) false) (st.position, map shadow_of (at_place more.place (waiter_with (stepped_slot st)) ws)));
    })

same_conflicts_at : (n : ℕ) (f : Slot → Slot) (ws : List Waiter) → map conflict_of (at_place n (waiter_with f) ws) ≡ map conflict_of ws
same_conflicts_at n f [] = refl
same_conflicts_at zero f (w ∷ ws) = refl
same_conflicts_at (suc n) f (w ∷ ws) = ap (λ xs. conflict_of w ∷ xs) (same_conflicts_at n f ws)

stand_at : (p : Program) (d : Tables) (n : ℕ) (st : Held) (ws : List Waiter) → SlotStands p d (record { state = st; out = false }) → AllByRecursion (λ (w : Waiter). SlotStands p d w.slot) ws
    → AllByRecursion (λ (w : Waiter). SlotStands p d w.slot) (at_place n (waiter_with (stepped_slot st)) ws)
stand_at p d n st [] new h = tt
stand_at p d zero st (w ∷ ws) new h = (new, h.1)
stand_at p d (suc n) st (w ∷ ws) new h = (h.0, stand_at p d n st ws new h.1)

-- the forest and the transaction at a place, whose waiting shadow in a slot makes a step
pub record IsWaitStep (journal : Recorded) (d : Tables) (s : Seated) (at : ℕ) (r : Seat) (place : ℕ) (st : Held) : Type 0 where
  pub rising : IsRising (map seat_number s.seats)
  pub there : slice_get s.seats at ≡ Some r
  pub stands : SlotStands (program_of journal.entries r.number) d (record { state = st; out = false })

-- the shadows of the transaction after the step
abbrev pub stepped_shadows : Seat → ℕ → Held → List Shadow
stepped_shadows r place st = map shadow_of (at_place place (waiter_with (stepped_slot st)) r.waiters)

pub wait_seats : (journal : Recorded) (d : Tables) (s : Seated) (at : ℕ) (r : Seat) (place : ℕ) (st : Held) → IsWaitStep journal d s at r place st
    → at_place at (seat_with (suc place) (stepped_slot st)) s.seats ≡ map (at_number r.number (seat_with (suc place) (stepped_slot st))) s.seats
wait_seats journal d s at r place st h = place_is_number s.seats at r (seat_with (suc place) (stepped_slot st)) h.rising h.there

wait_started : (journal : Recorded) (d : Tables) (s : Seated) (at : ℕ) (r : Seat) (place : ℕ) (st : Held) → IsWaitStep journal d s at r place st
    → map started_of (map (at_number r.number (seat_with (suc place) (stepped_slot st))) s.seats) ≡ map (given_shadows r.number (stepped_shadows r place st)) (map started_of s.seats)
wait_started journal d s at r place st h =
    let g : Seat → Seat = at_number r.number (seat_with (suc place) (stepped_slot st)) in
    let ss : List Shadow = stepped_shadows r place st in
    map-map started_of g s.seats
    ∙ map-agree (λ x. started_of (g x)) (λ x. given_shadows r.number ss (started_of x)) s.seats
    (all-weaken (λ (x : Seat). x.number ≡ r.number → x ≡ r) (λ (x : Seat). started_of (g x) ≡ given_shadows r.number ss (started_of x))
    (λ x only.
    either (cases_Bool (x.number == r.number))
    (λ e. let same : x ≡ r = only (eqb-true _ _ e) in rw (e, same) refl)
    (λ e. rw e refl))
    s.seats (alone s.seats at r h.rising h.there))
    ∙ sym (map-map (given_shadows r.number ss) started_of s.seats)

abbrev started_in : List Started → Forest → Forest
started_in rs f = record f { started = rs }

pub wait_forest : (journal : Recorded) (d : Tables) (s : Seated) (at : ℕ) (r : Seat) (place : ℕ) (st : Held) → IsWaitStep journal d s at r place st
    → forest_of journal d (record s { seats = map (at_number r.number (seat_with (suc place) (stepped_slot st))) s.seats }) ≡ give_shadows r.number (stepped_shadows r place st) (forest_of journal d s)
wait_forest journal d s at r place st h = ap (λ rs. started_in rs (forest_of journal d s)) (wait_started journal d s at r place st h)

given_number : (t : ℕ) (ss : List Shadow) (x : Started) → (given_shadows t ss x).number ≡ x.number
given_number t ss x = cond_both {A = Started} (x.number == t) (record x { shadows = ss }) x (λ y. y.number ≡ x.number) (λ e. refl) (λ e. refl)

given_position : (t : ℕ) (ss : List Shadow) (x : Started) → (given_shadows t ss x).position ≡ x.position
given_position t ss x = cond_both {A = Started} (x.number == t) (record x { shadows = ss }) x (λ y. y.position ≡ x.position) (λ e. refl) (λ e. refl)

-- what a transaction wants does not ask for its shadows
given_wants : (f : Forest) (t : ℕ) (ss : List Shadow) (x : Started) → wanted f (given_shadows t ss x) ≡ wanted f x
given_wants f t ss x = cond_both {A = Started} (x.number == t) (record x { shadows = ss }) x (λ y. wanted f y ≡ wanted f x) (λ e. refl) (λ e. refl)

waiting_wants : (f : Forest) (t place : ℕ) (st : Held) (x : Seat) → wanted f (started_of (at_number t (seat_with (suc place) (stepped_slot st)) x)) ≡ wanted f (started_of x)
waiting_wants f t place st x =
    cond_both {A = Seat} (x.number == t) (seat_with (suc place) (stepped_slot st) x) x (λ y. wanted f (started_of y) ≡ wanted f (started_of x)) (λ e. refl) (λ e. refl)

waiting_conflicts : (t place : ℕ) (st : Held) (x : Seat) → conflicts_of (at_number t (seat_with (suc place) (stepped_slot st)) x) ≡ conflicts_of x
waiting_conflicts t place st x =
    cond_both {A = Seat} (x.number == t) (seat_with (suc place) (stepped_slot st) x) x (λ y. conflicts_of y ≡ conflicts_of x) (λ e. same_conflicts_at place (stepped_slot st) x.waiters) (λ e. refl)

-- the step changes this one state, and all is kept
pub wait_change : (journal : Recorded) (d : Tables) (kept : List Txn) (queue : List ℕ) (s : Seated) (at : ℕ) (r : Seat) (place : ℕ) (st : Held) → IsWaitStep journal d s at r place st
    → IsForest journal d kept queue s → IsSound (give_shadows r.number (stepped_shadows r place st) (forest_of journal d s))
    → IsForest journal d kept queue (record s { seats = at_place at (seat_with (suc place) (stepped_slot st)) s.seats })
wait_change journal d kept queue s at r place st h old sound =
    let step : Seat → Seat = seat_with (suc place) (stepped_slot st) in
    let g : Seat → Seat = at_number r.number step in
    let f : Forest = forest_of journal d s in
    let f' : Forest = forest_of journal d (record s { seats = map g s.seats }) in
    let is : f' ≡ give_shadows r.number (stepped_shadows r place st) f = wait_forest journal d s at r place st h in
    let ss : List Shadow = stepped_shadows r place st in
    let only = alone s.seats at r h.rising h.there in
    let wants : (x : Seat) → wanted f' (started_of (g x)) ≡ wanted f (started_of x) =
    (λ x.
    waiting_wants f' r.number place st x
    ∙ ap (λ y. wanted y (started_of x)) is
    ∙ sym (given_wants (give_shadows r.number ss f) r.number ss (started_of x))
    ∙ wanted-mapped f (given_shadows r.number ss) (given_number r.number ss) (given_position r.number ss) (started_of x))
    in
    let of_r : SeatStands (program_of journal.entries r.number) d r = all_at (λ (x : Seat). SeatStands (program_of journal.entries x.number) d x) s.seats at r old.stand h.there in
    let change : IsChange journal d s g =
    record {
      same_number = at_number_keeps r.number step (λ x. refl);
      sound = subst IsSound (sym is) sound;
      stand =
          all_at_number (λ (x : Seat). SeatStands (program_of journal.entries x.number) d x) (λ (x : Seat). SeatStands (program_of journal.entries x.number) d x) r.number step r s.seats only old.stand
          (record { optimistic = of_r.optimistic; waiters = stand_at (program_of journal.entries r.number) d place st r.waiters h.stands of_r.waiters })
          (λ x ne of_x. of_x);
      noted =
          all-weaken (λ (x : Seat). conflicts_of x ≡ wanted f (started_of x)) (λ (x : Seat). conflicts_of (g x) ≡ wanted f' (started_of (g x)))
          (λ x noted. waiting_conflicts r.number place st x ∙ noted ∙ sym (wants x)) s.seats old.noted;
    }
    in
    subst (λ xs. IsForest journal d kept queue (record s { seats = xs })) (sym (wait_seats journal d s at r place st h)) (changed journal d kept queue s g change old)

-- What the call needs of the waiting shadow in a slot.

-- the waiter's shadow stands at or before its point, which lies before the optimistic shadow
waiter_fits : (ws : List Waiter) (n : ℕ) (w : Waiter) → slice_get ws n ≡ Some w → AllZip StandsFor (map shadow_of ws) (map conflict_of ws) → w.slot.state.position ≤ w.point
waiter_fits [] n w e h = cc
waiter_fits (x ∷ ws) zero w e h = let same : x ≡ w = cc in rw (sym same) h.0.1
waiter_fits (x ∷ ws) (suc n) w e h = waiter_fits ws n w e h.1

waiter_all : (P : Waiter → Type 0) (ws : List Waiter) (n : ℕ) (w : Waiter) → slice_get ws n ≡ Some w → AllByRecursion P ws → P w
waiter_all P [] n w e h = cc
waiter_all P (x ∷ ws) zero w e h = let same : x ≡ w = cc in subst P same h.0
waiter_all P (x ∷ ws) (suc n) w e h = waiter_all P ws n w e h.1

point_all : (P : Conflict → Type 0) (ws : List Waiter) (n : ℕ) (w : Waiter) → slice_get ws n ≡ Some w → AllByRecursion P (map conflict_of ws) → P (conflict_of w)
point_all P [] n w e h = cc
point_all P (x ∷ ws) zero w e h = let same : x ≡ w = cc in subst (λ y. P (conflict_of y)) same h.0
point_all P (x ∷ ws) (suc n) w e h = point_all P ws n w e h.1

waiter_mapped : {Y : Type 0} (f : Waiter → Y) (ws : List Waiter) (n : ℕ) (w : Waiter) → slice_get ws n ≡ Some w → slice_get (map f ws) n ≡ Some (f w)
waiter_mapped f [] n w e = cc
waiter_mapped f (x ∷ ws) zero w e = let same : x ≡ w = cc in ap (λ y. Some (f y)) same
waiter_mapped f (x ∷ ws) (suc n) w e = waiter_mapped f ws n w e

-- the waiting shadow in a slot of the transaction at a place, its guard's
pub record IsWaiterAt (journal : Recorded) (d : Tables) (kept : List Txn) (s : Seated) (at t : ℕ) (r : Started) (u slot : ℕ) : Type 0 where
  pub a : IsAt journal d kept s at t r
  pub found : IsSlotFor u a.seat.waiters slot
  pub in_slots : slot < length (slots_of a.seat)
  pub slot_is : slot_at s.seats at slot ≡ Some found.waiter.slot
  pub conflict_is : slice_get (conflicts_of a.seat) (slot - 1) ≡ Some (u, found.waiter.point)
  pub stands : SlotStands (program_of journal.entries t) d found.waiter.slot
  pub below_end : found.waiter.point < length_of (forest_of journal d s) r
  pub up_to_point : found.waiter.slot.state.position ≤ found.waiter.point

pub waiter_at : (journal : Recorded) (d : Tables) (kept : List Txn) (s : Seated) (at t : ℕ) (r : Started) (u slot : ℕ) (a : IsAt journal d kept s at t r)
    → slot_of (conflicts_of a.seat) u ≡ Some slot → IsWaiterAt journal d kept s at t r u slot
waiter_at journal d kept s at t r u slot a is =
    let f : Forest = forest_of journal d s in
    let found : IsSlotFor u a.seat.waiters slot = slot_steps u a.seat.waiters slot is in
    let slots : slice_get (slots_of a.seat) slot ≡ Some found.waiter.slot = ap (slice_get (slots_of a.seat)) found.is_slot ∙ waiter_mapped (λ (w : Waiter). w.slot) a.seat.waiters found.place found.waiter found.there in
    let wants : AllByRecursion (λ (w : Conflict). w.1 < r.position) (conflicts_of a.seat) = subst (AllByRecursion (λ (w : Conflict). w.1 < r.position)) (sym a.noted) (wanted-below f r) in
    let low : found.waiter.point < r.position = point_all (λ (w : Conflict). w.1 < r.position) a.seat.waiters found.place found.waiter found.there wants in
    let zipped : AllZip StandsFor (map shadow_of a.seat.waiters) (conflicts_of a.seat) =
    subst (AllZip StandsFor (map shadow_of a.seat.waiters)) (sym a.noted) (subst (λ (y : Started). AllZip StandsFor y.shadows (wanted f r)) (sym a.is) a.fits)
    in
    let minus : slot - 1 ≡ found.place = omega (arith, found.is_slot) in
    record {
      a = a;
      found = found;
      in_slots = slice_below (slots_of a.seat) slot found.waiter.slot slots;
      slot_is = ap (option_and_then (λ (xs : List Slot). slice_get xs slot)) (ap (option_map slots_of) a.there) ∙ slots;
      conflict_is =
          ap (slice_get (conflicts_of a.seat)) minus ∙ waiter_mapped conflict_of a.seat.waiters found.place found.waiter found.there
          ∙ ap (λ n. Some (n, found.waiter.point)) found.guard;
      stands = waiter_all (λ (w : Waiter). SlotStands (program_of journal.entries t) d w.slot) a.seat.waiters found.place found.waiter found.there a.stands.waiters;
      below_end = let within : r.position ≤ length_of f r = a.within in omega (arith, low, within);
      up_to_point = waiter_fits a.seat.waiters found.place found.waiter found.there zipped;
    }

-- a shadow before the end of its run has not ended
pub goes_on : (p : Program) (d : Tables) (x : Slot) → SlotStands p d x → x.state.position < run_length p d → x.state.done ≡ false
goes_on p d x h low = h.done ∙ going-below_length p d x.state.position low

-- The event.

unguarded : (journal : Recorded) (d : Tables) (kept : List Txn) (s : Seated) (at t : ℕ) (r : Started) (u : ℕ) (a : IsAt journal d kept s at t r)
    → step_guard u r.shadows (wanted (forest_of journal d s) r) ≡ step_guard u (map shadow_of a.seat.waiters) (map conflict_of a.seat.waiters)
unguarded journal d kept s at t r u a =
    ap (λ ws. step_guard u r.shadows ws) (sym a.noted) ∙ ap (λ (y : Started). step_guard u y.shadows (conflicts_of a.seat)) (sym a.is)

pub guard_none : (journal : Recorded) (d : Tables) (kept : List Txn) (s : Seated) (at t : ℕ) (r : Started) (u : ℕ) (a : IsAt journal d kept s at t r)
    → slot_of (conflicts_of a.seat) u ≡ None → step_role (forest_of journal d s) (Guard u) r ≡ Err NoShadow
guard_none journal d kept s at t r u a none =
    ap (with_shadows (forest_of journal d s) r) (unguarded journal d kept s at t r u a ∙ no_shadow u a.seat.waiters none)

pub guard_some : (journal : Recorded) (d : Tables) (kept : List Txn) (s : Seated) (at t : ℕ) (r : Started) (u slot : ℕ) (w : IsWaiterAt journal d kept s at t r u slot) (st : Held)
    → st.position ≡ suc w.found.waiter.slot.state.position
    → step_role (forest_of journal d s) (Guard u) r
    ≡ if_runnable (standing (Guard u) w.found.waiter.slot.state.position (Some w.found.waiter.point) false) (st.position, give_shadows r.number (stepped_shadows w.a.seat w.found.place st) (forest_of journal d s))
guard_some journal d kept s at t r u slot w st next =
    ap (with_shadows (forest_of journal d s) r) (unguarded journal d kept s at t r u w.a ∙ w.found.steps st next)
    ∙ with_runs (forest_of journal d s) r (standing (Guard u) w.found.waiter.slot.state.position (Some w.found.waiter.point) false) (st.position, stepped_shadows w.a.seat w.found.place st)

blocked_else : (st : Standing) (a : ℕ × Forest) (position point : ℕ) → st ≡ standing (Guard 0) position (Some point) false → (st ≡ Runnable → ⊥) → if_runnable st a ≡ Err IsBlocked
blocked_else Runnable a position point is never = absurd (never refl)
blocked_else Blocked a position point is never = refl
blocked_else Ended a position point is never =
    cond_both {A = Standing} (ltb position point) Runnable Blocked (λ x. Ended ≡ x → if_runnable Ended a ≡ Err IsBlocked) (λ e q. cc) (λ e q. cc) is

-- a shadow at its point does not step
pub guard_blocked : (journal : Recorded) (d : Tables) (kept : List Txn) (s : Seated) (at t : ℕ) (r : Started) (u slot : ℕ) (w : IsWaiterAt journal d kept s at t r u slot)
    → (standing (Guard u) w.found.waiter.slot.state.position (Some w.found.waiter.point) false ≡ Runnable → ⊥) → step_role (forest_of journal d s) (Guard u) r ≡ Err IsBlocked
guard_blocked journal d kept s at t r u slot w never =
    let st : Held = record w.found.waiter.slot.state { position = suc w.found.waiter.slot.state.position } in
    guard_some journal d kept s at t r u slot w st refl
    ∙ blocked_else (standing (Guard u) w.found.waiter.slot.state.position (Some w.found.waiter.point) false) (st.position, give_shadows r.number (stepped_shadows w.a.seat w.found.place st) (forest_of journal d s)) w.found.waiter.slot.state.position w.found.waiter.point refl never

-- the waiting shadow that the call has found, by what it was lent
pub record IsKnown (journal : Recorded) (d : Tables) (kept : List Txn) (s : Seated) (at t : ℕ) (now : View) (u slot : ℕ) (list : List Conflict) (state : Held) : Type 0 where
  pub v : IsAtView journal d kept s at t now
  pub w : IsWaiterAt journal d kept s at t v.started u slot
  pub point : (get_or list (slot - 1) (0, 0)).1 ≡ w.found.waiter.point
  pub state_is : state ≡ w.found.waiter.slot.state
  pub in_list : slot - 1 < length list

pub known : (journal : Recorded) (d : Tables) (kept : List Txn) (s : Seated) (at t : ℕ) (now : View) (u slot : ℕ) (v : IsAtView journal d kept s at t now) (first list : List Conflict) (state : Held)
    → option_map conflicts_of (slice_get s.seats at) ≡ Some first → slot_of first u ≡ Some slot → option_map conflicts_of (slice_get s.seats at) ≡ Some list
    → option_map (λ (x : Slot). x.state) (slot_at s.seats at slot) ≡ Some state → IsKnown journal d kept s at t now u slot list state
known journal d kept s at t now u slot v first list state of_first is of_list of_state =
    let here : option_map conflicts_of (slice_get s.seats at) ≡ Some (conflicts_of v.a.seat) = ap (option_map conflicts_of) v.a.there in
    let first_is : first ≡ conflicts_of v.a.seat = some_same _ _ (sym of_first ∙ here) in
    let list_is : list ≡ conflicts_of v.a.seat = some_same _ _ (sym of_list ∙ here) in
    let w : IsWaiterAt journal d kept s at t v.started u slot = waiter_at journal d kept s at t v.started u slot v.a (subst (λ xs. slot_of xs u ≡ Some slot) first_is is) in
    let there : slice_get list (slot - 1) ≡ Some (u, w.found.waiter.point) = subst (λ xs. slice_get xs (slot - 1) ≡ Some (u, w.found.waiter.point)) (sym list_is) (at_its_place v.a first_is w) in
    record {
      v = v;
      w = w;
      point = ap (λ (x : Conflict). x.1) (get_or_from_slice_get list (slot - 1) (u, w.found.waiter.point) (0, 0) there);
      state_is = some_same _ _ (sym of_state ∙ ap (option_map (λ (x : Slot). x.state)) w.slot_is);
      in_list = slice_below list (slot - 1) (u, w.found.waiter.point) there;
    }
  where
    at_its_place : (a : IsAt journal d kept s at t v.started) → first ≡ conflicts_of a.seat → (w : IsWaiterAt journal d kept s at t v.started u slot) → slice_get (conflicts_of a.seat) (slot - 1) ≡ Some (u, w.found.waiter.point)
    at_its_place a e w =
        let same : a.seat ≡ w.a.seat = some_same _ _ (sym a.there ∙ w.a.there) in
        ap (λ (x : Seat). slice_get (conflicts_of x) (slot - 1)) same ∙ w.conflict_is

-- the event of a transaction that is started is that of its role
pub step_is : (journal : Recorded) (d : Tables) (kept : List Txn) (s : Seated) (at t : ℕ) (r : Started) (role : Role) (a : IsAt journal d kept s at t r) → step (forest_of journal d s) t role ≡ step_role (forest_of journal d s) role r
step_is journal d kept s at t r role a = rw (a.live, a.found) refl

-- after the step of the waiting shadow in a slot
pub record IsWaited (journal : Recorded) (d : Tables) (kept : List Txn) (queue : List ℕ) (s : Seated) (r : Started) (seat : Seat) (place : ℕ) (st : Held) (new : Seated) : Type 0 where
  pub forest : forest_of journal d new ≡ give_shadows r.number (stepped_shadows seat place st) (forest_of journal d s)
  pub kept_all : IsForest journal d kept queue new

pub waited : (journal : Recorded) (d : Tables) (kept : List Txn) (queue : List ℕ) (s : Seated) (at t : ℕ) (r : Started) (u slot : ℕ) (w : IsWaiterAt journal d kept s at t r u slot) (nodes : List Node) (old : Slot) (st : Held) (new : Seated)
    → IsForest journal d kept queue s → slot_at s.seats at slot ≡ Some old → new ≡ record s { seats = at_place at (seat_with slot (stepped_slot st)) s.seats } → StepsOver nodes d old.state st
    → nodes ≡ nodes_at kept t → standing (Guard u) w.found.waiter.slot.state.position (Some w.found.waiter.point) false ≡ Runnable
    → IsWaited journal d kept queue s r w.a.seat w.found.place st new
waited journal d kept queue s at t r u slot w nodes old st new h there is steps code goes =
    let f : Forest = forest_of journal d s in
    let p : Program = program_of journal.entries t in
    let same : old ≡ w.found.waiter.slot = some_same _ _ (sym there ∙ w.slot_is) in
    let of_p : nodes ≡ nodes_of p = code ∙ nodes_are journal d kept s at t r w.a in
    let before : RunsOver nodes p d old.state = subst (λ ns. RunsOver ns p d old.state) (sym of_p) (subst (λ (x : Slot). RunsOver (nodes_of p) p d x.state) (sym same) w.stands) in
    let after_it : RunsOver (nodes_of p) p d st = subst (λ ns. RunsOver ns p d st) of_p (steps.same p before) in
    let number : w.a.seat.number ≡ t = w.a.number in
    let place : IsWaitStep journal d s at w.a.seat w.found.place st = record {
      rising = w.a.rising;
      there = w.a.there;
      stands = subst (λ n. RunsOver (nodes_of (program_of journal.entries n)) (program_of journal.entries n) d st) (sym number) after_it;
    } in
    let numbers : w.a.seat.number ≡ r.number = ap (λ (x : Started). x.number) w.a.is in
    let event : step f t (Guard u) ≡ Ok (st.position, give_shadows r.number (stepped_shadows w.a.seat w.found.place st) f) =
    step_is journal d kept s at t r (Guard u) w.a ∙ guard_some journal d kept s at t r u slot w st (steps.position ∙ ap (λ (x : Slot). suc x.state.position) same)
    ∙ ap (λ x. if_runnable x (st.position, give_shadows r.number (stepped_shadows w.a.seat w.found.place st) f)) goes
    in
    let sound : IsSound (give_shadows r.number (stepped_shadows w.a.seat w.found.place st) f) = subst (λ o. IfOk o (λ x. IsSound x.1)) event (step-sound f t (Guard u) h.sound) in
    let slots : record s { seats = at_place at (seat_with slot (stepped_slot st)) s.seats } ≡ record s { seats = at_place at (seat_with (suc w.found.place) (stepped_slot st)) s.seats } =
    ap (λ n. at_slot n s) w.found.is_slot
    in
    let lined : record s { seats = at_place at (seat_with (suc w.found.place) (stepped_slot st)) s.seats } ≡ record s { seats = map (at_number w.a.seat.number (seat_with (suc w.found.place) (stepped_slot st))) s.seats } =
    ap (λ xs. with_seats xs s) (wait_seats journal d s at w.a.seat w.found.place st place)
    in
    record {
      forest =
          ap (forest_of journal d) (is ∙ slots ∙ lined) ∙ wait_forest journal d s at w.a.seat w.found.place st place
          ∙ ap (λ n. give_shadows n (stepped_shadows w.a.seat w.found.place st) f) numbers;
      kept_all =
          subst (IsForest journal d kept queue) (sym (is ∙ slots))
          (wait_change journal d kept queue s at w.a.seat w.found.place st place h (subst (λ n. IsSound (give_shadows n (stepped_shadows w.a.seat w.found.place st) f)) (sym numbers) sound));
    }
  where
    with_seats : List Seat → Seated → Seated
    with_seats xs x = record x { seats = xs }

    at_slot : ℕ → Seated → Seated
    at_slot n x = record x { seats = at_place at (seat_with n (stepped_slot st)) x.seats }

-- The same in the words of the call.

pub listed : (journal : Recorded) (d : Tables) (kept : List Txn) (s : Seated) (at t : ℕ) (now : View) (u slot : ℕ) (v : IsAtView journal d kept s at t now) (first list : List Conflict)
    → option_map conflicts_of (slice_get s.seats at) ≡ Some first → slot_of first u ≡ Some slot → option_map conflicts_of (slice_get s.seats at) ≡ Some list → (1 ≤ slot) × (slot - 1 < length list)
listed journal d kept s at t now u slot v first list of_first is of_list =
    let here : option_map conflicts_of (slice_get s.seats at) ≡ Some (conflicts_of v.a.seat) = ap (option_map conflicts_of) v.a.there in
    let first_is : first ≡ conflicts_of v.a.seat = some_same _ _ (sym of_first ∙ here) in
    let list_is : list ≡ conflicts_of v.a.seat = some_same _ _ (sym of_list ∙ here) in
    let w = slot_steps u v.a.seat.waiters slot (subst (λ xs. slot_of xs u ≡ Some slot) first_is is) in
    let there : w.place < length (conflicts_of v.a.seat) = slice_below (conflicts_of v.a.seat) w.place (conflict_of w.waiter) (waiter_mapped conflict_of v.a.seat.waiters w.place w.waiter w.there) in
    (omega (arith, w.is_slot), subst (λ xs. slot - 1 < length xs) (sym list_is) (omega (arith, w.is_slot, there)))

pub slotted : (journal : Recorded) (d : Tables) (kept : List Txn) (s : Seated) (at t : ℕ) (now : View) (u slot : ℕ) (v : IsAtView journal d kept s at t now) (first : List Conflict)
    → option_map conflicts_of (slice_get s.seats at) ≡ Some first → slot_of first u ≡ Some slot → (r : Seat) → slice_get s.seats at ≡ Some r → slot < length (slots_of r)
slotted journal d kept s at t now u slot v first of_first is r there =
    let first_is : first ≡ conflicts_of v.a.seat = some_same _ _ (sym of_first ∙ ap (option_map conflicts_of) v.a.there) in
    let w : IsWaiterAt journal d kept s at t v.started u slot = waiter_at journal d kept s at t v.started u slot v.a (subst (λ xs. slot_of xs u ≡ Some slot) first_is is) in
    subst (λ x. slot < length (slots_of x)) (some_same _ _ (sym w.a.there ∙ there)) w.in_slots

pub may_step : (journal : Recorded) (d : Tables) (kept : List Txn) (s : Seated) (at t : ℕ) (now : View) (u slot : ℕ) (list : List Conflict) (state : Held) (k : IsKnown journal d kept s at t now u slot list state) (x : Slot) (nodes : List Node)
    → s.items ≡ length d → nodes ≡ nodes_at kept t → slot_at s.seats at slot ≡ Some x → RunsHere nodes d x.state × (x.state.done ≡ false)
may_step journal d kept s at t now u slot list state k x nodes size code there =
    let same : x ≡ k.w.found.waiter.slot = some_same _ _ (sym there ∙ k.w.slot_is) in
    let le : k.w.found.waiter.slot.state.position ≤ k.w.found.waiter.point = k.w.up_to_point in
    let lt : k.w.found.waiter.point < length_of (forest_of journal d s) k.v.started = k.w.below_end in
    let number : k.v.started.number ≡ t = ap (λ (y : Started). y.number) (sym k.w.a.is) ∙ k.w.a.number in
    let low : k.w.found.waiter.slot.state.position < run_length (program_of journal.entries t) d = subst (λ n. k.w.found.waiter.slot.state.position < run_length (program_of journal.entries n) d) number (omega (arith, le, lt)) in
    rw same (runs_here journal d kept s at t k.v.started k.w.a nodes k.w.found.waiter.slot size code k.w.stands, goes_on (program_of journal.entries t) d k.w.found.waiter.slot k.w.stands low)

pub small_position : (journal : Recorded) (d : Tables) (kept : List Txn) (s : Seated) (at t : ℕ) (now : View) (u slot : ℕ) (list : List Conflict) (state : Held) (k : IsKnown journal d kept s at t now u slot list state) → state.position ≤ 100000
small_position journal d kept s at t now u slot list state k =
    let le : k.w.found.waiter.slot.state.position ≤ k.w.found.waiter.point = k.w.up_to_point in
    let lt : k.w.found.waiter.point < length_of (forest_of journal d s) k.v.started = k.w.below_end in
    let number : k.v.started.number ≡ t = ap (λ (y : Started). y.number) (sym k.w.a.is) ∙ k.w.a.number in
    let most : run_length (program_of journal.entries t) d ≤ steps_max (program_of journal.entries t) = length_within (program_of journal.entries t) d in
    let steps : steps_max (program_of journal.entries t) ≤ 100000 = k.w.a.of_txn.program.steps in
    let length_is : length_of (forest_of journal d s) k.v.started ≡ run_length (program_of journal.entries t) d = ap (λ n. run_length (program_of journal.entries n) d) number in
    let at_is : state.position ≡ k.w.found.waiter.slot.state.position = ap (λ (x : Held). x.position) k.state_is in
    omega (arith, le, lt, most, steps, length_is, at_is)

-- the standing that the call has found
pub standing_known : (journal : Recorded) (d : Tables) (kept : List Txn) (s : Seated) (at t : ℕ) (now : View) (u slot position : ℕ) (list : List Conflict) (state : Held) (k : IsKnown journal d kept s at t now u slot list state) (found : Standing)
    → position ≡ state.position → found ≡ up_to_point position (get_or list (slot - 1) (0, 0)).1 → standing (Guard u) k.w.found.waiter.slot.state.position (Some k.w.found.waiter.point) false ≡ found
standing_known journal d kept s at t now u slot position list state k found at_is is =
    sym (is ∙ ap (λ n. up_to_point n (get_or list (slot - 1) (0, 0)).1) (at_is ∙ ap (λ (x : Held). x.position) k.state_is) ∙ ap (up_to_point k.w.found.waiter.slot.state.position) k.point)

-- the forest after the step, and what it is answered
pub record IsStepped (journal : Recorded) (d : Tables) (kept : List Txn) (queue : List ℕ) (t : ℕ) (now : View) (u position : ℕ) (new : Seated) : Type 0 where
  pub kept_all : IsForest journal d kept queue new
  pub result : (r : Started) → find_started now.numbers.started t ≡ Some r → step_role now.numbers (Guard u) r ≡ Ok (position + 1, forest_of journal d new)

pub stepped : (journal : Recorded) (d : Tables) (kept : List Txn) (queue : List ℕ) (s : Seated) (resumed : List (ℕ × ℕ)) (starts : Option ℕ) (at t : ℕ) (now : View) (u slot position : ℕ) (list : List Conflict) (state : Held)
    (k : IsKnown journal d kept s at t now u slot list state) (nodes : List Node) (old : Slot) (st : Held) (new : Seated)
    → record { numbers = forest_of journal d s; resumed = resumed; starts = starts } ≡ now → IsForest journal d kept queue s → slot_at s.seats at slot ≡ Some old
    → new ≡ record s { seats = at_place at (seat_with slot (stepped_slot st)) s.seats } → StepsOver nodes d old.state st → nodes ≡ nodes_at kept t
    → position ≡ state.position → Runnable ≡ up_to_point position (get_or list (slot - 1) (0, 0)).1 → IsStepped journal d kept queue t now u position new
stepped journal d kept queue s resumed starts at t now u slot position list state k nodes old st new view h there is steps code at_is goes =
    let standing_is = standing_known journal d kept s at t now u slot position list state k Runnable at_is goes in
    let w = waited journal d kept queue s at t k.v.started u slot k.w nodes old st new h there is steps code standing_is in
    let same : old ≡ k.w.found.waiter.slot = some_same _ _ (sym there ∙ k.w.slot_is) in
    let next : st.position ≡ suc k.w.found.waiter.slot.state.position = steps.position ∙ ap (λ (x : Slot). suc x.state.position) same in
    let from : position ≡ k.w.found.waiter.slot.state.position = at_is ∙ ap (λ (x : Held). x.position) k.state_is in
    let one_more : st.position ≡ position + 1 = omega (arith, next, from) in
    let event : step_role (forest_of journal d s) (Guard u) k.v.started ≡ Ok (position + 1, forest_of journal d new) =
    guard_some journal d kept s at t k.v.started u slot k.w st next
    ∙ ap (λ x. if_runnable x (st.position, give_shadows k.v.started.number (stepped_shadows k.w.a.seat k.w.found.place st) (forest_of journal d s))) standing_is
    ∙ ap (λ n. ok_pair n (give_shadows k.v.started.number (stepped_shadows k.w.a.seat k.w.found.place st) (forest_of journal d s))) one_more
    ∙ ap (ok_pair (position + 1)) (sym w.forest)
    in
    record {
      kept_all = w.kept_all;
      result = λ r found. ap (step_role now.numbers (Guard u)) (k.v.only r found) ∙ subst (λ (x : View). step_role x.numbers (Guard u) k.v.started ≡ Ok (position + 1, forest_of journal d new)) view event;
    }
  where
    ok_pair : ℕ → Forest → Result (ℕ × Forest) Refusal
    ok_pair n f = Ok (n, f)
