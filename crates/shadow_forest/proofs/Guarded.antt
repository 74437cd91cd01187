-- Local steps of a shadow that waits, one after another, up to its point.
use Rattle.std.proofs.Common.{◌≡◌, ℕ, suc, ◌+◌, ◌-◌, ◌≤◌, ◌==◌, List, [], ◌∷◌, map, Option, Some, None, refl, ap, ap₂, sym, subst, ◌∙◌, arith}
use Rattle.std.specs.Prelude.{slice_get, get_or, option_map}
use Rattle.std.proofs.lemmas.Bool.{cases_Bool}
use Rattle.txn_runs.specs.Run.{Tables}
use Rattle.txn_runs.specs.declared.program.Program.{Program}
use Rattle.txn_code.specs.declared.node.Node.{Node}
use Rattle.txn_code.specs.Nodes.{nodes_of}
use Rattle.txn_interp.specs.State.{Held, RunsOver}
use Rattle.journal_core.specs.Recorded.{Recorded}
use Rattle.journal_core.specs.Journal.{program_of}
use Rattle.forest_model.specs.Point.{Conflict}
use Rattle.forest_model.specs.Forest.{Started, Forest, wanted}
use Rattle.forest_model.specs.Sound.{IsSound}
use Rattle.forest_model.specs.Events.{give_shadows}
use Rattle.forest_model.specs.Stays.{position_on, point_on, placed_on, GuardRan}
use Rattle.forest_model.proofs.Lists.{either}
use Rattle.forest_model.proofs.GuardLaws.{placed-sound}
use Rattle.shadow_state.specs.Bank.{Slot, at_place}
use Rattle.shadow_lanes.specs.Seats.{Waiter, Seat, Seated, conflict_of, conflicts_of, shadow_of, stepped_slot, slot_at, waiter_with, seat_with, RunsLocal}
use Rattle.shadow_forest.specs.declared.txn.Txn.{Txn}
use Rattle.shadow_forest.specs.Parts.{further_slot, slot_of, nodes_at}
use Rattle.shadow_forest.specs.View.{View}
use Rattle.shadow_forest.specs.Kept.{forest_of, IsForest}
use Rattle.shadow_forest.proofs.Keeping.{at_number}
use Rattle.shadow_forest.proofs.Placing.{some_same, nodes_are}
use Rattle.shadow_forest.proofs.Stepping.{IsSlotFor, slot_steps, IsWaitStep, stepped_shadows, wait_seats, wait_forest, wait_change, IsKnown}

-- the shadow in the slot for a guard, in numbers
pub record IsOn (u : ℕ) (ws : List Waiter) (place : ℕ) (w : Waiter) : Type 0 where
  pub position : position_on u (map shadow_of ws) (map conflict_of ws) ≡ Some w.slot.state.position
  pub point : point_on u (map shadow_of ws) (map conflict_of ws) ≡ Some w.point
  pub placed : (st : Held) → placed_on u st.position (map shadow_of ws) (map conflict_of ws) ≡ map shadow_of (at_place place (waiter_with (stepped_slot st)) ws)

later_slot : (o : Option ℕ) (slot : ℕ) → further_slot o ≡ Some slot → (n : ℕ) × (o ≡ Some n) × (slot ≡ suc n)
later_slot None slot e = cc
later_slot (Some n) slot e = (n, refl, cc)

slot_on : (u : ℕ) (ws : List Waiter) (slot : ℕ) → slot_of (map conflict_of ws) u ≡ Some slot → (place : ℕ) → slot ≡ suc place → (w : Waiter) → slice_get ws place ≡ Some w → IsOn u ws place w
slot_on u [] slot h place is w there = cc
slot_on u (x ∷ ws) slot h place is w there =
    either (cases_Bool (x.guard == u))
    (λ e.
    let first : Some 1 ≡ Some slot = rw e at h in
    let one : 1 ≡ slot = cc in
    let zero_is : 0 ≡ place = omega (arith, one, is) in
    subst (λ n. IsOn u (x ∷ ws) n w) zero_is
    (let here : Some x ≡ Some w = subst (λ n. slice_get (x ∷ ws) n ≡ Some w) (sym zero_is) there in
    let same : x ≡ w = cc in
    subst (λ y. IsOn u (x ∷ ws) 0 y) same (record { position = rw e refl; point = rw e refl; placed = λ st. rw e refl })))
    (λ e.
    let later : further_slot (slot_of (map conflict_of ws) u) ≡ Some slot = rw e at h in
    let n = later_slot (slot_of (map conflict_of ws) u) slot later in
    let more : IsSlotFor u ws n.0 = slot_steps u ws n.0 n.1 in
    let next : suc more.place ≡ place = omega (arith, is, n.2, more.is_slot) in
    subst (λ m. IsOn u (x ∷ ws) m w) next
    (let here : slice_get ws more.place ≡ Some w = subst (λ m. slice_get (x ∷ ws) m ≡ Some w) (sym next) there in
    let rest : IsOn u ws more.place w = slot_on u ws n.0 n.1 more.place more.is_slot w here in
    record { position = rw e rest.position; point = rw e rest.point; placed = λ st. rw e (ap (λ xs. shadow_of x ∷ xs) (rest.placed st)) }))

-- the forest after so many local steps
pub record IsGuardAhead (journal : Recorded) (d : Tables) (kept : List Txn) (queue : List ℕ) (s new : Seated) (u : ℕ) (r : Started) (made : ℕ) : Type 0 where
  pub kept_all : IsForest journal d kept queue new
  pub ran : GuardRan (forest_of journal d s) u r (forest_of journal d new) made

pub guard_ahead : (journal : Recorded) (d : Tables) (kept : List Txn) (queue : List ℕ) (s : Seated) (at t : ℕ) (now : View) (u slot : ℕ) (first list : List Conflict) (state : Held) (k : IsKnown journal d kept s at t now u slot list state)
    (nodes : List Node) (old : Slot) (st : Held) (new : Seated) (most made : ℕ)
    → IsForest journal d kept queue s → option_map conflicts_of (slice_get s.seats at) ≡ Some first → slot_of first u ≡ Some slot → slot_at s.seats at slot ≡ Some old
    → new ≡ record s { seats = at_place at (seat_with slot (stepped_slot st)) s.seats } → RunsLocal nodes most old.state st made → nodes ≡ nodes_at kept t
    → most ≡ (get_or list (slot - 1) (0, 0)).1 - state.position → IsGuardAhead journal d kept queue s new u k.v.started made
guard_ahead journal d kept queue s at t now u slot first list state k nodes old st new most made h of_first is_first there is run code most_is =
    let w = k.w in
    let a = w.a in
    let r : Started = k.v.started in
    let f : Forest = forest_of journal d s in
    let p : Program = program_of journal.entries t in
    let same : old ≡ w.found.waiter.slot = some_same _ _ (sym there ∙ w.slot_is) in
    let of_p : nodes ≡ nodes_of p = code ∙ nodes_are journal d kept s at t r a in
    let before : RunsOver nodes p d old.state = subst (λ ns. RunsOver ns p d old.state) (sym of_p) (subst (λ (x : Slot). RunsOver (nodes_of p) p d x.state) (sym same) w.stands) in
    let after_it : RunsOver (nodes_of p) p d st = subst (λ ns. RunsOver ns p d st) of_p (run.same p d before) in
    let number : a.seat.number ≡ t = a.number in
    let place : IsWaitStep journal d s at a.seat w.found.place st = record {
      rising = a.rising;
      there = a.there;
      stands = subst (λ n. RunsOver (nodes_of (program_of journal.entries n)) (program_of journal.entries n) d st) (sym number) after_it;
    } in
    let numbers : a.seat.number ≡ r.number = ap (λ (x : Started). x.number) a.is in
    let first_is : first ≡ conflicts_of a.seat = some_same _ _ (sym of_first ∙ ap (option_map conflicts_of) a.there) in
    let on : IsOn u a.seat.waiters w.found.place w.found.waiter = slot_on u a.seat.waiters slot (subst (λ xs. slot_of xs u ≡ Some slot) first_is is_first) w.found.place w.found.is_slot w.found.waiter w.found.there in
    let from : ℕ = w.found.waiter.slot.state.position in
    let from_is : old.state.position ≡ from = ap (λ (x : Slot). x.state.position) same in
    let state_at : state.position ≡ from = ap (λ (x : Held). x.position) k.state_is in
    let st_at : st.position ≡ from + made = run.position ∙ ap (λ n. n + made) from_is in
    let shadows : map shadow_of a.seat.waiters ≡ r.shadows = ap (λ (x : Started). x.shadows) a.is in
    let on_position : position_on u r.shadows (wanted f r) ≡ Some from = ap₂ (position_on u) (sym shadows) (sym a.noted) ∙ on.position in
    let on_point : point_on u r.shadows (wanted f r) ≡ Some w.found.waiter.point = ap₂ (point_on u) (sym shadows) (sym a.noted) ∙ on.point in
    let within : from + made ≤ w.found.waiter.point = (let le = run.within in let up = w.up_to_point in omega (arith, le, up, most_is, k.point, state_at)) in
    let lists : stepped_shadows a.seat w.found.place st ≡ placed_on u (from + made) r.shadows (wanted f r) =
    sym (on.placed st) ∙ ap (λ n. placed_on u n (map shadow_of a.seat.waiters) (map conflict_of a.seat.waiters)) st_at ∙ ap₂ (placed_on u (from + made)) shadows a.noted
    in
    let sound : IsSound (give_shadows a.seat.number (stepped_shadows a.seat w.found.place st) f) =
    subst (λ n. IsSound (give_shadows n (stepped_shadows a.seat w.found.place st) f)) (sym numbers)
    (subst (λ xs. IsSound (give_shadows r.number xs f)) (sym lists) (placed-sound f t u r (from + made) w.found.waiter.point h.sound a.found on_point within))
    in
    let slots : record s { seats = at_place at (seat_with slot (stepped_slot st)) s.seats } ≡ record s { seats = at_place at (seat_with (suc w.found.place) (stepped_slot st)) s.seats } =
    ap (λ n. at_slot n s) w.found.is_slot
    in
    let lined : record s { seats = at_place at (seat_with (suc w.found.place) (stepped_slot st)) s.seats } ≡ record s { seats = map (at_number a.seat.number (seat_with (suc w.found.place) (stepped_slot st))) s.seats } =
    ap (λ xs. with_seats xs s) (wait_seats journal d s at a.seat w.found.place st place)
    in
    record {
      kept_all = subst (IsForest journal d kept queue) (sym (is ∙ slots)) (wait_change journal d kept queue s at a.seat w.found.place st place h sound);
      ran = record {
        position = from;
        point = w.found.waiter.point;
        at = on_position;
        to = on_point;
        within = within;
        next =
            ap (forest_of journal d) (is ∙ slots ∙ lined) ∙ wait_forest journal d s at a.seat w.found.place st place
            ∙ ap (λ n. give_shadows n (stepped_shadows a.seat w.found.place st) f) numbers
            ∙ ap (λ xs. give_shadows r.number xs f) lists;
      };
    }
  where
    with_seats : List Seat → Seated → Seated
    with_seats xs x = record x { seats = xs }

    at_slot : ℕ → Seated → Seated
    at_slot n x = record x { seats = at_place at (seat_with n (stepped_slot st)) x.seats }
