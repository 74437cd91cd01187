-- Local steps of an optimistic shadow, one after another.
use Rattle.std.proofs.Common.{◌≡◌, ℕ, ◌+◌, ◌==◌, true, false, List, map, Some, refl, ap, sym, subst, ◌∙◌}
use Rattle.std.specs.List.{AllByRecursion}
use Rattle.std.proofs.lemmas.Bool.{cases_Bool, cond_both}
use Rattle.txn_runs.specs.Run.{Tables, after}
use Rattle.txn_code.specs.declared.node.Node.{Node}
use Rattle.txn_code.specs.Nodes.{nodes_of}
use Rattle.txn_interp.specs.State.{Held, Runs, RunsOver}
use Rattle.journal_core.specs.Recorded.{Recorded}
use Rattle.journal_core.specs.Journal.{program_of}
use Rattle.forest_model.specs.Runs.{is_local, is_local_kind}
use Rattle.forest_model.specs.Forest.{Started, Forest, wanted}
use Rattle.forest_model.specs.Sound.{IsSound}
use Rattle.forest_model.specs.Events.{moved_to, move_to}
use Rattle.forest_model.specs.Stays.{AreLocal}
use Rattle.forest_model.proofs.Lists.{either, all-both, all-everywhere, map-map, map-agree}
use Rattle.forest_model.proofs.StayLaws.{IsQuiet, named, quiet-wants, quiet-sound, many-quiet}
use Rattle.shadow_state.specs.Bank.{Slot, at_place}
use Rattle.shadow_lanes.specs.Seats.{Seat, Seated, slot_at, conflicts_of, started_of, stepped_slot, seat_with, RunsLocal}
use Rattle.shadow_forest.specs.declared.txn.Txn.{Txn}
use Rattle.shadow_forest.specs.Parts.{nodes_at}
use Rattle.shadow_forest.specs.View.{View}
use Rattle.shadow_forest.specs.Kept.{forest_of, SlotStands, SeatStands, IsForest}
use Rattle.shadow_forest.proofs.Keeping.{at_number, at_number_keeps, place_is_number, alone, all_at_number, IsChange, changed, all_at}
use Rattle.shadow_forest.proofs.Placing.{IsAt, IsAtView, some_same, nodes_are, runs}
use Rattle.shadow_forest.proofs.SettledForest.{all_unmapped}
use Rattle.shadow_forest.proofs.Optimistic.{stepped_seat}
use Rattle.shadow_forest.proofs.OptimisticCall.{first_slot}

-- a state of it may make local steps
pub first_may : (journal : Recorded) (d : Tables) (kept : List Txn) (queue : List ℕ) (s : Seated) (at t : ℕ) (now : View) (nodes : List Node) → IsForest journal d kept queue s → (v : IsAtView journal d kept s at t now) → nodes ≡ nodes_at kept t
    → (x : Slot) → slot_at s.seats at 0 ≡ Some x → Runs nodes x.state
first_may journal d kept queue s at t now nodes h v code x there =
    let same : x ≡ v.a.seat.optimistic = some_same _ _ (sym there ∙ first_slot s at v.a.seat v.a.there) in
    rw same (runs journal d kept s at t v.started v.a nodes v.a.seat.optimistic h.items code v.a.stands.optimistic)

-- the forest after so many local steps
pub record IsAhead (journal : Recorded) (d : Tables) (kept : List Txn) (queue : List ℕ) (s new : Seated) (t : ℕ) (r : Started) (made : ℕ) : Type 0 where
  pub kept_all : IsForest journal d kept queue new
  pub forest : forest_of journal d new ≡ move_to t (r.position + made) (forest_of journal d s)
  pub local : AreLocal (forest_of journal d s) r made

module _ (journal : Recorded) (d : Tables) (kept : List Txn) (queue : List ℕ) (s : Seated) (at t : ℕ) (r : Started) (a : IsAt journal d kept s at t r) (h : IsForest journal d kept queue s) where
  abbrev before_it : Forest
  before_it = forest_of journal d s

  only : AllByRecursion (λ (x : Seat). x.number ≡ t → x ≡ a.seat) s.seats
  only = subst (λ n. AllByRecursion (λ (x : Seat). x.number ≡ n → x ≡ a.seat) s.seats) a.number (alone s.seats at a.seat a.rising a.there)

  module _ (q : ℕ) (st : Held) (position : st.position ≡ q) (stands : SlotStands (program_of journal.entries t) d (record { state = st; out = false })) (quiet : IsQuiet before_it t r q) where
    abbrev mid : Seat → Seat
    mid = at_number t (stepped_seat st)

    abbrev all_moved : Seated
    all_moved = record s { seats = map mid s.seats }

    mid_is : (x : Seat) → started_of (mid x) ≡ moved_to t q (started_of x)
    mid_is x = either (cases_Bool (x.number == t)) (λ e. rw (e, position) refl) (λ e. rw e refl)

    mid_forest : forest_of journal d all_moved ≡ move_to t q before_it
    mid_forest =
        ap (λ rs. with_rs rs)
        (map-map started_of mid s.seats
        ∙ map-agree (λ x. started_of (mid x)) (λ x. moved_to t q (started_of x)) s.seats (all-everywhere (λ (x : Seat). started_of (mid x) ≡ moved_to t q (started_of x)) mid_is s.seats)
        ∙ sym (map-map (moved_to t q) started_of s.seats))
      where
        with_rs : List Started → Forest
        with_rs rs = record before_it { started = rs }

    wants_still : AllByRecursion (λ (x : Seat). wanted (move_to t q before_it) (moved_to t q (started_of x)) ≡ wanted before_it (started_of x)) s.seats
    wants_still =
        all_unmapped (λ (y : Started). wanted (move_to t q before_it) (moved_to t q y) ≡ wanted before_it y) started_of s.seats
        (subst (λ n. AllByRecursion (λ (y : Started). wanted (move_to n q before_it) (moved_to n q y) ≡ wanted before_it y) before_it.started) (named before_it t r q quiet) (quiet-wants before_it t r q quiet))

    mid_conflicts : (x : Seat) → conflicts_of (mid x) ≡ conflicts_of x
    mid_conflicts x = cond_both {A = Seat} (x.number == t) (stepped_seat st x) x (λ y. conflicts_of y ≡ conflicts_of x) (λ e. refl) (λ e. refl)

    its_stand : SeatStands (program_of journal.entries a.seat.number) d a.seat
    its_stand = all_at (λ (x : Seat). SeatStands (program_of journal.entries x.number) d x) s.seats at a.seat h.stand a.there

    change : IsChange journal d s mid
    change = record {
      same_number = at_number_keeps t (stepped_seat st) (λ x. refl);
      sound = subst IsSound (sym mid_forest) (subst (λ n. IsSound (move_to n q before_it)) (named before_it t r q quiet) (quiet-sound before_it t r q quiet));
      stand =
          all_at_number (λ (x : Seat). SeatStands (program_of journal.entries x.number) d x) (λ (x : Seat). SeatStands (program_of journal.entries x.number) d x) t (stepped_seat st) a.seat s.seats only h.stand
          (record { optimistic = subst (λ n. SlotStands (program_of journal.entries n) d (record { state = st; out = false })) (sym a.number) stands; waiters = its_stand.waiters })
          (λ x ne old. old);
      noted =
          all-both (λ (x : Seat). conflicts_of x ≡ wanted before_it (started_of x)) (λ (x : Seat). wanted (move_to t q before_it) (moved_to t q (started_of x)) ≡ wanted before_it (started_of x))
          (λ (x : Seat). conflicts_of (mid x) ≡ wanted (forest_of journal d all_moved) (started_of (mid x)))
          (λ x noted still. mid_conflicts x ∙ noted ∙ sym (ap (wanted (forest_of journal d all_moved)) (mid_is x) ∙ ap (λ f. wanted f (moved_to t q (started_of x))) mid_forest ∙ still)) s.seats h.noted wants_still;
    }

    placed : record s { seats = at_place at (stepped_seat st) s.seats } ≡ all_moved
    placed = ap (λ xs. with_all xs) (subst (λ n. at_place at (stepped_seat st) s.seats ≡ map (at_number n (stepped_seat st)) s.seats) a.number (place_is_number s.seats at a.seat (stepped_seat st) a.rising a.there))
      where
        with_all : List Seat → Seated
        with_all xs = record s { seats = xs }

    pub quiet_kept : IsForest journal d kept queue (record s { seats = at_place at (stepped_seat st) s.seats })
    quiet_kept = subst (IsForest journal d kept queue) (sym placed) (changed journal d kept queue s mid change h)

    pub quiet_forest : forest_of journal d (record s { seats = at_place at (stepped_seat st) s.seats }) ≡ move_to t q before_it
    quiet_forest = ap (forest_of journal d) placed ∙ mid_forest

  pub ahead_is : (nodes : List Node) (most : ℕ) (x : Slot) (st : Held) (made : ℕ) (new : Seated) → nodes ≡ nodes_at kept t → slot_at s.seats at 0 ≡ Some x → new ≡ record s { seats = at_place at (seat_with 0 (stepped_slot st)) s.seats }
      → RunsLocal nodes most x.state st made → IsAhead journal d kept queue s new t r made
  ahead_is nodes most x st made new code there new_is run =
      let same : x ≡ a.seat.optimistic = some_same _ _ (sym there ∙ first_slot s at a.seat a.there) in
      let of_p : nodes ≡ nodes_of (program_of journal.entries t) = code ∙ nodes_are journal d kept s at t r a in
      let over : RunsOver nodes (program_of journal.entries t) d x.state = subst (λ (y : Slot). RunsOver nodes (program_of journal.entries t) d y.state) (sym same) (subst (λ ns. RunsOver ns (program_of journal.entries t) d a.seat.optimistic.state) (sym of_p) a.stands.optimistic) in
      let at_is : x.state.position ≡ r.position = ap (λ (y : Slot). y.state.position) same ∙ ap (λ (y : Started). y.position) a.is in
      let number : r.number ≡ t = ap (λ (y : Started). y.number) (sym a.is) ∙ a.number in
      let local : AreLocal before_it r made =
      (λ m lt. subst (λ n. is_local (after (program_of journal.entries n) d (r.position + m)) ≡ true) (sym number)
      (ap (λ n. is_local (after (program_of journal.entries t) d (n + m))) (sym at_is) ∙ ap is_local_kind (run.local (program_of journal.entries t) d m over lt)))
      in
      let quiet : IsQuiet before_it t r (r.position + made) = many-quiet made before_it t r h.sound a.found local in
      let position : st.position ≡ r.position + made = run.position ∙ ap (λ n. n + made) at_is in
      let stands : SlotStands (program_of journal.entries t) d (record { state = st; out = false }) = subst (λ ns. RunsOver ns (program_of journal.entries t) d st) of_p (run.same (program_of journal.entries t) d over) in
      record {
        kept_all = subst (IsForest journal d kept queue) (sym new_is) (quiet_kept (r.position + made) st position stands quiet);
        forest = ap (forest_of journal d) new_is ∙ quiet_forest (r.position + made) st position stands quiet;
        local = local;
      }
