-- A step of an optimistic shadow.
use Rattle.std.proofs.Common.{◌≡◌, ◌≢◌, ℕ, zero, suc, ◌<◌, ◌==◌, true, false, List, [], ◌∷◌, ◌++◌, map, Some, None, Ok, refl, ap, sym, subst, ◌∙◌, eqb-true, eq-eqb, true≢false, lt-ltb}
use Rattle.std.specs.Prelude.{if◌then◌else◌}
use Rattle.std.specs.List.{AllByRecursion, AllZip}
use Rattle.std.proofs.lemmas.Bool.{cases_Bool, cond_both, ne_eqb, cases_lt}
use Rattle.txn_runs.specs.Run.{Tables, after, stored, logged}
use Rattle.txn_runs.specs.Kind.{kind_of}
use Rattle.txn_runs.specs.Serial.{run_length}
use Rattle.txn_runs.specs.declared.kind.Kind.TheVariants.{Local, TableRead, Write}
use Rattle.txn_runs.specs.declared.program.Program.{Program}
use Rattle.txn_code.specs.declared.node.Node.{Node}
use Rattle.txn_code.specs.Nodes.{nodes_of}
use Rattle.txn_interp.specs.State.{Held, RunsOver}
use Rattle.journal_core.specs.Recorded.{Recorded}
use Rattle.journal_core.specs.Journal.{program_of}
use Rattle.forest_model.specs.Runs.{reads, writes}
use Rattle.forest_model.specs.Point.{Conflict, point, wanted_of}
use Rattle.forest_model.specs.Forest.{Started, Forest, reads_of, writes_of, length_of, conflict_at, against, wanted, find_started}
use Rattle.forest_model.specs.Settle.{settled_shadows, resettled, settle}
use Rattle.forest_model.specs.Events.{moved_to, move_to, step_role}
use Rattle.block_rule.specs.declared.role.Role.TheVariants.{Optimistic}
use Rattle.txn_runs.specs.Serial.{has_ended}
use Rattle.forest_model.specs.Sound.{IsSound, StandsFor}
use Rattle.forest_model.proofs.Lists.{either, all-map, all-weaken, all-both, map-map, map-agree, filter_map-map, filter_map-agree}
use Rattle.forest_model.proofs.RestLaws.{IsApart, wanted-apart, settle-untouched}
use Rattle.forest_model.proofs.StepLaws.{moved_to-number, move_to-sound}
use Rattle.forest_model.proofs.RunLaws.{reads-below, ended-from_length}
use Rattle.shadow_state.specs.Bank.{at_place}
use Rattle.shadow_lanes.specs.Seats.{Seat, Seated, conflicts_of, shadow_of, started_of, stepped_slot, seat_with, StepsOver}
use Rattle.shadow_forest.specs.declared.txn.Txn.{Txn}
use Rattle.shadow_forest.specs.Parts.{nodes_at, renewed_among, all_renewed}
use Rattle.indexed_lanes.specs.Wanted.{point_with, conflict_between, wanted_among, renewed}
use Rattle.shadow_forest.specs.Ready.{IsCarried, AreCarried}
use Rattle.shadow_forest.specs.Kept.{forest_of, SlotStands, SeatStands, AllStand, IsForest}
use Rattle.shadow_forest.proofs.Keeping.{at_number, at_number_keeps, place_is_number, alone, changed}
use Rattle.shadow_forest.proofs.Placing.{IsAt, all_coded, all_carried, nodes_are}
use Rattle.shadow_forest.proofs.Wanting.{reads_are, writes_are, wanted_are}
use Rattle.shadow_forest.proofs.SettledForest.{all_unmapped, found_each, IsSettling, settled_forest, settled_change}
use Rattle.shadow_forest.proofs.Seating.{renewed_numbers, renewed_stands}
use Rattle.indexed_lanes.proofs.Renewed.{renewed_conflicts, renewed_number, renewed_optimistic, renewed_same}
use Rattle.indexed_lanes.proofs.Steps.{local_step, read_step, write_step}
use Rattle.shadow_forest.proofs.StepWants.{wants_same}
use Rattle.indexed_lanes.proofs.Reading.{point_push}

-- the transaction with its optimistic state one step on
abbrev pub stepped_seat : Held → Seat → Seat
stepped_seat st = seat_with zero (stepped_slot st)

-- the optimistic shadow of the transaction at a place may make a step, and this is its state after it
pub record IsNext (journal : Recorded) (d : Tables) (kept : List Txn) (queue : List ℕ) (s : Seated) (at t : ℕ) (r : Started) (st : Held) : Type 0 where
  pub all : IsForest journal d kept queue s
  pub a : IsAt journal d kept s at t r
  pub position : st.position ≡ suc r.position
  pub stands : SlotStands (program_of journal.entries t) d (record { state = st; out = false })
  pub going : r.position < length_of (forest_of journal d s) r

module _ (journal : Recorded) (d : Tables) (kept : List Txn) (queue : List ℕ) (s : Seated) (at t : ℕ) (r : Started) (st : Held) (h : IsNext journal d kept queue s at t r st) where
  -- the forest before, and the change of each transaction
  abbrev pub before_it : Forest
  before_it = forest_of journal d s

  abbrev pub mid : Seat → Seat
  mid = at_number t (stepped_seat st)

  abbrev pub moved : Started → Started
  moved = moved_to t (suc r.position)

  pub number_is : r.number ≡ t
  number_is = ap (λ (x : Started). x.number) (sym h.a.is) ∙ h.a.number

  only : AllByRecursion (λ (x : Seat). x.number ≡ t → x ≡ h.a.seat) s.seats
  only = subst (λ n. AllByRecursion (λ (x : Seat). x.number ≡ n → x ≡ h.a.seat) s.seats) h.a.number (alone s.seats at h.a.seat h.a.rising h.a.there)

  -- in numbers the change is that of the event
  pub mid_moved : AllByRecursion (λ (x : Seat). started_of (mid x) ≡ moved (started_of x)) s.seats
  mid_moved =
      all-weaken (λ (x : Seat). x.number ≡ t → x ≡ h.a.seat) (λ (x : Seat). started_of (mid x) ≡ moved (started_of x))
      (λ x is.
      either (cases_Bool (x.number == t))
      (λ e. rw (e, h.position) refl)
      (λ e. rw e refl))
      s.seats only

  pub mid_forest : move_to t (suc r.position) before_it ≡ record before_it { started = map started_of (map mid s.seats) }
  mid_forest =
      let same : map moved (map started_of s.seats) ≡ map started_of (map mid s.seats) =
      map-map moved started_of s.seats ∙ sym (map-agree (λ x. started_of (mid x)) (λ x. moved (started_of x)) s.seats mid_moved) ∙ sym (map-map started_of mid s.seats)
      in
      ap (λ rs. with_rs rs) same
    where
      with_rs : List Started → Forest
      with_rs rs = record before_it { started = rs }

  -- the forest after the step, before it is settled
  abbrev pub after_it : Forest
  after_it = move_to t (suc r.position) before_it

  -- what each transaction wants then
  abbrev pub wants : Seat → List Conflict
  wants x = wanted after_it (started_of (mid x))

  -- y is x after the step, settled
  pub record IsFin (x y : Seat) : Type 0 where
    pub same_number : y.number ≡ x.number
    pub same_optimistic : y.optimistic ≡ (mid x).optimistic
    pub shadows : map shadow_of y.waiters ≡ settled_shadows (Some (started_of x)) (wants x)
    pub noted : conflicts_of y ≡ wants x
    pub stand : SeatStands (program_of journal.entries x.number) d y

  mid_number : (x : Seat) → (mid x).number ≡ x.number
  mid_number x = at_number_keeps t (stepped_seat st) (λ y. refl) x

  -- settled one by one, they are settled in numbers
  pub fins : (fin : Seat → Seat) → ((x : Seat) → (fin x).number ≡ x.number) → AllByRecursion (λ (x : Seat). IsFin x (fin x)) s.seats → IsSettling journal d s before_it.started after_it mid fin
  fins fin keeps each =
      record {
        forest = mid_forest;
        number = keeps;
        found =
            all-both (λ (x : Seat). find_started (map started_of s.seats) x.number ≡ Some (started_of x)) (λ (x : Seat). IsFin x (fin x)) (λ (x : Seat). started_of (fin x) ≡ resettled before_it.started after_it (started_of (mid x)))
            (λ x found y.
            let there : find_started (map started_of s.seats) (mid x).number ≡ Some (started_of x) = ap (find_started (map started_of s.seats)) (mid_number x) ∙ found in
            rw (y.same_number ∙ sym (mid_number x), y.same_optimistic, y.shadows, there) refl)
            s.seats (found_each s.seats h.all.sound.right.rising) each;
        noted = all-weaken (λ (x : Seat). IsFin x (fin x)) (λ (x : Seat). conflicts_of (fin x) ≡ wants x) (λ x y. y.noted) s.seats each;
        stand = all-weaken (λ (x : Seat). IsFin x (fin x)) (λ (x : Seat). SeatStands (program_of journal.entries (fin x).number) d (fin x)) (λ x y. subst (λ n. SeatStands (program_of journal.entries n) d (fin x)) (sym y.same_number) y.stand) s.seats each;
        sound = subst (λ n. IsSound (settle before_it.started (move_to n (suc r.position) before_it))) number_is (move_to-sound before_it r (suc r.position) h.going h.all.sound);
      }

  -- What is kept of each transaction before the step.

  pub record IsOld (x : Seat) : Type 0 where
    pub noted : conflicts_of x ≡ wanted before_it (started_of x)
    pub fits : AllZip StandsFor (started_of x).shadows (wanted before_it (started_of x))
    pub stand : SeatStands (program_of journal.entries x.number) d x
    pub is : x.number ≡ t → x ≡ h.a.seat

  pub olds : AllByRecursion IsOld s.seats
  olds =
      all-both (λ (x : Seat). (conflicts_of x ≡ wanted before_it (started_of x)) × AllZip StandsFor (started_of x).shadows (wanted before_it (started_of x)))
      (λ (x : Seat). SeatStands (program_of journal.entries x.number) d x × (x.number ≡ t → x ≡ h.a.seat)) IsOld
      (λ x a b. record { noted = a.0; fits = a.1; stand = b.0; is = b.1 }) s.seats
      (all-both (λ (x : Seat). conflicts_of x ≡ wanted before_it (started_of x)) (λ (x : Seat). AllZip StandsFor (started_of x).shadows (wanted before_it (started_of x)))
      (λ (x : Seat). (conflicts_of x ≡ wanted before_it (started_of x)) × AllZip StandsFor (started_of x).shadows (wanted before_it (started_of x))) (λ x a b. (a, b)) s.seats h.all.noted
      (all_unmapped (λ (y : Started). AllZip StandsFor y.shadows (wanted before_it y)) started_of s.seats h.all.sound.settled))
      (all-both (λ (x : Seat). SeatStands (program_of journal.entries x.number) d x) (λ (x : Seat). x.number ≡ t → x ≡ h.a.seat)
      (λ (x : Seat). SeatStands (program_of journal.entries x.number) d x × (x.number ≡ t → x ≡ h.a.seat)) (λ x a b. (a, b)) s.seats h.all.stand only)

  pub apart_old : (x : Seat) → IsOld x → IsApart (conflicts_of x)
  apart_old x old = subst IsApart (sym old.noted) (wanted-apart before_it (started_of x) h.all.sound.right.rising)

  pub fits_old : (x : Seat) → IsOld x → AllZip StandsFor (started_of x).shadows (conflicts_of x)
  fits_old x old = subst (AllZip StandsFor (started_of x).shadows) (sym old.noted) old.fits

  -- the transaction itself after its step stands
  mid_stands : (x : Seat) → IsOld x → SeatStands (program_of journal.entries x.number) d (mid x)
  mid_stands x old =
      either (cases_Bool (x.number == t))
      (λ e.
      let same : x.number ≡ t = eqb-true _ _ e in
      rw e (record { optimistic = subst (λ n. SlotStands (program_of journal.entries n) d (record { state = st; out = false })) (sym same) h.stands; waiters = old.stand.waiters }))
      (λ e. rw e old.stand)

  -- a transaction that wants what it wanted stays as the step leaves it
  pub stays_fin : (x : Seat) → IsOld x → wants x ≡ wanted before_it (started_of x) → IsFin x (mid x)
  stays_fin x old same =
      let shadows_are : map shadow_of x.waiters ≡ settled_shadows (Some (started_of x)) (wants x) =
      sym (settle-untouched before_it (started_of x) (started_of x) h.all.sound.right.rising old.fits) ∙ ap (settled_shadows (Some (started_of x))) (sym same)
      in
      record {
        same_number = mid_number x;
        same_optimistic = refl;
        shadows = ap (map shadow_of) (mid_waiters x) ∙ shadows_are;
        noted = mid_conflicts x ∙ old.noted ∙ sym same;
        stand = mid_stands x old;
      }
    where
      mid_waiters : (y : Seat) → (mid y).waiters ≡ y.waiters
      mid_waiters y = cond_both {A = Seat} (y.number == t) (stepped_seat st y) y (λ z. z.waiters ≡ y.waiters) (λ e. refl) (λ e. refl)

      mid_conflicts : (y : Seat) → conflicts_of (mid y) ≡ conflicts_of y
      mid_conflicts y = cond_both {A = Seat} (y.number == t) (stepped_seat st y) y (λ z. conflicts_of z ≡ conflicts_of y) (λ e. refl) (λ e. refl)

  -- Reads and writes.

  -- the transaction's program
  abbrev pub its_program : Program
  its_program = program_of journal.entries t

  -- what the others have read and written does not change
  other_stays : (y : Started) → y.number ≢ t → moved y ≡ y
  other_stays y ne = rw (ne_eqb _ _ ne) refl

  moved_self : moved r ≡ record r { position = suc r.position; out = false }
  moved_self = rw (eq-eqb _ _ number_is) refl

  self_reads : reads_of before_it (moved r) ≡ reads its_program d (suc r.position)
  self_reads = ap (reads_of before_it) moved_self ∙ ap (λ n. reads (program_of journal.entries n) d (suc r.position)) number_is

  self_writes : writes_of before_it (moved r) ≡ writes its_program d (suc r.position)
  self_writes = ap (writes_of before_it) moved_self ∙ ap (λ n. writes (program_of journal.entries n) d (suc r.position)) number_is

  old_reads : reads_of before_it r ≡ reads its_program d r.position
  old_reads = ap (λ n. reads (program_of journal.entries n) d r.position) number_is

  old_writes : writes_of before_it r ≡ writes its_program d r.position
  old_writes = ap (λ n. writes (program_of journal.entries n) d r.position) number_is

  -- who has the number t is r
  started_alone : AllByRecursion (λ (y : Started). y.number ≡ t → y ≡ r) before_it.started
  started_alone =
      all-map (λ (y : Started). y.number ≡ t → y ≡ r) started_of s.seats
      (all-weaken (λ (x : Seat). x.number ≡ t → x ≡ h.a.seat) (λ (x : Seat). x.number ≡ t → started_of x ≡ r) (λ x is e. ap started_of (is e) ∙ h.a.is) s.seats only)

  writes_kept : writes its_program d (suc r.position) ≡ writes its_program d r.position → AllByRecursion (λ (u : Started). writes_of before_it (moved u) ≡ writes_of before_it u) before_it.started
  writes_kept same =
      all-weaken (λ (y : Started). y.number ≡ t → y ≡ r) (λ (u : Started). writes_of before_it (moved u) ≡ writes_of before_it u)
      (λ u is.
      either (cases_Bool (u.number == t))
      (λ e. rw (is (eqb-true _ _ e)) (self_writes ∙ same ∙ sym old_writes))
      (λ e. ap (writes_of before_it) (other_stays u (λ q. true≢false (sym (eq-eqb _ _ q) ∙ e)))))
      before_it.started started_alone

  -- the wants of x, in numbers
  wants_moved : (x : Seat) → started_of (mid x) ≡ moved (started_of x) → wants x ≡ wanted (record before_it { started = map moved before_it.started }) (moved (started_of x))
  wants_moved x e = ap (wanted after_it) e

  pub mid_is : (x : Seat) → started_of (mid x) ≡ moved (started_of x)
  mid_is x = either (cases_Bool (x.number == t)) (λ e. rw (e, h.position) refl) (λ e. rw e refl)

  -- A local step: nobody wants anything else.

  local_wants : kind_of (after its_program d r.position) ≡ Local → AllByRecursion (λ (x : Seat). wants x ≡ wanted before_it (started_of x)) s.seats
  local_wants kind =
      let both = local_step its_program d r.position kind in
      all-weaken IsOld (λ (x : Seat). wants x ≡ wanted before_it (started_of x))
      (λ x old.
      wants_moved x (mid_is x)
      ∙ wants_same before_it moved (started_of x) (moved_to-number t (suc r.position)) (reads_kept both.0 x old)
      (all-weaken (λ (u : Started). writes_of before_it (moved u) ≡ writes_of before_it u) (λ (u : Started). u.number ≢ x.number → writes_of before_it (moved u) ≡ writes_of before_it u) (λ u e ne. e) before_it.started (writes_kept both.1)))
      s.seats olds
    where
      reads_kept : reads its_program d (suc r.position) ≡ reads its_program d r.position → (x : Seat) → IsOld x → reads_of before_it (moved (started_of x)) ≡ reads_of before_it (started_of x)
      reads_kept same x old =
          either (cases_Bool (x.number == t))
          (λ e.
          let is : started_of x ≡ r = ap started_of (old.is (eqb-true _ _ e)) ∙ h.a.is in
          subst (λ y. reads_of before_it (moved y) ≡ reads_of before_it y) (sym is) (self_reads ∙ same ∙ sym old_reads))
          (λ e. ap (reads_of before_it) (other_stays (started_of x) (λ q. true≢false (sym (eq-eqb _ _ q) ∙ e))))

  pub local_fins : kind_of (after its_program d r.position) ≡ Local → AllByRecursion (λ (x : Seat). IsFin x (mid x)) s.seats
  local_fins kind = all-both IsOld (λ (x : Seat). wants x ≡ wanted before_it (started_of x)) (λ (x : Seat). IsFin x (mid x)) (λ x old same. stays_fin x old same) s.seats olds (local_wants kind)

  -- A read: only the transaction itself may want other shadows.

  -- the others want what they wanted
  others_want : writes its_program d (suc r.position) ≡ writes its_program d r.position → (x : Seat) → x.number ≢ t → wants x ≡ wanted before_it (started_of x)
  others_want same x ne =
      wants_moved x (mid_is x)
      ∙ wants_same before_it moved (started_of x) (moved_to-number t (suc r.position)) (ap (reads_of before_it) (other_stays (started_of x) ne))
      (all-weaken (λ (u : Started). writes_of before_it (moved u) ≡ writes_of before_it u) (λ (u : Started). u.number ≢ x.number → writes_of before_it (moved u) ≡ writes_of before_it u) (λ u e no_one. e) before_it.started (writes_kept same))

  -- the transaction wants what is said before its read
  pub read_wants : (item : ℕ) → kind_of (after its_program d r.position) ≡ TableRead item → wants h.a.seat ≡ wanted_among s.most (Some item) s.seats h.a.seat
  read_wants item kind =
      let both = read_step its_program d r.position item kind in
      let its : SlotStands its_program d h.a.seat.optimistic = h.a.stands.optimistic in
      let at_is : h.a.seat.optimistic.state.position ≡ r.position = ap (λ (y : Started). y.position) h.a.is in
      let logged : reads its_program d r.position ≡ h.a.seat.optimistic.state.log.reads = subst (λ n. reads its_program d n ≡ h.a.seat.optimistic.state.log.reads) at_is (reads_are its_program d h.a.seat.optimistic its) in
      wants_moved h.a.seat (mid_is h.a.seat)
      ∙ ap (λ y. wanted (record before_it { started = map moved before_it.started }) (moved y)) h.a.is
      ∙ ap (λ pairs. wanted_of pairs s.most)
      (filter_map-map (against (record before_it { started = map moved before_it.started }) (moved r)) moved before_it.started
      ∙ filter_map-map (λ (u : Started). against (record before_it { started = map moved before_it.started }) (moved r) (moved u)) started_of s.seats
      ∙ filter_map-agree (λ (u : Seat). against (record before_it { started = map moved before_it.started }) (moved r) (moved (started_of u))) (conflict_between (Some item) h.a.seat) s.seats
      (all-weaken IsOld (λ (u : Seat). against (record before_it { started = map moved before_it.started }) (moved r) (moved (started_of u)) ≡ conflict_between (Some item) h.a.seat u)
      (λ u old. pair u old (self_reads ∙ both.0) logged at_is) s.seats olds))
    where
      pair : (u : Seat) → IsOld u → reads_of before_it (moved r) ≡ reads its_program d r.position ++ (r.position, item, stored d item) ∷ [] → reads its_program d r.position ≡ h.a.seat.optimistic.state.log.reads
          → h.a.seat.optimistic.state.position ≡ r.position
          → against (record before_it { started = map moved before_it.started }) (moved r) (moved (started_of u)) ≡ conflict_between (Some item) h.a.seat u
      pair u old its_reads logged at_is =
          either (cases_Bool (u.number == t))
          (λ e. rw (moved_to-number t (suc r.position) (started_of u), moved_to-number t (suc r.position) r, number_is, h.a.number, e) refl)
          (λ e.
          let ne : u.number ≢ t = (λ q. true≢false (sym (eq-eqb _ _ q) ∙ e)) in
          let ws : writes_of before_it (moved (started_of u)) ≡ u.optimistic.state.writes =
          ap (writes_of before_it) (other_stays (started_of u) ne) ∙ writes_are (program_of journal.entries u.number) d u.optimistic old.stand.optimistic
          in
          let low : AllByRecursion (λ (x : _). x.0 < r.position) h.a.seat.optimistic.state.log.reads = subst (AllByRecursion (λ (x : _). x.0 < r.position)) logged (reads-below its_program d r.position) in
          let points : point (reads_of before_it (moved r)) (writes_of before_it (moved (started_of u))) ≡ point_with (Some item) h.a.seat.optimistic.state.position u.optimistic.state.writes (point h.a.seat.optimistic.state.log.reads u.optimistic.state.writes) =
          ap (λ rs. point rs (writes_of before_it (moved (started_of u)))) (its_reads ∙ ap (λ rs. rs ++ (r.position, item, stored d item) ∷ []) logged)
          ∙ ap (point (h.a.seat.optimistic.state.log.reads ++ (r.position, item, stored d item) ∷ [])) ws
          ∙ point_push item r.position (stored d item) u.optimistic.state.writes h.a.seat.optimistic.state.log.reads low
          ∙ ap (λ n. point_with (Some item) n u.optimistic.state.writes (point h.a.seat.optimistic.state.log.reads u.optimistic.state.writes)) (sym at_is)
          in
          ap (λ p. if (moved (started_of u)).number == (moved r).number then None else conflict_at (moved (started_of u)).number p) points
          ∙ rw (moved_to-number t (suc r.position) (started_of u), moved_to-number t (suc r.position) r, number_is, h.a.number) refl)

  -- the change that the call makes for a read: the shadows first, then the step
  abbrev pub read_change : List Node → ℕ → Seat → Seat
  read_change nodes item = at_number t (λ x. stepped_seat st (renewed nodes s.items (wanted_among s.most (Some item) s.seats h.a.seat) x))

  pub read_change_number : (nodes : List Node) (item : ℕ) (x : Seat) → (read_change nodes item x).number ≡ x.number
  read_change_number nodes item x =
      at_number_keeps t (λ y. stepped_seat st (renewed nodes s.items (wanted_among s.most (Some item) s.seats h.a.seat) y)) (λ y. renewed_number nodes s.items (wanted_among s.most (Some item) s.seats h.a.seat) y) x

  pub read_fins : (nodes : List Node) (item : ℕ) → nodes ≡ nodes_of its_program → kind_of (after its_program d r.position) ≡ TableRead item → AllByRecursion (λ (x : Seat). IsFin x (read_change nodes item x)) s.seats
  read_fins nodes item code kind =
      all-weaken IsOld (λ (x : Seat). IsFin x (read_change nodes item x))
      (λ x old.
      either (cases_Bool (x.number == t))
      (λ e.
      let same : x ≡ h.a.seat = old.is (eqb-true _ _ e) in
      subst (λ y. IsFin x y) (sym (chosen x e)) (itself x old same (eqb-true _ _ e) e))
      (λ e.
      let ne : x.number ≢ t = (λ q. true≢false (sym (eq-eqb _ _ q) ∙ e)) in
      subst (λ y. IsFin x y) (not_chosen x e) (stays_fin x old (others_want (read_step its_program d r.position item kind).1 x ne))))
      s.seats olds
    where
      chosen : (x : Seat) → x.number == t ≡ true → read_change nodes item x ≡ stepped_seat st (renewed nodes s.items (wanted_among s.most (Some item) s.seats h.a.seat) x)
      chosen x e = rw e refl

      not_chosen : (x : Seat) → x.number == t ≡ false → mid x ≡ read_change nodes item x
      not_chosen x e = rw e refl

      itself : (x : Seat) → IsOld x → x ≡ h.a.seat → x.number ≡ t → x.number == t ≡ true → IsFin x (stepped_seat st (renewed nodes s.items (wanted_among s.most (Some item) s.seats h.a.seat) x))
      itself x old same number e =
          let ws : List Conflict = wanted_among s.most (Some item) s.seats h.a.seat in
          let wants_are : wants x ≡ ws = ap wants same ∙ read_wants item kind in
          let here : (mid x).optimistic ≡ record { state = st; out = false } = rw e refl in
          let of_x : nodes ≡ nodes_of (program_of journal.entries x.number) = code ∙ ap (λ n. nodes_of (program_of journal.entries n)) (sym number) in
          record {
            same_number = renewed_number nodes s.items ws x;
            same_optimistic = sym here;
            shadows = renewed_numbers nodes s.items ws x (apart_old x old) (fits_old x old) ∙ ap (settled_shadows (Some (started_of x))) (sym wants_are);
            noted = renewed_conflicts nodes s.items ws x ∙ sym wants_are;
            stand = record {
              optimistic = subst (λ n. SlotStands (program_of journal.entries n) d (record { state = st; out = false })) (sym number) h.stands;
              waiters = (renewed_stands (program_of journal.entries x.number) d nodes s.items ws x of_x h.all.items old.stand).waiters;
            };
          }

  -- A write: only the others may want other shadows.

  pub own_wants : (item : ℕ) (v : _) → kind_of (after its_program d r.position) ≡ Write item v → (x : Seat) → IsOld x → x.number ≡ t → wants x ≡ wanted before_it (started_of x)
  own_wants item v kind x old number =
      let is : started_of x ≡ r = ap started_of (old.is number) ∙ h.a.is in
      let same : reads_of before_it (moved (started_of x)) ≡ reads_of before_it (started_of x) =
      subst (λ y. reads_of before_it (moved y) ≡ reads_of before_it y) (sym is) (self_reads ∙ (write_step its_program d r.position item v kind).0 ∙ sym old_reads)
      in
      wants_moved x (mid_is x)
      ∙ wants_same before_it moved (started_of x) (moved_to-number t (suc r.position)) same
      (all-weaken (λ (y : Started). y.number ≡ t → y ≡ r) (λ (u : Started). u.number ≢ x.number → writes_of before_it (moved u) ≡ writes_of before_it u)
      (λ u is_r ne. ap (writes_of before_it) (other_stays u (λ q. ne (q ∙ sym number)))) before_it.started started_alone)

  -- the transactions after the step, before they are settled
  abbrev pub mids : Seated
  mids = record s { seats = map mid s.seats }

  mids_stand : AllStand journal.entries d mids.seats
  mids_stand =
      all-map (λ (y : Seat). SeatStands (program_of journal.entries y.number) d y) mid s.seats
      (all-weaken IsOld (λ (x : Seat). SeatStands (program_of journal.entries (mid x).number) d (mid x)) (λ x old. subst (λ n. SeatStands (program_of journal.entries n) d (mid x)) (sym (mid_number x)) (mid_stands x old)) s.seats olds)

  among_is : (x : Seat) → IsOld x → wanted_among s.most None mids.seats (mid x) ≡ wants x
  among_is x old =
      wanted_are journal d mids (mid x) mids_stand (subst (λ n. SlotStands (program_of journal.entries n) d (mid x).optimistic) (sym (mid_number x)) (mid_stands x old).optimistic)
      ∙ ap (λ f. wanted f (started_of (mid x))) (sym mid_forest)

  -- each gets what it wants
  abbrev pub write_change : Seat → Seat
  write_change x = renewed_among s.most s.items kept mids.seats (mid x)

  pub write_change_number : (x : Seat) → (write_change x).number ≡ x.number
  write_change_number x = renewed_number (nodes_at kept (mid x).number) s.items (wanted_among s.most None mids.seats (mid x)) (mid x) ∙ mid_number x

  pub write_fins : (item : ℕ) (v : _) → kind_of (after its_program d r.position) ≡ Write item v → AllByRecursion (λ (x : Seat). IsFin x (write_change x)) s.seats
  write_fins item v kind =
      all-both IsOld (λ (x : Seat). nodes_at kept x.number ≡ nodes_of (program_of journal.entries x.number)) (λ (x : Seat). IsFin x (write_change x))
      (λ x old code.
      either (cases_Bool (x.number == t))
      (λ e.
      let fin = stays_fin x old (own_wants item v kind x old (eqb-true _ _ e)) in
      subst (λ y. IsFin x y) (sym (renewed_same (nodes_at kept (mid x).number) s.items (wanted_among s.most None mids.seats (mid x)) (mid x) (fin.noted ∙ sym (among_is x old)))) fin)
      (λ e. subst (λ y. IsFin x y) (sym (other x e)) (renewed_fin x old e code)))
      s.seats olds (all_coded journal d kept queue s h.all)
    where
      other : (x : Seat) → x.number == t ≡ false → write_change x ≡ renewed (nodes_at kept x.number) s.items (wanted_among s.most None mids.seats (mid x)) x
      other x e =
          let same : mid x ≡ x = rw e refl in
          ap (λ (y : Seat). renewed (nodes_at kept y.number) s.items (wanted_among s.most None mids.seats (mid x)) y) same

      renewed_fin : (x : Seat) → IsOld x → x.number == t ≡ false → nodes_at kept x.number ≡ nodes_of (program_of journal.entries x.number) → IsFin x (renewed (nodes_at kept x.number) s.items (wanted_among s.most None mids.seats (mid x)) x)
      renewed_fin x old e code =
          let nodes : List Node = nodes_at kept x.number in
          let ws : List Conflict = wanted_among s.most None mids.seats (mid x) in
          let here : x.optimistic ≡ (mid x).optimistic = rw e refl in
          record {
            same_number = renewed_number nodes s.items ws x;
            same_optimistic = renewed_optimistic nodes s.items ws x ∙ here;
            shadows = renewed_numbers nodes s.items ws x (apart_old x old) (fits_old x old) ∙ ap (settled_shadows (Some (started_of x))) (among_is x old);
            noted = renewed_conflicts nodes s.items ws x ∙ among_is x old;
            stand = renewed_stands (program_of journal.entries x.number) d nodes s.items ws x code h.all.items old.stand;
          }

  -- The whole event.

  -- the forest after the event
  pub record IsStepOf (new : Seated) : Type 0 where
    pub kept_all : IsForest journal d kept queue new
    pub forest : forest_of journal d new ≡ settle before_it.started (move_to r.number (suc r.position) before_it)

  done_by : (fin : Seat → Seat) (new : Seated) → ((x : Seat) → (fin x).number ≡ x.number) → AllByRecursion (λ (x : Seat). IsFin x (fin x)) s.seats → new ≡ record s { seats = map fin s.seats } → IsStepOf new
  done_by fin new keeps each is =
      let settling = fins fin keeps each in
      record {
        kept_all = subst (IsForest journal d kept queue) (sym is) (changed journal d kept queue s fin (settled_change journal d s before_it.started after_it mid fin settling) h.all);
        forest = ap (forest_of journal d) is ∙ settled_forest journal d s before_it.started after_it mid fin settling ∙ ap (λ n. settle before_it.started (move_to n (suc r.position) before_it)) (sym number_is);
      }

  abbrev with_all : List Seat → Seated
  with_all xs = record s { seats = xs }

  placed : (f : Seat → Seat) → at_place at f s.seats ≡ map (at_number t f) s.seats
  placed f = subst (λ n. at_place at f s.seats ≡ map (at_number n f) s.seats) h.a.number (place_is_number s.seats at h.a.seat f h.a.rising h.a.there)

  pub local_done : (new : Seated) → kind_of (after its_program d r.position) ≡ Local → new ≡ record s { seats = at_place at (stepped_seat st) s.seats } → IsStepOf new
  local_done new kind is = done_by mid new mid_number (local_fins kind) (is ∙ ap with_all (placed (stepped_seat st)))

  twice : (n : ℕ) (f g : Seat → Seat) (xs : List Seat) → at_place n f (at_place n g xs) ≡ at_place n (λ x. f (g x)) xs
  twice n f g [] = refl
  twice zero f g (x ∷ xs) = refl
  twice (suc n) f g (x ∷ xs) = ap (λ ys. x ∷ ys) (twice n f g xs)

  pub read_done : (first new : Seated) (nodes : List Node) (ws : List Conflict) (item : ℕ) → nodes ≡ nodes_at kept t → kind_of (after its_program d r.position) ≡ TableRead item → ws ≡ wanted_among s.most (Some item) s.seats h.a.seat
      → first ≡ record s { seats = at_place at (renewed nodes s.items ws) s.seats } → new ≡ record first { seats = at_place at (stepped_seat st) first.seats } → IsStepOf new
  read_done first new nodes ws item code kind wants_is renew_is step_is =
      done_by (read_change nodes item) new (read_change_number nodes item) (read_fins nodes item (code ∙ nodes_are journal d kept s at t r h.a) kind)
      (step_is ∙ ap stepped_all renew_is
      ∙ ap with_all (ap (λ xs. at_place at (stepped_seat st) (at_place at (renewed nodes s.items xs) s.seats)) wants_is
      ∙ twice at (stepped_seat st) (renewed nodes s.items (wanted_among s.most (Some item) s.seats h.a.seat)) s.seats
      ∙ placed (λ x. stepped_seat st (renewed nodes s.items (wanted_among s.most (Some item) s.seats h.a.seat) x))))
    where
      stepped_all : Seated → Seated
      stepped_all x = record x { seats = at_place at (stepped_seat st) x.seats }

  pub write_done : (first new : Seated) (item : ℕ) (v : _) → kind_of (after its_program d r.position) ≡ Write item v → first ≡ record s { seats = at_place at (stepped_seat st) s.seats }
      → new ≡ record first { seats = all_renewed first.most first.items kept first.seats } → IsStepOf new
  write_done first new item v kind step_is renew_is =
      done_by write_change new write_change_number (write_fins item v kind)
      (renew_is ∙ ap renewed_all (step_is ∙ ap with_all (placed (stepped_seat st))) ∙ ap with_all (map-map (renewed_among s.most s.items kept mids.seats) mid s.seats))
    where
      renewed_all : Seated → Seated
      renewed_all x = record x { seats = all_renewed x.most x.items kept x.seats }

  -- what settling all needs after the step of a write
  pub write_carried : (first : Seated) → first ≡ record s { seats = at_place at (stepped_seat st) s.seats } → AreCarried first.items kept first.seats
  write_carried first step_is =
      subst (λ x. AreCarried x.items kept x.seats) (sym (step_is ∙ ap with_all (placed (stepped_seat st))))
      (all-map (λ (x : Seat). IsCarried s.items kept x.number) mid s.seats
      (all-weaken (λ (x : Seat). IsCarried s.items kept x.number) (λ (x : Seat). IsCarried s.items kept (mid x).number) (λ x c. subst (IsCarried s.items kept) (sym (mid_number x)) c) s.seats (all_carried journal d kept queue s h.all)))

  -- the event in numbers
  pub event_is : step_role before_it Optimistic r ≡ Ok (suc r.position, settle before_it.started (move_to r.number (suc r.position) before_it))
  event_is = rw (lt-ltb _ _ h.going) refl

-- a shadow that has not ended stands before the end
pub goes_before : (journal : Recorded) (d : Tables) (kept : List Txn) (s : Seated) (at t : ℕ) (r : Started) (a : IsAt journal d kept s at t r) → a.seat.optimistic.state.done ≡ false → r.position < length_of (forest_of journal d s) r
goes_before journal d kept s at t r a done =
    let p : Program = program_of journal.entries t in
    let at_is : a.seat.optimistic.state.position ≡ r.position = ap (λ (y : Started). y.position) a.is in
    let number : r.number ≡ t = ap (λ (x : Started). x.number) (sym a.is) ∙ a.number in
    subst (λ n. r.position < run_length (program_of journal.entries n) d) (sym number)
    (either (cases_lt r.position (run_length p d)) (λ lt. lt)
    (λ ge. absurd (true≢false (sym (ended-from_length p d r.position ge) ∙ ap (λ n. has_ended (after p d n)) (sym at_is) ∙ sym a.stands.optimistic.done ∙ done))))

-- and may make a step
pub next_is : (journal : Recorded) (d : Tables) (kept : List Txn) (queue : List ℕ) (s : Seated) (at t : ℕ) (r : Started) (nodes : List Node) (st : Held) (a : IsAt journal d kept s at t r) → IsForest journal d kept queue s
    → a.seat.optimistic.state.done ≡ false → StepsOver nodes d a.seat.optimistic.state st → nodes ≡ nodes_at kept t → IsNext journal d kept queue s at t r st
next_is journal d kept queue s at t r nodes st a h done steps code =
    let p : Program = program_of journal.entries t in
    let of_p : nodes ≡ nodes_of p = code ∙ nodes_are journal d kept s at t r a in
    let before : RunsOver nodes p d a.seat.optimistic.state = subst (λ ns. RunsOver ns p d a.seat.optimistic.state) (sym of_p) a.stands.optimistic in
    let at_is : a.seat.optimistic.state.position ≡ r.position = ap (λ (y : Started). y.position) a.is in
    record {
      all = h;
      a = a;
      position = steps.position ∙ ap suc at_is;
      stands = subst (λ ns. RunsOver ns p d st) of_p (steps.same p before);
      going = goes_before journal d kept s at t r a done;
    }
