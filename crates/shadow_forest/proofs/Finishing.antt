-- A commit: what is kept before one that waits may start.
use Rattle.std.proofs.Common.{◌≡◌, ◌≢◌, ℕ, suc, ◌+◌, ◌≤◌, ◌<◌, ◌==◌, true, false, not, List, [], ◌∷◌, ◌++◌, map, filter, filter_map, length, Option, Some, None, refl, ap, sym, subst, ◌∙◌, arith, true≢false, eqb-true, eq-eqb, ltb-false}
use Rattle.std.specs.Prelude.{slice_get}
use Rattle.std.specs.List.{AllByRecursion, AllZip, cons_option}
use Rattle.std.proofs.lemmas.Bool.{cases_Bool, not-true}
use Rattle.txn_runs.specs.Run.{Tables}
use Rattle.txn_runs.specs.Serial.{outcome_of, effect_of, over}
use Rattle.txn_code.specs.Nodes.{nodes_of}
use Rattle.txn_code.specs.declared.node.Node.{Node}
use Rattle.txn_interp.specs.State.{Held, RunsOver}
use Rattle.txn_runs.specs.declared.outcome.Outcome.{Outcome}
use Rattle.txn_runs.specs.declared.program.Stmt.{Stmt}
use Rattle.journal_core.specs.declared.entry.Entry.{Entry}
use Rattle.journal_core.specs.declared.entry.Entry.TheVariants.{Committed}
use Rattle.journal_core.specs.Recorded.{Recorded}
use Rattle.journal_core.specs.Journal.{is_live, is_sealed, program_of}
use Rattle.forest_model.specs.Forest.{Started, Forest, wanted, find_started, is_started, length_of, is_ended}
use Rattle.forest_model.specs.Cut.{after_cut}
use Rattle.forest_model.specs.Settle.{settle}
use Rattle.forest_model.specs.Start.{waits, numbers, without, next_to_start, start_waiting}
use Rattle.forest_model.specs.Events.{cut, resumes, resumed, others_cut, laid, committed}
use Rattle.forest_model.specs.Sound.{IsRising, IsSound, StandsFor}
use Rattle.forest_model.proofs.Lists.{either, all-map, all-weaken, all-both, all-filter, all-everywhere, filter-passes, map-map, map-agree, filter_map-map, filter_map-agree, list_any-map, list_any-agree, length-map'}
use Rattle.forest_model.proofs.RunLaws.{length-over}
use Rattle.forest_model.proofs.PointLaws.{wanted-below}
use Rattle.forest_model.proofs.RestLaws.{IsApart}
use Rattle.forest_model.proofs.StartedLaws.{rising-filter, is_started-without}
use Rattle.forest_model.proofs.AfterLaws.{started-found}
use Rattle.forest_model.proofs.CommitLaws.{after_cut-number, committed-sound}
use Rattle.shadow_lanes.specs.Seats.{Seat, Seated, conflicts_of, shadow_of, started_of, seats_without}
use Rattle.shadow_forest.specs.declared.txn.Txn.{Txn}
use Rattle.forest_model.specs.Runs.{is_done}
use Rattle.shadow_forest.specs.Parts.{nodes_at, seat_after, taken_back}
use Rattle.shadow_forest.proofs.RenewedForest.{map_same}
use Rattle.shadow_forest.specs.View.{View, told_commit}
use Rattle.shadow_forest.specs.Kept.{forest_of, SlotStands, SeatStands, IsForest, owed}
use Rattle.shadow_forest.proofs.Keeping.{seat_number, numbers_of, started_same}
use Rattle.shadow_forest.proofs.SettledForest.{all_unmapped, found_each}
use Rattle.shadow_forest.proofs.Placing.{IsAt, at_place_is, all_coded}
use Rattle.shadow_forest.proofs.Moving.{IsBehind}
use Rattle.shadow_forest.proofs.Starting.{IsSelf, IsUnstarted}
use Rattle.shadow_forest.proofs.Ending.{Ends, commit_ends, IsOneLess, within_more, sealed_same, stand_same, waiting_same, without_numbers, seats_fewer}
use Rattle.shadow_forest.proofs.Leaving.{selves}
use Rattle.shadow_forest.proofs.BeginningEntry.{pushed, is_pushed, txns_other}
use Rattle.shadow_forest.proofs.CutForest.{IsWhole, whole_effect, undone_over, IsKeptSeat, behind_of, IsCutTo, AreCut, IsCoded, undone_all, done_all}

-- a change that keeps the numbers leaves the same others
without_changed : (t : ℕ) (g : Seat → Seat) → ((x : Seat) → (g x).number ≡ x.number) → (xs : List Seat) → seats_without t (map g xs) ≡ map g (seats_without t xs)
without_changed t g same [] = refl
without_changed t g same (x ∷ xs) =
    either (cases_Bool (x.number == t))
    (λ e. let e' : (g x).number == t ≡ true = ap (λ n. n == t) (same x) ∙ e in rw (e, e') (without_changed t g same xs))
    (λ e. let e' : (g x).number == t ≡ false = ap (λ n. n == t) (same x) ∙ e in rw (e, e') (ap (λ ys. g x ∷ ys) (without_changed t g same xs)))

-- where nothing is told of t, the others tell all
told_by_others : (t : ℕ) (told : Seat → Option (ℕ × ℕ)) → ((x : Seat) → x.number ≡ t → told x ≡ None) → (xs : List Seat) → filter_map told xs ≡ filter_map told (seats_without t xs)
told_by_others t told none [] = refl
told_by_others t told none (x ∷ xs) =
    either (cases_Bool (x.number == t))
    (λ e. rw (e, none x (eqb-true _ _ e)) (told_by_others t told none xs))
    (λ e. rw e (ap (cons_option (told x)) (told_by_others t told none xs)))

module _ (journal : Recorded) (d : Tables) (kept : List Txn) (queue : List ℕ) (s : Seated) (us : Seat) (spare : ℕ) (g : Seat → Seat) (told : Seat → Option (ℕ × ℕ)) (h : IsForest journal d kept queue s)
    (found : find_started (map started_of s.seats) us.number ≡ Some (started_of us))
    (are : AreCut (forest_of journal d s) (started_of us) (over (effect_of (program_of journal.entries us.number) d) d) g told s.seats) (room : spare + 1 ≡ journal.spare) where
  all_left : AllByRecursion (λ (x : Seat). IsCutTo (forest_of journal d s) (started_of us) (over (effect_of (program_of journal.entries us.number) d) d) x (g x) (told x)) (seats_without us.number s.seats)
  all_left =
      let e : Tables = over (effect_of (program_of journal.entries us.number) d) d in
      all-both (λ (x : Seat). not (x.number == us.number) ≡ true) (λ (x : Seat). x.number ≢ us.number → IsCutTo (forest_of journal d s) (started_of us) e x (g x) (told x))
      (λ (x : Seat). IsCutTo (forest_of journal d s) (started_of us) e x (g x) (told x)) (λ x apart is. is (λ q. true≢false (sym (eq-eqb _ _ q) ∙ not-true _ apart)))
      (seats_without us.number s.seats) (filter-passes (λ (x : Seat). not (x.number == us.number)) s.seats) (all-filter (λ (x : Seat). x.number ≢ us.number → IsCutTo (forest_of journal d s) (started_of us) e x (g x) (told x)) (λ (x : Seat). not (x.number == us.number)) s.seats are.others)

  left_is : seats_without us.number (map g s.seats) ≡ map g (seats_without us.number s.seats)
  left_is = without_changed us.number g are.number s.seats

  -- in numbers the others are cut
  cut_started : map started_of (seats_without us.number (map g s.seats)) ≡ others_cut (forest_of journal d s) (started_of us)
  cut_started =
      let f : Forest = forest_of journal d s in
      let e : Tables = over (effect_of (program_of journal.entries us.number) d) d in
      let by : Started → Started = (λ (r : Started). after_cut (cut f (started_of us) r) r) in
      ap (map started_of) left_is ∙ map-map started_of g (seats_without us.number s.seats)
      ∙ map-agree (λ x. started_of (g x)) (λ x. by (started_of x)) (seats_without us.number s.seats)
      (all-weaken (λ (x : Seat). IsCutTo f (started_of us) e x (g x) (told x)) (λ (x : Seat). started_of (g x) ≡ by (started_of x)) (λ x is. is.started) (seats_without us.number s.seats) all_left)
      ∙ sym (map-map by started_of (seats_without us.number s.seats))
      ∙ ap (map by) (without_numbers us.number s.seats)

  -- who is taken back is told
  pub told_are : filter_map told s.seats ≡ resumed (forest_of journal d s) (started_of us)
  told_are =
      let f : Forest = forest_of journal d s in
      let e : Tables = over (effect_of (program_of journal.entries us.number) d) d in
      told_by_others us.number told are.self s.seats
      ∙ filter_map-agree told (λ x. resumes f (started_of us) (started_of x)) (seats_without us.number s.seats)
      (all-weaken (λ (x : Seat). IsCutTo f (started_of us) e x (g x) (told x)) (λ (x : Seat). told x ≡ resumes f (started_of us) (started_of x)) (λ x is. sym is.told_is) (seats_without us.number s.seats) all_left)
      ∙ sym (filter_map-map (resumes f (started_of us)) started_of (seats_without us.number s.seats))
      ∙ ap (filter_map (resumes f (started_of us))) (without_numbers us.number s.seats)

  pub laid_forest : forest_of (pushed journal (Committed us.number (outcome_of (program_of journal.entries us.number) d)) spare) (over (effect_of (program_of journal.entries us.number) d) d) (record s { seats = seats_without us.number (map g s.seats) })
      ≡ laid (forest_of journal d s) (started_of us)
  laid_forest = ap (λ rs. record (laid (forest_of journal d s) (started_of us)) { started = rs }) cut_started

  left_rising : IsRising (map (λ (x : Started). x.number) (map started_of (seats_without us.number (map g s.seats))))
  left_rising =
      let left = seats_without us.number s.seats in
      let same : map (λ (x : Started). x.number) (map started_of (seats_without us.number (map g s.seats))) ≡ map (λ (x : Started). x.number) (without us.number (map started_of s.seats)) =
      numbers_of (seats_without us.number (map g s.seats)) ∙ ap (map seat_number) left_is ∙ map-map seat_number g left
      ∙ map-agree (λ x. seat_number (g x)) seat_number left (all-everywhere (λ (x : Seat). seat_number (g x) ≡ seat_number x) are.number left)
      ∙ sym (numbers_of left) ∙ ap (map (λ (x : Started). x.number)) (without_numbers us.number s.seats)
      in
      subst IsRising (sym same) (rising-filter (λ (r : Started). not (r.number == us.number)) (map started_of s.seats) h.sound.right.rising)

  one_less : IsOneLess us.number (Committed us.number (outcome_of (program_of journal.entries us.number) d)) (forest_of journal d s) (laid (forest_of journal d s) (started_of us))
  one_less =
      let f : Forest = forest_of journal d s in
      let by : Started → Started = (λ (r : Started). after_cut (cut f (started_of us) r) r) in
      record {
        ends = commit_ends us.number (outcome_of (program_of journal.entries us.number) d);
        journal_is = refl;
        others = λ v ne.
            list_any-map (λ (r : Started). r.number == v) by (without us.number f.started)
            ∙ list_any-agree (λ r. (by r).number == v) (λ (r : Started). r.number == v) (λ r. ap (λ n. n == v) (after_cut-number (cut f (started_of us) r) r)) (without us.number f.started)
            ∙ is_started-without us.number v f.started ne;
      }

  left_each : AllByRecursion (IsSelf (map started_of (seats_without us.number (map g s.seats)))) (seats_without us.number (map g s.seats))
  left_each =
      let seats = seats_without us.number (map g s.seats) in
      let before = map started_of seats in
      let e : Tables = over (effect_of (program_of journal.entries us.number) d) d in
      all-both (λ (x : Seat). IsApart (conflicts_of x) × AllZip StandsFor (map shadow_of x.waiters) (conflicts_of x)) (λ (x : Seat). find_started before x.number ≡ Some (started_of x)) (IsSelf before)
      (λ x both found_x. record { apart = both.0; fits = both.1; found = found_x }) seats
      (subst (AllByRecursion (λ (x : Seat). IsApart (conflicts_of x) × AllZip StandsFor (map shadow_of x.waiters) (conflicts_of x))) (sym left_is)
      (all-map (λ (x : Seat). IsApart (conflicts_of x) × AllZip StandsFor (map shadow_of x.waiters) (conflicts_of x)) g (seats_without us.number s.seats)
      (all-weaken (λ (x : Seat). IsCutTo (forest_of journal d s) (started_of us) e x (g x) (told x)) (λ (x : Seat). IsApart (conflicts_of (g x)) × AllZip StandsFor (map shadow_of (g x).waiters) (conflicts_of (g x)))
      (λ x is. (is.apart, is.fits)) (seats_without us.number s.seats) all_left)))
      (found_each seats left_rising)

  left_stand : AllByRecursion (λ (r : Seat). SeatStands (program_of journal.entries r.number) (over (effect_of (program_of journal.entries us.number) d) d) r) (seats_without us.number (map g s.seats))
  left_stand =
      let e : Tables = over (effect_of (program_of journal.entries us.number) d) d in
      subst (AllByRecursion (λ (r : Seat). SeatStands (program_of journal.entries r.number) e r)) (sym left_is)
      (all-map (λ (r : Seat). SeatStands (program_of journal.entries r.number) e r) g (seats_without us.number s.seats)
      (all-weaken (λ (x : Seat). IsCutTo (forest_of journal d s) (started_of us) e x (g x) (told x)) (λ (x : Seat). SeatStands (program_of journal.entries (g x).number) e (g x))
      (λ x is. subst (λ n. SeatStands (program_of journal.entries n) e (g x)) (sym is.number) is.stands) (seats_without us.number s.seats) all_left))

  pub laid_keeps : IsUnstarted (pushed journal (Committed us.number (outcome_of (program_of journal.entries us.number) d)) spare) (over (effect_of (program_of journal.entries us.number) d) d) kept queue
      (record s { seats = seats_without us.number (map g s.seats) }) (map started_of (seats_without us.number (map g s.seats)))
  laid_keeps =
      let f : Forest = forest_of journal d s in
      let u : Started = started_of us in
      let t : ℕ = us.number in
      let e : Tables = over (effect_of (program_of journal.entries us.number) d) d in
      let entry : Entry = Committed us.number (outcome_of (program_of journal.entries us.number) d) in
      let ends : Ends us.number entry = commit_ends us.number (outcome_of (program_of journal.entries us.number) d) in
      let started : is_started (map started_of s.seats) us.number ≡ true = started-found (map started_of s.seats) us.number u found in
      let sound : IsSound (settle (others_cut f u) (start_waiting (laid f u))) = committed-sound f h.sound u found in
      record {
        sound = subst (λ b. IsSound (settle b (start_waiting (forest_of (pushed journal entry spare) e (record s { seats = seats_without us.number (map g s.seats) }))))) (sym cut_started)
            (subst (λ x. IsSound (settle (others_cut f u) (start_waiting x))) (sym laid_forest) sound);
        least = h.least;
        most = h.most;
        items = h.items ∙ sym (length-over (effect_of (program_of journal.entries us.number) d) d);
        size = length-over (effect_of (program_of journal.entries us.number) d) d ∙ h.size;
        within = within_more s.items t journal.entries entry ends h.within;
        stand = stand_same t journal.entries entry e (seats_without us.number (map g s.seats)) ends left_stand;
        each = left_each;
        txns = txns_other s.items journal.entries entry kept ends.begin ends.begins h.txns;
        waiting = h.waiting ∙ waiting_same t entry f (laid f u) one_less started ∙ ap (λ (x : Forest). filter (waits x) (numbers x.journal)) (sym laid_forest);
        spare =
            let old : owed (length s.seats) (length queue) (is_sealed journal.entries) ≤ journal.spare = h.spare in
            let less : suc (length (seats_without us.number (map g s.seats))) ≤ length (map g s.seats) = seats_fewer t (map g s.seats) (started_same g are.number s.seats t ∙ started) in
            rw (sealed_same t journal.entries entry ends) (omega (arith, old, less, length-map' g s.seats, room));
      }

-- The one that is committed.

-- the transaction at a place, whose optimistic state is that of its whole run
pub record IsEndAt (journal : Recorded) (d : Tables) (s : Seated) (at t : ℕ) : Type 0 where
  pub seat : Seat
  pub there : slice_get s.seats at ≡ Some seat
  pub below : at < length s.seats
  pub number : seat.number ≡ t
  pub found : find_started (map started_of s.seats) seat.number ≡ Some (started_of seat)
  pub whole : IsWhole (program_of journal.entries seat.number) d seat.optimistic
  pub live : is_live journal.entries seat.number ≡ true

pub end_at : (journal : Recorded) (d : Tables) (kept : List Txn) (queue : List ℕ) (s : Seated) (at t : ℕ) (u : Started) → IsForest journal d kept queue s
    → slice_get (map started_of s.seats) at ≡ Some u → find_started (map started_of s.seats) t ≡ Some u → is_ended (forest_of journal d s) u ≡ true → IsEndAt journal d s at t
end_at journal d kept queue s at t u h there found ended =
    let f : Forest = forest_of journal d s in
    let a : IsAt journal d kept s at t u = at_place_is journal d kept queue s at t u h there found in
    let least : length_of f (started_of a.seat) ≤ (started_of a.seat).position = subst (λ (r : Started). length_of f r ≤ r.position) (sym a.is) (ltb-false u.position (length_of f u) (not-true _ ended)) in
    let most : (started_of a.seat).position ≤ length_of f (started_of a.seat) = subst (λ (r : Started). r.position ≤ length_of f r) (sym a.is) a.within in
    record {
      seat = a.seat;
      there = a.there;
      below = a.below;
      number = a.number;
      found = ap (find_started (map started_of s.seats)) a.number ∙ found ∙ ap Some (sym a.is);
      whole = record {
        stands = subst (λ n. SlotStands (program_of journal.entries n) d a.seat.optimistic) (sym a.number) a.stands.optimistic;
        position = omega arith;
      };
      live = subst (λ n. is_live journal.entries n ≡ true) (sym a.number) a.live;
    }

-- each transaction of a forest
pub coded : (journal : Recorded) (d : Tables) (kept : List Txn) (queue : List ℕ) (s : Seated) → IsForest journal d kept queue s → AllByRecursion (IsCoded s.items kept (forest_of journal d s)) s.seats
coded journal d kept queue s h =
    let f : Forest = forest_of journal d s in
    let before = map started_of s.seats in
    let codes = all_coded journal d kept queue s h in
    let behind : AllByRecursion IsBehind s.seats =
    all-weaken (λ (x : Seat). AllZip StandsFor (map shadow_of x.waiters) (wanted f (started_of x))) IsBehind
    (λ x fits. record { each = behind_of x.optimistic.state.position x.waiters (wanted f (started_of x)) fits (wanted-below f (started_of x)) }) s.seats
    (all_unmapped (λ (r : Started). AllZip StandsFor r.shadows (wanted f r)) started_of s.seats h.sound.settled)
    in
    let seats : AllByRecursion (IsKeptSeat journal.entries d) s.seats =
    all-both (λ (x : Seat). SeatStands (program_of journal.entries x.number) d x) (λ (x : Seat). IsSelf before x × IsBehind x) (IsKeptSeat journal.entries d)
    (λ x stands both. record { stands = stands; apart = both.0.apart; fits = both.0.fits; behind = both.1 }) s.seats h.stand
    (all-both (IsSelf before) IsBehind (λ (x : Seat). IsSelf before x × IsBehind x) (λ x a b. (a, b)) s.seats (selves journal d kept queue s h) behind)
    in
    all-both (IsKeptSeat journal.entries d) (λ (x : Seat). nodes_at kept x.number ≡ nodes_of (program_of journal.entries x.number)) (IsCoded s.items kept f)
    (λ x seat code. record { seat = seat; code = code }) s.seats seats codes

-- what the code makes of the tables and the seats, and whom it takes back
pub record IsCutStep (journal : Recorded) (d : Tables) (s : Seated) (us : Seat) (d' : Tables) (s' : Seated) (back : List (ℕ × ℕ)) : Type 0 where
  pub change : Seat → Seat
  pub told : Seat → Option (ℕ × ℕ)
  pub are : AreCut (forest_of journal d s) (started_of us) (over (effect_of (program_of journal.entries us.number) d) d) change told s.seats
  pub tables_are : d' ≡ over (effect_of (program_of journal.entries us.number) d) d
  pub seats_are : s' ≡ record s { seats = map change s.seats }
  pub back_are : back ≡ filter_map told s.seats

pub outcome_from : (journal : Recorded) (d : Tables) (s : Seated) (at t : ℕ) (e : IsEndAt journal d s at t) (st : Held) (o : Outcome) → st ≡ e.seat.optimistic.state
    → ((nodes : List Node) (body : List Stmt) (tables : Tables) → RunsOver nodes body tables st → o ≡ outcome_of body tables) → o ≡ outcome_of (program_of journal.entries e.seat.number) d
outcome_from journal d s at t e st o is tells =
    let p = program_of journal.entries e.seat.number in
    tells (nodes_of p) p d (subst (RunsOver (nodes_of p) p d) (sym is) e.whole.stands)

nothing_told : (xs : List Seat) → filter_map {Y = ℕ × ℕ} (λ (x : Seat). None) xs ≡ []
nothing_told [] = refl
nothing_told (x ∷ xs) = nothing_told xs

module _ (journal : Recorded) (d : Tables) (kept : List Txn) (queue : List ℕ) (s : Seated) (at t : ℕ) (h : IsForest journal d kept queue s) (e : IsEndAt journal d s at t) (d' : Tables) (s' : Seated) (back : List (ℕ × ℕ)) where
  -- where the outcome is no failure
  pub done_step : is_done (outcome_of (program_of journal.entries e.seat.number) d) ≡ true → d' ≡ over e.seat.optimistic.state.writes d → s' ≡ record s { seats = map (seat_after s.items kept e.seat) s.seats }
      → back ≡ filter_map (taken_back s.items kept e.seat) s.seats → IsCutStep journal d s e.seat d' s' back
  done_step done tables seats told_is = record {
    change = seat_after s.items kept e.seat;
    told = taken_back s.items kept e.seat;
    are = done_all (forest_of journal d s) s.items kept e.seat s.seats h.items (coded journal d kept queue s h) e.whole done;
    tables_are = tables ∙ ap (λ ws. over ws d) (sym (whole_effect (program_of journal.entries e.seat.number) d e.seat.optimistic e.whole done));
    seats_are = seats;
    back_are = told_is;
  }

  -- and where it is one
  pub undone_step : is_done (outcome_of (program_of journal.entries e.seat.number) d) ≡ false → d' ≡ d → s' ≡ s → back ≡ [] → IsCutStep journal d s e.seat d' s' back
  undone_step undone tables seats told_is = record {
    change = λ x. x;
    told = λ x. None;
    are = undone_all (forest_of journal d s) s.items kept e.seat s.seats h.items (coded journal d kept queue s h) undone;
    tables_are = tables ∙ sym (undone_over (program_of journal.entries e.seat.number) d undone);
    seats_are = seats ∙ ap (λ xs. record s { seats = xs }) (sym (map_same s.seats));
    back_are = told_is ∙ sym (nothing_told s.seats);
  }

-- what the journal and the seats are after the entry is written and t is not started any more
pub record IsWritten (journal : Recorded) (d : Tables) (s : Seated) (at t : ℕ) (e : IsEndAt journal d s at t) (s' : Seated) (journal' : Recorded) (left : Seated) : Type 0 where
  pub opening : journal'.opening ≡ journal.opening
  pub entries : journal'.entries ≡ journal.entries ++ Committed t (outcome_of (program_of journal.entries e.seat.number) d) ∷ []
  pub room : journal'.spare + 1 ≡ journal.spare
  pub left_are : left ≡ record s' { seats = seats_without t s'.seats }

module _ (journal : Recorded) (d : Tables) (kept : List Txn) (queue : List ℕ) (s : Seated) (at t : ℕ) (h : IsForest journal d kept queue s) (e : IsEndAt journal d s at t) (d' : Tables) (s' : Seated) (back : List (ℕ × ℕ))
    (step : IsCutStep journal d s e.seat d' s' back) (journal' : Recorded) (left : Seated) (w : IsWritten journal d s at t e s' journal' left) where
  journal_is : journal' ≡ pushed journal (Committed e.seat.number (outcome_of (program_of journal.entries e.seat.number) d)) journal'.spare
  journal_is =
      is_pushed journal journal' (Committed e.seat.number (outcome_of (program_of journal.entries e.seat.number) d)) w.opening
      (w.entries ∙ ap (λ n. journal.entries ++ Committed n (outcome_of (program_of journal.entries e.seat.number) d) ∷ []) (sym e.number))

  left_seats : left ≡ record s { seats = seats_without e.seat.number (map step.change s.seats) }
  left_seats =
      w.left_are ∙ ap (λ (x : Seated). record x { seats = seats_without t x.seats }) step.seats_are
      ∙ ap (λ n. record s { seats = seats_without n (map step.change s.seats) }) (sym e.number)

  pub written_forest : forest_of journal' d' left ≡ laid (forest_of journal d s) (started_of e.seat)
  written_forest =
      ap (λ x. forest_of journal' d' x) left_seats
      ∙ ap (λ x. forest_of journal' x (record s { seats = seats_without e.seat.number (map step.change s.seats) })) step.tables_are
      ∙ ap (λ x. forest_of x (over (effect_of (program_of journal.entries e.seat.number) d) d) (record s { seats = seats_without e.seat.number (map step.change s.seats) })) journal_is
      ∙ laid_forest journal d kept queue s e.seat journal'.spare step.change step.told h e.found step.are w.room

  pub written_keeps : IsUnstarted journal' d' kept queue left (map started_of left.seats)
  written_keeps =
      subst (λ x. IsUnstarted journal' d' kept queue x (map started_of x.seats)) (sym left_seats)
      (subst (λ x. IsUnstarted journal' x kept queue (record s { seats = seats_without e.seat.number (map step.change s.seats) }) (map started_of (seats_without e.seat.number (map step.change s.seats)))) (sym step.tables_are)
      (subst (λ x. IsUnstarted x (over (effect_of (program_of journal.entries e.seat.number) d) d) kept queue (record s { seats = seats_without e.seat.number (map step.change s.seats) }) (map started_of (seats_without e.seat.number (map step.change s.seats)))) (sym journal_is)
      (laid_keeps journal d kept queue s e.seat journal'.spare step.change step.told h e.found step.are w.room)))

  pub written_back : back ≡ resumed (forest_of journal d s) (started_of e.seat)
  written_back = step.back_are ∙ told_are journal d kept queue s e.seat journal'.spare step.change step.told h e.found step.are w.room

  -- the forest in numbers after all
  pub written_settles : settle (map started_of left.seats) (start_waiting (forest_of journal' d' left)) ≡ committed (forest_of journal d s) (started_of e.seat)
  written_settles = ap (λ (x : Forest). settle x.started (start_waiting x)) written_forest

  pub written_lanes : left.lanes ≡ s.lanes
  written_lanes = ap (λ (x : Seated). x.lanes) left_seats

-- the view after a commit
pub told_view : (v : View) (t : ℕ) (u : Started) → find_started v.numbers.started t ≡ Some u
    → told_commit v t (committed v.numbers u) ≡ record { numbers = committed v.numbers u; resumed = resumed v.numbers u; starts = next_to_start (laid v.numbers u) }
told_view v t u found = rw found refl

-- whoever is found by t is the one that is committed
pub same_ending : (journal : Recorded) (d : Tables) (s : Seated) (at t : ℕ) (e : IsEndAt journal d s at t) (u : Started) → find_started (map started_of s.seats) t ≡ Some u → started_of e.seat ≡ u
same_ending journal d s at t e u found =
    let both : Some (started_of e.seat) ≡ Some u = sym e.found ∙ ap (find_started (map started_of s.seats)) e.number ∙ found in cc
