use Rattle.std.proofs.Common.{◌≡◌, ◌≤◌, ◌-◌, true, false, arith, eq-eqb, [], ◌∷◌, ◌++◌, filter_map, map, length, refl, ap, sym, subst, ◌∙◌}
use Rattle.std.specs.Prelude.{slice_get, slice_set}
use Rattle.std.specs.Vec.{vec_capacity}
use Rattle.txn_runs.specs.Bounds.{emits_max}
use Rattle.txn_runs.specs.Serial.{outcome_of, over}
use Rattle.journal_core.specs.Recorded.{Recorded}
use Rattle.journal_core.specs.declared.entry.Entry.TheVariants.{Committed}
use Rattle.journal_core.specs.Journal.{is_live, program_of}
use Rattle.journal_core.proofs.Legal.{counts, live-ended}
use Rattle.forest_model.specs.Runs.{is_done as is_done_of}
use Rattle.forest_model.specs.Forest.{Forest, find_started, is_ended}
use Rattle.forest_model.specs.Start.{next_to_start}
use Rattle.forest_model.specs.Events.{resumed, laid, committed}
use Rattle.shadow_lanes.specs.Seats.{started_of}
use Rattle.shadow_forest.specs.View.{View, told_commit}
use Rattle.shadow_forest.specs.Answers.{resumed_pair}
use Rattle.shadow_forest.specs.Parts.{seat_after, taken_back, next_of, seats_with_some, all_renewed}
use Rattle.shadow_forest.specs.Kept.{numbers_waiting, AreQueued, forest_of}
use Rattle.txn_interp.specs.State.{Held}
use Rattle.shadow_forest.proofs.CutForest.{whole_done, whole_room}
use Rattle.shadow_forest.proofs.RenewedForest.{unsettled_carried}
use Rattle.shadow_forest.proofs.Starting.{IsUnstarted, IsFilled, queue_carried, queue_apart, next_is, filled_keeps}
use Rattle.shadow_forest.proofs.Refilling.{IsRefilled, refilled_keeps, refilled_forest, refilled_lanes}
use Rattle.shadow_forest.proofs.RoomLaws.{room_there, rooms_committed, emits_fit}
use Rattle.shadow_forest.proofs.Freed.{freed-forest, freed-queued}
use Rattle.shadow_forest.proofs.SeatPlaces.{state-at}
use Rattle.shadow_forest.proofs.Placing.{all_carried}
use Rattle.shadow_forest.proofs.Finishing.{IsEndAt, end_at, outcome_from, IsCutStep, done_step, undone_step, IsWritten, written_forest, written_keeps, written_back, written_settles, written_lanes, told_view, same_ending}
use Rattle.shadow_forest.specs.declared.forest.Forest.TheInside.{Inside}
use Rattle.shadow_forest.proofs.forest.Forest.finish.Goals as goal
use Rattle.shadow_forest.proofs.forest.Forest.finish.Goals.{then-is_done, else-is_done, After-self, After-state-state, After-deref-2, After-deref-3, After-renew_marked}

-- the transaction that is committed
ending : (c : After-self) → IsEndAt c.self.inside.journal c.self.inside.tables c.self.inside.lanes c.args.place c.args.txn
ending c =
    let i = c.self.inside in
    let v : forest_of i.journal i.tables i.lanes ≡ c.args.self.now.numbers = ap (λ (x : View). x.numbers) c.self.view_is in
    let p = c.requires.place in
    end_at i.journal i.tables i.txns.items (numbers_waiting i.waiting) i.lanes c.args.place c.args.txn p.0 c.self.invariant.0
    (ap (λ (f : Forest). slice_get f.started c.args.place) v ∙ p.1) (ap (λ (f : Forest). find_started f.started c.args.txn) v ∙ p.2) (ap (λ f. is_ended f p.0) v ∙ p.3)

-- its state
state_is : (c : After-state-state) (e : IsEndAt c.self.inside.journal c.self.inside.tables c.self.inside.lanes c.args.place c.args.txn) → c.state-state.result.now ≡ e.seat.optimistic.state
state_is c e = sym (state-at c.self.inside.lanes.seats c.args.place e.seat c.state-state.result.now e.there c.state-state.ensures.state)

pub outcome-outcome-requires-clause-done : goal.outcome-outcome-requires-clause-done
outcome-outcome-requires-clause-done c =
    let e = ending (goal.at.outcome-outcome-requires-clause-done c).After-self in
    let i = c.self.inside in
    rw (state_is c e, whole_done (program_of i.journal.entries e.seat.number) i.tables e.seat.optimistic e.whole) refl

-- its room is there, and large enough for what it has emitted
live : (c : After-self) → is_live c.self.inside.journal.entries c.args.txn ≡ true
live c = let e = ending c in ap (is_live c.self.inside.journal.entries) (sym e.number) ∙ e.live

there : (c : After-self) → (1 ≤ c.args.txn) × (c.args.txn ≤ length c.self.inside.rooms.items)
there c = let i = c.self.inside in room_there i.journal.entries i.rooms.items c.args.txn (counts i.journal.opening i.journal.entries c.self.invariant.0.sound.right.legal) c.self.invariant.3 (live c)

pub take_room-room-requires-clause-least : goal.take_room-room-requires-clause-least
take_room-room-requires-clause-least c = (there (goal.at.take_room-room-requires-clause-least c).After-self).0

pub take_room-room-requires-clause-most : goal.take_room-room-requires-clause-most
take_room-room-requires-clause-most c = (there (goal.at.take_room-room-requires-clause-most c).After-self).1

pub outcome-outcome-requires-clause-room : goal.outcome-outcome-requires-clause-room
outcome-outcome-requires-clause-room c =
    let a = (goal.at.outcome-outcome-requires-clause-room c).After-self in
    let e = ending a in
    let i = c.self.inside in
    let fits : length e.seat.optimistic.state.emits ≤ emits_max (program_of i.journal.entries e.seat.number) = emits_fit (program_of i.journal.entries e.seat.number) i.tables e.seat.optimistic.state e.whole.stands in
    let same : emits_max (program_of i.journal.entries e.seat.number) ≡ emits_max (program_of i.journal.entries c.args.txn) = ap (λ n. emits_max (program_of i.journal.entries n)) e.number in
    rw (state_is c e, c.take_room-room.ensures.room) (omega (arith, fits, same, c.self.invariant.3.each c.args.txn (live a)))

pub lay_over-requires : goal.lay_over-requires
lay_over-requires c =
    let e = ending (goal.at.lay_over-requires c).After-self in
    let i = c.self.inside in
    whole_room (program_of i.journal.entries e.seat.number) i.tables e.seat.optimistic e.whole
    ∙ ap length (sym (c.writes.ensures.set ∙ ap (λ (st : Held). st.writes) (state_is (goal.at.lay_over-requires c).After-state-state e)))

pub cut_others-requires-clause-of : goal.cut_others-requires-clause-of
cut_others-requires-clause-of c = (ending (goal.at.cut_others-requires-clause-of c).After-self).below

pub cut_others-requires-clause-carried : goal.cut_others-requires-clause-carried
cut_others-requires-clause-carried c =
    let i = c.self.inside in
    rw c.deref.ensures.value (all_carried i.journal i.tables i.txns.items (numbers_waiting i.waiting) i.lanes c.self.invariant.0)

pub push_reserved-requires-clause-continues : goal.push_reserved-requires-clause-continues
push_reserved-requires-clause-continues c =
    let i = c.self.inside in
    let e = ending (goal.at.push_reserved-requires-clause-continues c).After-self in
    let st = state_is (goal.at.push_reserved-requires-clause-continues c).After-state-state e in
    let journal : c.if-is_done.self-inside.journal ≡ i.journal =
    elim c.if-is_done.branch [ then-is_done w ↦ ap (λ (x : Inside). x.journal) w.self-inside-is | else-is_done w ↦ ap (λ (x : Inside). x.journal) w.self-inside-is ]
    in
    let outcome : c.outcome-outcome.result ≡ outcome_of (program_of i.journal.entries e.seat.number) i.tables =
    outcome_from i.journal i.tables i.lanes c.args.place c.args.txn e c.state-state.result.now c.outcome-outcome.result st c.outcome-outcome.ensures
    in
    rw journal (
      ap (is_live i.journal.entries) (sym e.number) ∙ e.live,
      outcome ∙ ap (λ n. outcome_of (program_of i.journal.entries n) i.tables) e.number ∙ ap (outcome_of (program_of i.journal.entries c.args.txn)) c.self.invariant.0.sound.right.serial,
    )

-- the tables, the seats and whom the commit takes back, where the branches join
cut_step : (c : After-deref-2) (e : IsEndAt c.self.inside.journal c.self.inside.tables c.self.inside.lanes c.args.place c.args.txn) → c.state-state.result.now ≡ e.seat.optimistic.state
    → IsCutStep c.self.inside.journal c.self.inside.tables c.self.inside.lanes e.seat c.if-is_done.self-inside.tables c.if-is_done.self-inside.lanes (map resumed_pair c.if-is_done.self-inside.resumed.items)
cut_step c e st =
    let i = c.self.inside in
    let outcome : c.outcome-outcome.result ≡ outcome_of (program_of i.journal.entries e.seat.number) i.tables =
    outcome_from i.journal i.tables i.lanes c.args.place c.args.txn e c.state-state.result.now c.outcome-outcome.result st c.outcome-outcome.ensures
    in
    let said : is_done_of (outcome_of (program_of i.journal.entries e.seat.number) i.tables) ≡ c.is_done.result = ap is_done_of (sym outcome) ∙ sym c.is_done.ensures in
    elim c.if-is_done.branch [
      | then-is_done w ↦
          done_step i.journal i.tables i.txns.items (numbers_waiting i.waiting) i.lanes c.args.place c.args.txn c.self.invariant.0 e c.if-is_done.self-inside.tables c.if-is_done.self-inside.lanes (map resumed_pair c.if-is_done.self-inside.resumed.items)
          (said ∙ w.if-is_done.true)
          (ap (λ (x : Inside). x.tables) w.self-inside-is ∙ w.lay_over.ensures ∙ ap (λ ws. over ws i.tables) (w.writes.ensures.set ∙ ap (λ (x : Held). x.writes) st))
          (ap (λ (x : Inside). x.lanes) w.self-inside-is ∙ w.cut_others.ensures.seats e.seat e.there ∙ ap (λ kept. record i.lanes { seats = map (seat_after i.lanes.items kept e.seat) i.lanes.seats }) w.deref.ensures.value)
          (ap (λ (x : Inside). map resumed_pair x.resumed.items) w.self-inside-is ∙ w.cut_others.ensures.resumed e.seat e.there
          ∙ ap (λ xs. map resumed_pair xs ++ filter_map (taken_back i.lanes.items w.deref.result.now e.seat) i.lanes.seats) c.clear.ensures.items
          ∙ ap (λ kept. filter_map (taken_back i.lanes.items kept e.seat) i.lanes.seats) w.deref.ensures.value)
      | else-is_done w ↦
          undone_step i.journal i.tables i.txns.items (numbers_waiting i.waiting) i.lanes c.args.place c.args.txn c.self.invariant.0 e c.if-is_done.self-inside.tables c.if-is_done.self-inside.lanes (map resumed_pair c.if-is_done.self-inside.resumed.items)
          (said ∙ w.if-is_done.false)
          (ap (λ (x : Inside). x.tables) w.self-inside-is)
          (ap (λ (x : Inside). x.lanes) w.self-inside-is)
          (ap (λ (x : Inside). map resumed_pair x.resumed.items) w.self-inside-is ∙ ap (map resumed_pair) c.clear.ensures.items)
    ]

-- the rest of the fields there is as it was
same_journal : (c : After-deref-2) → c.if-is_done.self-inside.journal ≡ c.self.inside.journal
same_journal c = elim c.if-is_done.branch [ then-is_done w ↦ ap (λ (x : Inside). x.journal) w.self-inside-is | else-is_done w ↦ ap (λ (x : Inside). x.journal) w.self-inside-is ]

same_txns : (c : After-deref-2) → c.if-is_done.self-inside.txns.items ≡ c.self.inside.txns.items
same_txns c = elim c.if-is_done.branch [ then-is_done w ↦ ap (λ (x : Inside). x.txns.items) w.self-inside-is | else-is_done w ↦ ap (λ (x : Inside). x.txns.items) w.self-inside-is ]

same_rooms : (c : After-deref-2) → c.if-is_done.self-inside.rooms.items ≡ slice_set c.self.inside.rooms.items (c.args.txn - 1) 0
same_rooms c = elim c.if-is_done.branch [ then-is_done w ↦ ap (λ (x : Inside). x.rooms.items) w.self-inside-is | else-is_done w ↦ ap (λ (x : Inside). x.rooms.items) w.self-inside-is ] ∙ c.take_room-room.ensures.left

same_line : (c : After-deref-2) → c.if-is_done.self-inside.waiting ≡ c.self.inside.waiting
same_line c = elim c.if-is_done.branch [ then-is_done w ↦ ap (λ (x : Inside). x.waiting) w.self-inside-is | else-is_done w ↦ ap (λ (x : Inside). x.waiting) w.self-inside-is ]

same_waiting : (c : After-deref-2) → numbers_waiting c.if-is_done.self-inside.waiting ≡ numbers_waiting c.self.inside.waiting
same_waiting c = ap numbers_waiting (same_line c)

still_queued : (c : After-deref-2) → AreQueued c.if-is_done.self-inside.txns.items c.if-is_done.self-inside.waiting
still_queued c = rw (same_txns c, same_line c) c.self.invariant.2

same_room : (c : After-deref-2) → vec_capacity c.if-is_done.self-inside.resumed ≡ vec_capacity c.self.inside.resumed
same_room c = elim c.if-is_done.branch [
  | then-is_done w ↦ ap (λ (x : Inside). vec_capacity x.resumed) w.self-inside-is ∙ w.cut_others.ensures.capacity ∙ c.clear.ensures.capacity
  | else-is_done w ↦ ap (λ (x : Inside). vec_capacity x.resumed) w.self-inside-is ∙ c.clear.ensures.capacity
]

-- the commit is written, and its transaction is not started any more
written : (c : After-deref-2) (e : IsEndAt c.self.inside.journal c.self.inside.tables c.self.inside.lanes c.args.place c.args.txn) → c.state-state.result.now ≡ e.seat.optimistic.state
    → IsWritten c.self.inside.journal c.self.inside.tables c.self.inside.lanes c.args.place c.args.txn e c.if-is_done.self-inside.lanes c.push_reserved.new.self c.remove.new.self
written c e st =
    let i = c.self.inside in
    let outcome : c.outcome-outcome.result ≡ outcome_of (program_of i.journal.entries e.seat.number) i.tables =
    outcome_from i.journal i.tables i.lanes c.args.place c.args.txn e c.state-state.result.now c.outcome-outcome.result st c.outcome-outcome.ensures
    in
    record {
      opening = c.push_reserved.ensures.opening ∙ ap (λ (j : Recorded). j.opening) (same_journal c);
      entries = c.push_reserved.ensures.entries ∙ ap (λ (j : Recorded). j.entries ++ Committed c.args.txn c.outcome-outcome.result ∷ []) (same_journal c) ∙ ap (λ o. i.journal.entries ++ Committed c.args.txn o ∷ []) outcome;
      room = c.push_reserved.ensures.room ∙ ap (λ (j : Recorded). j.spare) (same_journal c);
      left_are = c.remove.ensures;
    }

-- all is kept before one that waits may start
unstarted : (c : After-deref-2) (e : IsEndAt c.self.inside.journal c.self.inside.tables c.self.inside.lanes c.args.place c.args.txn) → c.state-state.result.now ≡ e.seat.optimistic.state
    → IsUnstarted c.push_reserved.new.self c.if-is_done.self-inside.tables c.if-is_done.self-inside.txns.items (numbers_waiting c.if-is_done.self-inside.waiting) c.remove.new.self (map started_of c.remove.new.self.seats)
unstarted c e st =
    let i = c.self.inside in
    let x = c.if-is_done.self-inside in
    rw (same_txns c, same_waiting c)
    (written_keeps i.journal i.tables i.txns.items (numbers_waiting i.waiting) i.lanes c.args.place c.args.txn c.self.invariant.0 e x.tables x.lanes (map resumed_pair x.resumed.items) (cut_step c e st) c.push_reserved.new.self c.remove.new.self (written c e st))

pub start_waiting-self-inside-requires-clause-carried :
    goal.start_waiting-self-inside-requires-clause-carried
start_waiting-self-inside-requires-clause-carried c =
    let x = c.if-is_done.self-inside in
    let e = ending (goal.at.start_waiting-self-inside-requires-clause-carried c).After-self in
    let st = state_is (goal.at.start_waiting-self-inside-requires-clause-carried c).After-state-state e in
    rw c.deref-2.ensures.value (queue_carried c.push_reserved.new.self x.tables x.txns.items (numbers_waiting x.waiting) c.remove.new.self (map started_of c.remove.new.self.seats) (unstarted c e st))

pub start_waiting-self-inside-requires-clause-apart :
    goal.start_waiting-self-inside-requires-clause-apart
start_waiting-self-inside-requires-clause-apart c =
    let x = c.if-is_done.self-inside in
    let e = ending (goal.at.start_waiting-self-inside-requires-clause-apart c).After-self in
    let st = state_is (goal.at.start_waiting-self-inside-requires-clause-apart c).After-state-state e in
    queue_apart c.push_reserved.new.self x.tables x.txns.items (numbers_waiting x.waiting) c.remove.new.self (map started_of c.remove.new.self.seats) (unstarted c e st)

pub start_waiting-self-inside-requires-clause-queued :
    goal.start_waiting-self-inside-requires-clause-queued
start_waiting-self-inside-requires-clause-queued c = rw c.deref-2.ensures.value (still_queued c)

-- one that waits may have started
filled : (c : After-deref-3) → IsFilled c.if-is_done.self-inside.txns.items (numbers_waiting c.if-is_done.self-inside.waiting) c.remove.new.self c.start_waiting-self-inside.result (numbers_waiting c.start_waiting-self-inside.new.waiting) c.start_waiting-self-inside.new.lanes
filled c =
    let w = c.start_waiting-self-inside in
    let left = c.remove.new.self in
    record {
      next = w.ensures.next ∙ ap (λ kept. next_of kept (length left.seats) left.lanes (numbers_waiting c.if-is_done.self-inside.waiting)) c.deref-2.ensures.value;
      seats_are = w.ensures.lanes ∙ ap (λ kept. record left { seats = seats_with_some kept left.items w.result left.seats }) c.deref-2.ensures.value;
      queue_is = w.ensures.waiting;
    }

pub renew_marked-requires : goal.renew_marked-requires
renew_marked-requires c =
    let x = c.if-is_done.self-inside in
    let j = c.push_reserved.new.self in
    let left = c.remove.new.self in
    let before = map started_of left.seats in
    let w = c.start_waiting-self-inside in
    let e = ending (goal.at.renew_marked-requires c).After-self in
    let st = state_is (goal.at.renew_marked-requires c).After-state-state e in
    rw c.deref-3.ensures.value
    (unsettled_carried j x.tables x.txns.items (numbers_waiting w.new.waiting) w.new.lanes before
    (filled_keeps j x.tables x.txns.items (numbers_waiting x.waiting) left before w.result (numbers_waiting w.new.waiting) w.new.lanes (unstarted (goal.at.renew_marked-requires c).After-deref-2 e st) (filled (goal.at.renew_marked-requires c).After-deref-3)))

-- and all were renewed
refilled : (c : After-renew_marked) → IsFilled c.if-is_done.self-inside.txns.items (numbers_waiting c.if-is_done.self-inside.waiting) c.remove.new.self c.start_waiting-self-inside.result (numbers_waiting c.start_waiting-self-inside.new.waiting) c.start_waiting-self-inside.new.lanes
    → IsRefilled c.if-is_done.self-inside.txns.items (numbers_waiting c.if-is_done.self-inside.waiting) c.remove.new.self c.start_waiting-self-inside.result (numbers_waiting c.start_waiting-self-inside.new.waiting) c.start_waiting-self-inside.new.lanes c.renew_marked.new.lanes
refilled c fill =
    let lanes = c.start_waiting-self-inside.new.lanes in
    record {
      filled = fill;
      renewed_are =
          c.renew_marked.ensures ∙ ap (λ kept. record lanes { seats = all_renewed lanes.most lanes.items kept lanes.seats }) c.deref-3.ensures.value;
    }

-- its code is there

pub free_code-requires-clause-least : goal.free_code-requires-clause-least
free_code-requires-clause-least c = (there (goal.at.free_code-requires-clause-least c).After-self).0

pub free_code-requires-clause-most : goal.free_code-requires-clause-most
free_code-requires-clause-most c =
    let most = (there (goal.at.free_code-requires-clause-most c).After-self).1 in
    let rooms = c.self.invariant.3.many in
    let txns = c.self.invariant.0.txns.many in
    let same = ap length (same_txns (goal.at.free_code-requires-clause-most c).After-deref-2) in
    omega (arith, most, rooms, txns, same)

pub invariant_of-self : goal.invariant_of-self
invariant_of-self c =
    let i = c.self.inside in
    let x = c.if-is_done.self-inside in
    let j = c.push_reserved.new.self in
    let left = c.remove.new.self in
    let before = map started_of left.seats in
    let w = c.start_waiting-self-inside in
    let e = ending (goal.at.invariant_of-self c).After-self in
    let st = state_is (goal.at.invariant_of-self c).After-state-state e in
    let a = (goal.at.invariant_of-self c).After-deref-2 in
    let u = unstarted a e st in
    let fill = filled (goal.at.invariant_of-self c).After-deref-3 in
    let re = refilled (goal.at.invariant_of-self c).After-renew_marked fill in
    let lanes : c.renew_marked.new.lanes.lanes ≡ i.lanes.lanes =
    refilled_lanes j x.tables x.txns.items (numbers_waiting x.waiting) left before w.result (numbers_waiting w.new.waiting) w.new.lanes c.renew_marked.new.lanes u re
    ∙ written_lanes i.journal i.tables i.txns.items (numbers_waiting i.waiting) i.lanes c.args.place c.args.txn c.self.invariant.0 e x.tables x.lanes (map resumed_pair x.resumed.items) (cut_step a e st) j left (written a e st)
    in
    let kept = refilled_keeps j x.tables x.txns.items (numbers_waiting x.waiting) left before w.result (numbers_waiting w.new.waiting) w.new.lanes c.renew_marked.new.lanes u re in
    let some = (there (goal.at.invariant_of-self c).After-self).0 in
    let gone_now : is_live j.entries c.args.txn ≡ false =
    subst (λ es. is_live es c.args.txn ≡ false) (sym c.push_reserved.ensures.entries) (live-ended x.journal.entries (Committed c.args.txn c.outcome-outcome.result) c.args.txn (eq-eqb c.args.txn c.args.txn refl))
    in (
      rw c.free_code.ensures (freed-forest j x.tables x.txns.items (numbers_waiting w.new.waiting) c.renew_marked.new.lanes c.args.txn (counts j.opening j.entries kept.sound.right.legal) some gone_now kept),
      rw (lanes, same_room a) c.self.invariant.1,
      rw c.free_code.ensures (freed-queued (c.args.txn - 1) x.txns.items w.new.waiting (subst (λ xs. AreQueued xs w.new.waiting) c.deref-2.ensures.value w.ensures.queued)),
      rw (c.push_reserved.ensures.entries, same_journal a, same_rooms a)
          (rooms_committed i.journal.entries i.rooms.items c.args.txn c.outcome-outcome.result c.self.invariant.3 (there (goal.at.invariant_of-self c).After-self).0 (counts i.journal.opening i.journal.entries c.self.invariant.0.sound.right.legal)),
    )

pub returns : goal.returns
returns c = λ r found.
    let i = c.self.inside in
    let x = c.if-is_done.self-inside in
    let f : Forest = forest_of i.journal i.tables i.lanes in
    let j = c.push_reserved.new.self in
    let left = c.remove.new.self in
    let before = map started_of left.seats in
    let w = c.start_waiting-self-inside in
    let e = ending (goal.at.returns c).After-self in
    let st = state_is (goal.at.returns c).After-state-state e in
    let a = (goal.at.returns c).After-deref-2 in
    let u = unstarted a e st in
    let fill = filled (goal.at.returns c).After-deref-3 in
    let v : f ≡ c.args.self.now.numbers = ap (λ (y : View). y.numbers) c.self.view_is in
    let same : started_of e.seat ≡ r = same_ending i.journal i.tables i.lanes c.args.place c.args.txn e r (ap (λ (y : Forest). find_started y.started c.args.txn) v ∙ found) in
    let step = cut_step a e st in
    let is = written a e st in
    let re = refilled (goal.at.returns c).After-renew_marked fill in
    let now : forest_of j x.tables c.renew_marked.new.lanes ≡ committed f r =
    refilled_forest j x.tables x.txns.items (numbers_waiting x.waiting) left before w.result (numbers_waiting w.new.waiting) w.new.lanes c.renew_marked.new.lanes u re
    ∙ written_settles i.journal i.tables i.txns.items (numbers_waiting i.waiting) i.lanes c.args.place c.args.txn c.self.invariant.0 e x.tables x.lanes (map resumed_pair x.resumed.items) step j left is
    ∙ ap (committed f) same
    in
    let told : map resumed_pair x.resumed.items ≡ resumed f r =
    written_back i.journal i.tables i.txns.items (numbers_waiting i.waiting) i.lanes c.args.place c.args.txn c.self.invariant.0 e x.tables x.lanes (map resumed_pair x.resumed.items) step j left is
    ∙ ap (resumed f) same
    in
    let who : w.result ≡ next_to_start (laid f r) =
    fill.next ∙ next_is j x.tables x.txns.items (numbers_waiting x.waiting) left before u
    ∙ ap next_to_start (written_forest i.journal i.tables i.txns.items (numbers_waiting i.waiting) i.lanes c.args.place c.args.txn c.self.invariant.0 e x.tables x.lanes (map resumed_pair x.resumed.items) step j left is)
    ∙ ap (λ y. next_to_start (laid f y)) same
    in
    let view : told_commit c.args.self.now c.args.txn (committed c.args.self.now.numbers r) ≡ record { numbers = committed f r; resumed = resumed f r; starts = next_to_start (laid f r) } =
    told_view c.args.self.now c.args.txn r found ∙ ap (λ (y : Forest). record { numbers = committed y r; resumed = resumed y r; starts = next_to_start (laid y r) }) (sym v)
    in
    rw (now, told, who) (sym view)
