use Rattle.std.proofs.Common.{◌<◌, ◌∙◌, Some, length, ap, sym, subst}
use Rattle.txn_interp.specs.State.{Held}
use Rattle.shadow_state.proofs.Places.{some_at}
use Rattle.shadow_lanes.specs.Seats.{Seat, Seated}
use Rattle.indexed_lanes.specs.Wanted.{wanted_among, IsIndexed}
use Rattle.indexed_lanes.proofs.Notes.{first_state}
use Rattle.indexed_lanes.proofs.Steps.{runs_of}
use Rattle.indexed_lanes.proofs.Keeping.{some_kept, none_kept}
use Rattle.indexed_lanes.proofs.Reading.{IsReady, ready_none, ready_below, IsRead, renewed_slot, read_event, read_kept}
use Rattle.indexed_lanes.specs.declared.lanes.IndexedLanes.TheInside.{Inside}
use Rattle.indexed_lanes.proofs.lanes.IndexedLanes.read.Goals as goal
use Rattle.indexed_lanes.proofs.lanes.IndexedLanes.read.Goals.{in-Some, in_default}

pub have_before_read-requires-clause-kept : goal.have_before_read-requires-clause-kept
have_before_read-requires-clause-kept g c = some_kept c.self.inside.lanes c.self.inside.index c.in-Some.index c.in-Some.is c.self.invariant

pub step-requires-clause-place : goal.step-requires-clause-place
step-requires-clause-place g c =
    let s = c.self.inside.lanes in
    let v = c.match-self.self-inside in
    let lt : c.args.place < length s.seats = rw (← c.self.view_is) at c.requires.place in
    let r = some_at s.seats c.args.place lt in
    let ready : IsReady s c.args.place c.args.item c.args.code.now.nodes r.0 v.lanes =
    elim c.match-self.branch [
      | in-Some w ↦ ap (λ (v : Inside). v.lanes) w.self-inside-is ∙ w.have_before_read.ensures r.0 r.1
      | in_default w ↦ ready_none s v.lanes c.self.inside.index c.args.place c.args.item c.args.code.now.nodes r.0 (ap (λ (v : Inside). v.lanes) w.self-inside-is) w.in_default.is c.self.invariant c.len.ensures.seats r.1
    ]
    in
    ready_below s c.args.place c.args.item c.args.code.now.nodes r.0 v.lanes lt ready

pub step-requires-clause-runs : goal.step-requires-clause-runs
step-requires-clause-runs g c = λ x slot.
    let s = c.self.inside.lanes in
    let v = c.match-self.self-inside in
    let r = some_at s.seats c.args.place (rw (← c.self.view_is) at c.requires.place) in
    let ready : IsReady s c.args.place c.args.item c.args.code.now.nodes r.0 v.lanes =
    elim c.match-self.branch [
      | in-Some w ↦ ap (λ (v : Inside). v.lanes) w.self-inside-is ∙ w.have_before_read.ensures r.0 r.1
      | in_default w ↦ ready_none s v.lanes c.self.inside.index c.args.place c.args.item c.args.code.now.nodes r.0 (ap (λ (v : Inside). v.lanes) w.self-inside-is) w.in_default.is c.self.invariant c.len.ensures.seats r.1
    ]
    in
    let runs = rw (← c.self.view_is) at c.requires.runs in
    let mine = runs r.0 r.1 in
    let same = renewed_slot s v.lanes c.args.place c.args.code.now.nodes (wanted_among s.most (Some c.args.item) s.seats r.0) r.0 x r.1 ready slot in
    rw same (runs_of _ _ _ mine.0, mine.2)

pub step-requires-clause-tables : goal.step-requires-clause-tables
step-requires-clause-tables g c =
    let s = c.self.inside.lanes in
    let v = c.match-self.self-inside in
    let r = some_at s.seats c.args.place (rw (← c.self.view_is) at c.requires.place) in
    let ready : IsReady s c.args.place c.args.item c.args.code.now.nodes r.0 v.lanes =
    elim c.match-self.branch [
      | in-Some w ↦ ap (λ (v : Inside). v.lanes) w.self-inside-is ∙ w.have_before_read.ensures r.0 r.1
      | in_default w ↦ ready_none s v.lanes c.self.inside.index c.args.place c.args.item c.args.code.now.nodes r.0 (ap (λ (v : Inside). v.lanes) w.self-inside-is) w.in_default.is c.self.invariant c.len.ensures.seats r.1
    ]
    in
    (rw (← c.self.view_is) at c.requires.tables) ∙ sym (ap (λ (y : Seated). y.items) ready)

-- the whole call
whole : (g : _) (c : goal.After-step g) → (r : Seat) × IsRead c.self.inside.lanes c.args.place c.args.item c.args.code.now.nodes c.args.tables.now r c.step.ensures.seats.0 c.step.ensures.seats.1 c.match-self.self-inside.lanes c.step.new.self
whole g c =
    let s = c.self.inside.lanes in
    let v = c.match-self.self-inside in
    let r = some_at s.seats c.args.place (rw (← c.self.view_is) at c.requires.place) in
    let ready : IsReady s c.args.place c.args.item c.args.code.now.nodes r.0 v.lanes =
    elim c.match-self.branch [
      | in-Some w ↦ ap (λ (v : Inside). v.lanes) w.self-inside-is ∙ w.have_before_read.ensures r.0 r.1
      | in_default w ↦ ready_none s v.lanes c.self.inside.index c.args.place c.args.item c.args.code.now.nodes r.0 (ap (λ (v : Inside). v.lanes) w.self-inside-is) w.in_default.is c.self.invariant c.len.ensures.seats r.1
    ]
    in
    let runs = rw (← c.self.view_is) at c.requires.runs in
    let mine = runs r.0 r.1 in
    let e = c.step.ensures.seats in (
      r.0,
      record {
        there = r.1;
        runs = mine.0;
        kind = mine.1;
        within = rw c.requires.tables c.requires.item;
        mid_is = ready;
        slot = e.2.0;
        new_is = e.2.1.0;
        steps = e.2.1.1;
      },
    )

pub invariant_of-self : goal.invariant_of-self
invariant_of-self g c =
    let s = c.self.inside.lanes in
    let e = c.step.ensures.seats in
    let all = whole g c in
    elim c.match-self.branch [
      | in-Some w ↦
          subst (λ (v : Inside). IsIndexed c.step.new.self v.index) (sym w.self-inside-is)
          (read_kept s c.args.place c.args.item c.args.code.now.nodes c.args.tables.now all.0 e.0 e.1 c.match-self.self-inside.lanes c.step.new.self all.1 w.in-Some.index w.note_read.new.self c.position-position.result
          (c.position-position.ensures ∙ ap (λ (y : Held). y.position) (first_state s.seats c.args.place all.0 c.state.result.now all.1.there c.state.ensures.state))
          w.note_read.ensures.items w.note_read.ensures.lanes w.note_read.ensures.marks w.note_read.ensures.unmoved
          (some_kept s c.self.inside.index w.in-Some.index w.in-Some.is c.self.invariant))
      | in_default w ↦
          subst (λ (v : Inside). IsIndexed c.step.new.self v.index) (sym w.self-inside-is)
          (subst (IsIndexed c.step.new.self) (sym w.in_default.is)
          (ap (λ (y : Seated). y.most) (read_event s c.args.place c.args.item c.args.code.now.nodes c.args.tables.now all.0 e.0 e.1 c.match-self.self-inside.lanes c.step.new.self all.1).0
          ∙ none_kept s c.self.inside.index w.in_default.is c.self.invariant))
    ]

pub returns-clause-seats : goal.returns-clause-seats
returns-clause-seats g c =
    let s = c.self.inside.lanes in
    let e = c.step.ensures.seats in
    let all = whole g c in
    let event = read_event s c.args.place c.args.item c.args.code.now.nodes c.args.tables.now all.0 e.0 e.1 c.match-self.self-inside.lanes c.step.new.self all.1 in
    rw (← c.self.view_is) (all.0, e.1, (all.1.there, (event.0, event.1)))
