use Rattle.std.proofs.Common.{◌≡◌, ◌≢◌, ◌∙◌, ap, ap₂, arith, sym, subst, length, inl, true≢false}
use Rattle.txn_runs.specs.declared.kind.Kind.TheVariants.{Ended}
use Rattle.std.proofs.lemmas.Option.{same_Some}
use Rattle.shadow_state.specs.Bank.{Slot}
use Rattle.shadow_state.proofs.Places.{some_at}
use Rattle.txn_interp.specs.State.{Held}
use Rattle.txn_interp.specs.Kind.{HasKind}
use Rattle.conflict_index.specs.Index.{lane_at}
use Rattle.shadow_lanes.specs.Seats.{conflicts_of, seat_with, stepped_slot}
use Rattle.index_laws.specs.Noted.{lane_of_run}
use Rattle.indexed_lanes.specs.Noted.{IsKindWithin, lane_after, noted_of}
use Rattle.indexed_lanes.proofs.Notes.{noted_at, first_there, slot_there}
use Rattle.indexed_lanes.proofs.Keeping.{some_kept, changed_kept, slot_kept}
use Rattle.indexed_lanes.proofs.Steps.{runs_of, step_adds, kind_within}
use Rattle.indexed_lanes.proofs.lanes.IndexedLanes.step.Goals as goal

pub next_kind-kind-requires : goal.next_kind-kind-requires
next_kind-kind-requires g c =
    let s = slot_there _ c.state-state.result.now c.state-state.ensures.state in
    let runs = rw (← c.self.view_is) at c.requires.runs in
    rw (sym s.2) (runs_of _ _ _ (runs s.0 s.1).0)

pub step-requires-clause-runs : goal.step-requires-clause-runs
step-requires-clause-runs g c = λ s at.
    let runs = rw (← c.self.view_is) at c.requires.runs in
    (runs_of _ _ _ (runs s at).0, (runs s at).1)

pub invariant_of-self : goal.invariant_of-self
invariant_of-self g c =
    let s = c.self.inside.lanes in
    let e = c.step.ensures.seats in
    let index = c.in-Some.index in
    let kind = c.next_kind-kind.result in
    let h = some_kept s c.self.inside.index index c.in-Some.is c.self.invariant in
    let runs = rw (← c.self.view_is) at c.requires.runs in
    let mine = runs e.0 e.2.0 in
    let now = slot_there _ c.state-state.result.now c.state-state.ensures.state in
    let same : c.state-state.result.now ≡ e.0.state = sym now.2 ∙ ap (λ (x : Slot). x.state) (same_Some now.0 e.0 (sym now.1 ∙ e.2.0)) in
    let has : HasKind c.args.code.now.nodes e.0.state kind = subst (λ (x : Held). HasKind c.args.code.now.nodes x kind) same c.next_kind-kind.ensures.kind in
    let goes : kind ≢ Ended = λ q. true≢false (sym (c.next_kind-kind.ensures.ended.0 q) ∙ ap (λ (x : Held). x.done) same ∙ mine.1) in
    let r = some_at s.seats c.args.place (rw (← c.self.view_is) at c.requires.place) in
    let here = first_there s.seats c.args.place c.args.slot r.0 e.0 r.1 c.if-slot-eq0.true e.2.0 in
    let room : length c.args.tables.now ≡ c.state-state.result.now.log.room = rw (← c.self.view_is) at c.requires.tables ∙ sym c.state-state.ensures.room in
    let within : IsKindWithin (length c.args.tables.now) kind = subst (λ n. IsKindWithin n kind) (sym room) (kind_within c.state-state.result.now.log.room kind c.next_kind-kind.ensures.read_within c.next_kind-kind.ensures.write_within) in
    let adds = step_adds c.args.code.now.nodes c.args.tables.now e.0.state e.1 kind mine.0 has goes within e.2.1.1 in
    let before : lane_at index c.args.place ≡ lane_of_run e.0.state.log.reads e.0.state.writes = noted_at s index c.args.place r.0 h.noted r.1 ∙ ap (λ (x : Slot). lane_of_run x.state.log.reads x.state.writes) (sym here) in
    let position : c.position-position.result ≡ e.0.state.position = c.position-position.ensures ∙ ap (λ (x : Held). x.position) same in
    let lane : lane_after kind c.position-position.result (lane_at index c.args.place) ≡ lane_of_run e.1.log.reads e.1.writes = ap₂ (lane_after kind) position before ∙ adds in
    let after : lane_of_run e.1.log.reads e.1.writes ≡ noted_of (seat_with c.args.slot (stepped_slot e.1) r.0) = ap (λ n. noted_of (seat_with n (stepped_slot e.1) r.0)) (sym c.if-slot-eq0.true) in
    rw e.2.1.0
    (changed_kept s index c.note_step.new.index c.args.place r.0 (seat_with c.args.slot (stepped_slot e.1)) (lane_after kind c.position-position.result (lane_at index c.args.place)) r.1
    (ap (λ n. (seat_with n (stepped_slot e.1) r.0).number) c.if-slot-eq0.true) (lane ∙ after) c.note_step.ensures.items c.note_step.ensures.lanes c.note_step.ensures.marks c.note_step.ensures.unmoved
    (λ none has. inl (ap (λ n. conflicts_of (seat_with n (stepped_slot e.1) r.0)) c.if-slot-eq0.true)) h)

pub invariant_of-self-else-slot-eq0 : goal.invariant_of-self-else-slot-eq0
invariant_of-self-else-slot-eq0 g c =
    let s = c.self.inside.lanes in
    let e = c.step.ensures.seats in
    rw e.2.1.0
    (slot_kept s c.self.inside.index c.args.place c.args.slot (stepped_slot e.1) (λ r at is. absurd (grind (arith, is, c.if-slot-eq0.false))) c.self.invariant)
