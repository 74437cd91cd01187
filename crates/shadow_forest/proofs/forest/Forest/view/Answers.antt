use Rattle.std.proofs.Common.{◌≡◌, ◌<◌, Bool, Option, Some, None, length, ap, sym, ◌∙◌, arith, subst}
use Rattle.std.specs.Prelude.{slice_get}
use Rattle.txn_interp.specs.State.{IsRun}
use Rattle.journal_core.specs.Journal.{program_of}
use Rattle.forest_model.specs.Forest.{Started}
use Rattle.forest_model.specs.Told.{Look, looks}
use Rattle.shadow_state.specs.Bank.{Slot}
use Rattle.shadow_lanes.specs.Seats.{started_of, conflicts_of, slots_of, slot_at}
use Rattle.shadow_forest.specs.Answers.{outs}
use Rattle.shadow_forest.specs.Kept.{numbers_waiting, forest_of}
use Rattle.shadow_forest.specs.Parts.{role_in}
use Rattle.shadow_forest.proofs.Elements.{mapped-is}
use Rattle.shadow_forest.proofs.Slots.{slot-found, slot-there}
use Rattle.shadow_forest.proofs.Seen.{IsAt, seat-at}
use Rattle.shadow_forest.proofs.Looks.{look-is, look-seen, look-past, out-there, out-past, stands-there}
use Rattle.shadow_forest.proofs.forest.Forest.view.Goals as goal

-- Past the last slot.

past-at : (c : goal.Then-slot-conflicts) → IsAt (forest_of c.self.inside.journal c.self.inside.tables c.self.inside.lanes) c.self.inside.txns.items c.self.inside.lanes.seats c.args.at
past-at c =
    seat-at c.self.inside.journal c.self.inside.tables c.self.inside.txns.items (numbers_waiting c.self.inside.waiting) c.self.inside.lanes c.self.invariant.0 c.args.at
    (subst (λ v. c.args.at < length v.numbers.started) (sym c.self.view_is) c.requires)

past-slots : (c : goal.Then-slot-conflicts) → length (conflicts_of (past-at c).seat) < c.args.slot
past-slots c =
    let many : length c.conflicts.result.now ≡ length (conflicts_of (past-at c).seat) = ap length (mapped-is conflicts_of _ (past-at c).seat _ c.conflicts.ensures (past-at c).there) in
    omega arith

past-started : (c : goal.Then-slot-conflicts) (r : Started) → slice_get c.args.self.now.numbers.started c.args.at ≡ Some r → r ≡ started_of (past-at c).seat
past-started c r e = (past-at c).numbers r (subst (λ v. slice_get v.numbers.started c.args.at ≡ Some r) (sym c.self.view_is) e)

pub returns-then-slot-conflicts-clause-look : goal.returns-then-slot-conflicts-clause-look
returns-then-slot-conflicts-clause-look c = λ r e.
    subst (λ v. ◌≡◌ {A = Option Look} None (slice_get (looks v.numbers (Some r)) c.args.slot)) c.self.view_is
    (subst (λ x. ◌≡◌ {A = Option Look} None (slice_get (looks (forest_of c.self.inside.journal c.self.inside.tables c.self.inside.lanes) (Some x)) c.args.slot)) (sym (past-started c r e))
    (sym (look-past _ c.self.inside.txns.items (past-at c).seat c.args.slot (past-at c).seen (past-slots c))))

pub returns-then-slot-conflicts-clause-out : goal.returns-then-slot-conflicts-clause-out
returns-then-slot-conflicts-clause-out c = λ r e.
    subst (λ x. ◌≡◌ {A = Option Bool} None (slice_get (outs (Some x)) c.args.slot)) (sym (past-started c r e)) (sym (out-past (past-at c).seat c.args.slot (past-slots c)))

-- A slot.

at : (c : goal.After-out) → IsAt (forest_of c.self.inside.journal c.self.inside.tables c.self.inside.lanes) c.self.inside.txns.items c.self.inside.lanes.seats c.args.at
at c =
    seat-at c.self.inside.journal c.self.inside.tables c.self.inside.txns.items (numbers_waiting c.self.inside.waiting) c.self.inside.lanes c.self.invariant.0 c.args.at
    (subst (λ v. c.args.at < length v.numbers.started) (sym c.self.view_is) c.requires)

cell : (c : goal.After-out) → (s : Slot) × (slice_get (slots_of (at c).seat) c.args.slot ≡ Some s)
cell c = slot-there (at c).seat c.args.slot c.conflicts.result.now (mapped-is conflicts_of _ (at c).seat _ c.conflicts.ensures (at c).there) c.if-slot-conflicts.false

found : (c : goal.After-out) → slot_at c.self.inside.lanes.seats c.args.at c.args.slot ≡ Some (cell c).0
found c = slot-found c.self.inside.lanes.seats c.args.at c.args.slot (at c).seat (cell c).0 (at c).there (cell c).1

held : (c : goal.After-out) → c.state-state.result.now ≡ (cell c).0.state
held c = mapped-is (λ (s : Slot). s.state) _ (cell c).0 _ c.state-state.ensures.state (found c)

started : (c : goal.After-out) (r : Started) → slice_get c.args.self.now.numbers.started c.args.at ≡ Some r → r ≡ started_of (at c).seat
started c r e = (at c).numbers r (subst (λ v. slice_get v.numbers.started c.args.at ≡ Some r) (sym c.self.view_is) e)

pub returns-clause-look : goal.returns-clause-look
returns-clause-look c = λ r e.
    let told : Option Look = Some (c.role_at-role.result.0, (c.position.result, (c.role_at-role.result.1, c.status.result))) in
    subst (λ v. told ≡ slice_get (looks v.numbers (Some r)) c.args.slot) c.self.view_is
    (subst (λ x. told ≡ slice_get (looks (forest_of c.self.inside.journal c.self.inside.tables c.self.inside.lanes) (Some x)) c.args.slot) (sym (started c r e))
    (look-is c.role_at-role.result (role_in (at c).seat c.args.slot) c.position.result c.position-2.result c.status.result c.ended.result (cell c).0
    (c.role_at-role.ensures.role (at c).seat (at c).there) (c.position.ensures ∙ ap (λ h. h.position) (held c)) (c.position-2.ensures ∙ ap (λ h. h.position) (held c)) (c.ended.ensures.done ∙ ap (λ h. h.done) (held c)) c.status.ensures
    ∙ look-seen _ c.self.inside.txns.items (at c).seat c.args.slot (cell c).0 (at c).seen (cell c).1))

pub returns-clause-out : goal.returns-clause-out
returns-clause-out c = λ r e.
    subst (λ x. ◌≡◌ {A = Option Bool} (Some c.out.result) (slice_get (outs (Some x)) c.args.slot)) (sym (started c r e))
    (ap Some (mapped-is (λ (s : Slot). s.out) _ (cell c).0 _ c.out.ensures (found c)) ∙ out-there (at c).seat c.args.slot (cell c).0 (cell c).1)

pub returns-clause-runs : goal.returns-clause-runs
returns-clause-runs c = λ r e.
    subst (λ v. IsRun (program_of v.numbers.journal r.number) v.numbers.tables c.state-state.result.now) c.self.view_is
    (subst (λ x. IsRun (program_of c.self.inside.journal.entries x.number) c.self.inside.tables c.state-state.result.now) (sym (started c r e))
    (subst (λ h. IsRun (program_of c.self.inside.journal.entries (at c).seat.number) c.self.inside.tables h) (sym (held c))
    (stands-there (program_of c.self.inside.journal.entries (at c).seat.number) c.self.inside.tables (at c).seat c.args.slot (cell c).0 (cell c).1 (at c).seen.stands)))
