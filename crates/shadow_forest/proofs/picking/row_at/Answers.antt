use Rattle.std.proofs.Common.{◌≡◌, Some, ap, ◌∙◌}
use Rattle.std.specs.Prelude.{slice_get}
use Rattle.shadow_state.specs.Bank.{Slot}
use Rattle.shadow_lanes.specs.Seats.{Seat, slots_of, slot_at}
use Rattle.shadow_forest.specs.Parts.{deadline_at, role_in}
use Rattle.shadow_forest.proofs.Elements.{placed, mapped-is}
use Rattle.shadow_forest.proofs.Slots.{slot-found}
use Rattle.shadow_forest.proofs.Rows.{row-there, row-is}
use Rattle.shadow_forest.proofs.picking.row_at.Goals as goal

cell : (c : goal.After-out) (r : Seat) → slice_get c.args.lanes.now.seats c.args.place ≡ Some r → (s : Slot) × (slice_get (slots_of r) c.args.slot ≡ Some s)
cell c r e = placed (slots_of r) c.args.slot (c.requires.slot r e)

found : (c : goal.After-out) (r : Seat) (e : slice_get c.args.lanes.now.seats c.args.place ≡ Some r) → slot_at c.args.lanes.now.seats c.args.place c.args.slot ≡ Some (cell c r e).0
found c r e = slot-found c.args.lanes.now.seats c.args.place c.args.slot r (cell c r e).0 e (cell c r e).1

pub returns : goal.returns
returns c = λ r e.
    let s : Slot = (cell c r e).0 in
    let held : c.state-state.result.now ≡ s.state = mapped-is (λ (s : Slot). s.state) _ s _ c.state-state.ensures.state (found c r e) in
    let number : c.number-txn.result ≡ r.number = mapped-is (λ (r : Seat). r.number) _ r _ c.number-txn.ensures e in
    row-there c.args.txns.now r c.args.slot s (cell c r e).1
    ∙ ap Some (row-is c.number-txn.result c.deadline_of.result r.number (deadline_at c.args.txns.now r.number) c.role_at-role.result (role_in r c.args.slot) c.args.slot c.position.result c.status.result c.ended.result c.out.result s
    number (c.deadline_of.ensures ∙ ap (deadline_at c.args.txns.now) number) (c.role_at-role.ensures.role r e) (c.position.ensures ∙ ap (λ h. h.position) held) (c.ended.ensures.done ∙ ap (λ h. h.done) held) c.status.ensures
    (mapped-is (λ (s : Slot). s.out) _ s _ c.out.ensures (found c r e)))
