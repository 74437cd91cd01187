use Rattle.std.proofs.Common.{◌≡◌, ◌≤◌, ◌++◌, [], ◌∷◌, length, take, ap, sym, ◌∙◌, arith, append_assoc}
use Rattle.std.proofs.lemmas.List.{take_all}
use Rattle.forest_model.specs.Pick.{pick_of}
use Rattle.shadow_lanes.specs.Seats.{Seat, conflicts_of}
use Rattle.shadow_forest.specs.Parts.{seat_rows, deadline_at, row_comes_before}
use Rattle.shadow_forest.proofs.Skipping.{pick-stays}
use Rattle.shadow_forest.proofs.Elements.{mapped-is, take-more}
use Rattle.shadow_forest.proofs.Rows.{rows-many}
use Rattle.shadow_forest.proofs.picking.pick_at.Goals as goal

pub loop-slot-preserved : goal.loop-slot-preserved
loop-slot-preserved c = λ r before e b.
    c.better-best.ensures (before ++ take c.loop-slot.slot (seat_rows c.args.txns.now r)) (c.loop-slot.invariant r before e b)
    ∙ (ap pick_of (append_assoc before (take c.loop-slot.slot (seat_rows c.args.txns.now r)) (c.row_at.result ∷ []))
    ∙ ap (λ rows. pick_of (before ++ rows)) (sym (take-more (seat_rows c.args.txns.now r) c.loop-slot.slot c.row_at.result (c.row_at.ensures r e))))

pub returns-then-comes_first : goal.returns-then-comes_first
returns-then-comes_first c = λ r before e b.
    let number : r.number ≡ c.number-txn.result = sym (mapped-is (λ (x : Seat). x.number) _ r _ c.number-txn.ensures e) in
    pick-stays c.args.txns.now r c.args.best before b
    (ap (λ t. row_comes_before c.args.best t (deadline_at c.args.txns.now t)) number
    ∙ ap (row_comes_before c.args.best c.number-txn.result) (sym c.deadline_of.ensures)
    ∙ sym c.comes_first.ensures ∙ c.if-comes_first.true)

pub returns : goal.returns
returns c = λ r before e b.
    let many : length c.conflicts.result.now ≡ length (conflicts_of r) = ap length (mapped-is conflicts_of _ r _ c.conflicts.ensures e) in
    let all : length (seat_rows c.args.txns.now r) ≤ c.loop-slot.slot = omega (arith, rows-many c.args.txns.now r) in
    c.loop-slot.invariant r before e b ∙ ap (λ rows. pick_of (before ++ rows)) (take_all c.loop-slot.slot (seat_rows c.args.txns.now r) all)
