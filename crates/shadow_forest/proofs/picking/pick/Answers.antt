use Rattle.std.proofs.Common.{◌≡◌, Some, take, ap, sym, ◌∙◌, arith}
use Rattle.std.specs.Prelude.{slice_get}
use Rattle.forest_model.specs.Pick.{pick_of}
use Rattle.shadow_lanes.specs.Seats.{Seat}
use Rattle.shadow_forest.specs.Parts.{all_rows}
use Rattle.shadow_forest.proofs.Elements.{placed, take-more}
use Rattle.shadow_forest.proofs.Rows.{all_rows-push}
use Rattle.shadow_forest.proofs.picking.pick.Goals as goal

pub loop-place-preserved : goal.loop-place-preserved
loop-place-preserved c =
    let there : (r : Seat) × (slice_get c.args.lanes.now.seats c.loop-place.place ≡ Some r) = placed c.args.lanes.now.seats c.loop-place.place (omega arith) in
    c.pick_at-best.ensures there.0 (all_rows c.args.txns.now (take c.loop-place.place c.args.lanes.now.seats)) there.1 c.loop-place.invariant
    ∙ (ap pick_of (sym (all_rows-push c.args.txns.now (take c.loop-place.place c.args.lanes.now.seats) there.0))
    ∙ ap (λ seats. pick_of (all_rows c.args.txns.now seats)) (sym (take-more c.args.lanes.now.seats c.loop-place.place there.0 there.1)))
