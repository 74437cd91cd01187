use Rattle.std.proofs.Common.{◌≡◌, ◌<◌, ◌≤◌, Some, length, slice_get, ◌∙◌, arith}
use Rattle.shadow_lanes.specs.Seats.{Seat}
use Rattle.shadow_forest.proofs.Places.{slice_get-some}
use Rattle.shadow_forest.proofs.Renewing.{renewing_more, renewing_still, renewing_next, renewing_carried, renewing_all, renewing_wanted}
use Rattle.shadow_forest.proofs.settling.renew_marked.Goals as goal
use Rattle.shadow_forest.proofs.settling.renew_marked.Goals.{then-changed, else-changed}

pub renew_at-requires-clause-carried : goal.renew_at-requires-clause-carried
renew_at-requires-clause-carried c = renewing_carried c.args.lanes.now c.args.txns.now c.loop-place.lanes c.loop-place.place c.loop-place.invariant c.requires

pub loop-place-preserved : goal.loop-place-preserved
loop-place-preserved c =
    let start = c.args.lanes.now in
    let lt : c.loop-place.place < length start.seats = omega (arith, c.loop-place-test.true, c.len-place-end.ensures.len) in
    let here : (r : Seat) × (slice_get start.seats c.loop-place.place ≡ Some r) = slice_get-some start.seats c.loop-place.place lt in
    let there : slice_get c.loop-place.lanes.seats c.loop-place.place ≡ Some here.0 = renewing_next start c.args.txns.now c.loop-place.lanes c.loop-place.place here.0 c.loop-place.invariant here.1 in
    elim c.if-changed.branch [
      | then-changed w ↦
          w.lanes-is
          ∙ renewing_more start c.args.txns.now c.loop-place.lanes w.renew_at.new.lanes c.loop-place.place here.0 c.loop-place.invariant here.1 (w.renew_at.ensures here.0 there)
      | else-changed w ↦
          w.lanes-is
          ∙ renewing_still start c.args.txns.now c.loop-place.lanes c.loop-place.place here.0 c.loop-place.invariant here.1 (c.changed.ensures w.if-changed.false here.0 there)
    ]

pub settled-requires : goal.settled-requires
settled-requires c =
    let le : length c.args.lanes.now.seats ≤ c.loop-place.place = omega (arith, c.loop-place-test.false, c.len-place-end.ensures.len) in
    renewing_wanted c.args.lanes.now c.args.txns.now c.loop-place.lanes c.loop-place.place c.loop-place.invariant le

pub returns : goal.returns
returns c =
    let le : length c.args.lanes.now.seats ≤ c.loop-place.place = omega (arith, c.loop-place-test.false, c.len-place-end.ensures.len) in
    c.settled.ensures ∙ renewing_all c.args.lanes.now c.args.txns.now c.loop-place.lanes c.loop-place.place c.loop-place.invariant le
