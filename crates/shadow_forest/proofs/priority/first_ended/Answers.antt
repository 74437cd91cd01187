use Rattle.std.proofs.Common.{◌≡◌, ◌<◌, Some, length, refl, ap, sym, ◌∙◌, arith, subst, IfSome}
use Rattle.std.proofs.lemmas.List.{take_all}
use Rattle.forest_model.specs.Choose.{first_by}
use Rattle.shadow_lanes.specs.Seats.{Seat}
use Rattle.shadow_forest.specs.Parts.{is_prior_at, later_of}
use Rattle.shadow_forest.specs.Ready.{IsAmong, IsCarried}
use Rattle.shadow_forest.proofs.Places.{all-at, slice_get-some}
use Rattle.shadow_forest.proofs.SeatPlaces.{number-at, state-at}
use Rattle.shadow_forest.proofs.Firsts.{ended_numbers, first_ended_more, first_ended_same, later_of-has, among_carried}
use Rattle.shadow_forest.proofs.priority.first_ended.Goals as goal
use Rattle.shadow_forest.proofs.priority.first_ended.Goals.{then-ended, else-ended}

pub loop-place-init : goal.loop-place-init
loop-place-init c = record { first = refl; among = tt }

pub prior-best-requires-clause-best : goal.prior-best-requires-clause-best
prior-best-requires-clause-best c = c.loop-place.invariant.among

pub prior-best-requires-clause-kept : goal.prior-best-requires-clause-kept
prior-best-requires-clause-kept c =
    let lt : c.loop-place.place < length c.args.lanes.now.seats = omega (arith, c.loop-place-test.true, c.len-place-end.ensures.len) in
    let here = slice_get-some c.args.lanes.now.seats c.loop-place.place lt in
    subst (IsAmong (length c.args.txns.now)) (number-at c.args.lanes.now.seats c.loop-place.place here.0 c.number.result here.1 c.number.ensures)
    (among_carried c.args.lanes.now.items c.args.txns.now here.0.number
    (all-at (λ (r : Seat). IsCarried c.args.lanes.now.items c.args.txns.now r.number) c.args.lanes.now.seats c.loop-place.place here.0 here.1 c.requires))

pub loop-place-preserved : goal.loop-place-preserved
loop-place-preserved c =
    let lt : c.loop-place.place < length c.args.lanes.now.seats = omega (arith, c.loop-place-test.true, c.len-place-end.ensures.len) in
    let here = slice_get-some c.args.lanes.now.seats c.loop-place.place lt in
    let among : IsAmong (length c.args.txns.now) here.0.number =
    among_carried c.args.lanes.now.items c.args.txns.now here.0.number
    (all-at (λ (r : Seat). IsCarried c.args.lanes.now.items c.args.txns.now r.number) c.args.lanes.now.seats c.loop-place.place here.0 here.1 c.requires)
    in
    let done = ap (λ s. s.done) (state-at c.args.lanes.now.seats c.loop-place.place here.0 c.state.result.now here.1 c.state.ensures.state) ∙ sym c.ended.ensures.done in
    elim c.if-ended.branch [
      | then-ended w ↦
          let best : c.if-ended.best ≡ Some (later_of (is_prior_at c.args.txns.now) c.loop-place.best here.0.number) =
          w.best-is ∙ w.prior-best.ensures
          ∙ ap (λ t. Some (later_of (is_prior_at c.args.txns.now) c.loop-place.best t)) (sym (number-at c.args.lanes.now.seats c.loop-place.place here.0 w.number.result here.1 w.number.ensures))
          in
          record {
            first = best ∙ first_ended_more c.args.txns.now c.args.lanes.now.seats c.loop-place.place here.0 c.loop-place.best here.1 (done ∙ w.if-ended.true) c.loop-place.invariant.first;
            among =
                subst (λ o. IfSome o (IsAmong (length c.args.txns.now))) (sym best)
                (later_of-has (IsAmong (length c.args.txns.now)) (is_prior_at c.args.txns.now) c.loop-place.best here.0.number c.loop-place.invariant.among among);
          }
      | else-ended w ↦
          record {
            first = w.best-is ∙ first_ended_same c.args.txns.now c.args.lanes.now.seats c.loop-place.place here.0 c.loop-place.best here.1 (done ∙ w.if-ended.false) c.loop-place.invariant.first;
            among = subst (λ o. IfSome o (IsAmong (length c.args.txns.now))) (sym w.best-is) c.loop-place.invariant.among;
          }
    ]

pub returns : goal.returns
returns c =
    c.loop-place.invariant.first
    ∙ ap (λ seats. first_by (is_prior_at c.args.txns.now) (ended_numbers seats))
    (take_all c.loop-place.place c.args.lanes.now.seats (omega (arith, c.loop-place-test.false, c.len-place-end.ensures.len)))
