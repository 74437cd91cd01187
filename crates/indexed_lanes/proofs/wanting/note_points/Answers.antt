use Rattle.std.proofs.Common.{◌≡◌, ◌<◌, ◌++◌, [], ◌∷◌, length, filter_map, slice_get, ap, sym, ◌∙◌, arith}
use Rattle.std.proofs.lemmas.List.{take_all, length_push}
use Rattle.indexed_lanes.specs.Wanted.{conflict_between}
use Rattle.indexed_lanes.proofs.Passing.{filter_map_more-none, filter_map_more-some}
use Rattle.shadow_state.proofs.Places.{some_at}
use Rattle.shadow_lanes.specs.Seats.{Seat}
use Rattle.shadow_lanes.proofs.Lists.{got_map}
use Rattle.indexed_lanes.proofs.wanting.note_points.Goals as goal
use Rattle.indexed_lanes.proofs.wanting.note_points.Goals.{in-None, in-Some}

pub loop-other-init : goal.loop-other-init
loop-other-init c = record { points = λ r is. c.requires.empty; few = omega (arith, ap length c.requires.empty) }

pub push-requires : goal.push-requires
push-requires c = let few = c.len-other-end.ensures.seats in (omega arith, omega (arith, c.loop-other.invariant.few, c.loop-other-test.true, c.len-other-end.ensures.len, few.few, few.many))

pub conflict-requires-clause-number : goal.conflict-requires-clause-number
conflict-requires-clause-number c = λ r is. sym (got_map (λ (x : Seat). x.number) (slice_get c.args.lanes.now.seats c.args.place) r c.number-number.result is c.number-number.ensures)

pub loop-other-preserved : goal.loop-other-preserved
loop-other-preserved c =
    let lt : c.loop-other.other < length c.args.lanes.now.seats = omega (arith, c.loop-other-test.true, c.len-other-end.ensures.len) in
    let here = some_at c.args.lanes.now.seats c.loop-other.other lt in
    elim c.match-conflict.branch [
      | in-None w ↦
          record {
            points =
                λ r is. ap (λ v. v.items) w.points-is ∙ c.loop-other.invariant.points r is
                ∙ sym (filter_map_more-none (conflict_between c.args.next r) c.args.lanes.now.seats c.loop-other.other here.0 here.1 (sym (c.conflict.ensures r here.0 is here.1) ∙ w.in-None.is));
            few = omega (arith, ap (λ v. length v.items) w.points-is, c.loop-other.invariant.few);
          }
      | in-Some w ↦
          let pushed : c.match-conflict.points.items ≡ c.loop-other.points.items ++ w.in-Some.pair ∷ [] = ap (λ v. v.items) w.points-is ∙ w.push.ensures.items in
          record {
            points =
                λ r is. pushed ∙ ap (λ ps. ps ++ w.in-Some.pair ∷ []) (c.loop-other.invariant.points r is)
                ∙ sym (filter_map_more-some (conflict_between c.args.next r) c.args.lanes.now.seats c.loop-other.other here.0 w.in-Some.pair here.1 (sym (c.conflict.ensures r here.0 is here.1) ∙ w.in-Some.is));
            few = omega (arith, ap length pushed, length_push c.loop-other.points.items w.in-Some.pair, c.loop-other.invariant.few);
          }
    ]

pub returns-clause-limits : goal.returns-clause-limits
returns-clause-limits c = c.len-other-end.ensures.seats

pub returns-clause-points : goal.returns-clause-points
returns-clause-points c =
    λ r is. c.loop-other.invariant.points r is
    ∙ ap (filter_map (conflict_between c.args.next r)) (take_all c.loop-other.other c.args.lanes.now.seats (omega (arith, c.loop-other-test.false, c.len-other-end.ensures.len)))
