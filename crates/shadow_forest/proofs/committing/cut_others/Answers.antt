use Rattle.std.proofs.Common.{◌<◌, ◌++◌, [], ◌∷◌, ℕ, length, map, refl, ap, sym, ◌∙◌, arith, subst, append-nil}
use Rattle.std.proofs.lemmas.List.{map_push, length_push, take_all}
use Rattle.txn_interp.specs.State.{Carries}
use Rattle.shadow_lanes.specs.Seats.{promoted_seat}
use Rattle.shadow_forest.specs.Answers.{resumed_pair}
use Rattle.shadow_forest.specs.Parts.{seat_after}
use Rattle.shadow_forest.specs.Ready.{IsCarried}
use Rattle.shadow_forest.proofs.Places.{slice_get-some, length-at_place, so_far-all}
use Rattle.shadow_forest.proofs.SeatPlaces.{with_seats}
use Rattle.shadow_forest.proofs.Cutting.{carried-next, cut_found, places_apart, own_passed, uncut_passed, cut_passed}
use Rattle.shadow_forest.proofs.committing.cut_others.Goals as goal
use Rattle.shadow_forest.proofs.committing.cut_others.Goals.{then-number-committed+in-None, then-number-committed+in-Some, else-number-committed}

pub loop-place-init : goal.loop-place-init
loop-place-init c = record {
  cut = record { seats = λ u is. refl; back = λ u is. sym (append-nil (map resumed_pair c.args.resumed.now.items)) };
  long = refl;
  items = refl;
  few = omega arith;
  capacity = refl;
}

pub code_of-requires-clause-least : goal.code_of-requires-clause-least
code_of-requires-clause-least c =
    let lt : c.loop-place.place < length c.args.lanes.now.seats = omega (arith, c.loop-place-test.true, c.len-place-end.ensures.len) in
    (carried-next _ _ _ _ _ _ _ _ c.loop-place.invariant.cut c.requires.of lt c.requires.carried c.number-number.ensures).least

pub code_of-requires-clause-most : goal.code_of-requires-clause-most
code_of-requires-clause-most c =
    let lt : c.loop-place.place < length c.args.lanes.now.seats = omega (arith, c.loop-place-test.true, c.len-place-end.ensures.len) in
    (carried-next _ _ _ _ _ _ _ _ c.loop-place.invariant.cut c.requires.of lt c.requires.carried c.number-number.ensures).most

pub point_between-requires-clause-reader : goal.point_between-requires-clause-reader
point_between-requires-clause-reader c = omega (arith, c.loop-place.invariant.long, c.loop-place-test.true, c.len-place-end.ensures.len)

pub point_between-requires-clause-writer : goal.point_between-requires-clause-writer
point_between-requires-clause-writer c = omega (arith, c.loop-place.invariant.long, c.requires.of)

pub point_between-requires-clause-different : goal.point_between-requires-clause-different
point_between-requires-clause-different c =
    let lt : c.loop-place.place < length c.args.lanes.now.seats = omega (arith, c.loop-place-test.true, c.len-place-end.ensures.len) in
    let next = slice_get-some c.args.lanes.now.seats c.loop-place.place lt in
    places_apart c.args.lanes.now c.loop-place.lanes c.args.txns.now c.args.of c.loop-place.place (map resumed_pair c.args.resumed.now.items) (map resumed_pair c.loop-place.resumed.items) c.number-number.result c.number-committed.result next.0
    c.loop-place.invariant.cut next.1 c.number-number.ensures c.number-committed.ensures c.if-number-committed.true c.requires.of

pub promote-requires-clause-carries : goal.promote-requires-clause-carries
promote-requires-clause-carries c =
    let lt : c.loop-place.place < length c.args.lanes.now.seats = omega (arith, c.loop-place-test.true, c.len-place-end.ensures.len) in
    let carried : IsCarried c.args.lanes.now.items c.args.txns.now c.number-number.result =
    carried-next _ _ _ _ _ _ _ _ c.loop-place.invariant.cut c.requires.of lt c.requires.carried c.number-number.ensures
    in
    subst (λ (m : ℕ). Carries c.code_of.result.now.nodes m) (sym c.loop-place.invariant.items)
    (subst (λ ns. Carries ns c.args.lanes.now.items) (sym c.code_of.ensures) carried.carries)

pub state-requires-clause-place : goal.state-requires-clause-place
state-requires-clause-place c =
    let long = ap (λ s. length s.seats) c.promote.ensures
    ∙ length-at_place c.loop-place.place (promoted_seat c.code_of.result.now.nodes c.loop-place.lanes.items c.in-Some.at) c.loop-place.lanes.seats
    in
    omega (arith, long, c.loop-place.invariant.long, c.loop-place-test.true, c.len-place-end.ensures.len)

pub loop-place-preserved : goal.loop-place-preserved
loop-place-preserved c =
    let lt : c.loop-place.place < length c.args.lanes.now.seats = omega (arith, c.loop-place-test.true, c.len-place-end.ensures.len) in
    let next = slice_get-some c.args.lanes.now.seats c.loop-place.place lt in
    let before = map resumed_pair c.args.resumed.now.items in
    let seen = map resumed_pair c.loop-place.resumed.items in
    elim c.if-number-committed.branch [
      | then-number-committed+in-None w ↦
          record {
            cut =
                uncut_passed c.args.lanes.now c.loop-place.lanes c.args.txns.now c.args.of c.loop-place.place before seen c.number-number.result c.number-committed.result next.0 c.loop-place.invariant.cut next.1
                c.number-number.ensures c.number-committed.ensures c.if-number-committed.lanes (map resumed_pair c.if-number-committed.resumed.items) w.lanes-is (ap (λ v. map resumed_pair v.items) w.resumed-is)
                w.if-number-committed.true
                (λ u is. cut_found c.args.lanes.now c.loop-place.lanes c.args.txns.now c.args.of c.loop-place.place before seen c.number-number.result c.number-committed.result next.0 c.loop-place.invariant.cut next.1
                c.number-number.ensures c.number-committed.ensures w.point_between.result w.point_between.ensures u is ∙ w.in-None.is);
            long = ap (λ s. length s.seats) w.lanes-is ∙ c.loop-place.invariant.long;
            items = ap (λ s. s.items) w.lanes-is ∙ c.loop-place.invariant.items;
            few = omega (arith, ap (λ v. length v.items) w.resumed-is, c.loop-place.invariant.few);
            capacity = ap (λ v. v.cap) w.resumed-is ∙ c.loop-place.invariant.capacity;
          }
      | then-number-committed+in-Some w ↦
          record {
            cut =
                cut_passed c.args.lanes.now c.loop-place.lanes c.args.txns.now c.args.of c.loop-place.place before seen c.number-number.result c.number-committed.result next.0 c.loop-place.invariant.cut next.1
                c.number-number.ensures c.number-committed.ensures c.if-number-committed.lanes (map resumed_pair c.if-number-committed.resumed.items) w.code_of.result.now.nodes w.in-Some.at w.state.result.now
                (w.lanes-is ∙ w.promote.ensures)
                (ap (λ v. map resumed_pair v.items) w.resumed-is
                ∙ ap (map resumed_pair) w.push_reserved.ensures.items
                ∙ map_push resumed_pair c.loop-place.resumed.items (record { txn = c.number-number.result; position = w.position-position.result })
                ∙ ap (λ (p : ℕ). seen ++ (c.number-number.result, p) ∷ []) w.position-position.ensures)
                w.if-number-committed.true
                (λ u is. cut_found c.args.lanes.now c.loop-place.lanes c.args.txns.now c.args.of c.loop-place.place before seen c.number-number.result c.number-committed.result next.0 c.loop-place.invariant.cut next.1
                c.number-number.ensures c.number-committed.ensures w.point_between.result w.point_between.ensures u is ∙ w.in-Some.is)
                w.code_of.ensures
                (rw w.lanes-is w.state.ensures.state);
            long =
                ap (λ s. length s.seats) (w.lanes-is ∙ w.promote.ensures)
                ∙ length-at_place c.loop-place.place (promoted_seat w.code_of.result.now.nodes c.loop-place.lanes.items w.in-Some.at) c.loop-place.lanes.seats
                ∙ c.loop-place.invariant.long;
            items = ap (λ s. s.items) (w.lanes-is ∙ w.promote.ensures) ∙ c.loop-place.invariant.items;
            few =
                omega (
                  arith,
                  ap (λ v. length v.items) w.resumed-is,
                  ap length w.push_reserved.ensures.items,
                  length_push c.loop-place.resumed.items (record { txn = c.number-number.result; position = w.position-position.result }),
                  c.loop-place.invariant.few,
                );
            capacity = ap (λ v. v.cap) w.resumed-is ∙ w.push_reserved.ensures.capacity ∙ c.loop-place.invariant.capacity;
          }
      | else-number-committed w ↦
          record {
            cut =
                own_passed c.args.lanes.now c.loop-place.lanes c.args.txns.now c.args.of c.loop-place.place before seen c.number-number.result c.number-committed.result next.0 c.loop-place.invariant.cut next.1
                c.number-number.ensures c.number-committed.ensures c.if-number-committed.lanes (map resumed_pair c.if-number-committed.resumed.items) w.lanes-is (ap (λ v. map resumed_pair v.items) w.resumed-is)
                w.if-number-committed.false;
            long = ap (λ s. length s.seats) w.lanes-is ∙ c.loop-place.invariant.long;
            items = ap (λ s. s.items) w.lanes-is ∙ c.loop-place.invariant.items;
            few = omega (arith, ap (λ v. length v.items) w.resumed-is, c.loop-place.invariant.few);
            capacity = ap (λ v. v.cap) w.resumed-is ∙ c.loop-place.invariant.capacity;
          }
    ]

pub returns-clause-seats : goal.returns-clause-seats
returns-clause-seats c =
    λ u is. c.loop-place.invariant.cut.seats u is
    ∙ ap (with_seats c.args.lanes.now) (so_far-all (seat_after c.args.lanes.now.items c.args.txns.now u) c.loop-place.place c.args.lanes.now.seats (omega (arith, c.loop-place-test.false, c.len-place-end.ensures.len)))

pub returns-clause-resumed : goal.returns-clause-resumed
returns-clause-resumed c =
    λ u is. rw (take_all c.loop-place.place c.args.lanes.now.seats (omega (arith, c.loop-place-test.false, c.len-place-end.ensures.len))) at (c.loop-place.invariant.cut.back u is)
