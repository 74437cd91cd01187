use Rattle.std.proofs.Common.{◌≡◌, ◌<◌, not, length, Some, ap, sym, subst, ◌∙◌}
use Rattle.std.specs.Prelude.{slice_get}
use Rattle.txn_interp.specs.State.{Held}
use Rattle.forest_model.specs.Forest.{is_ended}
use Rattle.shadow_lanes.specs.Seats.{started_of}
use Rattle.shadow_forest.specs.View.{View}
use Rattle.shadow_forest.specs.Kept.{numbers_waiting}
use Rattle.shadow_forest.proofs.OptimisticCall.{first_state}
use Rattle.shadow_forest.proofs.Seen.{seat-at}
use Rattle.shadow_forest.proofs.forest.Forest.goes_on.Goals as goal

pub returns : goal.returns
returns c = λ r e.
    let i = c.self.inside in
    let at = seat-at i.journal i.tables i.txns.items (numbers_waiting i.waiting) i.lanes c.self.invariant.0 c.args.place (subst (λ (v : View). c.args.place < length v.numbers.started) (sym c.self.view_is) c.requires) in
    let state : c.state.result.now ≡ at.seat.optimistic.state = first_state i.lanes c.args.place at.seat c.state.result.now at.there c.state.ensures.state in
    let started : r ≡ started_of at.seat = at.numbers r (subst (λ (v : View). slice_get v.numbers.started c.args.place ≡ Some r) (sym c.self.view_is) e) in
    ap not
    (c.ended.ensures.done ∙ ap (λ (x : Held). x.done) state ∙ at.seen.ended
    ∙ ap (λ (v : View). is_ended v.numbers (started_of at.seat)) c.self.view_is
    ∙ ap (is_ended c.args.self.now.numbers) (sym started))
