use Rattle.std.proofs.Common.{◌∙◌, ap, sym, subst, length, ◌<◌, ◌≡◌}
use Rattle.std.specs.Prelude.{Some, slice_get}
use Rattle.shadow_state.specs.Bank.{Sides, with_state}
use Rattle.shadow_state.proofs.Places.{get_at}
use Rattle.shadow_state.proofs.Kept.{slot_set}
use Rattle.shadow_state.proofs.lane.Lane.run_local.Goals as goal

pub returns-clause-run : goal.returns-clause-run
returns-clause-run g c =
    let old = c.index_mut.result.now in
    let new = c.run_local.new.self in
    let lt : c.args.slot < length c.self.inside.present.items = subst (λ (l : Sides). c.args.slot < length l.present) (sym c.self.view_is) c.requires.slot in
    let at : slice_get c.args.self.now.present c.args.slot ≡ Some old = ap (λ (l : Sides). slice_get l.present c.args.slot) (sym c.self.view_is) ∙ get_at _ _ _ lt c.index_mut.ensures.value in
    let e : new ≡ with_state new.state old = λ i. record { state = new.state; out = c.run_local.ensures.out i } in
    (old, new.state, (at, (slot_set c.args.self.now _ _ c.args.slot _ _ (with_state new.state) c.self.view_is c.requires.slot c.index_mut.ensures.value e, c.run_local.ensures.run)))
