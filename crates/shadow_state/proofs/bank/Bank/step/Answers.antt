use Rattle.std.proofs.Common.{◌∙◌, ap, sym, subst, length, ◌<◌}
use Rattle.std.specs.Prelude.{slice_get}
use Rattle.shadow_state.specs.Bank.{Banked, AreSides, IsOver, present_in, state_in}
use Rattle.shadow_state.proofs.Places.{get_at, all_get}
use Rattle.shadow_state.proofs.Kept.{lane_set, lane_kept, banked_set, state_sides}
use Rattle.shadow_state.proofs.bank.Bank.step.Goals as goal

pub step-requires-clause-runs : goal.step-requires-clause-runs
step-requires-clause-runs g c =
    let lt : c.args.lane < length c.self.inside.lanes.items = subst (λ (b : Banked). c.args.lane < length b.sides) (sym c.self.view_is) c.requires.lane in
    let at = ap (λ (b : Banked). slice_get b.sides c.args.lane) (sym c.self.view_is) ∙ get_at _ _ _ lt c.index_mut.ensures.value in
    λ s is. c.requires.runs s (ap (λ o. present_in o c.args.slot) at ∙ is)

pub invariant_of-self : goal.invariant_of-self
invariant_of-self g c =
    let items = c.self.inside.items in
    let lt : c.args.lane < length c.self.inside.lanes.items = subst (λ (b : Banked). c.args.lane < length b.sides) (sym c.self.view_is) c.requires.lane in
    let kept = lane_kept items c.self.inside.most _ c.args.lane _ c.self.invariant lt c.index_mut.ensures.value in
    let step = c.step.ensures.step in
    let over = all_get (IsOver items) _ c.args.slot step.0 kept.present.over step.2.0 in
    let one = state_sides items c.self.inside.most c.args.slot step.1 _ (step.2.1.1.room ∙ over) kept in
    banked_set _ _ _ c.args.lane _ c.self.invariant (subst (AreSides items c.self.inside.most) (sym step.2.1.0) one)

pub returns-clause-step : goal.returns-clause-step
returns-clause-step g c =
    let lt : c.args.lane < length c.self.inside.lanes.items = subst (λ (b : Banked). c.args.lane < length b.sides) (sym c.self.view_is) c.requires.lane in
    let at = ap (λ (b : Banked). slice_get b.sides c.args.lane) (sym c.self.view_is) ∙ get_at _ _ _ lt c.index_mut.ensures.value in
    let step = c.step.ensures.step in
    (step.0, step.1, (ap (λ o. present_in o c.args.slot) at ∙ step.2.0, (lane_set c.args.self.now _ _ _ c.args.lane _ _ (state_in c.args.slot step.1) c.self.view_is c.requires.lane c.index_mut.ensures.value step.2.1.0, step.2.1.1)))
