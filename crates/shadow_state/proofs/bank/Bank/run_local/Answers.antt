use Rattle.std.proofs.Common.{◌∙◌, ap, sym, subst, length, ◌<◌}
use Rattle.std.specs.Prelude.{slice_get}
use Rattle.shadow_state.specs.Bank.{Banked, AreSides, IsOver, present_in, state_in}
use Rattle.shadow_state.proofs.Places.{get_at, all_get}
use Rattle.shadow_state.proofs.Kept.{lane_set, lane_kept, banked_set, state_sides}
use Rattle.shadow_state.proofs.bank.Bank.run_local.Goals as goal

pub run_local-requires-clause-runs : goal.run_local-requires-clause-runs
run_local-requires-clause-runs g c =
    let lt : c.args.lane < length c.self.inside.lanes.items = subst (λ (b : Banked). c.args.lane < length b.sides) (sym c.self.view_is) c.requires.lane in
    let at = ap (λ (b : Banked). slice_get b.sides c.args.lane) (sym c.self.view_is) ∙ get_at _ _ _ lt c.index_mut.ensures.value in
    λ s is. c.requires.runs s (ap (λ o. present_in o c.args.slot) at ∙ is)

pub invariant_of-self : goal.invariant_of-self
invariant_of-self g c =
    let items = c.self.inside.items in
    let lt : c.args.lane < length c.self.inside.lanes.items = subst (λ (b : Banked). c.args.lane < length b.sides) (sym c.self.view_is) c.requires.lane in
    let kept = lane_kept items c.self.inside.most _ c.args.lane _ c.self.invariant lt c.index_mut.ensures.value in
    let run = c.run_local.ensures.run in
    let over = all_get (IsOver items) _ c.args.slot run.0 kept.present.over run.2.0 in
    let one = state_sides items c.self.inside.most c.args.slot run.1 _ (run.2.1.1.room ∙ over) kept in
    banked_set _ _ _ c.args.lane _ c.self.invariant (subst (AreSides items c.self.inside.most) (sym run.2.1.0) one)

pub returns-clause-run : goal.returns-clause-run
returns-clause-run g c =
    let lt : c.args.lane < length c.self.inside.lanes.items = subst (λ (b : Banked). c.args.lane < length b.sides) (sym c.self.view_is) c.requires.lane in
    let at = ap (λ (b : Banked). slice_get b.sides c.args.lane) (sym c.self.view_is) ∙ get_at _ _ _ lt c.index_mut.ensures.value in
    let run = c.run_local.ensures.run in
    (run.0, run.1, (ap (λ o. present_in o c.args.slot) at ∙ run.2.0, (lane_set c.args.self.now _ _ _ c.args.lane _ _ (state_in c.args.slot run.1) c.self.view_is c.requires.lane c.index_mut.ensures.value run.2.1.0, run.2.1.1)))
