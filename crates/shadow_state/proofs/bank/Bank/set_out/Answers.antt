use Rattle.shadow_state.specs.Bank.{marked_in}
use Rattle.shadow_state.proofs.Kept.{lane_set, lane_kept, banked_set, marked_sides}
use Rattle.shadow_state.proofs.bank.Bank.set_out.Goals as goal

pub returns : goal.returns
returns c = lane_set c.args.self.now _ _ _ c.args.lane _ _ (marked_in c.args.slot c.args.out) c.self.view_is c.requires.lane c.index_mut.ensures.value c.set_out.ensures

pub invariant_of-self : goal.invariant_of-self
invariant_of-self c =
    let lt = rw (← c.self.view_is) at c.requires.lane in
    let one = marked_sides _ _ c.args.slot c.args.out _ (lane_kept _ _ _ c.args.lane _ c.self.invariant lt c.index_mut.ensures.value) in
    banked_set _ _ _ c.args.lane _ c.self.invariant (rw c.set_out.ensures one)
