use Rattle.shadow_state.specs.Bank.{forked}
use Rattle.shadow_state.proofs.Kept.{lane_set, lane_kept, banked_set, forked_sides}
use Rattle.shadow_state.proofs.bank.Bank.fork_into.Goals as goal

pub returns : goal.returns
returns c = lane_set c.args.self.now _ _ _ c.args.lane _ _ (forked c.args.from c.args.to) c.self.view_is c.requires.lane c.index_mut.ensures.value c.fork.ensures

pub invariant_of-self : goal.invariant_of-self
invariant_of-self c =
    let lt = rw (← c.self.view_is) at c.requires.lane in
    let one = forked_sides _ _ c.args.from c.args.to _ (lane_kept _ _ _ c.args.lane _ c.self.invariant lt c.index_mut.ensures.value) in
    banked_set _ _ _ c.args.lane _ c.self.invariant (rw c.fork.ensures one)
