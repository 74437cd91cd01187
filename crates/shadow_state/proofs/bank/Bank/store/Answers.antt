use Rattle.shadow_state.specs.Bank.{stored_in}
use Rattle.shadow_state.proofs.Kept.{lane_set, lane_kept, banked_set, stored_sides}
use Rattle.shadow_state.proofs.bank.Bank.store.Goals as goal

pub returns : goal.returns
returns c = lane_set c.args.self.now _ _ _ c.args.lane _ _ (stored_in c.args.slot c.args.state.now) c.self.view_is c.requires.lane c.index_mut.ensures.value c.store.ensures

pub invariant_of-self : goal.invariant_of-self
invariant_of-self c =
    let lt = rw (← c.self.view_is) at c.requires.lane in
    let room = rw (← c.self.view_is) at c.requires.room in
    let one = stored_sides _ _ c.args.slot c.args.state.now _ room (lane_kept _ _ _ c.args.lane _ c.self.invariant lt c.index_mut.ensures.value) in
    banked_set _ _ _ c.args.lane _ c.self.invariant (rw c.store.ensures one)
