use Rattle.shadow_state.specs.Bank.{marked_slot}
use Rattle.shadow_state.proofs.Kept.{slot_set}
use Rattle.shadow_state.proofs.lane.Lane.set_out.Goals as goal

pub returns : goal.returns
returns c = slot_set c.args.self.now _ _ c.args.slot _ _ (marked_slot c.args.out) c.self.view_is c.requires c.index_mut.ensures.value c.set_out.ensures
