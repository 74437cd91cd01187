use Rattle.shadow_state.specs.Bank.{stored_slot}
use Rattle.shadow_state.proofs.Kept.{slot_set}
use Rattle.shadow_state.proofs.lane.Lane.store.Goals as goal

pub returns : goal.returns
returns c = slot_set c.args.self.now _ _ c.args.slot _ _ (stored_slot c.args.state.now) c.self.view_is c.requires.slot c.index_mut.ensures.value c.store.ensures
