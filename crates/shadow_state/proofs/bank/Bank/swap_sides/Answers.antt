use Rattle.shadow_state.specs.Bank.{swapped}
use Rattle.shadow_state.proofs.Kept.{lane_set}
use Rattle.shadow_state.proofs.bank.Bank.swap_sides.Goals as goal

pub returns : goal.returns
returns c = lane_set c.args.self.now _ _ _ c.args.lane _ _ swapped c.self.view_is c.requires c.index_mut.ensures.value c.swap.ensures
