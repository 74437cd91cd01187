use Rattle.std.proofs.Common.{◌∙◌, ap}
use Rattle.shadow_state.specs.Bank.{Banked, placed_slot, fresh_slot}
use Rattle.shadow_state.proofs.Kept.{lane_set}
use Rattle.shadow_state.proofs.bank.Bank.fresh_into.Goals as goal

pub returns : goal.returns
returns c =
    let e = c.restart.ensures ∙ ap (λ (b : Banked). placed_slot c.args.to (fresh_slot c.args.code.now.nodes b.items) c.index_mut.result.now) c.self.view_is in
    lane_set c.args.self.now _ _ _ c.args.lane _ _ (placed_slot c.args.to (fresh_slot c.args.code.now.nodes c.args.self.now.items)) c.self.view_is c.requires.lane c.index_mut.ensures.value e
