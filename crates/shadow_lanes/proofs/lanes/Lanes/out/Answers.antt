use Rattle.std.proofs.Common.{◌∙◌, sym, ap}
use Rattle.std.specs.Prelude.{option_map}
use Rattle.shadow_state.specs.Bank.{Slot, present_at}
use Rattle.shadow_lanes.proofs.Views.{here, slot_below, slot_within, slot_is}
use Rattle.shadow_lanes.proofs.lanes.Lanes.out.Goals as goal

pub out-requires-clause-lane : goal.out-requires-clause-lane
out-requires-clause-lane c =
    let h = here c.self.inside.bank _ _ _ _ c.args.place c.index.result.now c.self.invariant (rw (← c.self.view_is) at c.requires.place) c.index.ensures in
    rw c.lane-lane.ensures h.within

pub out-requires-clause-slot : goal.out-requires-clause-slot
out-requires-clause-slot c =
    let h = here c.self.inside.bank _ _ _ _ c.args.place c.index.result.now c.self.invariant (rw (← c.self.view_is) at c.requires.place) c.index.ensures in
    slot_below c.args.slot h (rw (← c.self.view_is) at c.requires.slot)

pub returns : goal.returns
returns c =
    let h = here c.self.inside.bank _ _ _ _ c.args.place c.index.result.now c.self.invariant (rw (← c.self.view_is) at c.requires.place) c.index.ensures in
    let within = slot_within c.args.slot h (rw (← c.self.view_is) at c.requires.slot) in
    rw (← c.self.view_is) (ap (option_map (λ (s : Slot). s.out)) (slot_is c.args.slot h within ∙ ap (λ n. present_at c.self.inside.bank n c.args.slot) (sym c.lane-lane.ensures)) ∙ c.out.ensures)
