use Rattle.std.proofs.Common.{◌∙◌, sym, ap}
use Rattle.std.specs.Prelude.{option_map, Some}
use Rattle.shadow_lanes.specs.Seats.{conflicts_of}
use Rattle.shadow_lanes.proofs.Slots.{seat_conflicts}
use Rattle.shadow_lanes.proofs.Views.{here, fits, seat_here}
use Rattle.shadow_lanes.proofs.lanes.Lanes.conflicts.Goals as goal

pub returns : goal.returns
returns c =
    let h = here c.self.inside.bank _ _ _ _ c.args.place c.index.result.now c.self.invariant (rw (← c.self.view_is) at c.requires) c.index.ensures in
    rw (← c.self.view_is) (ap (option_map conflicts_of) (seat_here h) ∙ ap (λ cs. Some cs) (seat_conflicts c.index.result.now h.lane.present (fits h) ∙ sym c.conflicts.ensures.conflicts))
