use Rattle.std.proofs.Common.{◌≡◌, ◌∙◌, sym, ap, length}
use Rattle.shadow_lanes.specs.Seats.{Seat}
use Rattle.shadow_lanes.specs.Kept.{seat_of}
use Rattle.shadow_lanes.proofs.Slots.{seat_waiters}
use Rattle.shadow_lanes.proofs.Views.{here, fits, seat_here}
use Rattle.shadow_lanes.proofs.lanes.Lanes.waiters.Goals as goal

pub returns-clause-number : goal.returns-clause-number
returns-clause-number c =
    let h = here c.self.inside.bank _ _ _ _ c.args.place c.index.result.now c.self.invariant (rw (← c.self.view_is) at c.requires) c.index.ensures in
    rw (← c.self.view_is) (λ r is.
    let there = seat_here h in
    let same : seat_of c.index.result.now h.lane.present ≡ r = cc in
    ap length c.conflicts.ensures.conflicts ∙ sym (seat_waiters c.index.result.now h.lane.present (fits h)) ∙ ap (λ (q : Seat). length q.waiters) same)
