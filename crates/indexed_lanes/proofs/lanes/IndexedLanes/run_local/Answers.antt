use Rattle.std.proofs.Common.{ap, ◌∙◌}
use Rattle.shadow_state.specs.Bank.{Slot}
use Rattle.shadow_lanes.specs.Seats.{stepped_slot}
use Rattle.indexed_lanes.proofs.Notes.{first_there}
use Rattle.indexed_lanes.proofs.Keeping.{slot_kept}
use Rattle.indexed_lanes.proofs.Steps.{local_adds}
use Rattle.indexed_lanes.proofs.lanes.IndexedLanes.run_local.Goals as goal

pub invariant_of-self : goal.invariant_of-self
invariant_of-self g c =
    let s = c.self.inside.lanes in
    let e = c.run_local.ensures.seats in
    let runs = rw (← c.self.view_is) at c.requires.runs in
    let same = local_adds c.args.code.now.nodes c.args.most c.run_local.result e.0.state e.1 (runs e.0 e.2.0) e.2.1.1 in
    rw e.2.1.0
    (slot_kept s c.self.inside.index c.args.place c.args.slot (stepped_slot e.1)
    (λ r at is. let here = first_there s.seats c.args.place c.args.slot r e.0 at is e.2.0 in (same.reads ∙ ap (λ (x : Slot). x.state.log.reads) here, same.writes ∙ ap (λ (x : Slot). x.state.writes) here))
    c.self.invariant)
