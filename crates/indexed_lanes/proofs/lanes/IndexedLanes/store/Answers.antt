use Rattle.shadow_lanes.specs.Seats.{stepped_slot}
use Rattle.indexed_lanes.proofs.Keeping.{slot_kept}
use Rattle.indexed_lanes.proofs.lanes.IndexedLanes.store.Goals as goal

pub invariant_of-self : goal.invariant_of-self
invariant_of-self c =
    let same = rw (← c.self.view_is) at c.requires.same in
    rw c.store.ensures
    (slot_kept c.self.inside.lanes c.self.inside.index c.args.place c.args.slot (stepped_slot c.args.state.now) (λ r at is. let two = same r is at in (two.reads, two.writes)) c.self.invariant)
