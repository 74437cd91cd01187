use Rattle.std.proofs.Common.{refl}
use Rattle.shadow_state.specs.Bank.{marked_slot}
use Rattle.indexed_lanes.proofs.Keeping.{slot_kept}
use Rattle.indexed_lanes.proofs.lanes.IndexedLanes.set_out.Goals as goal

pub invariant_of-self : goal.invariant_of-self
invariant_of-self c = rw c.set_out.ensures (slot_kept c.self.inside.lanes c.self.inside.index c.args.place c.args.slot (marked_slot c.args.out) (λ r at is. (refl, refl)) c.self.invariant)
