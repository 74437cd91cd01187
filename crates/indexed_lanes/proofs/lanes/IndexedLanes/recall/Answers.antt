use Rattle.std.proofs.Common.{refl}
use Rattle.shadow_lanes.specs.Seats.{recalled_seat}
use Rattle.indexed_lanes.proofs.Keeping.{all_kept, recalled_conflicts}
use Rattle.indexed_lanes.proofs.lanes.IndexedLanes.recall.Goals as goal

pub invariant_of-self : goal.invariant_of-self
invariant_of-self c = rw c.recall.ensures (all_kept c.self.inside.lanes c.self.inside.index recalled_seat (λ r. (refl, refl, recalled_conflicts r)) c.self.invariant)
