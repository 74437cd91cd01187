use Rattle.std.specs.Prelude.{None}
use Rattle.shadow_state.proofs.Places.{all_get}
use Rattle.shadow_lanes.specs.Seats.{IsSeat}
use Rattle.indexed_lanes.proofs.Keeping.{none_kept}
use Rattle.indexed_lanes.proofs.Renewed.{one_has}
use Rattle.indexed_lanes.proofs.lanes.IndexedLanes.changed.Goals as goal

pub returns-in-None : goal.returns-in-None
returns-in-None c = λ none r at.
    let s = c.self.inside.lanes in
    let there = rw (← c.self.view_is) at at in
    rw (← c.self.view_is) (one_has s.most s.items None s.seats r (none_kept s c.self.inside.index c.in-None.is c.self.invariant) (all_get (IsSeat s.most s.items) s.seats c.args.place r c.len.ensures.seats.each there))
