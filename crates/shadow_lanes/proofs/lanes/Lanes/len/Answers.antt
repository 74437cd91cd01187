use Rattle.std.proofs.Common.{subst}
use Rattle.shadow_lanes.specs.Seats.{AreSeats}
use Rattle.shadow_lanes.proofs.Upkeep.{seats_are}
use Rattle.shadow_lanes.proofs.lanes.Lanes.len.Goals as goal

pub returns-clause-seats : goal.returns-clause-seats
returns-clause-seats c = subst AreSeats c.self.view_is (seats_are c.self.inside.bank _ _ _ _ c.self.invariant)
