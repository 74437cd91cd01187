use Rattle.std.proofs.Common.{◌≡◌}
use Rattle.shadow_state.specs.Bank.{at_place}
use Rattle.shadow_lanes.specs.Kept.{recalled_to}
use Rattle.shadow_lanes.proofs.lanes.Lanes.recall_seat.Given as goal

abbrev pub invariant-loop-i : goal.invariant-loop-i
invariant-loop-i l = l.self ≡ record l.fn.self { seats = at_place l.place (recalled_to l.i) l.fn.self.seats }
