use Rattle.std.proofs.Common.{◌≡◌}
use Rattle.shadow_lanes.specs.Seats.{recalled_seat}
use Rattle.shadow_lanes.specs.Kept.{map_first}
use Rattle.shadow_lanes.proofs.lanes.Lanes.recall.Given as goal

abbrev pub invariant-loop-place : goal.invariant-loop-place
invariant-loop-place l = l.self ≡ record l.fn.self { seats = map_first l.place recalled_seat l.fn.self.seats }
