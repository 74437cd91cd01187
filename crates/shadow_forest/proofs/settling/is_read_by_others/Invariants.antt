use Rattle.std.proofs.Common.{◌≡◌, ◌≢◌, false, take}
use Rattle.std.specs.List.{AllByRecursion}
use Rattle.shadow_lanes.specs.Seats.{Seat}
use Rattle.shadow_forest.specs.Parts.{has_read}
use Rattle.shadow_forest.proofs.settling.is_read_by_others.Given as goal

abbrev pub invariant-loop-place : goal.invariant-loop-place
invariant-loop-place l = AllByRecursion (λ (r : Seat). r.number ≢ l.writer → has_read l.item r ≡ false) (take l.place l.fn.lanes.seats)
