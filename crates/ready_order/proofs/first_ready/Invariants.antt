use Rattle.std.proofs.Common.{◌≡◌, take}
use Rattle.forest_model.specs.Pick.{pick_of}
use Rattle.ready_order.proofs.first_ready.Given as goal

abbrev pub invariant-loop-row : goal.invariant-loop-row
invariant-loop-row l = l.best ≡ pick_of (take l.row-index l.rows)
