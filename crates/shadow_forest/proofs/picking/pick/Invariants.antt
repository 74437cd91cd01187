use Rattle.std.proofs.Common.{◌≡◌, take}
use Rattle.forest_model.specs.Pick.{pick_of}
use Rattle.shadow_forest.specs.Parts.{all_rows}
use Rattle.shadow_forest.proofs.picking.pick.Given as goal

abbrev pub invariant-loop-place : goal.invariant-loop-place
invariant-loop-place l = l.best ≡ pick_of (all_rows l.txns (take l.place l.lanes.seats))
