use Rattle.std.proofs.Common.{◌≡◌, ◌≤◌, take}
use Rattle.forest_model.specs.Choose.{in_order}
use Rattle.forest_model.specs.Point.{is_sooner as is_sooner_of}
use Rattle.arrayvec.specs.ArrayVec.{array_vec_len}
use Rattle.replacement.proofs.wanted.Given as goal

abbrev pub invariant-loop-pair : goal.invariant-loop-pair
invariant-loop-pair l = record {
  kept : l.first.items ≡ take l.room (in_order is_sooner_of (take l.pair-index l.points));
  fits : array_vec_len l.first ≤ l.room;
}
