use Rattle.std.proofs.Common.{◌≡◌, ◌+◌}
use Rattle.forest_model.specs.Sound.{IsSound}
use Rattle.forest_model.specs.Drain.{left}
use Rattle.shadow_forest.proofs.Drains.{rest_view}
use Rattle.shadow_forest.proofs.forest.Forest.drain.Given as goal

abbrev pub invariant-loop : goal.invariant-loop
invariant-loop g l = record {
  sound : IsSound l.self.numbers;
  last : (rest_view l.self).1 ≡ (rest_view l.initial.self).1;
  ticks : l.steps + (rest_view l.self).0 ≡ l.initial.steps + (rest_view l.initial.self).0;
}

abbrev pub decreases-loop : goal.decreases-loop
decreases-loop g l = left l.self.numbers
