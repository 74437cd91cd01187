use Rattle.std.proofs.Common.{◌≡◌, ◌+◌}
use Rattle.forest_model.specs.Drain.{run_idle}
use Rattle.forest_model.specs.Stays.{RunsOn, IsStillPicked}
use Rattle.shadow_forest.specs.Staying.{IsPlaced}
use Rattle.shadow_forest.specs.View.{with_numbers}
use Rattle.shadow_forest.proofs.forest.Forest.run_pick.Given as goal

abbrev pub invariant-events : goal.invariant-events
invariant-events g l = record {
  runs : RunsOn l.initial.self.numbers l.self.numbers l.made;
  picked : IsStillPicked l.initial.self.numbers l.self.numbers l.row;
  placed : IsPlaced l.self.numbers.started l.place l.row.txn;
  told : l.self ≡ with_numbers l.self.numbers l.initial.self;
  ticks : l.steps ≡ l.initial.steps + l.made;
}

abbrev pub decreases-events : goal.decreases-events
decreases-events g l = (run_idle l.self.numbers).0
