use Rattle.std.proofs.Common.{◌≡◌, ◌+◌}
use Rattle.forest_model.specs.Drain.{until_commit}
use Rattle.shadow_forest.specs.View.{with_numbers}
use Rattle.shadow_forest.proofs.forest.Forest.next_commit.Given as goal

abbrev pub invariant-loop-txn : goal.invariant-loop-txn
invariant-loop-txn g l = record {
  last : (until_commit l.self.numbers).1 ≡ (until_commit l.initial.self.numbers).1;
  told : l.self ≡ with_numbers l.self.numbers l.initial.self;
  ticks : l.steps + (until_commit l.self.numbers).0 ≡ l.initial.steps + (until_commit l.initial.self.numbers).0;
}

abbrev pub decreases-loop-txn : goal.decreases-loop-txn
decreases-loop-txn g l = (until_commit l.self.numbers).0
