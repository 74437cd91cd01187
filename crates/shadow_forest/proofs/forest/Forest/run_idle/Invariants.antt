use Rattle.std.proofs.Common.{◌≡◌, ◌+◌, ◌<◌, ◌^◌}
use Rattle.forest_model.specs.Drain.{run_idle}
use Rattle.shadow_forest.proofs.forest.Forest.run_idle.Given as goal

abbrev pub invariant-loop-row : goal.invariant-loop-row
invariant-loop-row g l = record {
  made : l.made + (run_idle l.self.numbers).0 ≡ (run_idle l.initial.self.numbers).0;
  last : (run_idle l.self.numbers).1 ≡ (run_idle l.initial.self.numbers).1;
  resumed : l.self.resumed ≡ l.initial.self.resumed;
  starts : l.self.starts ≡ l.initial.self.starts;
  ticks : l.steps ≡ l.initial.steps + l.made;
  fits : (run_idle l.initial.self.numbers).0 < 2 ^ 64;
}

abbrev pub decreases-loop-row : goal.decreases-loop-row
decreases-loop-row g l = (run_idle l.self.numbers).0
