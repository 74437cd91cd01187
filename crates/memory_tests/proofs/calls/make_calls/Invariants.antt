use Rattle.std.proofs.Common.{◌≡◌}
use Rattle.memory_tests.proofs.calls.make_calls.Given as goal

abbrev pub invariant-loop-call : goal.invariant-loop-call
invariant-loop-call g l = l.bench.items ≡ l.items
