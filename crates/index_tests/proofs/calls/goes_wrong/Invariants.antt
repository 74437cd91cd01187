use Rattle.index_tests.specs.Shape.{IsOf}
use Rattle.index_tests.proofs.calls.goes_wrong.Given as goal

abbrev pub invariant-loop-word : goal.invariant-loop-word
invariant-loop-word l = IsOf l.index l.items l.lanes
