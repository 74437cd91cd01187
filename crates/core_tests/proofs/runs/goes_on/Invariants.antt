use Rattle.std.proofs.Common.{◌≡◌, length}
use Rattle.txn_interp.specs.State.{Runs}
use Rattle.core_tests.proofs.runs.goes_on.Given as goal

abbrev pub invariant-loop-n : goal.invariant-loop-n
invariant-loop-n g l = Runs l.code.nodes l.state × (l.state.log.room ≡ length l.tables)
