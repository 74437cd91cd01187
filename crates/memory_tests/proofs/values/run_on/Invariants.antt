use Rattle.std.proofs.Common.{◌≡◌, length}
use Rattle.txn_interp.specs.State.{Runs}
use Rattle.memory_tests.proofs.values.run_on.Given as goal

abbrev pub invariant-loop : goal.invariant-loop
invariant-loop g l = Runs l.code.nodes l.state × (l.state.log.room ≡ length l.table) × (l.copy.log.room ≡ length l.table)
