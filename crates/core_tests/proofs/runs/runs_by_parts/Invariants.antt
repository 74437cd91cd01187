use Rattle.std.proofs.Common.{◌≡◌, length}
use Rattle.txn_interp.specs.State.{Runs}
use Rattle.core_tests.proofs.runs.runs_by_parts.Given as goal

abbrev pub invariant-loop : goal.invariant-loop
invariant-loop g l = Runs l.code.nodes l.state × (l.state.log.room ≡ length l.tables)
