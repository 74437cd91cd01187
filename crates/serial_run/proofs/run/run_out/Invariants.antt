use Rattle.std.proofs.Common.{◌≡◌, ◌+◌, ◌-◌, ◌≤◌, List}
use Rattle.txn_runs.specs.declared.program.Stmt.{Stmt}
use Rattle.txn_runs.specs.Serial.{run_length}
use Rattle.txn_interp.specs.State.{Runs, RunsOver}
use Rattle.serial_run.proofs.run.run_out.Given as goal

abbrev pub invariant-turns : goal.invariant-turns
invariant-turns g l = record {
  runs : Runs l.code.nodes l.state;
  room : l.state.log.room ≡ l.initial.state.log.room;
  same : (body : List Stmt) → RunsOver l.code.nodes body l.tables l.initial.state → RunsOver l.code.nodes body l.tables l.state;
  short : (body : List Stmt) → RunsOver l.code.nodes body l.tables l.initial.state → l.initial.state.position ≤ run_length body l.tables → l.state.position ≤ run_length body l.tables;
  ticks : l.steps + l.initial.state.position ≡ l.initial.steps + l.state.position;
}

abbrev pub decreases-turns : goal.decreases-turns
decreases-turns g l = 100000 - l.state.position
