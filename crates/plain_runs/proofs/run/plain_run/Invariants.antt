use Rattle.std.specs.Prelude.{◌≡◌}
use Rattle.txn_runs.specs.Run.{after}
use Rattle.plain_runs.proofs.run.plain_run.Given as goal

abbrev pub invariant-loop-n : goal.invariant-loop-n
invariant-loop-n l = l.run ≡ after l.program l.table l.n
