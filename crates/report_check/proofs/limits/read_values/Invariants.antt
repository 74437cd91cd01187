use Rattle.std.proofs.Common.{ℕ, ◌<◌}
use Rattle.txn_runs.specs.Run.{stored}
use Rattle.report_check.specs.Limits.{IsNarrow}
use Rattle.report_check.proofs.limits.read_values.Given as goal

-- those so far have 64 bits
abbrev pub invariant-loop-item : goal.invariant-loop-item
invariant-loop-item l = (k : ℕ) → k < l.item → IsNarrow (stored l.table k)
