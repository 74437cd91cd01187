use Rattle.std.proofs.Common.{ℕ, ◌<◌, []}
use Rattle.std.specs.Prelude.{slice_index_or}
use Rattle.txn_runs.specs.Bounds.{IsProgram}
use Rattle.report_check.proofs.limits.read_programs.Given as goal

-- those so far keep the limits
abbrev pub invariant-loop-place : goal.invariant-loop-place
invariant-loop-place l = (k : ℕ) → k < l.place → IsProgram (slice_index_or l.programs k [])
