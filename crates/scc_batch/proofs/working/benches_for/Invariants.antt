use Rattle.std.proofs.Common.{◌≡◌, length}
use Rattle.std.specs.Prelude.{Some}
use Rattle.std.specs.List.{All}
use Rattle.scc_batch.specs.Benches.{IsFreeFor}
use Rattle.scc_batch.proofs.working.benches_for.Given as goal

abbrev pub invariant-loop-worker : goal.invariant-loop-worker
invariant-loop-worker l = (length l.benches.items ≡ l._worker) × All (IsFreeFor (Some l.items)) l.benches.items
