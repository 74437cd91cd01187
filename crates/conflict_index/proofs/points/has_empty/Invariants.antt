use Rattle.std.proofs.Common.{◌≡◌, ◌≢◌, ℕ, ◌+◌, true, false, None, slice_index_or}
use Rattle.conflict_index.specs.Masks.{has}
use Rattle.conflict_index.proofs.points.has_empty.Given as goal

abbrev pub invariant-loop-left : goal.invariant-loop-left
invariant-loop-left l = record {
  part : (writer : ℕ) → has l.left writer ≡ true → has l.writers writer ≡ true;
  seen : (writer : ℕ) → has l.writers writer ≡ true → has l.left writer ≡ false → slice_index_or l.points (l.start + writer) None ≢ None;
}

abbrev pub decreases-loop-left : goal.decreases-loop-left
decreases-loop-left l = l.left
