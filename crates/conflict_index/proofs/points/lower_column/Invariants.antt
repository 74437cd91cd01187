use Rattle.std.proofs.Common.{◌≡◌, ℕ, ◌+◌, true, not, ◌&&◌, Some, ◌*◌, slice_index_or}
use Rattle.conflict_index.specs.Index.{less_or}
use Rattle.conflict_index.specs.Masks.{has}
use Rattle.conflict_index.specs.Kept.{AreChanged}
use Rattle.conflict_index.proofs.points.lower_column.Given as goal

abbrev pub invariant-loop-left : goal.invariant-loop-left
invariant-loop-left l = record {
  part : (reader : ℕ) → has l.left reader ≡ true → has l.readers reader ≡ true;
  done : AreChanged (λ reader. has l.readers reader && not (has l.left reader)) (λ reader. reader * l.lanes + l.writer) (λ reader point. Some (less_or point (slice_index_or l.positions reader 0))) l.fn.points l.points l.moved;
}

abbrev pub decreases-loop-left : goal.decreases-loop-left
decreases-loop-left l = l.left
