use Rattle.std.proofs.Common.{◌≡◌, ℕ, ◌+◌, true, not, ◌&&◌, Some}
use Rattle.conflict_index.specs.Index.{less_or}
use Rattle.conflict_index.specs.Masks.{has}
use Rattle.conflict_index.specs.Kept.{AreChanged}
use Rattle.conflict_index.proofs.points.lower_row.Given as goal

abbrev pub invariant-loop-left : goal.invariant-loop-left
invariant-loop-left l = record {
  part : (writer : ℕ) → has l.left writer ≡ true → has l.writers writer ≡ true;
  done : AreChanged (λ writer. has l.writers writer && not (has l.left writer)) (λ writer. l.start + writer) (λ writer point. Some (less_or point l.position)) l.fn.points l.points l.moved;
}

abbrev pub decreases-loop-left : goal.decreases-loop-left
decreases-loop-left l = l.left
