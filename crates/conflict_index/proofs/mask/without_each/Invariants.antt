use Rattle.std.proofs.Common.{◌≡◌, ℕ, ◌<◌, ◌≤◌, false, ◌==◌, if◌then◌else◌, length, slice_index_or}
use Rattle.conflict_index.specs.Kept.{has_item}
use Rattle.conflict_index.proofs.mask.without_each.Given as goal

abbrev pub invariant-loop-i : goal.invariant-loop-i
invariant-loop-i l = record {
  long : length l.masks ≡ length l.fn.masks;
  done : (item other : ℕ) → item < l.i → has_item l.masks other item ≡ (if other == l.lane then false else has_item l.fn.masks other item);
  left : (item : ℕ) → l.i ≤ item → slice_index_or l.masks item 0 ≡ slice_index_or l.fn.masks item 0;
}
