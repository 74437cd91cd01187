use Rattle.std.proofs.Common.{◌+◌, ◌*◌, nat_lt, None}
use Rattle.conflict_index.specs.Kept.{AreChanged}
use Rattle.conflict_index.proofs.points.empty_column.Given as goal

abbrev pub invariant-loop-reader : goal.invariant-loop-reader
invariant-loop-reader l = AreChanged (λ lane. nat_lt lane l.reader) (λ lane. lane * l.lanes + l.writer) (λ lane point. None) l.fn.points l.points l.moved
