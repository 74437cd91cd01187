use Rattle.std.proofs.Common.{◌+◌, ◌*◌, nat_lt, None}
use Rattle.conflict_index.specs.Kept.{AreChanged}
use Rattle.conflict_index.proofs.points.empty_row.Given as goal

abbrev pub invariant-loop-writer : goal.invariant-loop-writer
invariant-loop-writer l = AreChanged (λ lane. nat_lt lane l.writer) (λ lane. l.reader * l.lanes + lane) (λ lane point. None) l.fn.points l.points l.moved
