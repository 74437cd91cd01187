use Rattle.std.proofs.Common.{map, take, Some}
use Rattle.journal_table.specs.Rows.{row_of}
use Rattle.journal_table.specs.Writes.{PutsRows}
use Rattle.journal_table.proofs.write.put_entries.Given as goal

abbrev pub invariant-loop-place : goal.invariant-loop-place
invariant-loop-place l = PutsRows (λ v. Some v.items) l.initial.writer l.writer (map (row_of l.names) (take l.place l.journal.entries))
