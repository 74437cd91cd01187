use Rattle.std.proofs.Common.{◌≡◌, ◌≤◌, ◌-◌, ℕ, List, Option}
use Rattle.scc_text.specs.LinesRead.{LinesRead}
use Rattle.report_check.specs.Checked.{IsSound}
use Rattle.report_check.specs.Kept.{held}
use Rattle.report_check.proofs.Reading.{Passed}
use Rattle.report_check.proofs.report.audit.Given as goal

abbrev pub invariant-lines : goal.invariant-lines
invariant-lines g l = record {
  sound : IsSound l.names l.programs (held l.check);
  passed : (left : Option (List ℕ)) (before : List ℕ) (done : List (List ℕ)) (pending : List ℕ) → LinesRead l.fn.reader left (g.S.Source.left l.fn.source) before done pending
      → Passed l.names l.fn.table l.programs (held l.check) l.reader left (g.S.Source.left l.source) done;
  most : l.reader.most ≡ 32768;
  room : l.fn.reader.taken ≤ 67108864 → l.reader.taken ≤ 67108864;
  source_later : g.S.Source.faults l.fn.source ≤ g.S.Source.faults l.source;
  later : l.fn.steps ≤ l.steps;
}

abbrev pub decreases-lines : goal.decreases-lines
decreases-lines g l = 67108865 - l.reader.number
