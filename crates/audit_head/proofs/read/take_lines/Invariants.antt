use Rattle.std.proofs.Common.{◌≡◌, ◌≤◌, ◌-◌, ◌*◌}
use Rattle.audit_head.proofs.Heads.{Heading}
use Rattle.audit_head.proofs.read.take_lines.Given as goal

abbrev pub invariant-lines : goal.invariant-lines
invariant-lines g l = record {
  heading : Heading l.input l.spelled l.reader (g.S.Source.left l.initial.source) (g.S.Source.left l.source);
  most : l.reader.most ≡ 8192;
  room : l.reader.taken ≤ 67108864;
  number : l.reader.number ≤ 67108865;
  small : l.spelled ≤ 8193 * l.reader.number;
  later : g.S.Source.faults l.initial.source ≤ g.S.Source.faults l.source;
}

abbrev pub decreases-lines : goal.decreases-lines
decreases-lines g l = 67108865 - l.reader.number
