use Rattle.std.proofs.Common.{Ok, ap, sym, ◌∙◌, subst, arith, refl}
use Rattle.scc_text.specs.Reader.{Reader}
use Rattle.report_check.specs.Audited.{Audited}
use Rattle.report_check.specs.Checked.{Takes}
use Rattle.report_check.specs.Kept.{held}
use Rattle.report_check.proofs.Reading.{room_left, other-most, passed-none, passed-line, audited-bad, audited-long, audited-end, audited-fault, audited-limit, audited-unjudged}
use Rattle.report_check.proofs.report.audit.Goals as goal

pub lines-init : goal.lines-init
lines-init g c = record {
  sound = c.in-Ok.ensures.sound;
  passed = λ left before done pending lines. passed-none _ _ _ _ c.set_most.new.self left _ before done pending (other-most c.args.reader.now c.set_most.new.self 32768 left _ before done pending c.set_most.ensures lines) c.in-Ok.ensures.empty;
  most = ap (λ (r : Reader). r.most) c.set_most.ensures;
  room = λ few. omega (arith, few, ap (λ (r : Reader). r.taken) c.set_most.ensures);
  source_later = omega arith;
  later = omega arith;
}

pub lines-preserved : goal.lines-preserved
lines-preserved g c =
    let answers = c.in-Line.ensures.answers in
    let takes = subst (λ goes. Takes c.args.names.now c.args.programs.now (held c.lines.check) (held c.take.new.self) c.line.result.now goes) c.in-Ok-true.field-0-test c.in-Ok-true.ensures.takes in
    record {
      sound = takes.0;
      passed = λ left before done pending lines. passed-line c.args.names.now c.args.table c.args.programs.now (held c.lines.check) (held c.take.new.self) c.lines.reader c.next_line.new.self left _ _ done c.line.result.now answers.0
          (c.lines.invariant.passed left before done pending lines) answers.1 c.line.ensures takes;
      most = answers.1.most ∙ c.lines.invariant.most;
      room = λ few. room_left _ _ c.in-Line.ensures.limit (λ is. cc) c.in-Line.ensures.room;
      source_later = omega (arith, c.lines.invariant.source_later, c.in-Line.ensures.later);
      later = omega (arith, c.lines.invariant.later, c.in-Ok-true.ensures.later);
    }

pub returns-in-Ok-false-clause-audited : goal.returns-in-Ok-false-clause-audited
returns-in-Ok-false-clause-audited g c = λ left before done pending few lines.
    let answers = c.in-Line.ensures.answers in
    let takes = subst (λ goes. Takes c.args.names.now c.args.programs.now (held c.lines.check) (held c.take.new.self) c.line.result.now goes) c.in-Ok-false.field-0-test c.in-Ok-false.ensures.takes in
    subst (λ v. Audited c.args.names.now c.args.table c.args.programs.now done left (g.S.Source.left c.next_line.new.source) (Ok v)) (sym c.no.ensures) (
    audited-bad c.args.names.now c.args.table c.args.programs.now (held c.lines.check) (held c.take.new.self) c.lines.reader c.next_line.new.self left _ _ done c.line.result.now answers.0 c.count.ensures.limits
    c.lines.invariant.sound (c.lines.invariant.passed left before done pending lines) answers.1 (room_left _ _ c.in-Line.ensures.limit (λ is. cc) c.in-Line.ensures.room) c.line.ensures takes)

pub returns-in-Err-clause-audited : goal.returns-in-Err-clause-audited
returns-in-Err-clause-audited g c = λ left before done pending few lines.
    let answers = c.in-Line.ensures.answers in
    audited-unjudged c.args.names.now c.args.table c.args.programs.now (held c.lines.check) c.lines.reader c.next_line.new.self left _ _ done answers.0 (c.lines.invariant.passed left before done pending lines) answers.1
    (room_left _ _ c.in-Line.ensures.limit (λ is. cc) c.in-Line.ensures.room)

pub returns-in-TooLong-clause-audited : goal.returns-in-TooLong-clause-audited
returns-in-TooLong-clause-audited g c = λ left before done pending few lines.
    let answers = c.in-TooLong.ensures.answers in
    let most = c.lines.invariant.most in
    subst (λ v. Audited c.args.names.now c.args.table c.args.programs.now done left (g.S.Source.left c.next_line.new.source) (Ok v)) (sym c.no-in-TooLong.ensures) (
    audited-long c.args.names.now c.args.table c.args.programs.now (held c.lines.check) c.lines.reader c.next_line.new.self left _ _ done answers.0 c.count.ensures.limits c.lines.invariant.sound
    (c.lines.invariant.passed left before done pending lines) answers.1 (room_left _ _ c.in-TooLong.ensures.limit (λ is. cc) c.in-TooLong.ensures.room)
    (λ line long. c.too_long.ensures line (omega (arith, long, most))))

pub returns-in-End-clause-audited : goal.returns-in-End-clause-audited
returns-in-End-clause-audited g c = λ left before done pending few lines.
    let answers = c.in-End.ensures.answers in
    audited-end c.args.names.now c.args.table c.args.programs.now (held c.lines.check) c.verdict.result c.lines.reader c.next_line.new.self left _ _ done answers.0
    (c.lines.invariant.passed left before done pending lines) answers.1 (room_left _ _ c.in-End.ensures.limit (λ is. cc) c.in-End.ensures.room)
    (λ all stands number. c.verdict.ensures c.args.table c.args.programs.now _ all c.lines.invariant.sound stands (omega (arith, number, c.number.ensures)))

pub returns-in-ReadFault-clause-audited : goal.returns-in-ReadFault-clause-audited
returns-in-ReadFault-clause-audited g c = λ left before done pending few lines.
    let answers = c.in-ReadFault.ensures.answers in
    audited-fault c.args.names.now c.args.table c.args.programs.now (held c.lines.check) c.lines.reader c.next_line.new.self left _ _ done answers.0 c.count.ensures.limits c.lines.invariant.sound
    (c.lines.invariant.passed left before done pending lines) answers.1 (room_left _ _ c.in-ReadFault.ensures.limit (λ is. cc) c.in-ReadFault.ensures.room)

pub returns-in-InputLimit-clause-audited : goal.returns-in-InputLimit-clause-audited
returns-in-InputLimit-clause-audited g c = λ left before done pending few lines.
    let answers = c.in-InputLimit.ensures.answers in
    audited-limit c.args.names.now c.args.table c.args.programs.now (held c.lines.check) c.lines.reader c.next_line.new.self left _ _ done answers.0 c.count.ensures.limits c.lines.invariant.sound
    (c.lines.invariant.passed left before done pending lines) answers.1 (c.lines.invariant.room few) (c.in-InputLimit.ensures.limit.0 refl)
