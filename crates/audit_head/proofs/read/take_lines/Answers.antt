use Rattle.std.proofs.Common.{◌≡◌, ◌+◌, nat_le, true, false, length, refl, sym, Ok, Err, ap, ◌∙◌, subst, arith}
use Rattle.std.proofs.lemmas.Bool.Decides.{nat_tests}
use Rattle.scc_text.specs.Reader.{Reader}
use Rattle.scc_text.specs.declared.next.Next.TheVariants as next
use Rattle.audit_head.specs.declared.form.HeadEnd.TheVariants as ends
use Rattle.audit_head.specs.Reading.{Takes}
use Rattle.audit_head.proofs.Heads.{heading-none, room-left, heading-line, head-named, head-refused, head-long, head-end, head-stopped}
use Rattle.audit_head.proofs.read.take_lines.Goals as goal

pub lines-init : goal.lines-init
lines-init g c = record {
  heading = heading-none _ _ _ c.requires.empty c.requires.opened;
  most = ap (λ (r : Reader). r.most) c.requires.opened;
  room = let none = ap (λ (r : Reader). r.taken) c.requires.opened in omega (arith, none);
  number = let none = ap (λ (r : Reader). r.number) c.requires.opened in omega (arith, none);
  small = omega arith;
  later = omega arith;
}

pub lines-preserved : goal.lines-preserved
lines-preserved g c =
    let answers = c.in-Line.ensures.answers in
    let size : c.lines.spelled + (length c.line.result.now + 1) ≡ c.lines.spelled + (length c.line-in-Line.result.now + 1) = ap (λ xs. c.lines.spelled + (length xs + 1)) (c.line.ensures ∙ sym c.line-in-Line.ensures) in
    let takes = subst (λ o. Takes (Ok o) c.lines.input c.line-in-Line.result.now c.take_line.new.input) c.in-Ok-None.field-0-is c.in-Ok-None.ensures in
    record {
      heading = heading-line _ _ _ _ _ _ _ answers.0 c.lines.invariant.heading c.line-in-Line.result.now c.take_line.new.input _ answers.1 c.line-in-Line.ensures size takes.0 takes.1;
      most = answers.1.most ∙ c.lines.invariant.most;
      room = room-left _ _ c.in-Line.ensures.limit (λ is. cc) c.in-Line.ensures.room;
      number = c.in-Line.ensures.counted (λ is. cc);
      small = let short = c.in-Line.ensures.short refl in let number = answers.1.number in let same : length c.line.result.now ≡ length c.next_line.new.self.line = ap (λ xs. length xs) c.line.ensures in
          omega (arith, short, number, same, c.lines.invariant.small, c.lines.invariant.most);
      later = omega (arith, c.lines.invariant.later, c.in-Line.ensures.later);
    }

pub returns-in-Ok-Some-clause-read : goal.returns-in-Ok-Some-clause-read
returns-in-Ok-Some-clause-read g c =
    let answers = c.in-Line.ensures.answers in
    let size : c.lines.spelled + (length c.line.result.now + 1) ≡ c.lines.spelled + (length c.line-in-Line.result.now + 1) = ap (λ xs. c.lines.spelled + (length xs + 1)) (c.line.ensures ∙ sym c.line-in-Line.ensures) in
    let takes = subst (λ o. Takes (Ok o) c.lines.input c.line-in-Line.result.now c.take_line.new.input) c.in-Ok-Some.field-0-is c.in-Ok-Some.ensures in
    head-named _ _ _ _ _ _ _ answers.0 c.lines.invariant.heading c.line-in-Line.result.now c.take_line.new.input c.in-Ok-Some.form _ _ answers.1 c.line-in-Line.ensures size (λ is. let test : nat_le (c.lines.spelled + (length c.line.result.now + 1)) c.taken.result ≡ true = is in grind (arith, nat_tests, c.taken.ensures))
    (λ is. let test : nat_le (c.lines.spelled + (length c.line.result.now + 1)) c.taken.result ≡ false = is in grind (arith, nat_tests, c.taken.ensures)) takes.0 takes.1

pub returns-in-Err-Code-clause-read : goal.returns-in-Err-Code-clause-read
returns-in-Err-Code-clause-read g c =
    let answers = c.in-Line.ensures.answers in
    let takes = subst (λ e. Takes (Err e) c.lines.input c.line-in-Line.result.now c.take_line.new.input) c.in-Err-Code.field-0-is c.in-Err-Code.ensures in
    head-refused _ _ _ _ _ _ _ answers.0 c.lines.invariant.heading c.line-in-Line.result.now c.in-Err-Code.code c.number.result answers.1 c.line-in-Line.ensures takes.0 takes.1 c.number.ensures

pub returns-in-Err-OutOfMemory-clause-read : goal.returns-in-Err-OutOfMemory-clause-read
returns-in-Err-OutOfMemory-clause-read g c =
    let answers = c.in-Line.ensures.answers in
    head-stopped _ _ _ _ _ _ _ answers.0 c.lines.invariant.heading next.Line ends.OutOfMemory answers.1 tt

pub returns-in-TooLong-clause-read : goal.returns-in-TooLong-clause-read
returns-in-TooLong-clause-read g c =
    let answers = c.in-TooLong.ensures.answers in
    head-long _ _ _ _ _ _ _ answers.0 c.lines.invariant.heading c.number-in-TooLong.result answers.1 c.lines.invariant.most c.number-in-TooLong.ensures

pub returns-in-End-clause-read : goal.returns-in-End-clause-read
returns-in-End-clause-read g c =
    let answers = c.in-End.ensures.answers in
    head-end _ _ _ _ _ _ _ answers.0 c.lines.invariant.heading (c.number-in-End.result + 1) answers.1 (ap (λ n. n + 1) c.number-in-End.ensures)

pub returns-in-ReadFault-clause-read : goal.returns-in-ReadFault-clause-read
returns-in-ReadFault-clause-read g c =
    let answers = c.in-ReadFault.ensures.answers in
    head-stopped _ _ _ _ _ _ _ answers.0 c.lines.invariant.heading next.ReadFault ends.ReadFault answers.1 tt

pub returns-in-InputLimit-clause-read : goal.returns-in-InputLimit-clause-read
returns-in-InputLimit-clause-read g c =
    let answers = c.in-InputLimit.ensures.answers in
    head-stopped _ _ _ _ _ _ _ answers.0 c.lines.invariant.heading next.InputLimit ends.InputLimit answers.1 tt
