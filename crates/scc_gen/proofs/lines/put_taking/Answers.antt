use Rattle.std.proofs.Common.{codes}
use Rattle.scc_gen.specs.Generated.{part, taking}
use Rattle.scc_gen.proofs.SoFar.{three}
use Rattle.scc_gen.proofs.lines.put_taking.Goals as goal

pub returns-clause-part : goal.returns-clause-part
unfolding taking
returns-clause-part c =
    let t = c.args.transfer in
    three c.args.out.now.items c.put_part.new.out.items c.put_part-2.new.out.items c.put_part-3.new.out.items
    (part (codes " r0 = acct[") t.from (codes "];")) (part (codes " r1 = r0 - ") t.amount (codes ";")) (part (codes " acct[") t.from (codes "] = r1;"))
    c.in_ok-put_part.ensures.part c.in_ok-put_part-2.ensures.part c.in_ok-put_part-3.ensures.part
