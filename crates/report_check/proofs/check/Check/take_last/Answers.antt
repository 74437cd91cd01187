use Rattle.std.proofs.Common.{arith}
use Rattle.std.proofs.lemmas.Option.{slice_get_within}
use Rattle.report_text.specs.Rows.{last_rows}
use Rattle.report_check.proofs.Next.{last-many}
use Rattle.report_check.proofs.check.Check.take_last.Goals as goal
use Rattle.report_check.proofs.check.Check.take_last.Goals.{then-self-len-via-then-self-len, then-self-len-via-else-self-len+then-self-count}

pub returns-then-self-len : goal.returns-then-self-len
returns-then-self-len c = λ last.
    let h = c.args.self.now in
    let names = c.args.names.now in
    elim c.then-self-len.branch [
      | then-self-len-via-then-self-len w ↦ (let all = last.all in let other = w.if-self-len.true in absurd (omega (arith, all, other, c.len.ensures)))
      | then-self-len-via-else-self-len+then-self-count w ↦ (
          let over = w.if-self-count.true in
          let count = w.count.ensures.value in
          let within = slice_get_within (last_rows names h.table h.commits) h.told c.args.line.now last.row in
          absurd (omega (arith, over, count, within, last-many names h.table h.commits)))
    ]
