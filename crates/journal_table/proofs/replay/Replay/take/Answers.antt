use Rattle.std.proofs.Common.{sym, refl, subst, arith}
use Rattle.journal_table.proofs.Numbered.{none-follows}
use Rattle.csv.specs.Records.{fields_of}
use Rattle.std.specs.Result.{IfOk}
use Rattle.journal_table.specs.Replayed.{TakesRow}
use Rattle.journal_table.proofs.replay.Replay.take.Goals as goal

pub returns-in-Some-Sealed-clause-takes : goal.returns-in-Some-Sealed-clause-takes
returns-in-Some-Sealed-clause-takes g c =
    let is = rw c.in-Some-Sealed.field-0-is at c.in-Some-Sealed.ensures in
    subst (λ f. IfOk c.seal.result (λ taken. TakesRow c.args.names.now c.args.self.now c.seal.new.self f taken)) (sym is) (c.seal.ensures.takes c.args.names.now)

pub returns-in-Some-Committed-clause-takes : goal.returns-in-Some-Committed-clause-takes
returns-in-Some-Committed-clause-takes g c =
    let is = rw c.in-Some-Committed.field-0-is at c.in-Some-Committed.ensures in
    subst (λ f. IfOk c.commit.result (λ taken. TakesRow c.args.names.now c.args.self.now c.commit.new.self f taken)) (sym is) (c.commit.ensures.takes c.args.names.now)

pub returns-in-Some-Withdrawn-clause-takes : goal.returns-in-Some-Withdrawn-clause-takes
returns-in-Some-Withdrawn-clause-takes g c =
    let is = rw c.in-Some-Withdrawn.field-0-is at c.in-Some-Withdrawn.ensures in
    subst (λ f. IfOk c.withdraw.result (λ taken. TakesRow c.args.names.now c.args.self.now c.withdraw.new.self f taken)) (sym is) (c.withdraw.ensures.takes c.args.names.now)

pub returns-in-None-clause-takes : goal.returns-in-None-clause-takes
returns-in-None-clause-takes g c = rw (← c.self.view_is) (
  λ entry spells next.
      let i = c.self.inside in
      let count = c.began-began.ensures in
      let small = c.began-began.type_inv in
      none-follows c.args.names.now i.journal.opening i.journal.entries (fields_of c.args.row.now) entry c.in-None.ensures c.self.invariant.legal (omega (arith, count, small)) spells next,
  refl,
)
