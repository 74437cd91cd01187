use Rattle.std.proofs.Common.{◌≡◌, ◌∙◌, sym, ap, rules, w64, FitsSigned}
use Rattle.std.proofs.lemmas.Int.{to_z-of_z}
use Rattle.access_sets.specs.Log.{Log}
use Rattle.txn_runs.specs.declared.kind.Kind.TheVariants.{TableRead}
use Rattle.txn_runs.specs.Run.{stored}
use Rattle.serial_run.proofs.run.step.Goals as goal

pub returns-in-TableRead-clause-step : goal.returns-in-TableRead-clause-step
returns-in-TableRead-clause-step g c =
    let step = c.step_read.ensures.step in
    let kind = c.in-TableRead.ensures.kind in
    let fits : FitsSigned w64 c.get.result = search rules in
    let value = c.get.ensures in
    record {
      position = step.position;
      room = ap (λ (l : Log). l.room) (c.step_read.ensures.log c.in-TableRead.item kind);
      same = λ body over. step.same body c.args.tables.now (λ item has.
          let same : TableRead c.in-TableRead.item ≡ TableRead item = sym (kind body c.args.tables.now over) ∙ has body c.args.tables.now over in
          let at : c.in-TableRead.item ≡ item = cc in
          ap (stored c.args.tables.now) (sym at) ∙ sym value ∙ sym (to_z-of_z w64 c.get.result fits)) over;
    }
