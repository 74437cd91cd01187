use Rattle.std.proofs.Common.{ap, sym, subst, ◌∙◌}
use Rattle.shadow_forest.specs.View.{View}
use Rattle.forest_model.specs.Forest.{Forest}
use Rattle.forest_tests.specs.Stage.{AllFit}
use Rattle.forest_model.specs.Events.{withdraw}
use Rattle.forest_tests.proofs.Lasting.{fit-lasts, withdraw-lasts, withdraw-view}
use Rattle.forest_tests.proofs.stage.Stage.withdraw.Goals as goal

pub invariant_of-self : goal.invariant_of-self
invariant_of-self c =
    let v = c.self.inside.forest in
    let is = ap (λ (w : View). w.numbers) c.withdraw.ensures.next ∙ withdraw-view v c.args.txn (withdraw v.numbers c.args.txn) in
    subst (λ (f : Forest). AllFit f c.self.inside.benches.items) (sym is) (fit-lasts _ _ (withdraw-lasts v.numbers c.journal.ensures.sound c.args.txn) _ c.self.invariant)
