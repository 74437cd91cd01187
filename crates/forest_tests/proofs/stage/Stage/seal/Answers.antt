use Rattle.std.proofs.Common.{ap, sym, subst}
use Rattle.shadow_forest.specs.View.{View}
use Rattle.forest_model.specs.Forest.{Forest}
use Rattle.forest_tests.specs.Stage.{AllFit}
use Rattle.forest_tests.proofs.Lasting.{fit-lasts, seal-lasts}
use Rattle.forest_tests.proofs.stage.Stage.seal.Goals as goal

pub invariant_of-self : goal.invariant_of-self
invariant_of-self c =
    let v = c.self.inside.forest in
    let is = ap (λ (w : View). w.numbers) c.seal.ensures in
    subst (λ (f : Forest). AllFit f c.self.inside.benches.items) (sym is) (fit-lasts _ _ (seal-lasts v.numbers c.journal.ensures.sound) _ c.self.invariant)
