use Rattle.std.proofs.Common.{ap, sym, subst, ◌∙◌}
use Rattle.shadow_forest.specs.View.{View}
use Rattle.forest_model.specs.Forest.{Forest}
use Rattle.forest_tests.specs.Stage.{AllFit}
use Rattle.forest_model.specs.Drain.{gate_step}
use Rattle.shadow_forest.proofs.Drains.{told-numbers}
use Rattle.forest_tests.proofs.Lasting.{fit-lasts, gate-lasts}
use Rattle.forest_tests.proofs.stage.Stage.gate_step.Goals as goal

pub invariant_of-self : goal.invariant_of-self
invariant_of-self g c =
    let v = c.self.inside.forest in
    let is = ap (λ (w : View). w.numbers) c.gate_step.ensures.next ∙ told-numbers v (gate_step v.numbers).0 (gate_step v.numbers).1 in
    subst (λ (f : Forest). AllFit f c.self.inside.benches.items) (sym is) (fit-lasts _ _ (gate-lasts v.numbers c.journal.ensures.sound) _ c.self.invariant)
