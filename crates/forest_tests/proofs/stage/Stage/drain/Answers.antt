use Rattle.std.proofs.Common.{sym, subst}
use Rattle.forest_model.specs.Forest.{Forest}
use Rattle.forest_tests.specs.Stage.{AllFit}
use Rattle.forest_tests.proofs.Lasting.{fit-lasts, drain-lasts}
use Rattle.forest_tests.proofs.stage.Stage.drain.Goals as goal

pub invariant_of-self : goal.invariant_of-self
invariant_of-self g c =
    let v = c.self.inside.forest in
    let is = c.drain.ensures.numbers in
    subst (λ (f : Forest). AllFit f c.self.inside.benches.items) (sym is) (fit-lasts _ _ (drain-lasts v.numbers c.journal.ensures.sound) _ c.self.invariant)
