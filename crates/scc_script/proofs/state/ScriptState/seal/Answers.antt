use Rattle.std.proofs.Common.{◌≡◌, length, ap, sym, subst, ◌∙◌}
use Rattle.journal_core.specs.Begins.{begins}
use Rattle.forest_model.specs.Forest.{Forest}
use Rattle.forest_model.specs.Events.{seal}
use Rattle.shadow_forest.specs.View.{View}
use Rattle.scc_script.specs.Kept.{forest_in, AreKnown, IsKept}
use Rattle.scc_script.proofs.Begun.{same-known, seal-begun}
use Rattle.scc_script.proofs.Items.{seal-items}
use Rattle.scc_script.proofs.state.ScriptState.seal.Goals as goal

pub invariant_of-self : goal.invariant_of-self
invariant_of-self c =
    let s = c.self.inside in
    let f = c.in-Some.forest.numbers in
    let kept : IsKept s.k s.lanes s.setup.names f = subst (λ o. IsKept s.k s.lanes s.setup.names (forest_in s.k s.lanes s.setup.tables o)) c.in-Some.is c.self.invariant in
    let same : c.seal.new.self.numbers ≡ seal f = ap (λ (v : View). v.numbers) c.seal.ensures in
    record {
      least = kept.least;
      most = kept.most;
      some = kept.some;
      many = kept.many;
      items = ap (λ (g : Forest). length g.tables) same ∙ seal-items f ∙ kept.items;
      known = subst (λ (g : Forest). AreKnown s.setup.names (begins g.journal)) (sym same) (same-known s.setup.names f (seal f) (seal-begun f) kept.known);
    }
