use Rattle.std.proofs.Common.{◌≡◌, length, None, ap, sym, subst, ◌∙◌}
use Rattle.txn_spelling.specs.Strangers.{strangers}
use Rattle.journal_core.specs.Begins.{begins}
use Rattle.shadow_forest.specs.View.{View}
use Rattle.scc_script.specs.Kept.{forest_in, AreKnown, IsKept}
use Rattle.scc_script.specs.Text.{Script}
use Rattle.scc_script.proofs.state.ScriptState.begin_program.Goals as goal

pub invariant_of-self : goal.invariant_of-self
invariant_of-self c =
    let s = c.self.inside in
    let kept : IsKept s.k s.lanes s.setup.names c.in-Some.forest.numbers =
    subst (λ o. IsKept s.k s.lanes s.setup.names (forest_in s.k s.lanes s.setup.tables o)) c.in-Some.is c.self.invariant in
    let none : strangers s.setup.names c.args.program ≡ 0 = subst (λ (x : Script). strangers x.names c.args.program ≡ 0) (sym c.self.view_is) c.requires.known in
    record {
      least = kept.least;
      most = kept.most;
      some = kept.some;
      many = kept.many;
      items = c.begin_in.ensures.items ∙ kept.items;
      known = c.begin_in.ensures.known s.setup.names none kept.known;
    }

pub invariant_of-self-in-None : goal.invariant_of-self-in-None
invariant_of-self-in-None c =
    let s = c.self.inside in
    let kept : IsKept s.k s.lanes s.setup.names (forest_in s.k s.lanes s.setup.tables None) =
    subst (λ o. IsKept s.k s.lanes s.setup.names (forest_in s.k s.lanes s.setup.tables o)) c.in-None.is c.self.invariant in
    let none : strangers s.setup.names c.args.program ≡ 0 = subst (λ (x : Script). strangers x.names c.args.program ≡ 0) (sym c.self.view_is) c.requires.known in
    let was = c.in_ok-forest-in-None.ensures in
    record {
      least = kept.least;
      most = kept.most;
      some = kept.some;
      many = kept.many;
      items = c.begin_in-in-None.ensures.items ∙ ap (λ (v : View). length v.numbers.tables) was ∙ kept.items;
      known = c.begin_in-in-None.ensures.known s.setup.names none (subst (λ (v : View). AreKnown s.setup.names (begins v.numbers.journal)) (sym was) kept.known);
    }
