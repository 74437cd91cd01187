use Rattle.std.proofs.Common.{◌≤◌, map, ap, sym, subst, ◌∙◌}
use Rattle.std.specs.Vec.{vec_capacity}
use Rattle.forest_model.specs.Jobs.{recall as recall_of}
use Rattle.forest_model.specs.Forest.{Forest}
use Rattle.shadow_forest.specs.View.{View, with_numbers}
use Rattle.shadow_forest.specs.Answers.{resumed_pair}
use Rattle.shadow_forest.specs.Kept.{numbers_waiting, IsForest, forest_of}
use Rattle.shadow_forest.proofs.Marking.{recalled_forest, recalled_kept}
use Rattle.shadow_forest.proofs.forest.Forest.recall.Goals as goal

pub invariant_of-self : goal.invariant_of-self
invariant_of-self c =
    let i = c.self.inside in (
      subst (IsForest i.journal i.tables i.txns.items (numbers_waiting i.waiting)) (sym c.recall.ensures) (recalled_kept i.journal i.tables i.txns.items (numbers_waiting i.waiting) i.lanes c.self.invariant.0),
      subst (λ l. l.lanes ≤ vec_capacity i.resumed) (sym c.recall.ensures) c.self.invariant.1,
      c.self.invariant.2,
      c.self.invariant.3,
    )

pub returns : goal.returns
returns c =
    let i = c.self.inside in
    ap (λ (f : Forest). record { numbers = f; resumed = map resumed_pair i.resumed.items; starts = i.starts }) (ap (forest_of i.journal i.tables) c.recall.ensures ∙ recalled_forest i.journal i.tables i.lanes)
    ∙ ap (λ (v : View). with_numbers (recall_of v.numbers) v) c.self.view_is
