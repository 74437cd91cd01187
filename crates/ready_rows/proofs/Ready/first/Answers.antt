use Rattle.std.proofs.Common.{◌≡◌, Some, sym, ap, ◌∙◌, option_map, List}
use Rattle.std.specs.Prelude.{slice_get}
use Rattle.block_rule.specs.declared.role.Row.{Row}
use Rattle.forest_model.specs.Pick.{pick_of}
use Rattle.ready_rows.specs.Rows.{Rows}
use Rattle.ready_rows.proofs.Ordered.{pick-head}
use Rattle.ready_rows.proofs.Ready.first.Goals as goal

pub returns-in-Some-clause-pick : goal.returns-in-Some-clause-pick
returns-in-Some-clause-pick c =
    let rows = c.self.inside.rows.items in
    let head : Some c.in-Some.row.now ≡ pick_of rows = c.in-Some.ensures.value ∙ ap (λ (rs : List Row). slice_get rs 0) c.deref.ensures.value ∙ sym (pick-head rows c.self.invariant.order c.self.invariant.ready) in
    ap (option_map (λ (row : Row). (row.txn, row.role))) (head ∙ ap (λ (r : Rows). pick_of r.rows) c.self.view_is)
