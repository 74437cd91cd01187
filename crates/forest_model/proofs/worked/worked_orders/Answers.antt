use Rattle.std.proofs.Common.{[], ◌∷◌, refl}
use Rattle.forest_model.proofs.Leads.{join, closes, stood, shadow}
use Rattle.forest_model.proofs.WorkedOrders.{idle_begun, idle_commits, idle_drains, idle_ended, refused_first, refused_last, refusing, refusing_begun, refusing_steps}
use Rattle.forest_model.proofs.worked.worked_orders.Goals as goal

pub returns : goal.returns
returns c = record {
  refusals = closes (refusing (stood 1 1 (shadow 2 0 ∷ []) ∷ stood 2 1 [] ∷ [])) (join refusing_begun (join refusing_steps (join refused_first refused_last))) refl refl;
  priorities = closes idle_ended (join idle_begun idle_drains) refl refl;
  priorities_by_hand = closes idle_ended (join idle_begun idle_commits) refl refl;
}
