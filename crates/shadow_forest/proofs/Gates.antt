-- One step under a gate, as a forest's user sees it.
use Rattle.std.proofs.Common.{◌≡◌, ℕ, Bool, true, false, if◌then◌else◌, Option, Some, None, refl, ap, sym, ◌∙◌}
use Rattle.block_rule.specs.declared.role.Row.{Row}
use Rattle.forest_model.specs.Forest.{Forest}
use Rattle.forest_model.specs.Pick.{pick}
use Rattle.forest_model.specs.Runs.{is_local}
use Rattle.forest_model.specs.Sound.{IsSound}
use Rattle.forest_model.specs.Events.{commit}
use Rattle.forest_model.specs.Drain.{step_row, state_of, first_ended, gate_by, gate_step}
use Rattle.forest_model.specs.declared.did.Did.{Did}
use Rattle.forest_model.specs.declared.did.Did.TheVariants.{Stepped, Nothing}
use Rattle.forest_model.proofs.GateLaws.{first-accepted, gate-commits}
use Rattle.shadow_forest.specs.View.{View, with_numbers, commit_view, drain_told, gate_step_view}
use Rattle.shadow_forest.proofs.Drains.{told-accepted}

-- the commit of the first that has ended
pub gate-commits-view : (v : View) (t : ℕ) → IsSound v.numbers → first_ended v.numbers ≡ Some t → commit_view v t ≡ gate_step_view v
gate-commits-view v t h e =
    told-accepted v t (commit v.numbers t) (first-accepted v.numbers t h e)
    ∙ sym (ap (λ (x : Did × Forest). drain_told v x.0 x.1) (gate-commits v.numbers t e))

-- else what the pick does under it
pub gate-unended : (f : Forest) (o : Option Row) → first_ended f ≡ None → pick f ≡ o → gate_step f ≡ gate_by f None o
gate-unended f o h e = ap (λ x. gate_by f x (pick f)) h ∙ ap (gate_by f None) e

module _ (f : Forest) (row : Row) where
  abbrev by : Bool → Did × Forest
  by b = if b then (Nothing, f) else (Stepped row.txn row.role, step_row f row)

  -- nothing, where its step needs no tables
  pub gate-local : is_local (state_of f row) ≡ true → gate_by f None (Some row) ≡ (Nothing, f)
  gate-local e = ap by e

  -- its step, where that reads them or writes
  pub gate-acts : is_local (state_of f row) ≡ false → gate_by f None (Some row) ≡ (Stepped row.txn row.role, step_row f row)
  gate-acts e = ap by e

told-same : (v : View) (row : Row) (b : Bool) → with_numbers (by v.numbers row b).1 v ≡ drain_told v (by v.numbers row b).0 (by v.numbers row b).1
told-same v row true = refl
told-same v row false = refl

pub row-view : (v : View) (row : Row) → first_ended v.numbers ≡ None → pick v.numbers ≡ Some row → with_numbers (gate_by v.numbers None (Some row)).1 v ≡ gate_step_view v
row-view v row h e =
    told-same v row (is_local (state_of v.numbers row))
    ∙ sym (ap (λ (x : Did × Forest). drain_told v x.0 x.1) (gate-unended v.numbers (Some row) h e))

pub still-view : (v : View) → first_ended v.numbers ≡ None → pick v.numbers ≡ None → v ≡ gate_step_view v
still-view v h e = sym (ap (λ (x : Did × Forest). drain_told v x.0 x.1) (gate-unended v.numbers None h e))
