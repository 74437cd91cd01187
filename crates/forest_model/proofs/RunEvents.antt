-- Idle runs and drains are lists of events.
use Rattle.std.proofs.Common.{◌≡◌, ℕ, zero, suc, true, List, [], ◌∷◌, length, Option, Some, None, refl, ap}
use Rattle.std.specs.List.{AllByRecursion}
use Rattle.block_rule.specs.declared.role.Row.{Row}
use Rattle.forest_model.specs.Forest.{Forest}
use Rattle.forest_model.specs.Pick.{pick}
use Rattle.forest_model.specs.Events.{commit}
use Rattle.forest_model.specs.Jobs.{recall}
use Rattle.forest_model.specs.World.{World, Event, Step, Commit, Recall, happens, all_happen}
use Rattle.forest_model.specs.Work.{work}
use Rattle.forest_model.specs.Drain.{step_row, run_from, run_within, run_idle, first_ended, after_commit, drain_by, drain_from, drain_within, left, drain}
use Rattle.forest_model.specs.Laws.{is_step, is_step_or_commit}

-- the run of these steps
abbrev IsRun : World → ℕ × Forest → Type 0
IsRun w x = (es : List Event) × ((all_happen es w ≡ record w { forest = x.1 }) × ((length es ≡ x.0) × AllByRecursion (λ e. is_step e ≡ true) es))

within-events : (n : ℕ) (w : World) → IsRun w (run_within n w.forest)
within-events zero w = ([], (refl, (refl, tt)))
within-events (suc n) w = go (λ v. within-events n v) (pick w.forest)
  where
    go : ((v : World) → IsRun v (run_within n v.forest)) → (o : Option Row) → IsRun w (run_from o w.forest (run_within n))
    go later None = ([], (refl, (refl, tt)))
    go later (Some row) =
        let more : IsRun (record w { forest = step_row w.forest row }) (run_within n (step_row w.forest row)) = later (record w { forest = step_row w.forest row }) in
        (Step row.txn row.role ∷ more.0, (more.1.0, (ap suc more.1.1.0, (refl, more.1.1.1))))

pub idle-events : (w : World) → (es : List Event) × ((all_happen es w ≡ record w { forest = (run_idle w.forest).1 }) × ((length es ≡ (run_idle w.forest).0) × AllByRecursion (λ e. is_step e ≡ true) es))
idle-events w = within-events (work w.forest) w

-- the drain by these events
abbrev IsDrain : World → ℕ × Forest → Type 0
IsDrain w x = (es : List Event) × ((all_happen es w ≡ record w { forest = x.1 }) × AllByRecursion (λ e. is_step_or_commit e ≡ true) es)

drain-within : (n : ℕ) (w : World) → IsDrain w (drain_within n w.forest)
drain-within zero w = ([], (refl, tt))
drain-within (suc n) w = go (λ v. drain-within n v) (first_ended w.forest) (pick w.forest)
  where
    go : ((v : World) → IsDrain v (drain_within n v.forest)) → (t : Option ℕ) (o : Option Row) → IsDrain w (drain_from (drain_by w.forest t o).0 (drain_by w.forest t o).1 (drain_within n))
    go later (Some t) o =
        let g : Forest = after_commit w.forest (commit w.forest t) in
        let more : IsDrain (record w { forest = g }) (drain_within n g) = later (record w { forest = g }) in
        (Commit t ∷ more.0, (more.1.0, (refl, more.1.1)))
    go later None (Some row) =
        let more : IsDrain (record w { forest = step_row w.forest row }) (drain_within n (step_row w.forest row)) = later (record w { forest = step_row w.forest row }) in
        (Step row.txn row.role ∷ more.0, (more.1.0, (refl, more.1.1)))
    go later None None = ([], (refl, tt))

pub drain-events : (w : World) → (es : List Event) × ((all_happen es (happens w Recall) ≡ record w { forest = (drain w.forest).1 }) × AllByRecursion (λ e. is_step_or_commit e ≡ true) es)
drain-events w = drain-within (left (recall w.forest)) (record w { forest = recall w.forest })
