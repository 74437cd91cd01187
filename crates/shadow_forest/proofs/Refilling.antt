-- The lane that became free is given away, and all are renewed.
use Rattle.std.proofs.Common.{◌≡◌, ℕ, List, Option, ap, ◌∙◌}
use Rattle.txn_runs.specs.Run.{Tables}
use Rattle.journal_core.specs.Recorded.{Recorded}
use Rattle.forest_model.specs.Forest.{Started}
use Rattle.forest_model.specs.Settle.{settle}
use Rattle.forest_model.specs.Start.{start_waiting}
use Rattle.shadow_lanes.specs.Seats.{Seated}
use Rattle.shadow_forest.specs.declared.txn.Txn.{Txn}
use Rattle.shadow_forest.specs.Kept.{forest_of, IsForest}
use Rattle.shadow_forest.proofs.Starting.{IsUnstarted, IsFilled, filled_keeps, filled_forest}
use Rattle.shadow_forest.proofs.RenewedForest.{IsUnsettled, renewed_kept, renewed_forest}
use Rattle.shadow_forest.specs.Parts.{all_renewed}

-- what the code makes of those that wait and of the seats: o starts, and all are renewed
pub record IsRefilled (kept : List Txn) (queue : List ℕ) (s : Seated) (o : Option ℕ) (queue' : List ℕ) (s' s'' : Seated) : Type 0 where
  pub filled : IsFilled kept queue s o queue' s'
  pub renewed_are : s'' ≡ record s' { seats = all_renewed s'.most s'.items kept s'.seats }

module _ (journal : Recorded) (d : Tables) (kept : List Txn) (queue : List ℕ) (s : Seated) (before : List Started) (o : Option ℕ) (queue' : List ℕ) (s' s'' : Seated)
    (h : IsUnstarted journal d kept queue s before) (is : IsRefilled kept queue s o queue' s' s'') where
  between : IsUnsettled journal d kept queue' s' before
  between = filled_keeps journal d kept queue s before o queue' s' h is.filled

  -- all is kept
  pub refilled_keeps : IsForest journal d kept queue' s''
  refilled_keeps = rw (is.renewed_are) (renewed_kept journal d kept queue' s' before between)

  -- and the forest in numbers is settled after the start
  pub refilled_forest : forest_of journal d s'' ≡ settle before (start_waiting (forest_of journal d s))
  refilled_forest =
      ap (forest_of journal d) is.renewed_are ∙ renewed_forest journal d kept queue' s' before between
      ∙ ap (settle before) (filled_forest journal d kept queue s before o queue' s' h is.filled)

  pub refilled_lanes : s''.lanes ≡ s.lanes
  refilled_lanes = ap (λ (x : Seated). x.lanes) is.renewed_are ∙ ap (λ (x : Seated). x.lanes) is.filled.seats_are
