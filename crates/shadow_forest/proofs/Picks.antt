-- The pick and who has ended first, as the forest in numbers has them.
use Rattle.std.proofs.Common.{◌≡◌, ℕ, true, false, List, [], ◌∷◌, map, filter, refl, ap, sym, ◌∙◌}
use Rattle.std.specs.List.{AllByRecursion}
use Rattle.std.proofs.lemmas.Bool.{cases_Bool}
use Rattle.forest_model.specs.Choose.{first_by}
use Rattle.forest_model.specs.Forest.{Forest, is_ended}
use Rattle.forest_model.specs.Start.{is_prior}
use Rattle.forest_model.specs.Pick.{pick_of, pick}
use Rattle.forest_model.specs.Drain.{first_ended}
use Rattle.forest_model.proofs.Lists.{either, all-weaken, all-map, all-filter}
use Rattle.forest_model.proofs.StartedLaws.{number}
use Rattle.forest_model.proofs.FirstLaws.{first_by-agree}
use Rattle.txn_runs.specs.Run.{Tables}
use Rattle.journal_core.specs.Recorded.{Recorded}
use Rattle.journal_core.specs.Journal.{deadline_of}
use Rattle.shadow_lanes.specs.Seats.{Seat, Seated, started_of}
use Rattle.shadow_forest.specs.declared.txn.Txn.{Txn}
use Rattle.shadow_forest.specs.Parts.{deadline_at, is_prior_at, all_rows}
use Rattle.shadow_forest.specs.Kept.{forest_of, IsForest}
use Rattle.shadow_forest.proofs.Seen.{IsSeen, all-seen}
use Rattle.shadow_forest.proofs.Rows.{all_rows-seen}

ended-numbers : (f : Forest) (txns : List Txn) (seats : List Seat) → AllByRecursion (IsSeen f txns) seats
    → map (λ (r : Seat). r.number) (filter (λ (r : Seat). r.optimistic.state.done) seats) ≡ map number (filter (is_ended f) (map started_of seats))
ended-numbers f txns [] h = refl
ended-numbers f txns (r ∷ rs) h =
    either (cases_Bool (r.optimistic.state.done))
    (λ e. let ended : is_ended f (started_of r) ≡ true = sym h.0.ended ∙ e in rw (e, ended) (ap (λ ns. r.number ∷ ns) (ended-numbers f txns rs h.1)))
    (λ e. let going : is_ended f (started_of r) ≡ false = sym h.0.ended ∙ e in rw (e, going) (ended-numbers f txns rs h.1))

numbers-deadline : (f : Forest) (txns : List Txn) (seats : List Seat) → AllByRecursion (IsSeen f txns) seats
    → AllByRecursion (λ t. deadline_at txns t ≡ deadline_of f.journal t) (map (λ (r : Seat). r.number) (filter (λ (r : Seat). r.optimistic.state.done) seats))
numbers-deadline f txns seats h =
    all-map (λ t. deadline_at txns t ≡ deadline_of f.journal t) (λ (r : Seat). r.number) (filter (λ (r : Seat). r.optimistic.state.done) seats)
    (all-filter (λ (r : Seat). deadline_at txns r.number ≡ deadline_of f.journal r.number) (λ (r : Seat). r.optimistic.state.done) seats
    (all-weaken (IsSeen f txns) (λ (r : Seat). deadline_at txns r.number ≡ deadline_of f.journal r.number) (λ r s. s.deadline) seats h))

-- In a forest that keeps what it should.

module _ (journal : Recorded) (tables : Tables) (txns : List Txn) (queue : List ℕ) (s : Seated) (h : IsForest journal tables txns queue s) where
  -- the pick is that of the forest in numbers
  pub pick_is : pick_of (all_rows txns s.seats) ≡ pick (forest_of journal tables s)
  pick_is = ap pick_of (sym (all_rows-seen (forest_of journal tables s) txns s.seats (all-seen journal tables txns queue s h)))

  -- and so is the first by priority of those that have ended
  pub first_ended_is : first_by (is_prior_at txns) (map (λ (r : Seat). r.number) (filter (λ (r : Seat). r.optimistic.state.done) s.seats)) ≡ first_ended (forest_of journal tables s)
  first_ended_is =
      let f : Forest = forest_of journal tables s in
      first_by-agree (λ t. deadline_at txns t ≡ deadline_of journal.entries t) (is_prior_at txns) (is_prior journal.entries) (λ t u a b. rw (a, b) refl)
      (map (λ (r : Seat). r.number) (filter (λ (r : Seat). r.optimistic.state.done) s.seats)) (numbers-deadline (forest_of journal tables s) txns s.seats (all-seen journal tables txns queue s h))
      ∙ ap (first_by (is_prior journal.entries)) (ended-numbers (forest_of journal tables s) txns s.seats (all-seen journal tables txns queue s h))
