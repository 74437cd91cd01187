-- Each live transaction is kept, with the nodes of its program and its deadline.
use Rattle.std.proofs.Common.{◌≡◌, ℕ, ◌-◌, true, List, [], ◌∷◌, map, filter, Option, Some, None, sym, subst, arith}
use Rattle.std.specs.Prelude.{slice_get}
use Rattle.std.specs.List.{AllByRecursion}
use Rattle.std.proofs.lemmas.Bool.{and_parts}
use Rattle.txn_runs.specs.Run.{Tables}
use Rattle.txn_interp.specs.State.{Carries}
use Rattle.journal_core.specs.declared.entry.Entry.{Entry}
use Rattle.journal_core.specs.Recorded.{Recorded}
use Rattle.journal_core.specs.Journal.{has_begun, is_live, program_of, deadline_of}
use Rattle.journal_core.proofs.Legal.{Counts, counts, begun-live}
use Rattle.forest_model.specs.Start.{waits, numbers}
use Rattle.forest_model.proofs.Lists.{all-weaken, filter-passes}
use Rattle.shadow_lanes.specs.Seats.{Seat, Seated, started_of}
use Rattle.shadow_forest.specs.declared.txn.Txn.{Txn}
use Rattle.shadow_forest.specs.Parts.{nodes_in, deadline_in, deadline_at}
use Rattle.shadow_forest.specs.Kept.{forest_of, HasTxn, IsForest}
use Rattle.shadow_forest.specs.Ready.{IsCarried, AreCarried}

-- what holds of each that was mapped holds of what it was mapped from
pub all-unmap : {X Y : Type 0} (P : Y → Type 0) (g : X → Y) (xs : List X) → AllByRecursion P (map g xs) → AllByRecursion (λ x. P (g x)) xs
all-unmap P g [] h = tt
all-unmap P g (x ∷ xs) h = (h.0, all-unmap P g xs h.1)

has-carries : (items : ℕ) (journal : List Entry) (t : ℕ) (o : Option Txn) → is_live journal t ≡ true → HasTxn items journal t o → Carries (nodes_in o) items
has-carries items journal t None live h = absurd h
has-carries items journal t (Some x) live h = record { body = program_of journal t; program = h.program; fits = h.fits; code = h.code live }

has-deadline : (items : ℕ) (journal : List Entry) (t : ℕ) (o : Option Txn) → HasTxn items journal t o → deadline_in o ≡ deadline_of journal t
has-deadline items journal t None h = absurd h
has-deadline items journal t (Some x) h = h.deadline

module _ (journal : Recorded) (tables : Tables) (txns : List Txn) (queue : List ℕ) (s : Seated) (h : IsForest journal tables txns queue s) where
  -- who is live is kept
  pub live-carried : (t : ℕ) → is_live journal.entries t ≡ true → IsCarried s.items txns t
  live-carried t live =
      let c : Counts journal.entries = counts journal.opening journal.entries h.sound.right.legal in
      let begun : has_begun journal.entries t ≡ true = begun-live journal.entries t live in
      record {
        least = c.positive t begun;
        most = omega (arith, c.bounded t begun, h.txns.many);
        carries = has-carries s.items journal.entries t (slice_get txns (t - 1)) live (h.txns.each t begun);
      }

  -- who began is kept with its deadline
  pub begun-deadline : (t : ℕ) → has_begun journal.entries t ≡ true → deadline_at txns t ≡ deadline_of journal.entries t
  begun-deadline t begun = has-deadline s.items journal.entries t (slice_get txns (t - 1)) (h.txns.each t begun)

  seats-live : AllByRecursion (λ (r : Seat). is_live journal.entries r.number ≡ true) s.seats
  seats-live = all-unmap (λ r. is_live journal.entries r.number ≡ true) started_of s.seats h.sound.right.live

  -- who is started has begun
  pub seats-begun : AllByRecursion (λ (r : Seat). has_begun journal.entries r.number ≡ true) s.seats
  seats-begun =
      all-weaken (λ (r : Seat). is_live journal.entries r.number ≡ true) (λ (r : Seat). has_begun journal.entries r.number ≡ true)
      (λ r live. begun-live journal.entries r.number live) s.seats seats-live

  -- those that are started are kept
  pub carried : AreCarried s.items txns s.seats
  carried = all-weaken (λ (r : Seat). is_live journal.entries r.number ≡ true) (λ (r : Seat). IsCarried s.items txns r.number) (λ r live. live-carried r.number live) s.seats seats-live

  -- those that wait are kept
  pub waiting-carried : AllByRecursion (IsCarried s.items txns) queue
  waiting-carried =
      subst (AllByRecursion (IsCarried s.items txns)) (sym h.waiting)
      (all-weaken (λ t. waits (forest_of journal tables s) t ≡ true) (IsCarried s.items txns)
      (λ t w. live-carried t (and_parts _ _ w).0)
      (filter (waits (forest_of journal tables s)) (numbers journal.entries)) (filter-passes (waits (forest_of journal tables s)) (numbers journal.entries)))
