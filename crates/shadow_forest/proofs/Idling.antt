-- Steps of the pick in a forest that keeps what it should.
use Rattle.std.proofs.Common.{◌≡◌, ℕ, ◌-◌, ◌<◌, ◌≤◌, ◌^◌, true, List, map, filter, Option, Some, None, Result, Ok, Err, is_ok, refl, ap, sym, ◌∙◌}
use Rattle.std.specs.Prelude.{slice_get}
use Rattle.txn_runs.specs.Run.{Tables}
use Rattle.txn_runs.specs.Bounds.{steps_max}
use Rattle.block_rule.specs.declared.role.Row.{Row}
use Rattle.journal_core.specs.declared.entry.Entry.{Entry}
use Rattle.journal_core.specs.Recorded.{Recorded}
use Rattle.journal_core.specs.Journal.{has_begun, program_of}
use Rattle.forest_model.specs.Forest.{Forest, Started}
use Rattle.forest_model.specs.Pick.{pick, pick_of}
use Rattle.forest_model.specs.Sound.{IsSound}
use Rattle.forest_model.specs.Events.{Refusal, step}
use Rattle.forest_model.specs.Drain.{run_from, run_idle, first_ended}
use Rattle.forest_model.specs.Choose.{first_by}
use Rattle.forest_model.proofs.Lists.{all-weaken, all-map}
use Rattle.forest_model.proofs.PickLaws.{pick-accepted}
use Rattle.forest_model.proofs.IdleLaws.{run_idle-unrolled, run_idle-fits}
use Rattle.shadow_lanes.specs.Seats.{Seat, Seated, started_of}
use Rattle.shadow_forest.specs.declared.txn.Txn.{Txn}
use Rattle.shadow_forest.specs.Answers.{step_ticks}
use Rattle.shadow_forest.specs.Parts.{all_rows, is_prior_at}
use Rattle.shadow_forest.specs.View.{View, with_numbers}
use Rattle.shadow_forest.specs.Kept.{forest_of, HasTxn, IsForest}
use Rattle.shadow_forest.proofs.Carrying.{seats-begun}
use Rattle.shadow_forest.proofs.Picks.{pick_is, first_ended_is}

-- Views.

-- a view with these numbers that tells the same as another
pub view-is : (v w : View) (f : Forest) → v.numbers ≡ f → v.resumed ≡ w.resumed → v.starts ≡ w.starts → v ≡ with_numbers f w
view-is v w f numbers resumed starts =
    ap (λ n. record v { numbers = n }) numbers
    ∙ (ap (λ (rs : List (ℕ × ℕ)). let x : View = record { numbers = f; resumed = rs; starts = v.starts } in x) resumed
    ∙ ap (λ (o : Option ℕ). let x : View = record { numbers = f; resumed = w.resumed; starts = o } in x) starts)

-- One step.

pub idle-none : (f : Forest) → IsSound f → pick f ≡ None → run_idle f ≡ (0, f)
idle-none f h e = run_idle-unrolled f h ∙ ap (λ o. run_from o f run_idle) e

pub accepted-ticks : (o : Result (ℕ × Forest) Refusal) → is_ok o ≡ true → step_ticks o ≡ 1
accepted-ticks (Ok answer) e = refl
accepted-ticks (Err refusal) e = cc

pub pick-ticks : (f : Forest) (row : Row) → IsSound f → pick f ≡ Some row → step_ticks (step f row.txn row.role) ≡ 1
pick-ticks f row h e = accepted-ticks (step f row.txn row.role) (pick-accepted f row h e)

-- In a forest that keeps what it should.

has-steps : (items : ℕ) (journal : List Entry) (t : ℕ) (o : Option Txn) → HasTxn items journal t o → steps_max (program_of journal t) ≤ 100000
has-steps items journal t None h = absurd h
has-steps items journal t (Some x) h = h.program.steps

module _ (journal : Recorded) (tables : Tables) (txns : List Txn) (queue : List ℕ) (s : Seated) (h : IsForest journal tables txns queue s) where
  -- the steps can be counted in 64 bits
  pub idle-fits : s.most ≤ 8 → s.lanes ≤ 64 → (run_idle (forest_of journal tables s)).0 < 2 ^ 64
  idle-fits most lanes =
      run_idle-fits (forest_of journal tables s) h.sound most lanes
      (all-map (λ (r : Started). steps_max (program_of journal.entries r.number) ≤ 100000) started_of s.seats
      (all-weaken (λ (r : Seat). has_begun journal.entries r.number ≡ true) (λ (r : Seat). steps_max (program_of journal.entries r.number) ≤ 100000)
      (λ r begun. has-steps s.items journal.entries r.number (slice_get txns (r.number - 1)) (h.txns.each r.number begun)) s.seats (seats-begun journal tables txns queue s h)))

  -- what was picked is the pick of the forest in numbers
  pub picked : (v : View) (kept : List Txn) (o : Option Row) → forest_of journal tables s ≡ v.numbers → kept ≡ txns → o ≡ pick_of (all_rows kept s.seats) → pick v.numbers ≡ o
  picked v kept o numbers same e =
      ap pick (sym numbers) ∙ (sym (pick_is journal tables txns queue s h) ∙ (ap (λ ts. pick_of (all_rows ts s.seats)) (sym same) ∙ sym e))

  -- and who was found to have ended first is the first that has ended
  pub ended-first : (v : View) (kept : List Txn) (o : Option ℕ) → forest_of journal tables s ≡ v.numbers → kept ≡ txns
      → o ≡ first_by (is_prior_at kept) (map (λ (r : Seat). r.number) (filter (λ (r : Seat). r.optimistic.state.done) s.seats)) → first_ended v.numbers ≡ o
  ended-first v kept o numbers same e =
      ap first_ended (sym numbers)
      ∙ (sym (first_ended_is journal tables txns queue s h)
      ∙ (ap (λ ts. first_by (is_prior_at ts) (map (λ (r : Seat). r.number) (filter (λ (r : Seat). r.optimistic.state.done) s.seats))) (sym same) ∙ sym e))
