-- A job that is given back, as a forest's user sees it.
use Rattle.std.proofs.Common.{◌≡◌, ℕ, ◌<◌, List, length, Option, Some, None, refl, ap, sym, subst, ◌∙◌}
use Rattle.std.specs.Prelude.{slice_get, option_map}
use Rattle.txn_runs.specs.Run.{Tables}
use Rattle.txn_interp.specs.State.{Held}
use Rattle.journal_core.specs.Recorded.{Recorded}
use Rattle.journal_core.specs.Journal.{program_of}
use Rattle.forest_model.specs.Forest.{Started, Forest}
use Rattle.forest_model.specs.Jobs as jobs
use Rattle.shadow_lanes.specs.Seats.{Seated, started_of, slots_of, find_seat}
use Rattle.shadow_forest.specs.declared.txn.Txn.{Txn}
use Rattle.shadow_forest.specs.declared.bench.Job.{Job}
use Rattle.shadow_forest.specs.Bench.{outside_of, job_in, job_of, takes, IsOutside, IsPresent}
use Rattle.shadow_forest.specs.Parts.{first_place}
use Rattle.shadow_forest.specs.View.{View}
use Rattle.shadow_forest.specs.Kept.{forest_of, IsForest}
use Rattle.shadow_forest.proofs.Seen.{find-seat, started-at}
use Rattle.shadow_forest.proofs.Placing.{IsAt, at_place_is}
use Rattle.shadow_forest.proofs.GivenBack.{it, gone, stored, IsStored, after_it}

-- what the rules make of a job with this state
abbrev pub given_in : View → Job → Held → Option Forest
given_in v j st = jobs.give v.numbers (job_in v.numbers (outside_of v.numbers j st))

module _ (journal : Recorded) (d : Tables) (kept : List Txn) (queue : List ℕ) (s : Seated) (resumed : List (ℕ × ℕ)) (starts : Option ℕ) (now : View)
    (view : record { numbers = forest_of journal d s; resumed = resumed; starts = starts } ≡ now) (h : IsForest journal d kept queue s)
    (j : Job) (st : Held) (o : IsOutside (outside_of now.numbers j st)) (room : st.log.room ≡ length now.numbers.tables) where
  pub outside : IsOutside (it journal j.txn j.from st)
  outside = subst (λ (v : View). IsOutside (outside_of v.numbers j st)) (sym view) o

  pub same_room : st.log.room ≡ length d
  same_room = room ∙ sym (ap (λ (v : View). length v.numbers.tables) view)

  -- its transaction isn't started
  pub not-started : find_seat s.seats j.txn ≡ None → given_in now j st ≡ None
  not-started none =
      subst (λ (v : View). given_in v j st ≡ None) view
      (ap (jobs.given (forest_of journal d s) (job_of (program_of journal.entries j.txn) (it journal j.txn j.from st))) (find-seat s.seats j.txn ∙ ap (option_map started_of) none))

  -- the transaction that was found
  pub found-at : (place : ℕ) → place < length s.seats → slice_get s.seats place ≡ find_seat s.seats j.txn → (r : Started) × IsAt journal d kept s place j.txn r
  found-at place less same =
      let x = started-at s.seats j.txn place less same in
      (x.0, at_place_is journal d kept queue s place j.txn x.0 h x.1 x.2)

  -- no shadow takes it
  pub none-takes : (place : ℕ) (r : Started) (a : IsAt journal d kept s place j.txn r) → None ≡ first_place (takes j.from st.log.reads) (slots_of a.seat) → given_in now j st ≡ None
  none-takes place r a none = subst (λ (v : View). given_in v j st ≡ None) view (gone journal d kept queue s place j.txn r j.from st h a outside same_room none)

  -- the first that does has stored it
  pub one-takes : (place : ℕ) (r : Started) (a : IsAt journal d kept s place j.txn r) (slot : ℕ) → Some slot ≡ first_place (takes j.from st.log.reads) (slots_of a.seat)
      → IsStored journal d kept queue s place j.txn r j.from st h a outside same_room slot
  one-takes place r a slot some = stored journal d kept queue s place j.txn r j.from st h a outside same_room slot some

  pub takes-it : (place : ℕ) (r : Started) (a : IsAt journal d kept s place j.txn r) (slot : ℕ) (x : IsStored journal d kept queue s place j.txn r j.from st h a outside same_room slot)
      → given_in now j st ≡ Some (forest_of journal d (after_it journal d kept queue s place j.txn r j.from st h a outside same_room slot))
  takes-it place r a slot x =
      subst (λ (v : View). given_in v j st ≡ Some (forest_of journal d (after_it journal d kept queue s place j.txn r j.from st h a outside same_room slot))) view x.gives

  -- and what it has stored is the run of now
  pub is-present : (place : ℕ) (r : Started) (a : IsAt journal d kept s place j.txn r) (slot : ℕ) → IsStored journal d kept queue s place j.txn r j.from st h a outside same_room slot → IsPresent now.numbers (outside_of now.numbers j st)
  is-present place r a slot x =
      subst (λ (v : View). IsPresent v.numbers (outside_of v.numbers j st)) view
      (record { of_run = record { nodes = refl; run = x.run }; job = x.over })
