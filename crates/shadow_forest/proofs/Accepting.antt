-- Which commits are accepted, and what they record.
use Rattle.std.proofs.Common.{◌≡◌, ℕ, zero, suc, ◌<◌, ◌==◌, true, false, not, ltb, List, [], ◌∷◌, ◌++◌, map, length, Option, Some, None, Ok, Err, refl, ap, sym, ◌∙◌, arith, ltb-true, ltb-false}
use Rattle.std.specs.Prelude.{slice_get, option_map}
use Rattle.std.proofs.lemmas.Bool.{cases_Bool, and_parts, not-true}
use Rattle.txn_runs.specs.Run.{Tables}
use Rattle.txn_runs.specs.Serial.{run_length, outcome_of}
use Rattle.txn_runs.specs.declared.program.Program.{Program}
use Rattle.journal_core.specs.declared.entry.Entry.TheVariants.{Committed}
use Rattle.journal_core.specs.Recorded.{Recorded}
use Rattle.journal_core.specs.Journal.{has_ended as has_ended_in, is_live, program_of, committed_of}
use Rattle.journal_core.proofs.Standing.{unended, committed-new}
use Rattle.forest_model.specs.Forest.{Started, Forest, length_of, is_ended, find_started}
use Rattle.forest_model.specs.Start.{next_to_start, start_some}
use Rattle.forest_model.specs.Events.{NotStarted, NotEnded, laid, committed, commit}
use Rattle.forest_model.proofs.Lists.{either}
use Rattle.forest_model.proofs.RunLaws.{going-below_length, ended-from_length}
use Rattle.forest_model.proofs.StartedLaws.{found-number}
use Rattle.shadow_state.specs.Bank.{Slot}
use Rattle.shadow_lanes.specs.Seats.{Seat, Seated, started_of, find_seat}
use Rattle.shadow_forest.specs.declared.txn.Txn.{Txn}
use Rattle.shadow_forest.specs.Kept.{forest_of, SlotStands, SeatStands, IsForest}
use Rattle.shadow_forest.proofs.Elements.{placed, find-map}
use Rattle.shadow_forest.proofs.Keeping.{all_at}

-- Who is started.

-- whoever has a seat is started, and no one else
pub find_numbers : (xs : List Seat) (t : ℕ) → find_started (map started_of xs) t ≡ option_map started_of (find_seat xs t)
find_numbers xs t = find-map (λ (r : Started). r.number == t) started_of xs

-- a state knows whether its run has ended
ended_is : (p : Program) (d : Tables) (o : Slot) → SlotStands p d o → not (ltb o.state.position (run_length p d)) ≡ o.state.done
ended_is p d o h =
    either (cases_Bool (ltb o.state.position (run_length p d)))
    (λ e. rw e (sym (h.done ∙ going-below_length p d o.state.position (ltb-true _ _ e))))
    (λ e. rw e (sym (h.done ∙ ended-from_length p d o.state.position (ltb-false _ _ e))))

-- the transaction t stands at a place
pub record IsFoundAt (journal : Recorded) (d : Tables) (s : Seated) (at t : ℕ) : Type 0 where
  pub seat : Seat
  pub there : slice_get s.seats at ≡ Some seat
  pub started : slice_get (map started_of s.seats) at ≡ Some (started_of seat)
  pub found : find_started (map started_of s.seats) t ≡ Some (started_of seat)
  pub ended : is_ended (forest_of journal d s) (started_of seat) ≡ seat.optimistic.state.done

mapped_at : (xs : List Seat) (at : ℕ) (x : Seat) → slice_get xs at ≡ Some x → slice_get (map started_of xs) at ≡ Some (started_of x)
mapped_at [] at x e = cc
mapped_at (y ∷ xs) zero x e = let same : y ≡ x = cc in ap (λ z. Some (started_of z)) same
mapped_at (y ∷ xs) (suc at) x e = mapped_at xs at x e

pub found_at : (journal : Recorded) (d : Tables) (kept : List Txn) (queue : List ℕ) (s : Seated) (at t : ℕ) → IsForest journal d kept queue s → at < length s.seats → slice_get s.seats at ≡ find_seat s.seats t
    → IsFoundAt journal d s at t
found_at journal d kept queue s at t h below is =
    let x = placed s.seats at below in
    let stands : SeatStands (program_of journal.entries x.0.number) d x.0 = all_at (λ (r : Seat). SeatStands (program_of journal.entries r.number) d r) s.seats at x.0 h.stand x.1 in
    record {
      seat = x.0;
      there = x.1;
      started = mapped_at s.seats at x.0 x.1;
      found = find_numbers s.seats t ∙ ap (option_map started_of) (sym is ∙ x.1);
      ended = ended_is (program_of journal.entries x.0.number) d x.0.optimistic stands.optimistic;
    }

-- The answers.

pub commit_unstarted : (f : Forest) (t : ℕ) → is_live f.journal t ≡ true → find_started f.started t ≡ None → commit f t ≡ Err NotStarted
commit_unstarted f t live none = rw (live, none) refl

pub commit_unended : (f : Forest) (t : ℕ) (u : Started) → is_live f.journal t ≡ true → find_started f.started t ≡ Some u → is_ended f u ≡ false → commit f t ≡ Err NotEnded
commit_unended f t u live found going = rw (live, found, going) refl

pub commit_accepted : (f : Forest) (t : ℕ) (u : Started) → is_live f.journal t ≡ true → find_started f.started t ≡ Some u → is_ended f u ≡ true → commit f t ≡ Ok (committed f u)
commit_accepted f t u live found ended = rw (live, found, ended) refl

-- whoever stands at the end of its program has ended
pub at_end : (f : Forest) (u : Started) → u.position ≡ length_of f u → is_ended f u ≡ true
at_end f u e =
    either (cases_Bool (ltb u.position (length_of f u)))
    (λ q. let lt : u.position < length_of f u = ltb-true _ _ q in absurd (omega arith))
    (λ q. rw q refl)

-- What is recorded.

same_journal : (o : Option ℕ) (f : Forest) → (start_some o f).journal ≡ f.journal
same_journal None f = refl
same_journal (Some t) f = refl

-- the outcome that a commit of a live transaction records is that of its run
pub commit_replies : (f : Forest) (t : ℕ) (u : Started) → is_live f.journal t ≡ true → find_started f.started t ≡ Some u → committed_of (committed f u).journal t ≡ Some (outcome_of (program_of f.journal t) f.tables)
commit_replies f t u live found =
    let number : u.number ≡ t = found-number f.started t u found in
    let open_still : has_ended_in f.journal t ≡ false = not-true _ (and_parts _ _ live).1 in
    ap (λ j. committed_of j t) (same_journal (next_to_start (laid f u)) (laid f u))
    ∙ ap (λ n. committed_of (f.journal ++ Committed n (outcome_of (program_of f.journal n) f.tables) ∷ []) t) number
    ∙ committed-new f.journal t (outcome_of (program_of f.journal t) f.tables) (unended f.journal t open_still).1
