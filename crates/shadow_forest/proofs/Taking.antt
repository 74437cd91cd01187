-- A shadow is handed out.
use Rattle.std.proofs.Common.{◌≡◌, ℕ, zero, suc, ◌==◌, true, List, [], ◌∷◌, map, Some, refl, ap, sym, subst, ◌∙◌}
use Rattle.std.specs.List.{AllByRecursion}
use Rattle.std.proofs.lemmas.Bool.{cases_Bool, cond_both}
use Rattle.txn_runs.specs.Run.{Tables}
use Rattle.txn_runs.specs.declared.program.Program.{Program}
use Rattle.journal_core.specs.Recorded.{Recorded}
use Rattle.journal_core.specs.Journal.{program_of}
use Rattle.block_rule.specs.declared.role.Row.{Row}
use Rattle.forest_model.specs.Forest.{Started, Forest, wanted}
use Rattle.forest_model.specs.Jobs.{mark_place, marked, marked_at, taken}
use Rattle.forest_model.specs.Sound.{IsSound}
use Rattle.forest_model.proofs.Lists.{either, all-weaken}
use Rattle.forest_model.proofs.SettleLaws.{wanted-mapped}
use Rattle.forest_model.proofs.StepLaws.{taken-sound}
use Rattle.shadow_state.specs.Bank.{at_place, marked_slot}
use Rattle.shadow_lanes.specs.Seats.{Waiter, Seat, Seated, conflict_of, conflicts_of, shadow_of, started_of, waiter_with, seat_with}
use Rattle.shadow_forest.specs.declared.txn.Txn.{Txn}
use Rattle.shadow_forest.specs.Kept.{forest_of, SlotStands, SeatStands, IsForest}
use Rattle.shadow_forest.proofs.Keeping.{at_number, at_number_keeps, changed}

-- The mark in numbers.

mark_shadows : (n : ℕ) (ws : List Waiter) → map shadow_of (at_place n (waiter_with (marked_slot true)) ws) ≡ mark_place n (map shadow_of ws)
mark_shadows n [] = refl
mark_shadows zero (w ∷ ws) = refl
mark_shadows (suc n) (w ∷ ws) = ap (λ ss. shadow_of w ∷ ss) (mark_shadows n ws)

mark_conflicts : (n : ℕ) (ws : List Waiter) → map conflict_of (at_place n (waiter_with (marked_slot true)) ws) ≡ map conflict_of ws
mark_conflicts n [] = refl
mark_conflicts zero (w ∷ ws) = refl
mark_conflicts (suc n) (w ∷ ws) = ap (λ cs. conflict_of w ∷ cs) (mark_conflicts n ws)

-- the transaction with the slot marked
abbrev out_at : ℕ → Seat → Seat
out_at slot r = seat_with slot (marked_slot true) r

out_numbers : (slot : ℕ) (r : Seat) → started_of (out_at slot r) ≡ marked slot (started_of r)
out_numbers zero r = refl
out_numbers (suc n) r = ap (λ ss. record { number = r.number; position = r.optimistic.state.position; out = r.optimistic.out; shadows = ss }) (mark_shadows n r.waiters)

out_conflicts : (slot : ℕ) (r : Seat) → conflicts_of (out_at slot r) ≡ conflicts_of r
out_conflicts zero r = refl
out_conflicts (suc n) r = mark_conflicts n r.waiters

out_number : (slot : ℕ) (r : Seat) → (out_at slot r).number ≡ r.number
out_number zero r = refl
out_number (suc n) r = refl

waiters_stand : (p : Program) (d : Tables) (n : ℕ) (ws : List Waiter) → AllByRecursion (λ (w : Waiter). SlotStands p d w.slot) ws → AllByRecursion (λ (w : Waiter). SlotStands p d w.slot) (at_place n (waiter_with (marked_slot true)) ws)
waiters_stand p d n [] h = tt
waiters_stand p d zero (w ∷ ws) h = (h.0, h.1)
waiters_stand p d (suc n) (w ∷ ws) h = (h.0, waiters_stand p d n ws h.1)

-- the transaction's states stand as they stood
abbrev Stands : Recorded → Tables → Seat → Type 0
Stands journal d r = SeatStands (program_of journal.entries r.number) d r

out_stands : (journal : Recorded) (d : Tables) (slot : ℕ) (r : Seat) → Stands journal d r → Stands journal d (out_at slot r)
out_stands journal d zero r h = record { optimistic = h.optimistic; waiters = h.waiters }
out_stands journal d (suc n) r h = record { optimistic = h.optimistic; waiters = waiters_stand (program_of journal.entries r.number) d n r.waiters h.waiters }

-- Of all transactions.

marked-keeps : (n : ℕ) (x : Started) → ((marked n x).number ≡ x.number) × ((marked n x).position ≡ x.position)
marked-keeps zero x = (refl, refl)
marked-keeps (suc n) x = (refl, refl)

-- the shadow of the row is out
abbrev pub mark : Row → Seat → Seat
mark row x = at_number row.txn (out_at row.place) x

module _ (row : Row) where
  mark_number : (x : Seat) → (mark row x).number ≡ x.number
  mark_number = at_number_keeps row.txn (out_at row.place) (out_number row.place)

  mark_numbers : (x : Seat) → started_of (mark row x) ≡ marked_at row (started_of x)
  mark_numbers x = either (cases_Bool (x.number == row.txn)) (λ e. rw e (out_numbers row.place x)) (λ e. rw e refl)

  mark_conflict : (x : Seat) → conflicts_of (mark row x) ≡ conflicts_of x
  mark_conflict x = cond_both {A = Seat} (x.number == row.txn) (out_at row.place x) x (λ y. conflicts_of y ≡ conflicts_of x) (λ e. out_conflicts row.place x) (λ e. refl)

  mark_stands : (journal : Recorded) (d : Tables) (x : Seat) → Stands journal d x → Stands journal d (mark row x)
  mark_stands journal d x h = cond_both {A = Seat} (x.number == row.txn) (out_at row.place x) x (Stands journal d) (λ e. out_stands journal d row.place x h) (λ e. h)

  at_keeps : (x : Started) → ((marked_at row x).number ≡ x.number) × ((marked_at row x).position ≡ x.position)
  at_keeps x = (
    cond_both {A = Started} (x.number == row.txn) (marked row.place x) x (λ y. y.number ≡ x.number) (λ e. (marked-keeps row.place x).0) (λ e. refl),
    cond_both {A = Started} (x.number == row.txn) (marked row.place x) x (λ y. y.position ≡ x.position) (λ e. (marked-keeps row.place x).1) (λ e. refl),
  )

  marked_all : (xs : List Seat) → map started_of (map (mark row) xs) ≡ map (marked_at row) (map started_of xs)
  marked_all [] = refl
  marked_all (x ∷ xs) = rw (mark_numbers x, marked_all xs) refl

  pub marked_forest : (journal : Recorded) (d : Tables) (s : Seated) → forest_of journal d (record s { seats = map (mark row) s.seats }) ≡ taken (forest_of journal d s) (Some row)
  marked_forest journal d s = ap (λ rs. record (forest_of journal d s) { started = rs }) (marked_all s.seats)

  -- all is kept
  pub marked_kept : (journal : Recorded) (d : Tables) (kept : List Txn) (queue : List ℕ) (s : Seated) → IsForest journal d kept queue s
      → IsForest journal d kept queue (record s { seats = map (mark row) s.seats })
  marked_kept journal d kept queue s h =
      let f : Forest = forest_of journal d s in
      let f' : Forest = forest_of journal d (record s { seats = map (mark row) s.seats }) in
      changed journal d kept queue s (mark row)
      (record {
        same_number = mark_number;
        sound = subst IsSound (sym (marked_forest journal d s)) (taken-sound f (Some row) h.sound);
        stand = all-weaken (Stands journal d) (λ (x : Seat). Stands journal d (mark row x)) (λ x old. mark_stands journal d x old) s.seats h.stand;
        noted =
            all-weaken (λ (x : Seat). conflicts_of x ≡ wanted f (started_of x)) (λ (x : Seat). conflicts_of (mark row x) ≡ wanted f' (started_of (mark row x)))
            (λ x old.
            mark_conflict x ∙ old ∙ sym (wanted-mapped f (marked_at row) (λ y. (at_keeps y).0) (λ y. (at_keeps y).1) (started_of x))
            ∙ ap (λ g. wanted g (marked_at row (started_of x))) (sym (marked_forest journal d s)) ∙ ap (wanted f') (sym (mark_numbers x)))
            s.seats h.noted;
      })
      h
