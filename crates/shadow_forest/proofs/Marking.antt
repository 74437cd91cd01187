-- Recall.
use Rattle.std.proofs.Common.{◌≡◌, ℕ, false, List, [], ◌∷◌, map, refl, ap, sym, subst, ◌∙◌}
use Rattle.txn_runs.specs.Run.{Tables}
use Rattle.txn_runs.specs.declared.program.Program.{Program}
use Rattle.journal_core.specs.Recorded.{Recorded}
use Rattle.journal_core.specs.Journal.{program_of}
use Rattle.forest_model.specs.Forest.{Forest, wanted}
use Rattle.forest_model.specs.Jobs.{set_out, recalled, recall}
use Rattle.forest_model.specs.Sound.{IsSound}
use Rattle.forest_model.proofs.Lists.{all-map, all-weaken, map-map}
use Rattle.forest_model.proofs.SettleLaws.{wanted-mapped}
use Rattle.forest_model.proofs.StepLaws.{recall-sound}
use Rattle.shadow_state.specs.Bank.{marked_slot}
use Rattle.shadow_lanes.specs.Seats.{Waiter, Seat, Seated, conflict_of, conflicts_of, shadow_of, started_of, waiter_with, recalled_seat}
use Rattle.shadow_forest.specs.declared.txn.Txn.{Txn}
use Rattle.shadow_forest.specs.Kept.{forest_of, SlotStands, SeatStands, IsForest}
use Rattle.shadow_forest.proofs.Keeping.{changed}

-- in numbers a recalled transaction is recalled
recalled_numbers : (r : Seat) → started_of (recalled_seat r) ≡ recalled (started_of r)
recalled_numbers r = ap (λ ss. record { number = r.number; position = r.optimistic.state.position; out = false; shadows = ss }) (map-map shadow_of (waiter_with (marked_slot false)) r.waiters ∙ sym (map-map (set_out false) shadow_of r.waiters))

pub recalled_all : (xs : List Seat) → map started_of (map recalled_seat xs) ≡ map recalled (map started_of xs)
recalled_all [] = refl
recalled_all (x ∷ xs) = rw (recalled_numbers x, recalled_all xs) refl

recalled_conflicts : (r : Seat) → conflicts_of (recalled_seat r) ≡ conflicts_of r
recalled_conflicts r = map-map conflict_of (waiter_with (marked_slot false)) r.waiters

recalled_stands : (p : Program) (d : Tables) (r : Seat) → SeatStands p d r → SeatStands p d (recalled_seat r)
recalled_stands p d r h = record { optimistic = h.optimistic; waiters = all-map (λ (w : Waiter). SlotStands p d w.slot) (waiter_with (marked_slot false)) r.waiters h.waiters }

pub recalled_forest : (journal : Recorded) (tables : Tables) (s : Seated) → forest_of journal tables (record s { seats = map recalled_seat s.seats }) ≡ recall (forest_of journal tables s)
recalled_forest journal tables s = ap (λ rs. record (forest_of journal tables s) { started = rs }) (recalled_all s.seats)

pub recalled_kept : (journal : Recorded) (tables : Tables) (kept : List Txn) (queue : List ℕ) (s : Seated) → IsForest journal tables kept queue s
    → IsForest journal tables kept queue (record s { seats = map recalled_seat s.seats })
recalled_kept journal tables kept queue s h =
    let f : Forest = forest_of journal tables s in
    changed journal tables kept queue s recalled_seat
    (record {
      same_number = λ x. refl;
      sound = subst IsSound (sym (recalled_forest journal tables s)) (recall-sound f h.sound);
      stand = all-weaken (λ (x : Seat). SeatStands (program_of journal.entries x.number) tables x) (λ (x : Seat). SeatStands (program_of journal.entries x.number) tables (recalled_seat x)) (λ x old. recalled_stands _ tables x old) s.seats h.stand;
      noted =
          all-weaken (λ (x : Seat). conflicts_of x ≡ wanted f (started_of x)) (λ (x : Seat). conflicts_of (recalled_seat x) ≡ wanted (forest_of journal tables (record s { seats = map recalled_seat s.seats })) (started_of (recalled_seat x)))
          (λ x old. recalled_conflicts x ∙ old ∙ sym (wanted-mapped f recalled (λ y. refl) (λ y. refl) (started_of x)) ∙ ap (λ g. wanted g (recalled (started_of x))) (sym (recalled_forest journal tables s)) ∙ ap (wanted (forest_of journal tables (record s { seats = map recalled_seat s.seats }))) (sym (recalled_numbers x)))
          s.seats h.noted;
    })
    h
