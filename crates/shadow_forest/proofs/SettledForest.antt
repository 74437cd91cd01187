-- Started transactions that are settled one by one are settled in numbers.
use Rattle.std.proofs.Common.{◌≡◌, List, [], ◌∷◌, map, Some, refl, ap, sym, subst, ◌∙◌}
use Rattle.std.specs.List.{AllByRecursion}
use Rattle.txn_runs.specs.Run.{Tables}
use Rattle.journal_core.specs.Recorded.{Recorded}
use Rattle.journal_core.specs.Journal.{program_of}
use Rattle.forest_model.specs.Forest.{Started, Forest, wanted, find_started}
use Rattle.forest_model.specs.Settle.{resettled, settle}
use Rattle.forest_model.specs.Sound.{IsRising, IsSound}
use Rattle.forest_model.proofs.Lists.{all-both, map-map, map-agree}
use Rattle.forest_model.proofs.SettleLaws.{wanted-mapped}
use Rattle.forest_model.proofs.PickLaws.{found-self}
use Rattle.shadow_lanes.specs.Seats.{Seat, Seated, conflicts_of, started_of}
use Rattle.shadow_forest.specs.Kept.{forest_of, SeatStands}
use Rattle.shadow_forest.proofs.Keeping.{IsChange}

-- what holds of each number holds of each transaction
pub all_unmapped : {X Y : Type 0} (P : Y → Type 0) (g : X → Y) (xs : List X) → AllByRecursion P (map g xs) → AllByRecursion (λ x. P (g x)) xs
all_unmapped P g [] h = tt
all_unmapped P g (x ∷ xs) h = (h.0, all_unmapped P g xs h.1)

-- each is found by its number
pub found_each : (xs : List Seat) → IsRising (map (λ (x : Started). x.number) (map started_of xs)) → AllByRecursion (λ (x : Seat). find_started (map started_of xs) x.number ≡ Some (started_of x)) xs
found_each xs rising = all_unmapped (λ (r : Started). find_started (map started_of xs) r.number ≡ Some r) started_of xs (found-self (map started_of xs) rising)

-- g is the forest after an event and before settling, in which each transaction is changed by mid; and by fin it is settled too
pub record IsSettling (journal : Recorded) (d : Tables) (s : Seated) (before : List Started) (g : Forest) (mid fin : Seat → Seat) : Type 0 where
  pub forest : g ≡ record (forest_of journal d s) { started = map started_of (map mid s.seats) }
  pub number : (x : Seat) → (fin x).number ≡ x.number
  pub found : AllByRecursion (λ (x : Seat). started_of (fin x) ≡ resettled before g (started_of (mid x))) s.seats
  pub noted : AllByRecursion (λ (x : Seat). conflicts_of (fin x) ≡ wanted g (started_of (mid x))) s.seats
  pub stand : AllByRecursion (λ (x : Seat). SeatStands (program_of journal.entries (fin x).number) d (fin x)) s.seats
  pub sound : IsSound (settle before g)

settled_started : (journal : Recorded) (d : Tables) (s : Seated) (before : List Started) (g : Forest) (mid fin : Seat → Seat) → IsSettling journal d s before g mid fin
    → map started_of (map fin s.seats) ≡ map (resettled before g) g.started
settled_started journal d s before g mid fin h =
    map-map started_of fin s.seats
    ∙ map-agree (λ x. started_of (fin x)) (λ x. resettled before g (started_of (mid x))) s.seats h.found
    ∙ sym (map-map (λ y. resettled before g (started_of y)) mid s.seats)
    ∙ sym (map-map (resettled before g) started_of (map mid s.seats))
    ∙ ap (map (resettled before g)) (sym (ap (λ f. f.started) h.forest))

-- the forest with these started transactions
abbrev pub with_started : List Started → Forest → Forest
with_started rs f = record f { started = rs }

-- the forest in numbers is settled
pub settled_forest : (journal : Recorded) (d : Tables) (s : Seated) (before : List Started) (g : Forest) (mid fin : Seat → Seat) → IsSettling journal d s before g mid fin
    → forest_of journal d (record s { seats = map fin s.seats }) ≡ settle before g
settled_forest journal d s before g mid fin h =
    ap (λ rs. with_started rs (forest_of journal d s)) (settled_started journal d s before g mid fin h)
    ∙ sym (ap (with_started (map (resettled before g) g.started)) h.forest)

-- and all is kept
pub settled_change : (journal : Recorded) (d : Tables) (s : Seated) (before : List Started) (g : Forest) (mid fin : Seat → Seat) → IsSettling journal d s before g mid fin
    → IsChange journal d s fin
settled_change journal d s before g mid fin h =
    let is = settled_forest journal d s before g mid fin h in
    record {
      same_number = h.number;
      sound = subst IsSound (sym is) h.sound;
      stand = h.stand;
      noted =
          all-both (λ (x : Seat). started_of (fin x) ≡ resettled before g (started_of (mid x))) (λ (x : Seat). conflicts_of (fin x) ≡ wanted g (started_of (mid x)))
          (λ (x : Seat). conflicts_of (fin x) ≡ wanted (forest_of journal d (record s { seats = map fin s.seats })) (started_of (fin x)))
          (λ x found noted.
          noted ∙ sym (wanted-mapped g (resettled before g) (λ y. refl) (λ y. refl) (started_of (mid x)))
          ∙ ap (wanted (settle before g)) (sym found)
          ∙ ap (λ f. wanted f (started_of (fin x))) (sym is))
          s.seats h.found h.noted;
    }
