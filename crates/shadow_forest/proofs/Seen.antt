-- What a started transaction is seen as in numbers.
use Rattle.std.proofs.Common.{◌≡◌, ℕ, ◌<◌, ◌==◌, Bool, true, not, ltb, List, [], ◌∷◌, length, map, Option, Some, None, is_some, refl, ap, sym, ◌∙◌, arith, lt-ltb, le-ltb}
use Rattle.std.specs.Prelude.{slice_get, option_map, MatchOption, find}
use Rattle.std.specs.List.{AllByRecursion, list_any}
use Rattle.std.proofs.lemmas.Bool.{cases_lt, cases_Bool}
use Rattle.std.proofs.lemmas.Option.{slice_get-map}
use Rattle.txn_runs.specs.Run.{Tables}
use Rattle.txn_runs.specs.Serial.{run_length}
use Rattle.txn_runs.specs.declared.program.Program.{Program}
use Rattle.txn_interp.specs.State.{Held, IsRun}
use Rattle.journal_core.specs.Recorded.{Recorded}
use Rattle.journal_core.specs.Journal.{has_begun, program_of, deadline_of}
use Rattle.forest_model.specs.Forest.{Forest, Started, is_ended, wanted, find_started, is_started}
use Rattle.forest_model.proofs.Lists.{either, all-both, length-map'}
use Rattle.forest_model.proofs.RunLaws.{going-below_length, ended-from_length}
use Rattle.shadow_lanes.specs.Seats.{Seat, Seated, started_of, conflicts_of, find_seat}
use Rattle.shadow_forest.specs.declared.txn.Txn.{Txn}
use Rattle.shadow_forest.specs.Parts.{deadline_at}
use Rattle.shadow_forest.specs.Kept.{forest_of, SeatStands, IsForest}
use Rattle.shadow_forest.proofs.Elements.{placed, all-placed, mapped-is, find-map}
use Rattle.shadow_forest.proofs.Carrying.{begun-deadline, seats-begun}

-- By their numbers.

pub find-seat : (seats : List Seat) (t : ℕ) → find_started (map started_of seats) t ≡ option_map started_of (find_seat seats t)
find-seat seats t = find-map (λ r. r.number == t) started_of seats

some-find : {X : Type 0} (test : X → Bool) (xs : List X) → list_any test xs ≡ is_some (find test xs)
some-find test [] = refl
some-find test (x ∷ xs) = either (cases_Bool (test x)) (λ e. rw e refl) (λ e. rw e (some-find test xs))

is_some-map : {X Y : Type 0} (g : X → Y) (o : Option X) → is_some (option_map g o) ≡ is_some o
is_some-map g None = refl
is_some-map g (Some x) = refl

pub started-seat : (seats : List Seat) (t : ℕ) → is_started (map started_of seats) t ≡ is_some (find_seat seats t)
started-seat seats t =
    some-find (λ (r : Started). r.number == t) (map started_of seats) ∙ (ap is_some (find-seat seats t) ∙ is_some-map started_of (find_seat seats t))

-- what a search by number has found
abbrev pub IsFound : List Seat → ℕ → Option ℕ → Type 0
IsFound seats t o = MatchOption o (find_seat seats t ≡ None) (λ place. (place < length seats) × (slice_get seats place ≡ find_seat seats t))

some-is : {X : Type 0} (o : Option X) (x : X) → o ≡ Some x → is_some o ≡ true
some-is None x e = cc
some-is (Some y) x e = refl

-- it has found something where the transaction is started
pub found-some : (seats : List Seat) (t : ℕ) (o : Option ℕ) → IsFound seats t o → is_some o ≡ is_started (map started_of seats) t
found-some seats t None h = sym (started-seat seats t ∙ ap is_some h)
found-some seats t (Some place) h =
    let there : (r : Seat) × (slice_get seats place ≡ Some r) = placed seats place h.0 in
    sym (started-seat seats t ∙ some-is (find_seat seats t) there.0 (sym h.1 ∙ there.1))

-- the one that was found stands at that place
pub started-at : (seats : List Seat) (t place : ℕ) → place < length seats → slice_get seats place ≡ find_seat seats t
    → (r : Started) × (slice_get (map started_of seats) place ≡ Some r) × (find_started (map started_of seats) t ≡ Some r)
started-at seats t place less same =
    let there : (r : Seat) × (slice_get seats place ≡ Some r) = placed seats place less in
    (started_of there.0, slice_get-map started_of seats place ∙ ap (option_map started_of) there.1, find-seat seats t ∙ ap (option_map started_of) (sym same ∙ there.1))

-- The run of the optimistic one.

pub ended-is : (p : Program) (d : Tables) (s : Held) → IsRun p d s → s.done ≡ not (ltb s.position (run_length p d))
ended-is p d s h =
    either (cases_lt s.position (run_length p d))
    (λ lt. h.done ∙ (going-below_length p d s.position lt ∙ ap not (sym (lt-ltb s.position (run_length p d) lt))))
    (λ ge. h.done ∙ (ended-from_length p d s.position ge ∙ ap not (sym (le-ltb s.position (run_length p d) ge))))

-- the forest in numbers says the same of it as what is kept
pub record IsSeen (f : Forest) (txns : List Txn) (r : Seat) : Type 0 where
  pub deadline : deadline_at txns r.number ≡ deadline_of f.journal r.number
  pub ended : r.optimistic.state.done ≡ is_ended f (started_of r)
  pub noted : conflicts_of r ≡ wanted f (started_of r)
  pub stands : SeatStands (program_of f.journal r.number) f.tables r

-- there is one at this place, and it is seen so
pub record IsAt (f : Forest) (txns : List Txn) (seats : List Seat) (place : ℕ) : Type 0 where
  pub seat : Seat
  pub there : slice_get seats place ≡ Some seat
  pub seen : IsSeen f txns seat
  pub numbers : (r : Started) → slice_get (map started_of seats) place ≡ Some r → r ≡ started_of seat

module _ (journal : Recorded) (tables : Tables) (txns : List Txn) (queue : List ℕ) (s : Seated) (h : IsForest journal tables txns queue s) where
  -- each is seen so
  pub all-seen : AllByRecursion (IsSeen (forest_of journal tables s) txns) s.seats
  all-seen =
      all-both (λ (r : Seat). (has_begun journal.entries r.number ≡ true) × SeatStands (program_of journal.entries r.number) tables r) (λ (r : Seat). conflicts_of r ≡ wanted (forest_of journal tables s) (started_of r)) (IsSeen (forest_of journal tables s) txns)
      (λ r one noted. record {
        deadline = begun-deadline journal tables txns queue s h r.number one.0;
        ended = ended-is (program_of journal.entries r.number) tables r.optimistic.state one.1.optimistic;
        noted = noted;
        stands = one.1;
      })
      s.seats
      (all-both (λ (r : Seat). has_begun journal.entries r.number ≡ true) (λ (r : Seat). SeatStands (program_of journal.entries r.number) tables r) (λ (r : Seat). (has_begun journal.entries r.number ≡ true) × SeatStands (program_of journal.entries r.number) tables r) (λ r a b. (a, b)) s.seats (seats-begun journal tables txns queue s h) h.stand)
      h.noted

  -- and the one at a place
  pub seat-at : (place : ℕ) → place < length (map started_of s.seats) → IsAt (forest_of journal tables s) txns s.seats place
  seat-at place less =
      let found : (r : Seat) × (slice_get s.seats place ≡ Some r) = placed s.seats place (omega (arith, length-map' started_of s.seats)) in
      record {
        seat = found.0;
        there = found.1;
        seen = all-placed (IsSeen (forest_of journal tables s) txns) s.seats place found.0 found.1 all-seen;
        numbers = λ r e. mapped-is started_of (slice_get s.seats place) found.0 r (sym (slice_get-map started_of s.seats place) ∙ e) found.1;
      }
