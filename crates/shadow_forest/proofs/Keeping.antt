-- What changes of the started transactions keep.
use Rattle.std.proofs.Common.{◌≡◌, ◌≢◌, ℕ, zero, suc, ◌<◌, ◌==◌, Bool, true, not, ◌&&◌, List, [], ◌∷◌, map, filter, Some, refl, ap, sym, subst, ◌∙◌, arith, eqb-true, eq-eqb, true≢false}
use Rattle.std.specs.Prelude.{slice_get, if◌then◌else◌}
use Rattle.std.specs.List.{AllByRecursion}
use Rattle.std.proofs.lemmas.Bool.{cond_both, ne_eqb}
use Rattle.txn_runs.specs.Run.{Tables}
use Rattle.journal_core.specs.Recorded.{Recorded}
use Rattle.journal_core.specs.Journal.{is_live, program_of}
use Rattle.forest_model.specs.Forest.{Started, Forest, wanted, is_started}
use Rattle.forest_model.specs.Start.{waits, numbers}
use Rattle.forest_model.specs.Sound.{IsRising, IsSound}
use Rattle.forest_model.proofs.Lists.{all-map, all-both, map-map, length-map'}
use Rattle.shadow_state.specs.Bank.{at_place}
use Rattle.shadow_lanes.specs.Seats.{Seat, Seated, conflicts_of, started_of}
use Rattle.shadow_forest.specs.declared.txn.Txn.{Txn}
use Rattle.shadow_forest.specs.Kept.{forest_of, SeatStands, IsForest}

-- the number of a seat
abbrev pub seat_number : Seat → ℕ
seat_number r = r.number

-- the transactions' numbers in both ways
pub numbers_of : (xs : List Seat) → map (λ (x : Started). x.number) (map started_of xs) ≡ map seat_number xs
numbers_of xs = map-map (λ (x : Started). x.number) started_of xs

-- who is started, by the numbers alone
pub started_same : (g : Seat → Seat) → ((x : Seat) → (g x).number ≡ x.number) → (xs : List Seat) (t : ℕ) → is_started (map started_of (map g xs)) t ≡ is_started (map started_of xs) t
started_same g h [] t = refl
started_same g h (x ∷ xs) t = rw (h x, started_same g h xs t) refl

-- what is filtered by tests that agree is the same
pub filter_agree : {X : Type 0} (p q : X → Bool) → ((x : X) → p x ≡ q x) → (xs : List X) → filter p xs ≡ filter q xs
filter_agree p q h [] = refl
filter_agree p q h (x ∷ xs) = rw (h x, filter_agree p q h xs) refl

-- One transaction.

-- the change, where it is the transaction of this number
abbrev pub at_number : ℕ → (Seat → Seat) → Seat → Seat
at_number t f x = if x.number == t then f x else x

pub at_number_keeps : (t : ℕ) (f : Seat → Seat) → ((x : Seat) → (f x).number ≡ x.number) → (x : Seat) → (at_number t f x).number ≡ x.number
at_number_keeps t f h x = cond_both (x.number == t) (f x) x (λ y. y.number ≡ x.number) (λ e. h x) (λ e. refl)

others_stay : (t : ℕ) (f : Seat → Seat) (xs : List Seat) → AllByRecursion (λ m. t < m) (map seat_number xs) → map (at_number t f) xs ≡ xs
others_stay t f [] h = refl
others_stay t f (x ∷ xs) h =
    let ne : x.number ≢ t = (λ e. omega (arith, h.0)) in
    rw (ne_eqb _ _ ne, others_stay t f xs h.1) refl

member_above : (n : ℕ) (xs : List Seat) (k : ℕ) (r : Seat) → AllByRecursion (λ m. n < m) (map seat_number xs) → slice_get xs k ≡ Some r → n < r.number
member_above n [] k r h e = cc
member_above n (x ∷ xs) zero r h e = let same : x ≡ r = cc in rw (sym same) h.0
member_above n (x ∷ xs) (suc k) r h e = member_above n xs k r h.1 e

-- a change at a place is one of the transaction that stands there
pub place_is_number : (xs : List Seat) (k : ℕ) (r : Seat) (f : Seat → Seat) → IsRising (map seat_number xs) → slice_get xs k ≡ Some r → at_place k f xs ≡ map (at_number r.number f) xs
place_is_number [] k r f h e = cc
place_is_number (x ∷ xs) zero r f h e =
    let same : x ≡ r = cc in
    let here : x.number == r.number ≡ true = eq-eqb _ _ (ap seat_number same) in
    let rest : map (at_number r.number f) xs ≡ xs = others_stay r.number f xs (subst (λ n. AllByRecursion (λ m. n < m) (map seat_number xs)) (ap seat_number same) h.0) in
    rw (here, rest) refl
place_is_number (x ∷ xs) (suc k) r f h e =
    let above : x.number < r.number = member_above x.number xs k r h.0 e in
    let ne : x.number ≢ r.number = (λ q. omega (arith, above)) in
    rw (ne_eqb _ _ ne) (ap (λ ys. x ∷ ys) (place_is_number xs k r f h.1 e))

-- All of a forest, after a change of each transaction that keeps its number.

pub record IsChange (journal : Recorded) (tables : Tables) (s : Seated) (g : Seat → Seat) : Type 0 where
  pub same_number : (x : Seat) → (g x).number ≡ x.number
  pub sound : IsSound (forest_of journal tables (record s { seats = map g s.seats }))
  pub stand : AllByRecursion (λ (x : Seat). SeatStands (program_of journal.entries (g x).number) tables (g x)) s.seats
  pub noted : AllByRecursion (λ (x : Seat). conflicts_of (g x) ≡ wanted (forest_of journal tables (record s { seats = map g s.seats })) (started_of (g x))) s.seats

pub changed : (journal : Recorded) (tables : Tables) (kept : List Txn) (queue : List ℕ) (s : Seated) (g : Seat → Seat) → IsChange journal tables s g
    → IsForest journal tables kept queue s → IsForest journal tables kept queue (record s { seats = map g s.seats })
changed journal tables kept queue s g c h =
    let f : Forest = forest_of journal tables s in
    let f' : Forest = forest_of journal tables (record s { seats = map g s.seats }) in
    record {
      sound = c.sound;
      least = h.least;
      most = h.most;
      items = h.items;
      size = h.size;
      within = h.within;
      stand =
          all-map (λ (r : Seat). SeatStands (program_of journal.entries r.number) tables r) g s.seats c.stand;
      noted = all-map (λ (r : Seat). conflicts_of r ≡ wanted f' (started_of r)) g s.seats c.noted;
      txns = h.txns;
      waiting = h.waiting ∙ filter_agree (waits f) (waits f') (λ t. ap (λ b. is_live journal.entries t && not b) (sym (started_same g c.same_number s.seats t))) (numbers journal.entries);
      spare = rw (length-map' g s.seats) h.spare;
    }

-- who has the number of the transaction at a place is that one
others_not : (n : ℕ) (xs : List Seat) (r : Seat) → AllByRecursion (λ m. n < m) (map seat_number xs) → n ≡ r.number → AllByRecursion (λ (x : Seat). x.number ≡ r.number → x ≡ r) xs
others_not n [] r h e = tt
others_not n (x ∷ xs) r h e = ((λ q. absurd (no q h.0)), others_not n xs r h.1 e)
  where
    no : x.number ≡ r.number → n < x.number → ⊥
    no q lt = omega arith

pub alone : (xs : List Seat) (k : ℕ) (r : Seat) → IsRising (map seat_number xs) → slice_get xs k ≡ Some r → AllByRecursion (λ (x : Seat). x.number ≡ r.number → x ≡ r) xs
alone [] k r h e = cc
alone (x ∷ xs) zero r h e = let same : x ≡ r = cc in ((λ q. same), others_not x.number xs r h.0 (ap seat_number same))
alone (x ∷ xs) (suc k) r h e =
    let above : x.number < r.number = member_above x.number xs k r h.0 e in
    let no : x.number ≡ r.number → x ≡ r = (λ q. absurd (omega (arith, above, q))) in
    (no, alone xs k r h.1 e)

-- what holds of all holds of the one at a place
pub all_at : (P : Seat → Type 0) (xs : List Seat) (k : ℕ) (r : Seat) → AllByRecursion P xs → slice_get xs k ≡ Some r → P r
all_at P [] k r h e = cc
all_at P (x ∷ xs) zero r h e = let same : x ≡ r = cc in subst P same h.0
all_at P (x ∷ xs) (suc k) r h e = all_at P xs k r h.1 e

-- of a change of one transaction: what holds of it changed, and of the others as they are, holds of all
pub all_at_number : (P Q : Seat → Type 0) (t : ℕ) (f : Seat → Seat) (r : Seat) (xs : List Seat) → AllByRecursion (λ (x : Seat). x.number ≡ t → x ≡ r) xs → AllByRecursion P xs
    → Q (f r) → ((x : Seat) → x.number ≢ t → P x → Q x) → AllByRecursion (λ (x : Seat). Q (at_number t f x)) xs
all_at_number P Q t f r xs only old new others =
    all-both (λ (x : Seat). x.number ≡ t → x ≡ r) P (λ (x : Seat). Q (at_number t f x))
    (λ x is of_x.
    cond_both {A = Seat} (x.number == t) (f x) x Q
    (λ e. let same : x ≡ r = is (eqb-true _ _ e) in rw same new)
    (λ e. others x (λ q. true≢false (sym (eq-eqb _ _ q) ∙ e)) of_x))
    xs only old
