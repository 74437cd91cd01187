-- What a forest keeps of the transaction at a place.
use Rattle.std.proofs.Common.{◌≡◌, ℕ, zero, suc, ◌-◌, ◌≤◌, ◌<◌, ◌==◌, true, List, [], ◌∷◌, map, length, Option, Some, None, refl, ap, sym, subst, ◌∙◌, arith}
use Rattle.std.specs.Prelude.{slice_get}
use Rattle.std.specs.List.{AllByRecursion, AllZip}
use Rattle.txn_runs.specs.Run.{Tables}
use Rattle.txn_runs.specs.Bounds.{reach}
use Rattle.txn_code.specs.declared.node.Node.{Node}
use Rattle.txn_code.specs.Nodes.{nodes_of}
use Rattle.txn_interp.specs.State.{Runs, Carries}
use Rattle.journal_core.specs.declared.entry.Entry.{Entry}
use Rattle.journal_core.specs.Recorded.{Recorded}
use Rattle.journal_core.specs.Journal.{has_begun, is_live, program_of}
use Rattle.journal_core.proofs.Legal.{begun-live, Counts, counts}
use Rattle.forest_model.specs.Forest.{Started, Forest, length_of, wanted, find_started}
use Rattle.forest_model.specs.Sound.{IsRising, StandsFor}
use Rattle.forest_model.proofs.Lists.{all-found, length-map'}
use Rattle.forest_model.proofs.StartedLaws.{found-number}
use Rattle.forest_model.proofs.StoreLaws.{few-shadows}
use Rattle.shadow_state.specs.Bank.{Slot}
use Rattle.shadow_lanes.specs.Seats.{Seat, Seated, conflict_of, conflicts_of, shadow_of, started_of}
use Rattle.indexed_lanes.specs.Noted.{RunsHere}
use Rattle.indexed_lanes.proofs.Steps.{runs_of}
use Rattle.shadow_forest.specs.declared.txn.Txn.{Txn}
use Rattle.shadow_forest.specs.Parts.{nodes_in, nodes_at}
use Rattle.shadow_forest.specs.View.{View}
use Rattle.shadow_forest.specs.Ready.{IsCarried, AreCarried}
use Rattle.shadow_forest.specs.Kept.{forest_of, SlotStands, SeatStands, IsTxn, HasTxn, IsForest}
use Rattle.shadow_forest.proofs.Keeping.{seat_number, numbers_of, all_at}

pub record IsAt (journal : Recorded) (d : Tables) (kept : List Txn) (s : Seated) (at t : ℕ) (r : Started) : Type 0 where
  pub seat : Seat
  pub there : slice_get s.seats at ≡ Some seat
  pub is : started_of seat ≡ r
  pub number : seat.number ≡ t
  pub below : at < length s.seats
  pub rising : IsRising (map seat_number s.seats)
  pub stands : SeatStands (program_of journal.entries t) d seat
  pub noted : conflicts_of seat ≡ wanted (forest_of journal d s) r
  pub few : length (conflicts_of seat) ≤ 7
  pub fits : AllZip StandsFor r.shadows (wanted (forest_of journal d s) r)
  pub within : r.position ≤ length_of (forest_of journal d s) r
  pub found : find_started (map started_of s.seats) t ≡ Some r
  pub live : is_live journal.entries t ≡ true
  pub least : 1 ≤ t
  pub most : t ≤ length kept
  pub txn : Txn
  pub txn_there : slice_get kept (t - 1) ≡ Some txn
  pub of_txn : IsTxn s.items journal.entries t txn

-- the seat behind what is found at a place
unmapped_at : (xs : List Seat) (k : ℕ) (r : Started) → slice_get (map started_of xs) k ≡ Some r → (x : Seat) × (slice_get xs k ≡ Some x) × (started_of x ≡ r) × (k < length xs)
unmapped_at [] k r e = cc
unmapped_at (x ∷ xs) zero r e = let same : started_of x ≡ r = cc in (x, refl, same, omega arith)
unmapped_at (x ∷ xs) (suc k) r e = let more = unmapped_at xs k r e in (more.0, more.1, more.2, let lt : k < length xs = more.3 in omega (arith, lt))

-- what is kept of a transaction that began
kept_txn : (items : ℕ) (journal : List Entry) (t : ℕ) (o : Option Txn) → HasTxn items journal t o → (x : Txn) × (o ≡ Some x) × IsTxn items journal t x
kept_txn items journal t None h = absurd h
kept_txn items journal t (Some x) h = (x, refl, h)

pub slice_below : {X : Type 0} (xs : List X) (k : ℕ) (x : X) → slice_get xs k ≡ Some x → k < length xs
slice_below [] k x e = cc
slice_below (y ∷ xs) zero x e = omega arith
slice_below (y ∷ xs) (suc k) x e = let lt : k < length xs = slice_below xs k x e in omega (arith, lt)

pub at_place_is : (journal : Recorded) (d : Tables) (kept : List Txn) (queue : List ℕ) (s : Seated) (at t : ℕ) (r : Started) → IsForest journal d kept queue s
    → slice_get (map started_of s.seats) at ≡ Some r → find_started (map started_of s.seats) t ≡ Some r → IsAt journal d kept s at t r
at_place_is journal d kept queue s at t r h there found =
    let f : Forest = forest_of journal d s in
    let x = unmapped_at s.seats at r there in
    let number : r.number ≡ t = found-number (map started_of s.seats) t r found in
    let seat_is : x.0.number ≡ t = ap (λ (y : Started). y.number) x.2 ∙ number in
    let live : is_live journal.entries t ≡ true = subst (λ n. is_live journal.entries n ≡ true) number (all-found (λ (y : Started). is_live journal.entries y.number ≡ true) (λ (y : Started). y.number == t) (map started_of s.seats) r found h.sound.right.live) in
    let begun : has_begun journal.entries t ≡ true = begun-live journal.entries t live in
    let c : Counts journal.entries = counts journal.opening journal.entries h.sound.right.legal in
    let txn = kept_txn s.items journal.entries t (slice_get kept (t - 1)) (h.txns.each t begun) in
    record {
      seat = x.0;
      there = x.1;
      is = x.2;
      number = seat_is;
      below = x.3;
      rising = subst IsRising (numbers_of s.seats) h.sound.right.rising;
      stands = subst (λ n. SeatStands (program_of journal.entries n) d x.0) seat_is (all_at (λ (y : Seat). SeatStands (program_of journal.entries y.number) d y) s.seats at x.0 h.stand x.1);
      noted = all_at (λ (y : Seat). conflicts_of y ≡ wanted f (started_of y)) s.seats at x.0 h.noted x.1 ∙ ap (wanted f) x.2;
      few =
          let shadows : suc (length r.shadows) ≤ s.most = all-found (λ (y : Started). suc (length y.shadows) ≤ s.most) (λ (y : Started). y.number == t) (map started_of s.seats) r found (few-shadows f h.sound h.least) in
          let waiters : length r.shadows ≡ length (conflicts_of x.0) = ap (λ (y : Started). length y.shadows) (sym x.2) ∙ length-map' shadow_of x.0.waiters ∙ sym (length-map' conflict_of x.0.waiters) in
          omega (arith, shadows, waiters, h.most);
      fits = all-found (λ (y : Started). AllZip StandsFor y.shadows (wanted f y)) (λ (y : Started). y.number == t) (map started_of s.seats) r found h.sound.settled;
      within = all-found (λ (y : Started). y.position ≤ length_of f y) (λ (y : Started). y.number == t) (map started_of s.seats) r found h.sound.right.within;
      found = found;
      live = live;
      least = c.positive t begun;
      most = subst (λ n. t ≤ n) (sym h.txns.many) (c.bounded t begun);
      txn = txn.0;
      txn_there = txn.1;
      of_txn = txn.2;
    }

-- its code's nodes
pub nodes_are : (journal : Recorded) (d : Tables) (kept : List Txn) (s : Seated) (at t : ℕ) (r : Started) (a : IsAt journal d kept s at t r) → nodes_at kept t ≡ nodes_of (program_of journal.entries t)
nodes_are journal d kept s at t r a = ap nodes_in a.txn_there ∙ a.of_txn.code a.live

-- its nodes are those of a program that fits
pub carries : (journal : Recorded) (d : Tables) (kept : List Txn) (s : Seated) (at t : ℕ) (r : Started) (a : IsAt journal d kept s at t r) → Carries (nodes_at kept t) s.items
carries journal d kept s at t r a = record { body = program_of journal.entries t; program = a.of_txn.program; fits = a.of_txn.fits; code = nodes_are journal d kept s at t r a }

-- a state of it may make a step over the tables
pub runs_here : (journal : Recorded) (d : Tables) (kept : List Txn) (s : Seated) (at t : ℕ) (r : Started) (a : IsAt journal d kept s at t r) (nodes : List Node) (x : Slot) → s.items ≡ length d
    → nodes ≡ nodes_at kept t → SlotStands (program_of journal.entries t) d x → RunsHere nodes d x.state
runs_here journal d kept s at t r a nodes x size is h =
    let code : nodes_of (program_of journal.entries t) ≡ nodes = sym (is ∙ nodes_are journal d kept s at t r a) in
    subst (λ ns. RunsHere ns d x.state) code
    (record {
      body = program_of journal.entries t;
      program = a.of_txn.program;
      fits = subst (λ n. reach (program_of journal.entries t) ≤ n) (size ∙ h.items) a.of_txn.fits;
      over = h;
    })

-- and over any tables, where it needs none
pub runs : (journal : Recorded) (d : Tables) (kept : List Txn) (s : Seated) (at t : ℕ) (r : Started) (a : IsAt journal d kept s at t r) (nodes : List Node) (x : Slot) → s.items ≡ length d
    → nodes ≡ nodes_at kept t → SlotStands (program_of journal.entries t) d x → Runs nodes x.state
runs journal d kept s at t r a nodes x size is h = runs_of nodes d x.state (runs_here journal d kept s at t r a nodes x size is h)

pub some_same : {A : Type 0} (x y : A) → Some x ≡ Some y → x ≡ y
some_same x y e = cc

-- the same of a forest as its user sees it
pub record IsAtView (journal : Recorded) (d : Tables) (kept : List Txn) (s : Seated) (at t : ℕ) (now : View) : Type 0 where
  pub started : Started
  pub a : IsAt journal d kept s at t started
  pub only : (r : Started) → find_started now.numbers.started t ≡ Some r → r ≡ started

pub at_view : (journal : Recorded) (d : Tables) (kept : List Txn) (queue : List ℕ) (s : Seated) (resumed : List (ℕ × ℕ)) (starts : Option ℕ) (at t : ℕ) (now : View)
    → record { numbers = forest_of journal d s; resumed = resumed; starts = starts } ≡ now → IsForest journal d kept queue s
    → (r : Started) × (slice_get now.numbers.started at ≡ Some r) × (find_started now.numbers.started t ≡ Some r) → IsAtView journal d kept s at t now
at_view journal d kept queue s resumed starts at t now view h place =
    let seen : now.numbers.started ≡ map started_of s.seats = sym (ap (λ (v : View). v.numbers.started) view) in
    record {
      started = place.0;
      a = at_place_is journal d kept queue s at t place.0 h (subst (λ rs. slice_get rs at ≡ Some place.0) seen place.1) (subst (λ rs. find_started rs t ≡ Some place.0) seen place.2);
      only = λ r found. some_same r place.0 (sym found ∙ place.2);
    }

-- the codes of all that are started are those of their programs
pub all_coded : (journal : Recorded) (d : Tables) (kept : List Txn) (queue : List ℕ) (s : Seated) → IsForest journal d kept queue s
    → AllByRecursion (λ (x : Seat). nodes_at kept x.number ≡ nodes_of (program_of journal.entries x.number)) s.seats
all_coded journal d kept queue s h = go s.seats h.sound.right.live
  where
    go : (xs : List Seat) → AllByRecursion (λ (y : Started). is_live journal.entries y.number ≡ true) (map started_of xs) → AllByRecursion (λ (x : Seat). nodes_at kept x.number ≡ nodes_of (program_of journal.entries x.number)) xs
    go [] live = tt
    go (x ∷ xs) live =
        let txn = kept_txn s.items journal.entries x.number (slice_get kept (x.number - 1)) (h.txns.each x.number (begun-live journal.entries x.number live.0)) in
        (ap nodes_in txn.1 ∙ txn.2.code live.0, go xs live.1)

-- the codes of all that are started are there, and fit
pub all_carried : (journal : Recorded) (d : Tables) (kept : List Txn) (queue : List ℕ) (s : Seated) → IsForest journal d kept queue s → AreCarried s.items kept s.seats
all_carried journal d kept queue s h = go s.seats h.sound.right.live
  where
    go : (xs : List Seat) → AllByRecursion (λ (y : Started). is_live journal.entries y.number ≡ true) (map started_of xs) → AllByRecursion (λ (x : Seat). IsCarried s.items kept x.number) xs
    go [] live = tt
    go (x ∷ xs) live =
        let begun : has_begun journal.entries x.number ≡ true = begun-live journal.entries x.number live.0 in
        let c : Counts journal.entries = counts journal.opening journal.entries h.sound.right.legal in
        let txn = kept_txn s.items journal.entries x.number (slice_get kept (x.number - 1)) (h.txns.each x.number begun) in (
          record {
            least = c.positive x.number begun;
            most = subst (λ n. x.number ≤ n) (sym h.txns.many) (c.bounded x.number begun);
            carries = record { body = program_of journal.entries x.number; program = txn.2.program; fits = txn.2.fits; code = ap nodes_in txn.1 ∙ txn.2.code live.0 };
          },
          go xs live.1,
        )
