-- Where all is kept but the shadows that are wanted, renewing each transaction keeps that too.
use Rattle.std.proofs.Common.{◌≡◌, ℕ, ◌≤◌, true, not, ◌&&◌, List, [], ◌∷◌, map, filter, length, Some, None, refl, ap, sym, subst, ◌∙◌}
use Rattle.std.specs.List.{AllByRecursion, AllZip}
use Rattle.txn_runs.specs.Run.{Tables}
use Rattle.journal_core.specs.Recorded.{Recorded}
use Rattle.journal_core.specs.Journal.{is_live, is_sealed, program_of}
use Rattle.forest_model.specs.Forest.{Shadow, Started, Forest, wanted, find_started}
use Rattle.forest_model.specs.Settle.{settled_shadows, resettled, settle}
use Rattle.forest_model.specs.Start.{waits, numbers}
use Rattle.forest_model.specs.Sound.{IsSound, StandsFor}
use Rattle.forest_model.proofs.Lists.{all-map, all-weaken, all-both, length-map'}
use Rattle.forest_model.proofs.RestLaws.{IsApart}
use Rattle.shadow_lanes.specs.Seats.{Seat, Seated, conflicts_of, shadow_of, started_of}
use Rattle.shadow_forest.specs.declared.txn.Txn.{Txn}
use Rattle.shadow_forest.specs.Answers.{IsWithin}
use Rattle.shadow_forest.specs.Parts.{nodes_at, renewed_among, all_renewed}
use Rattle.indexed_lanes.specs.Wanted.{wanted_among, renewed}
use Rattle.shadow_forest.specs.Ready.{IsCarried, AreCarried}
use Rattle.shadow_forest.specs.Kept.{forest_of, SeatStands, AllStand, AreTxns, IsForest, owed}
use Rattle.shadow_forest.proofs.Begun.{IsBegun, live_is_begun, is_carried}
use Rattle.shadow_forest.proofs.Seating.{renewed_started, renewed_stands}
use Rattle.indexed_lanes.proofs.Renewed.{renewed_conflicts, renewed_number}
use Rattle.shadow_forest.proofs.Wanting.{wanted_are}
use Rattle.shadow_forest.proofs.Keeping.{filter_agree, started_same}
use Rattle.shadow_forest.proofs.SettledForest.{all_unmapped, IsSettling, settled_forest, settled_change}

-- the shadows of r, which stand for what it has noted, are those that were there before for all that it wants now
pub record IsOld (before : List Started) (f : Forest) (r : Seat) : Type 0 where
  pub apart : IsApart (conflicts_of r)
  pub fits : AllZip StandsFor (map shadow_of r.waiters) (conflicts_of r)
  pub found : settled_shadows (find_started before r.number) (wanted f (started_of r)) ≡ settled_shadows (Some (started_of r)) (wanted f (started_of r))

-- what the fields of a forest keep before all are renewed
pub record IsUnsettled (journal : Recorded) (d : Tables) (kept : List Txn) (queue : List ℕ) (s : Seated) (before : List Started) : Type 0 where
  pub sound : IsSound (settle before (forest_of journal d s))
  pub least : 1 ≤ s.most
  pub most : s.most ≤ 8
  pub items : s.items ≡ length d
  pub size : length d ≡ length journal.opening
  pub within : AllByRecursion (IsWithin s.items) journal.entries
  pub stand : AllStand journal.entries d s.seats
  pub each : AllByRecursion (IsOld before (forest_of journal d s)) s.seats
  pub txns : AreTxns s.items journal.entries kept
  pub waiting : queue ≡ filter (waits (forest_of journal d s)) (numbers journal.entries)
  pub spare : owed (length s.seats) (length queue) (is_sealed journal.entries) ≤ journal.spare

-- the transactions of a settled forest are live
pub settled_live : (before : List Started) (f : Forest) (seats : List Seat) → f.started ≡ map started_of seats → IsSound (settle before f)
    → AllByRecursion (λ (r : Seat). is_live f.journal r.number ≡ true) seats
settled_live before f seats e h =
    all_unmapped (λ (r : Started). is_live f.journal r.number ≡ true) started_of seats
    (subst (AllByRecursion (λ (r : Started). is_live f.journal r.number ≡ true)) e
    (all_unmapped (λ (r : Started). is_live f.journal r.number ≡ true) (resettled before f) f.started h.right.live))

pub map_same : {X : Type 0} (xs : List X) → map (λ (x : X). x) xs ≡ xs
map_same [] = refl
map_same (x ∷ xs) = ap (λ ys. x ∷ ys) (map_same xs)

-- the transaction with these shadows
abbrev shadowed : Started → List Shadow → Started
shadowed r ss = record r { shadows = ss }

module _ (journal : Recorded) (d : Tables) (kept : List Txn) (queue : List ℕ) (s : Seated) (before : List Started) (h : IsUnsettled journal d kept queue s before) where
  fin : Seat → Seat
  fin = renewed_among s.most s.items kept s.seats

  live_all : AllByRecursion (λ (r : Seat). is_live journal.entries r.number ≡ true) s.seats
  live_all = settled_live before (forest_of journal d s) s.seats refl h.sound

  wants : (x : Seat) → SeatStands (program_of journal.entries x.number) d x → wanted_among s.most None s.seats x ≡ wanted (forest_of journal d s) (started_of x)
  wants x stands = wanted_are journal d s x h.stand stands.optimistic

  fin_found : (x : Seat) → SeatStands (program_of journal.entries x.number) d x → IsOld before (forest_of journal d s) x → started_of (renewed_among s.most s.items kept s.seats x) ≡ resettled before (forest_of journal d s) (started_of x)
  fin_found x stands old =
      renewed_started (nodes_at kept x.number) s.items (wanted_among s.most None s.seats x) x old.apart old.fits
      ∙ ap (λ ws. shadowed (started_of x) (settled_shadows (Some (started_of x)) ws)) (wants x stands)
      ∙ ap (shadowed (started_of x)) (sym old.found)

  fin_noted : (x : Seat) → SeatStands (program_of journal.entries x.number) d x → conflicts_of (renewed_among s.most s.items kept s.seats x) ≡ wanted (forest_of journal d s) (started_of x)
  fin_noted x stands = renewed_conflicts (nodes_at kept x.number) s.items (wanted_among s.most None s.seats x) x ∙ wants x stands

  fin_stands : (x : Seat) → SeatStands (program_of journal.entries x.number) d x → is_live journal.entries x.number ≡ true
      → SeatStands (program_of journal.entries (renewed_among s.most s.items kept s.seats x).number) d (renewed_among s.most s.items kept s.seats x)
  fin_stands x stands live =
      let b : IsBegun s.items journal.entries kept x.number = live_is_begun journal.opening s.items journal.entries kept x.number h.sound.right.legal h.txns live in
      let nodes = nodes_at kept x.number in
      let ws = wanted_among s.most None s.seats x in
      subst (λ n. SeatStands (program_of journal.entries n) d (renewed nodes s.items ws x)) (sym (renewed_number nodes s.items ws x))
      (renewed_stands (program_of journal.entries x.number) d nodes s.items ws x b.code h.items stands)

  fin_settles : IsSettling journal d s before (forest_of journal d s) (λ x. x) (renewed_among s.most s.items kept s.seats)
  fin_settles = record {
    forest = ap (λ xs. record (forest_of journal d s) { started = map started_of xs }) (sym (map_same s.seats));
    number = λ x. renewed_number (nodes_at kept x.number) s.items (wanted_among s.most None s.seats x) x;
    found =
        all-both (λ (x : Seat). SeatStands (program_of journal.entries x.number) d x) (IsOld before (forest_of journal d s))
        (λ (x : Seat). started_of (renewed_among s.most s.items kept s.seats x) ≡ resettled before (forest_of journal d s) (started_of x)) fin_found s.seats h.stand h.each;
    noted =
        all-both (λ (x : Seat). SeatStands (program_of journal.entries x.number) d x) (IsOld before (forest_of journal d s))
        (λ (x : Seat). conflicts_of (renewed_among s.most s.items kept s.seats x) ≡ wanted (forest_of journal d s) (started_of x)) (λ x stands old. fin_noted x stands) s.seats h.stand h.each;
    stand =
        all-both (λ (x : Seat). SeatStands (program_of journal.entries x.number) d x) (λ (x : Seat). is_live journal.entries x.number ≡ true)
        (λ (x : Seat). SeatStands (program_of journal.entries (renewed_among s.most s.items kept s.seats x).number) d (renewed_among s.most s.items kept s.seats x)) fin_stands s.seats h.stand live_all;
    sound = h.sound;
  }

  -- in numbers the forest is settled
  pub renewed_forest : forest_of journal d (record s { seats = all_renewed s.most s.items kept s.seats }) ≡ settle before (forest_of journal d s)
  renewed_forest = settled_forest journal d s before (forest_of journal d s) (λ x. x) (renewed_among s.most s.items kept s.seats) fin_settles

  -- and all is kept
  pub renewed_kept : IsForest journal d kept queue (record s { seats = all_renewed s.most s.items kept s.seats })
  renewed_kept =
      let g : Seat → Seat = renewed_among s.most s.items kept s.seats in
      let f : Forest = forest_of journal d s in
      let f' : Forest = forest_of journal d (record s { seats = map g s.seats }) in
      let c = settled_change journal d s before (forest_of journal d s) (λ x. x) g fin_settles in
      record {
        sound = c.sound;
        least = h.least;
        most = h.most;
        items = h.items;
        size = h.size;
        within = h.within;
        stand = all-map (λ (r : Seat). SeatStands (program_of journal.entries r.number) d r) g s.seats c.stand;
        noted = all-map (λ (r : Seat). conflicts_of r ≡ wanted f' (started_of r)) g s.seats c.noted;
        txns = h.txns;
        waiting = h.waiting ∙ filter_agree (waits f) (waits f') (λ t. ap (λ b. is_live journal.entries t && not b) (sym (started_same g c.same_number s.seats t))) (numbers journal.entries);
        spare = rw (length-map' g s.seats) h.spare;
      }

-- the transactions are kept
pub unsettled_carried : (journal : Recorded) (d : Tables) (kept : List Txn) (queue : List ℕ) (s : Seated) (before : List Started) → IsUnsettled journal d kept queue s before → AreCarried s.items kept s.seats
unsettled_carried journal d kept queue s before h =
    all-weaken (λ (r : Seat). is_live journal.entries r.number ≡ true) (λ (r : Seat). IsCarried s.items kept r.number)
    (λ r live. is_carried s.items journal.entries kept r.number (live_is_begun journal.opening s.items journal.entries kept r.number h.sound.right.legal h.txns live))
    s.seats (settled_live before (forest_of journal d s) s.seats refl h.sound)
