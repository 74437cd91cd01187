-- What the states say of conflicts is what the forest in numbers says.
use Rattle.std.proofs.Common.{◌≡◌, ℕ, List, map, None, refl, ap, sym, ◌∙◌}
use Rattle.txn_runs.specs.Run.{Tables, after}
use Rattle.txn_runs.specs.declared.program.Program.{Program}
use Rattle.journal_core.specs.declared.entry.Entry.{Entry}
use Rattle.journal_core.specs.Recorded.{Recorded}
use Rattle.journal_core.specs.Journal.{program_of}
use Rattle.forest_model.specs.Point.{wanted_of}
use Rattle.forest_model.specs.Forest.{Forest, against, wanted}
use Rattle.forest_model.proofs.Lists.{filter_map-map, filter_map-agree, all-weaken, all-both}
use Rattle.shadow_state.specs.Bank.{Slot}
use Rattle.shadow_lanes.specs.Seats.{Seat, Seated, conflicts_of, started_of}
use Rattle.shadow_forest.specs.declared.txn.Txn.{Txn}
use Rattle.indexed_lanes.specs.Wanted.{conflict_between, wanted_among, AreWanted}
use Rattle.shadow_forest.specs.Kept.{forest_of, SlotStands, SeatStands, AllStand, IsForest}

-- a state's log and writes are those of the run
pub reads_are : (p : Program) (d : Tables) (s : Slot) → SlotStands p d s → (after p d s.state.position).reads ≡ s.state.log.reads
reads_are p d s h = ap (λ r. r.reads) h.is.is

pub writes_are : (p : Program) (d : Tables) (s : Slot) → SlotStands p d s → (after p d s.state.position).writes ≡ s.state.writes
writes_are p d s h = ap (λ r. r.writes) h.is.is

-- a forest of these transactions over these tables
pub record IsOf (journal : List Entry) (d : Tables) (k : ℕ) (seats : List Seat) (f : Forest) : Type 0 where
  pub journal_is : f.journal ≡ journal
  pub tables_are : f.tables ≡ d
  pub k_is : f.k ≡ k
  pub started_are : f.started ≡ map started_of seats

pub between : (f : Forest) (r u : Seat) → SlotStands (program_of f.journal r.number) f.tables r.optimistic → SlotStands (program_of f.journal u.number) f.tables u.optimistic
    → conflict_between None r u ≡ against f (started_of r) (started_of u)
between f r u of_r of_u = rw (reads_are (program_of f.journal r.number) f.tables r.optimistic of_r, writes_are (program_of f.journal u.number) f.tables u.optimistic of_u) refl

-- what a transaction wants, by its state and those of the others
pub wanted_are : (journal : Recorded) (d : Tables) (s : Seated) (r : Seat) → AllStand journal.entries d s.seats → SlotStands (program_of journal.entries r.number) d r.optimistic
    → wanted_among s.most None s.seats r ≡ wanted (forest_of journal d s) (started_of r)
wanted_are journal d s r all of_r =
    let f : Forest = forest_of journal d s in
    ap (λ pairs. wanted_of pairs s.most)
    (sym
    (filter_map-map (against f (started_of r)) started_of s.seats
    ∙ filter_map-agree (λ u. against f (started_of r) (started_of u)) (conflict_between None r) s.seats
    (all-weaken (λ (u : Seat). SeatStands (program_of journal.entries u.number) d u) (λ u. against f (started_of r) (started_of u) ≡ conflict_between None r u)
    (λ u of_u. sym (between f r u of_r of_u.optimistic)) s.seats all)))

-- each has noted what it wants of the seats
pub noted_seats : (journal : Recorded) (d : Tables) (kept : List Txn) (queue : List ℕ) (s : Seated) → IsForest journal d kept queue s → AreWanted s
noted_seats journal d kept queue s h =
    all-both (λ (x : Seat). SeatStands (program_of journal.entries x.number) d x) (λ (x : Seat). conflicts_of x ≡ wanted (forest_of journal d s) (started_of x)) (λ (x : Seat). conflicts_of x ≡ wanted_among s.most None s.seats x)
    (λ x stands noted. noted ∙ sym (wanted_are journal d s x h.stand stands.optimistic)) s.seats h.stand h.noted
