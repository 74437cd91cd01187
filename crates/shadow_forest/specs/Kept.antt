-- What the fields of a forest keep.
use Rattle.std.specs.Prelude.{◌≡◌, ℕ, ◌+◌, ◌-◌, ◌≤◌, Bool, true, if◌then◌else◌, List, map, filter, length, slice_get, slice_index_or, Option, None, Some}
use Rattle.std.specs.List.{AllByRecursion}
use Rattle.txn_runs.specs.Run.{Tables}
use Rattle.txn_runs.specs.Bounds.{IsProgram, reach, emits_max}
use Rattle.txn_runs.specs.declared.program.Program.{Program}
use Rattle.txn_code.specs.Nodes.{nodes_of}
use Rattle.txn_interp.specs.State.{IsRun}
use Rattle.journal_core.specs.declared.entry.Entry.{Entry}
use Rattle.journal_core.specs.Recorded.{Recorded}
use Rattle.journal_core.specs.Journal.{began, has_begun, is_live, is_sealed, program_of, deadline_of}
use Rattle.forest_model.specs.Forest.{Forest, wanted}
use Rattle.forest_model.specs.Start.{waits, numbers}
use Rattle.forest_model.specs.Sound.{IsSound}
use Rattle.shadow_state.specs.Bank.{Slot}
use Rattle.shadow_lanes.specs.Seats.{Seat, Seated, Waiter, started_of, conflicts_of}
use Rattle.shadow_forest.specs.declared.txn.Txn.{Txn}
use Rattle.wait_list.specs.Waiting.{Waiting}
use Rattle.shadow_forest.specs.Answers.{IsWithin}
use Rattle.shadow_forest.specs.Parts.{deadline_at}

-- the forest in numbers that the fields stand for
abbrev pub forest_of : Recorded → Tables → Seated → Forest
forest_of journal tables s = record {
  k = s.most;
  lanes = s.lanes;
  opening = journal.opening;
  journal = journal.entries;
  tables = tables;
  started = map started_of s.seats;
}

-- the slot's state is the program's run from the start over these tables, stopped at its position
abbrev pub SlotStands : Program → Tables → Slot → Type 0
SlotStands p d s = IsRun p d s.state

-- each of the transaction's states is
pub record SeatStands (p : Program) (d : Tables) (r : Seat) : Type 0 where
  pub optimistic : SlotStands p d r.optimistic
  pub waiters : AllByRecursion (λ (w : Waiter). SlotStands p d w.slot) r.waiters

-- each transaction's states are
abbrev pub AllStand : List Entry → Tables → List Seat → Type 0
AllStand journal d seats = AllByRecursion (λ (r : Seat). SeatStands (program_of journal r.number) d r) seats

-- each transaction has noted what it wants
abbrev pub AllNoted : Forest → List Seat → Type 0
AllNoted f seats = AllByRecursion (λ (r : Seat). conflicts_of r ≡ wanted f (started_of r)) seats

-- what is kept of t: the nodes of its program while it is live, which fits so many items, and its deadline
pub record IsTxn (items : ℕ) (journal : List Entry) (t : ℕ) (x : Txn) : Type 0 where
  pub code : is_live journal t ≡ true → x.code.nodes ≡ nodes_of (program_of journal t)
  pub program : IsProgram (program_of journal t)
  pub fits : reach (program_of journal t) ≤ items
  pub deadline : x.deadline ≡ deadline_of journal t

-- it is there, and that is kept of t
abbrev pub HasTxn : ℕ → List Entry → ℕ → Option Txn → Type 0
HasTxn items journal t None = ⊥
HasTxn items journal t (Some x) = IsTxn items journal t x

-- all that began is kept, in the order of numbers
pub record AreTxns (items : ℕ) (journal : List Entry) (txns : List Txn) : Type 0 where
  pub many : length txns ≡ began journal
  pub each : (t : ℕ) → has_begun journal t ≡ true → HasTxn items journal t (slice_get txns (t - 1))

-- the numbers of those that wait
abbrev pub numbers_waiting : List Waiting → List ℕ
numbers_waiting ws = map (λ (w : Waiting). w.1) ws

-- each waits with the deadline that is kept of it
abbrev pub AreQueued : List Txn → List Waiting → Type 0
AreQueued kept ws = AllByRecursion (λ (w : Waiting). deadline_at kept w.1 ≡ w.0) ws

-- for how many numbers there is room for t
abbrev pub room_at : List ℕ → ℕ → ℕ
room_at rooms t = slice_index_or rooms (t - 1) 0

-- a room is kept for all that began, and for each that is live it holds what its program emits at most
pub record HaveRooms (journal : List Entry) (rooms : List ℕ) : Type 0 where
  pub many : length rooms ≡ began journal
  pub each : (t : ℕ) → is_live journal t ≡ true → emits_max (program_of journal t) ≤ room_at rooms t

-- the entries that are still to come without another begin: an end for each that is live, and the seal
abbrev pub owed : ℕ → ℕ → Bool → ℕ
owed started waiting sealed = started + waiting + (if sealed then 0 else 1)

-- what the fields of a forest keep
pub record IsForest (journal : Recorded) (tables : Tables) (kept : List Txn) (queue : List ℕ) (s : Seated) : Type 0 where
  pub sound : IsSound (forest_of journal tables s)
  pub least : 1 ≤ s.most
  pub most : s.most ≤ 8
  pub items : s.items ≡ length tables
  pub size : length tables ≡ length journal.opening
  pub within : AllByRecursion (IsWithin s.items) journal.entries
  pub stand : AllStand journal.entries tables s.seats
  pub noted : AllNoted (forest_of journal tables s) s.seats
  pub txns : AreTxns s.items journal.entries kept
  pub waiting : queue ≡ filter (waits (forest_of journal tables s)) (numbers journal.entries)
  pub spare : owed (length s.seats) (length queue) (is_sealed journal.entries) ≤ journal.spare
