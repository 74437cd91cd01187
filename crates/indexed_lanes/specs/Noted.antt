-- What an index has noted of started transactions.
use Rattle.std.specs.Prelude.{◌≡◌, ◌<◌, ◌≤◌, ℕ, ◌-◌, ◌++◌, List, map, length, replicate}
use Rattle.txn_runs.specs.Run.{Tables}
use Rattle.txn_runs.specs.Bounds.{IsProgram, reach}
use Rattle.txn_runs.specs.declared.program.Stmt.{Stmt}
use Rattle.txn_runs.specs.declared.kind.Kind.{Kind}
use Rattle.txn_runs.specs.declared.kind.Kind.TheVariants.{Local, TableRead, Write, Ended}
use Rattle.txn_code.specs.declared.node.Node.{Node}
use Rattle.txn_interp.specs.State.{Held, RunsOver}
use Rattle.conflict_index.specs.Index.{Lane, Index, forgotten, with_read, with_write}
use Rattle.index_laws.specs.Noted.{lane_of_run}
use Rattle.shadow_lanes.specs.Seats.{Seat, Seated}

-- what a transaction has read and written at its optimistic position
abbrev pub noted_of : Seat → Lane
noted_of r = lane_of_run r.optimistic.state.log.reads r.optimistic.state.writes

-- at the place of each transaction that is noted, and at the places behind them nothing
pub record IsNoted (s : Seated) (index : Index) : Type 0 where
  pub items : index.items ≡ s.items
  pub many : length index.lanes ≡ s.lanes
  pub lanes : index.lanes ≡ map noted_of s.seats ++ replicate (s.lanes - length s.seats) forgotten

-- the lane after a step of this kind at this position
abbrev pub lane_after : Kind → ℕ → Lane → Lane
lane_after Local position lane = lane
lane_after (TableRead item) position lane = with_read lane (position, item)
lane_after (Write item value) position lane = with_write lane item
lane_after Ended position lane = lane

-- what the step reads or writes is one of so many items
abbrev pub IsKindWithin : ℕ → Kind → Type 0
IsKindWithin items Local = Unit {0}
IsKindWithin items (TableRead item) = item < items
IsKindWithin items (Write item value) = item < items
IsKindWithin items Ended = Unit {0}

-- the run over these tables of a program that fits them, of which these nodes are
pub record RunsHere (nodes : List Node) (tables : Tables) (s : Held) : Type 0 where
  pub body : List Stmt
  pub program : IsProgram body
  pub fits : reach body ≤ s.log.room
  pub over : RunsOver nodes body tables s

-- both have read and written the same
pub record HasSameLists (s t : Held) : Type 0 where
  pub reads : t.log.reads ≡ s.log.reads
  pub writes : t.writes ≡ s.writes
