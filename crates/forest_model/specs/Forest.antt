-- The forest in numbers: of a shadow only this is told, how far it has come on its program's run over the tables as they are now.
use Rattle.std.specs.Prelude.{ℕ, Bool, not, ◌==◌, nat_lt, if◌then◌else◌, List, Option, Some, None, filter_map, find}
use Rattle.std.specs.List.{list_any}
use Rattle.txn_runs.specs.Run.{Tables, Read, Writes}
use Rattle.txn_runs.specs.Serial.{run_length}
use Rattle.txn_runs.specs.declared.program.Program.{Program}
use Rattle.journal_core.specs.Journal.{program_of}
use Rattle.journal_core.specs.declared.entry.Entry.{Entry}
use Rattle.forest_model.specs.Runs.{reads, writes}
use Rattle.forest_model.specs.Point.{Conflict, point, wanted_of}

-- a shadow that waits for its guard's commit: where it stands, and whether it is out
pub record Shadow : Type 0 where
  pub guard : ℕ
  pub position : ℕ
  pub out : Bool

-- a started transaction: where its optimistic shadow stands, whether that is out, and the shadows that wait
pub record Started : Type 0 where
  pub number : ℕ
  pub position : ℕ
  pub out : Bool
  pub shadows : List Shadow

-- at most k shadows a transaction and at most so many started transactions, which stand in the order of their numbers
pub record Forest : Type 0 where
  pub k : ℕ
  pub lanes : ℕ
  pub opening : Tables
  pub journal : List Entry
  pub tables : Tables
  pub started : List Started

-- the program that r runs
abbrev pub program : Forest → Started → Program
program f r = program_of f.journal r.number

-- what r's optimistic shadow has read of the tables
abbrev pub reads_of : Forest → Started → List Read
reads_of f r = reads (program f r) f.tables r.position

-- what r's optimistic shadow has written
abbrev pub writes_of : Forest → Started → Writes
writes_of f r = writes (program f r) f.tables r.position

-- the number of steps that r's program makes over the present tables
abbrev pub length_of : Forest → Started → ℕ
length_of f r = run_length (program f r) f.tables

-- r's optimistic shadow has run its program to the end
abbrev pub is_ended : Forest → Started → Bool
is_ended f r = not (nat_lt r.position (length_of f r))

-- the point of r against u: the position of r's earliest read of an item that u has written
abbrev pub point_of : Forest → Started → Started → Option ℕ
point_of f r u = point (reads_of f r) (writes_of f u)

-- the conflict with this guard, if there is a point
abbrev pub conflict_at : ℕ → Option ℕ → Option Conflict
conflict_at u None = None
conflict_at u (Some p) = Some (u, p)

-- the conflict of r with u, another transaction, if there is one
abbrev pub against : Forest → Started → Started → Option Conflict
against f r u = if u.number == r.number then None else conflict_at u.number (point_of f r u)

-- the conflicts against which r wants a shadow
abbrev pub wanted : Forest → Started → List Conflict
wanted f r = wanted_of (filter_map (against f r) f.started) f.k

-- the started transaction of this number, if there is one
abbrev pub find_started : List Started → ℕ → Option Started
find_started started t = find (λ r. r.number == t) started

-- whether there is a started transaction of this number
abbrev pub is_started : List Started → ℕ → Bool
is_started started t = list_any (λ r. r.number == t) started
