-- What a step changes of a state.
use Rattle.std.specs.Prelude.{◌≡◌, ◌≢◌, ℕ, ◌+◌, ◌<◌, ℤ, true, List, [], ◌∷◌, ◌++◌, slice_set, if◌then◌else◌, ◌||◌, is_some, Option, None, Some, Result, Ok, Err}
use Rattle.std.proofs.Common.{refl, sym, ap, ◌∙◌, subst, arith}
use Rattle.txn_runs.specs.declared.outcome.FaultKind.{FaultKind}
use Rattle.txn_runs.specs.declared.outcome.End.{End}
use Rattle.txn_runs.specs.declared.outcome.End.TheVariants.{Going, Failed, Fault}
use Rattle.txn_runs.specs.declared.kind.Kind.{Kind}
use Rattle.txn_runs.specs.declared.kind.Kind.TheVariants.{Local, TableRead, Write, Ended}
use Rattle.txn_runs.specs.declared.program.Stmt.{Stmt, out-Stmt}
use Rattle.txn_runs.specs.declared.program.Stmt.TheOpen.{Stmt-F}
use Rattle.txn_runs.specs.declared.program.Block.{Block}
use Rattle.txn_runs.specs.Run.{Tables, Running, value_of, item_at, own, logged, stored, after}
use Rattle.txn_runs.specs.Kind.{kind_of, kind_from, kind_act, kind_read, kind_write, Changes}
use Rattle.txn_runs.specs.Fold.{of_layer, of_list}
use Rattle.txn_runs.proofs.Folds.{of_stmt_is}
use Rattle.txn_runs.specs.Bounds.{greater, reach_row}
use Rattle.txn_runs.proofs.Shape.{after_reach}
use Rattle.txn_runs.proofs.Stepping.{after_changes}
use Rattle.txn_code.specs.declared.node.Node.{Node}
use Rattle.access_sets.specs.Log.{Log}
use Rattle.txn_interp.specs.State.{Held, RunsOver, Runs}
use Rattle.txn_interp.specs.Kind.{HasKind}
use Rattle.txn_interp.proofs.Found.{found_runs, read_inside, inside, one_item, ended_kind, kind_ended}

-- tables over which a state runs, and which have this value where it is to read them
pub record Ready (nodes : List Node) (s : Held) (r : Runs nodes s) (v : ℤ) : Type 0 where
  pub tables : Tables
  pub over : RunsOver nodes r.body tables s
  pub found : (item : ℕ) → HasKind nodes s (TableRead item) → stored tables item ≡ v

other_kind : (nodes : List Node) (s : Held) (r : Runs nodes s) (kind : Kind) (v : ℤ) → HasKind nodes s kind → ((item : ℕ) → kind ≢ TableRead item) → Ready nodes s r v
other_kind nodes s r kind v has differs =
    record { tables = r.tables; over = r.over; found = λ item reads. absurd (differs item (sym (has r.body r.tables r.over) ∙ reads r.body r.tables r.over)) }

pub ready : (nodes : List Node) (s : Held) (r : Runs nodes s) (kind : Kind) (v : ℤ) → HasKind nodes s kind → Ready nodes s r v
ready nodes s r Local v has = other_kind nodes s r Local v has (λ item e. cc)
ready nodes s r (TableRead item) v has =
    let f = found_runs nodes s r item v has in
    record { tables = slice_set r.tables item v; over = f.0; found = λ other reads. subst (λ i. stored (slice_set r.tables item v) i ≡ v) (one_item nodes s r item other has reads) f.1 }
ready nodes s r (Write item w) v has = other_kind nodes s r (Write item w) v has (λ item e. cc)
ready nodes s r Ended v has = other_kind nodes s r Ended v has (λ item e. cc)

-- the runs of two states, one step apart
pub step_apart : (nodes : List Node) (body : List Stmt) (tables : Tables) (s t : Held) (kind : Kind) → RunsOver nodes body tables s → RunsOver nodes body tables t → t.position ≡ s.position + 1 → kind_of (after body tables s.position) ≡ kind → Changes kind tables s.position (after body tables s.position) (after body tables t.position)
step_apart nodes body tables s t kind over next more is =
    subst (λ k. Changes k tables s.position (after body tables s.position) (after body tables t.position)) is (subst (λ n. Changes (kind_of (after body tables s.position)) tables s.position (after body tables s.position) (after body tables n)) (sym more) (after_changes body tables s.position))

reads_are : (nodes : List Node) (body : List Stmt) (tables : Tables) (s : Held) → RunsOver nodes body tables s → (after body tables s.position).reads ≡ s.log.reads
reads_are nodes body tables s over = ap (λ x. x.reads) over.is.is

writes_are : (nodes : List Node) (body : List Stmt) (tables : Tables) (s : Held) → RunsOver nodes body tables s → (after body tables s.position).writes ≡ s.writes
writes_are nodes body tables s over = ap (λ x. x.writes) over.is.is

log_is : (a : Log) (room : ℕ) (reads : List (ℕ × ℕ × ℤ)) → a.room ≡ room → a.reads ≡ reads → a ≡ record { room = room; reads = reads }
log_is a room reads e f = λ i. record { room = e i; reads = f i }

module _ (nodes : List Node) (body : List Stmt) (tables : Tables) (s t : Held) (over : RunsOver nodes body tables s) (next : RunsOver nodes body tables t) (more : t.position ≡ s.position + 1) where
  rooms : t.log.room ≡ s.log.room
  rooms = sym next.items ∙ over.items

  pub local_log : kind_of (after body tables s.position) ≡ Local → t.log ≡ s.log
  local_log is =
      log_is t.log s.log.room s.log.reads rooms (sym (reads_are nodes body tables t next) ∙ (step_apart nodes body tables s t Local over next more is).0 ∙ reads_are nodes body tables s over)

  pub local_writes : kind_of (after body tables s.position) ≡ Local → t.writes ≡ s.writes
  local_writes is = sym (writes_are nodes body tables t next) ∙ (step_apart nodes body tables s t Local over next more is).1 ∙ writes_are nodes body tables s over

  pub read_log : (item : ℕ) (v : ℤ) → kind_of (after body tables s.position) ≡ TableRead item → stored tables item ≡ v → t.log ≡ record s.log { reads = s.log.reads ++ (s.position, item, v) ∷ [] }
  read_log item v is found =
      log_is t.log s.log.room (s.log.reads ++ (s.position, item, v) ∷ []) rooms (sym (reads_are nodes body tables t next) ∙ (step_apart nodes body tables s t (TableRead item) over next more is).0 ∙ ap (λ x. x ++ (s.position, item, stored tables item) ∷ []) (reads_are nodes body tables s over) ∙ ap (λ x. s.log.reads ++ (s.position, item, x) ∷ []) found)

  pub read_writes : (item : ℕ) → kind_of (after body tables s.position) ≡ TableRead item → t.writes ≡ s.writes
  read_writes item is = sym (writes_are nodes body tables t next) ∙ (step_apart nodes body tables s t (TableRead item) over next more is).1 ∙ writes_are nodes body tables s over

  pub write_log : (item : ℕ) (v : ℤ) → kind_of (after body tables s.position) ≡ Write item v → t.log ≡ s.log
  write_log item v is =
      log_is t.log s.log.room s.log.reads rooms (sym (reads_are nodes body tables t next) ∙ (step_apart nodes body tables s t (Write item v) over next more is).0 ∙ reads_are nodes body tables s over)

  pub write_writes : (item : ℕ) (v : ℤ) → kind_of (after body tables s.position) ≡ Write item v → t.writes ≡ slice_set s.writes item (Some v)
  write_writes item v is =
      sym (writes_are nodes body tables t next) ∙ (step_apart nodes body tables s t (Write item v) over next more is).1 ∙ ap (λ x. slice_set x item (Some v)) (writes_are nodes body tables s over)

-- the item that is read or written next lies within the tables
pub read_inside_room : (nodes : List Node) (s : Held) (r : Runs nodes s) (item : ℕ) → HasKind nodes s (TableRead item) → item < s.log.room
read_inside_room nodes s r item kind =
    let state = after r.body r.tables s.position in
    omega (arith, read_inside state item (kind r.body r.tables r.over), (after_reach r.body r.tables s.position).needs, r.fits)

write_by : (v w : ℤ) (item : ℕ) (reached : ℕ) (r : Result ℕ FaultKind) → ((i : ℕ) → r ≡ Ok i → i < reached) → kind_write v r ≡ Write item w → item < reached
write_by v w item reached (Ok i) in_range e = let is : i ≡ item = cc in subst (λ k. k < reached) is (in_range i refl)
write_by v w item reached (Err kind) in_range e = cc

read_never : (o l : Option ℤ) (i item : ℕ) (w : ℤ) {A : Type 0} → (if is_some o || is_some l then Local else TableRead i) ≡ Write item w → A
read_never (Some v) l i item w e = cc
read_never None (Some v) i item w e = cc
read_never None None i item w e = cc

no_read : (s : Running) (r : Result ℕ FaultKind) (item : ℕ) (w : ℤ) {A : Type 0} → kind_read s r ≡ Write item w → A
no_read s (Ok i) item w e = read_never (own s.writes i) (logged s.reads i) i item w e
no_read s (Err kind) item w e = cc

layer_write : (s : Running) (item : ℕ) (w : ℤ) (x : Stmt-F Stmt Block) → kind_act s x ≡ Write item w → item < of_layer reach_row greater x
layer_write s item w (Stmt-F.Write table at from) e = write_by (value_of s from) w item (table.base + table.size) (item_at table (value_of s at)) (λ i is. inside table (value_of s at) i is) e
layer_write s item w (Stmt-F.Read to table at) e = no_read s (item_at table (value_of s at)) item w e
layer_write s item w (Stmt-F.Calc to left op right) e = cc
layer_write s item w (Stmt-F.Move to from) e = cc
layer_write s item w (Stmt-F.If left cmp right first second) e = cc
layer_write s item w (Stmt-F.Loop count body) e = cc
layer_write s item w (Stmt-F.Emit from) e = cc
layer_write s item w (Stmt-F.Fail code) e = cc

from_write : (s : Running) (item : ℕ) (w : ℤ) (end : End) (rest : List Stmt) → kind_from end rest s ≡ Write item w → item < of_list reach_row greater rest
from_write s item w Going [] e = cc
from_write s item w Going (first ∷ rest) e = omega (arith, layer_write s item w (out-Stmt first) e, of_stmt_is reach_row greater first)
from_write s item w (Failed code) rest e = cc
from_write s item w (Fault kind) rest e = cc

pub write_inside_room : (nodes : List Node) (s : Held) (r : Runs nodes s) (item : ℕ) (w : ℤ) → HasKind nodes s (Write item w) → item < s.log.room
write_inside_room nodes s r item w kind =
    let state = after r.body r.tables s.position in
    omega (arith, from_write state item w state.end state.rest (kind r.body r.tables r.over), (after_reach r.body r.tables s.position).needs, r.fits)

-- what the kind of the next step says of a state
pub record KindFacts (nodes : List Node) (s : Held) (kind : Kind) : Type 0 where
  pub has : HasKind nodes s kind
  pub ends : kind ≡ Ended → s.done ≡ true
  pub ended : s.done ≡ true → kind ≡ Ended
  pub reads : (item : ℕ) → kind ≡ TableRead item → item < s.log.room
  pub writes : (item : ℕ) (v : ℤ) → kind ≡ Write item v → item < s.log.room

pub kind_facts : (nodes : List Node) (s : Held) (r : Runs nodes s) (kind : Kind) → HasKind nodes s kind → KindFacts nodes s kind
kind_facts nodes s r kind has =
    let here = has r.body r.tables r.over in
    record {
      has = has;
      ends = λ e. r.over.done ∙ ended_kind (after r.body r.tables s.position) (here ∙ e);
      ended = λ e. sym here ∙ kind_ended (after r.body r.tables s.position) (sym r.over.done ∙ e);
      reads = λ item e. read_inside_room nodes s r item (subst (HasKind nodes s) e has);
      writes = λ item v e. write_inside_room nodes s r item v (subst (HasKind nodes s) e has);
    }
