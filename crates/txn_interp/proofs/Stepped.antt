-- A node's step is a step of the run.
use Rattle.std.specs.Prelude.{◌≡◌, ◌≢◌, ℕ, ◌+◌, ◌<◌, ℤ, Bool, true, false, List, [], ◌∷◌, ◌++◌, length, slice_get, slice_set, Some}
use Rattle.std.proofs.Common.{sym, ◌∙◌, subst}
use Rattle.txn_runs.specs.declared.program.Stmt.{Stmt}
use Rattle.txn_runs.specs.declared.kind.Kind.{Kind}
use Rattle.txn_runs.specs.declared.kind.Kind.TheVariants.{Local, TableRead, Write, Ended}
use Rattle.txn_runs.specs.Run.{Tables, stored, after}
use Rattle.txn_runs.specs.Kind.{kind_of}
use Rattle.txn_runs.specs.Serial.{has_ended}
use Rattle.txn_code.specs.declared.node.Node.{Node}
use Rattle.txn_code.specs.Placed.{IsShallow}
use Rattle.txn_code.proofs.Stands.{stands_within}
use Rattle.txn_interp.specs.State.{Held, RunsOver, Tracks, Runs, IsSafe}
use Rattle.txn_interp.specs.Advance.{advance}
use Rattle.txn_interp.specs.Kind.{HasKind, held_kind, MovesOn}
use Rattle.txn_interp.proofs.Follows.{advance_runs, advance_position, node_here}
use Rattle.txn_interp.proofs.Safe.{GoesOn, runs_safe, kind_going, goes_on, goes_by, no_finish, finds_by}
use Rattle.txn_interp.proofs.Found.{told, ended_kind, runs_over, not_read, write_not_read}
use Rattle.txn_interp.proofs.Effects.{ready, local_log, local_writes, read_log, read_writes, write_log, write_writes}

-- What the node at a state's place says.

pub here_safe : (nodes : List Node) (s : Held) (node : Node) → Runs nodes s → slice_get nodes s.node ≡ Some node → IsShallow node.act → IsSafe node.act s
here_safe nodes s node r is low = runs_safe nodes s _ _ _ r (node_here nodes s node is) low

pub here_kind : (nodes : List Node) (s : Held) (node : Node) → GoesOn s → slice_get nodes s.node ≡ Some node → HasKind nodes s (held_kind s node.act)
here_kind nodes s node on is = kind_going nodes s node.act _ _ (node_here nodes s node is) on.going

pub same_kind : (nodes : List Node) (s : Held) (node : Node) (r : Runs nodes s) (kind : Kind) → HasKind nodes s kind → kind ≢ Ended → slice_get nodes s.node ≡ Some node → held_kind s node.act ≡ kind
same_kind nodes s node r kind has goes is =
    sym (here_kind nodes s node (goes_on nodes s r kind has goes) is r.body r.tables r.over) ∙ has r.body r.tables r.over

not_ended : (nodes : List Node) (s : Held) (r : Runs nodes s) → s.done ≡ false → kind_of (after r.body r.tables s.position) ≢ Ended
not_ended nodes s r goes e =
    let over : true ≡ false = sym (ended_kind (after r.body r.tables s.position) e) ∙ sym r.over.done ∙ goes in
    cc

pub undone_goes : (nodes : List Node) (s : Held) (r : Runs nodes s) → s.done ≡ false → GoesOn s
undone_goes nodes s r goes = goes_by nodes s r (not_ended nodes s r goes)

pub undone_kind : (nodes : List Node) (s : Held) (r : Runs nodes s) (kind : Kind) → s.done ≡ false → HasKind nodes s kind → kind ≢ Ended
undone_kind nodes s r kind goes has e = not_ended nodes s r goes (has r.body r.tables r.over ∙ e)

-- a state one step on, which found this value where it reads the tables, and hasn't been told whether it has ended
pub record HasStepped (nodes : List Node) (v : ℤ) (s t : Held) : Type 0 where
  pub position : t.position ≡ s.position + 1
  pub within : t.node < length nodes
  pub same : (body : List Stmt) (tables : Tables) → ((item : ℕ) → HasKind nodes s (TableRead item) → stored tables item ≡ v) → RunsOver nodes body tables s → Tracks nodes body tables t

pub has_stepped : (nodes : List Node) (s : Held) (r : Runs nodes s) (kind : Kind) (node : Node) (v : ℤ) → HasKind nodes s kind → kind ≢ Ended → slice_get nodes s.node ≡ Some node → HasStepped nodes v s (advance node.act node.next node.other v s)
has_stepped nodes s r kind node v has goes is =
    let here = node_here nodes s node is in
    let going = (goes_on nodes s r kind has goes).going in
    let more = no_finish nodes s r kind _ _ _ here has goes in
    let same : (body : List Stmt) (tables : Tables) → ((item : ℕ) → HasKind nodes s (TableRead item) → stored tables item ≡ v) → RunsOver nodes body tables s → Tracks nodes body tables (advance node.act node.next node.other v s) =
    λ body tables found over. advance_runs nodes body tables s _ _ _ v over here going more (finds_by tables s node.act v (λ item e. found item (subst (HasKind nodes s) e (kind_going nodes s node.act _ _ here going)))) in
    let set = ready nodes s r kind v has in
    record {
      position = advance_position nodes r.body r.tables s _ _ _ v r.over here going more;
      within = stands_within (same r.body set.tables set.found set.over).is.stands;
      same = same;
    }

-- a state one step on that knows whether it has ended
pub record HasMoved (nodes : List Node) (v : ℤ) (s t : Held) : Type 0 where
  pub position : t.position ≡ s.position + 1
  pub same : (body : List Stmt) (tables : Tables) → ((item : ℕ) → HasKind nodes s (TableRead item) → stored tables item ≡ v) → RunsOver nodes body tables s → RunsOver nodes body tables t

pub told_moved : (nodes : List Node) (v : ℤ) (s t : Held) (b : Bool) → HasStepped nodes v s t → ((body : List Stmt) (tables : Tables) → Tracks nodes body tables t → b ≡ has_ended (after body tables t.position)) → HasMoved nodes v s (record t { done = b })
told_moved nodes v s t b h is = record {
  position = h.position;
  same = λ body tables found over.
      let tracks = h.same body tables found over in
      told nodes body tables t b tracks (is body tables tracks);
}

-- What such a step leaves, by its kind.

pub moves_local : (nodes : List Node) (s t : Held) (r : Runs nodes s) (v : ℤ) → HasKind nodes s Local → HasMoved nodes v s t → MovesOn nodes s t
moves_local nodes s t r v has moved =
    let same : (body : List Stmt) (tables : Tables) → RunsOver nodes body tables s → RunsOver nodes body tables t =
    λ body tables over. moved.same body tables (λ item read. not_read item (sym (has body tables over) ∙ read body tables over)) over in
    let next = same r.body r.tables r.over in
    let kind = has r.body r.tables r.over in
    record {
      runs = runs_over nodes s t r r.tables (sym next.items ∙ r.over.items) next;
      step = record { position = moved.position; same = λ body tables such over. same body tables over };
      log = local_log nodes r.body r.tables s t r.over next moved.position kind;
      writes = local_writes nodes r.body r.tables s t r.over next moved.position kind;
    }

pub record HasRead (nodes : List Node) (v : ℤ) (s t : Held) : Type 0 where
  pub runs : Runs nodes t
  pub log : (item : ℕ) → HasKind nodes s (TableRead item) → t.log ≡ record s.log { reads = s.log.reads ++ (s.position, item, v) ∷ [] }
  pub writes : t.writes ≡ s.writes

pub moves_read : (nodes : List Node) (s t : Held) (r : Runs nodes s) (v : ℤ) (item : ℕ) → HasKind nodes s (TableRead item) → HasMoved nodes v s t → HasRead nodes v s t
moves_read nodes s t r v item has moved =
    let set = ready nodes s r (TableRead item) v has in
    let next = moved.same r.body set.tables set.found set.over in
    record {
      runs = runs_over nodes s t r set.tables (sym next.items ∙ set.over.items) next;
      log = λ i kind. read_log nodes r.body set.tables s t set.over next moved.position i v (kind r.body set.tables set.over) (set.found i kind);
      writes = read_writes nodes r.body set.tables s t set.over next moved.position item (has r.body set.tables set.over);
    }

pub record HasWritten (nodes : List Node) (s t : Held) : Type 0 where
  pub runs : Runs nodes t
  pub same : (body : List Stmt) (tables : Tables) → RunsOver nodes body tables s → RunsOver nodes body tables t
  pub log : t.log ≡ s.log
  pub writes : (item : ℕ) (w : ℤ) → HasKind nodes s (Write item w) → t.writes ≡ slice_set s.writes item (Some w)

pub moves_write : (nodes : List Node) (s t : Held) (r : Runs nodes s) (v : ℤ) (item : ℕ) (w : ℤ) → HasKind nodes s (Write item w) → HasMoved nodes v s t → HasWritten nodes s t
moves_write nodes s t r v item w has moved =
    let same : (body : List Stmt) (tables : Tables) → RunsOver nodes body tables s → RunsOver nodes body tables t =
    λ body tables over. moved.same body tables (λ i read. write_not_read item i w (sym (has body tables over) ∙ read body tables over)) over in
    let next = same r.body r.tables r.over in
    record {
      runs = runs_over nodes s t r r.tables (sym next.items ∙ r.over.items) next;
      same = same;
      log = write_log nodes r.body r.tables s t r.over next moved.position item w (has r.body r.tables r.over);
      writes = λ i x kind. write_writes nodes r.body r.tables s t r.over next moved.position i x (kind r.body r.tables r.over);
    }
