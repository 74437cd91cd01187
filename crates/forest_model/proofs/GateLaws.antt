-- One step under a gate.
use Rattle.std.proofs.Common.{◌≡◌, ◌≢◌, ℕ, suc, ◌+◌, ◌<◌, ◌≤◌, Bool, true, false, List, [], ◌∷◌, map, filter, flat_map, Option, Some, None, Result, Ok, Err, IfOk, is_ok, IsTrue, is_some, ◌||◌, if◌then◌else◌, ℤ, refl, ap, sym, ◌∙◌, subst, arith, zero-add, suc-add, add-zero, add-suc}
use Rattle.std.specs.List.{AllByRecursion}
use Rattle.std.proofs.lemmas.Bool.{and_parts}
use Rattle.txn_runs.specs.Run.{Running, after, own, logged, item_at, value_of}
use Rattle.txn_runs.specs.Kind.{kind_of, kind_from, kind_act, kind_read, kind_write}
use Rattle.txn_runs.specs.Serial.{has_ended, ended_at}
use Rattle.txn_runs.specs.declared.kind.Kind.{Kind}
use Rattle.txn_runs.specs.declared.kind.Kind.TheVariants.{Local, TableRead, Ended}
use Rattle.txn_runs.specs.declared.outcome.End.{End}
use Rattle.txn_runs.specs.declared.outcome.End.TheVariants.{Going, Failed, Fault}
use Rattle.txn_runs.specs.declared.outcome.FaultKind.{FaultKind}
use Rattle.txn_runs.specs.declared.program.Stmt.{Stmt, out-Stmt}
use Rattle.txn_runs.specs.declared.program.Stmt.TheOpen.{Stmt-F}
use Rattle.txn_runs.specs.declared.program.Block.{Block}
use Rattle.block_rule.specs.declared.role.Row.{Row}
use Rattle.block_rule.specs.Standing.{is_runnable}
use Rattle.journal_core.specs.Journal.{is_live, deadline_of}
use Rattle.forest_model.specs.declared.did.Did.{Did}
use Rattle.forest_model.specs.declared.did.Did.TheVariants.{Committed, Stepped, Nothing}
use Rattle.forest_model.specs.Runs.{is_local}
use Rattle.forest_model.specs.Point.{Conflict}
use Rattle.forest_model.specs.Forest.{Shadow, Started, Forest, program, length_of, is_ended, wanted, find_started}
use Rattle.forest_model.specs.Start.{is_prior}
use Rattle.forest_model.specs.Pick.{is_ready, is_earlier, guard_rows, rows_of, pick}
use Rattle.forest_model.specs.Sound.{IsSound}
use Rattle.forest_model.specs.Events.{Refusal, step, commit}
use Rattle.forest_model.specs.Jobs.{position_in, position_at}
use Rattle.forest_model.specs.Drain.{after_step, step_row, first_ended, after_commit, state_of, gate_by, gate_step}
use Rattle.forest_model.proofs.Lists.{all-map, all-both, all-filter, filter-passes}
use Rattle.forest_model.proofs.RunLaws.{going-below_length}
use Rattle.forest_model.proofs.StartedLaws.{all-first}
use Rattle.forest_model.proofs.PointLaws.{wanted-below}
use Rattle.forest_model.proofs.StepLaws.{step-sound, runnable-going, runnable-below}
use Rattle.forest_model.proofs.CommitLaws.{commit-sound}
use Rattle.forest_model.proofs.PickLaws.{found-self, all-flat_map}

-- What it is.

pub gate-commits : (f : Forest) (t : ℕ) → first_ended f ≡ Some t → gate_step f ≡ (Committed t, after_commit f (commit f t))
gate-commits f t h = ap (λ o. gate_by f o (pick f)) h

gate_unended : (f : Forest) (o : Option Row) → first_ended f ≡ None → pick f ≡ o → gate_step f ≡ gate_by f None o
gate_unended f o h e = ap (λ x. gate_by f x (pick f)) h ∙ ap (gate_by f None) e

local_or_not : (f : Forest) (row : Row) (b : Bool) → is_local (state_of f row) ≡ b → gate_by f None (Some row) ≡ (if b then (Nothing, f) else (Stepped row.txn row.role, step_row f row))
local_or_not f row b h = ap (λ (c : Bool). if c then (let x : Did × Forest = (Nothing, f) in x) else (Stepped row.txn row.role, step_row f row)) h

pub gate-steps : (f : Forest) (row : Row) → first_ended f ≡ None → pick f ≡ Some row → is_local (state_of f row) ≡ false → gate_step f ≡ (Stepped row.txn row.role, step_row f row)
gate-steps f row h e act = gate_unended f (Some row) h e ∙ local_or_not f row false act

pub gate-leaves : (f : Forest) (row : Row) → first_ended f ≡ None → pick f ≡ Some row → is_local (state_of f row) ≡ true → gate_step f ≡ (Nothing, f)
gate-leaves f row h e local = gate_unended f (Some row) h e ∙ local_or_not f row true local

pub gate-without_pick : (f : Forest) → first_ended f ≡ None → pick f ≡ None → gate_step f ≡ (Nothing, f)
gate-without_pick f h e = gate_unended f None h e

-- It keeps soundness.

after_commit-sound : (f : Forest) (o : Result Forest Refusal) → IsSound f → IfOk o IsSound → IsSound (after_commit f o)
after_commit-sound f (Ok g) h is = is
after_commit-sound f (Err refusal) h is = h

after_step-sound : (f : Forest) (o : Result (ℕ × Forest) Refusal) → IsSound f → IfOk o (λ a. IsSound a.1) → IsSound (after_step f o)
after_step-sound f (Ok answer) h is = is
after_step-sound f (Err refusal) h is = h

gate_by-sound : (f : Forest) (t : Option ℕ) (o : Option Row) → IsSound f → IsSound (gate_by f t o).1
gate_by-sound f (Some t) o h = after_commit-sound f (commit f t) h (commit-sound f t h)
gate_by-sound f None None h = h
gate_by-sound f None (Some row) h = go (is_local (state_of f row))
  where
    go : (b : Bool) → IsSound (if b then (let x : Did × Forest = (Nothing, f) in x) else (Stepped row.txn row.role, step_row f row)).1
    go true = h
    go false = after_step-sound f (step f row.txn row.role) h (step-sound f row.txn row.role h)

pub gate-sound : (f : Forest) → IsSound f → IsSound (gate_step f).1
gate-sound f h = gate_by-sound f (first_ended f) (pick f) h

-- The commit is accepted.

reached : (f : Forest) (r : Started) → is_live f.journal r.number ≡ true → find_started f.started r.number ≡ Some r → is_ended f r ≡ true → is_ok (commit f r.number) ≡ true
reached f r live found ended = rw (live, found, ended) refl

pub first-accepted : (f : Forest) (t : ℕ) → IsSound f → first_ended f ≡ Some t → IsTrue (is_ok (commit f t))
first-accepted f t h e =
    let facts : AllByRecursion (λ r. (is_live f.journal r.number ≡ true) × (find_started f.started r.number ≡ Some r)) f.started =
    all-both (λ r. is_live f.journal r.number ≡ true) (λ r. find_started f.started r.number ≡ Some r) _ (λ r a b. (a, b)) f.started h.right.live (found-self f.started h.right.rising)
    in
    all-first (λ n. is_ok (commit f n) ≡ true) (is_prior f.journal) (map (λ r. r.number) (filter (is_ended f) f.started)) t e
    (all-map (λ n. is_ok (commit f n) ≡ true) (λ (r : Started). r.number) (filter (is_ended f) f.started)
    (all-both (λ r. is_ended f r ≡ true) (λ r. (is_live f.journal r.number ≡ true) × (find_started f.started r.number ≡ Some r)) (λ r. is_ok (commit f r.number) ≡ true)
    (λ r ended is. reached f r is.0 is.1 ended) (filter (is_ended f) f.started) (filter-passes (is_ended f) f.started)
    (all-filter (λ r. (is_live f.journal r.number ≡ true) × (find_started f.started r.number ≡ Some r)) (is_ended f) f.started facts)))

-- The pick has a step to make.

read_by : (b : Bool) (item : ℕ) → (if b then (let k : Kind = Local in k) else TableRead item) ≢ Ended
read_by true item = λ e. cc
read_by false item = λ e. cc

read_goes : (s : Running) (o : Result ℕ FaultKind) → kind_read s o ≢ Ended
read_goes s (Ok item) = read_by (is_some (own s.writes item) || is_some (logged s.reads item)) item
read_goes s (Err kind) = λ e. cc

write_goes : (v : ℤ) (o : Result ℕ FaultKind) → kind_write v o ≢ Ended
write_goes v (Ok item) = λ e. cc
write_goes v (Err kind) = λ e. cc

act_goes : (s : Running) (act : Stmt-F Stmt Block) → kind_act s act ≢ Ended
act_goes s (Stmt-F.Read to table at) = read_goes s (item_at table (value_of s at))
act_goes s (Stmt-F.Write table at from) = write_goes (value_of s from) (item_at table (value_of s at))
act_goes s (Stmt-F.Calc to left op right) = λ e. cc
act_goes s (Stmt-F.Move to from) = λ e. cc
act_goes s (Stmt-F.If left cmp right first second) = λ e. cc
act_goes s (Stmt-F.Loop count body) = λ e. cc
act_goes s (Stmt-F.Emit from) = λ e. cc
act_goes s (Stmt-F.Fail code) = λ e. cc

goes_by : (end : End) (rest : List Stmt) (s : Running) → ended_at end rest ≡ false → kind_from end rest s ≢ Ended
goes_by Going [] s h = λ e. cc
goes_by Going (first ∷ rest) s h = act_goes s (out-Stmt first)
goes_by (Failed code) rest s h = λ e. cc
goes_by (Fault kind) rest s h = λ e. cc

-- a row that is runnable is of a run that has not ended
abbrev Goes : Forest → Row → Type 0
Goes f row = is_runnable row.standing ≡ true → has_ended (state_of f row) ≡ false

module _ (f : Forest) (r : Started) (found : find_started f.started r.number ≡ Some r) (within : r.position ≤ length_of f r) where
  going : (q : ℕ) → q < length_of f r → has_ended (after (program f r) f.tables q) ≡ false
  going q less = going-below_length (program f r) f.tables q less

  guards_go : (deadline place : ℕ) (ss : List Shadow) (ws : List Conflict) → ((m : ℕ) → position_in (place + m) r.shadows ≡ position_in m ss) → AllByRecursion (λ w. w.1 < r.position) ws
      → AllByRecursion (Goes f) (guard_rows r.number deadline (suc place) ss ws)
  guards_go deadline place [] ws same before = tt
  guards_go deadline place (s ∷ ss) [] same before = tt
  guards_go deadline place (s ∷ ss) (w ∷ ws) same before = (
    (λ run.
        let less : s.position < w.1 = runnable-below s.position w.1 run in
        let here : position_at (suc place) (find_started f.started r.number) ≡ s.position = rw found (rw add-zero at (same 0)) in
        subst (λ q. has_ended (after (program f r) f.tables q) ≡ false) (sym here) (going s.position (omega (arith, before.0)))),
    guards_go deadline (suc place) ss ws (λ m. rw suc-add (rw add-suc at (same (suc m)))) before.1,
  )

  rows_go : AllByRecursion (Goes f) (rows_of f r)
  rows_go = (
    (λ run. rw found (going r.position (runnable-going r.position (length_of f r) run))),
    guards_go (deadline_of f.journal r.number) 0 r.shadows (wanted f r) (λ m. rw zero-add refl) (wanted-below f r),
  )

pub pick-acts : (f : Forest) (row : Row) → IsSound f → pick f ≡ Some row → kind_of (state_of f row) ≢ Ended
pick-acts f row h e =
    let each : AllByRecursion (λ r. AllByRecursion (Goes f) (rows_of f r)) f.started =
    all-both (λ r. find_started f.started r.number ≡ Some r) (λ r. r.position ≤ length_of f r) (λ r. AllByRecursion (Goes f) (rows_of f r)) (λ r found within. rows_go f r found within) f.started (found-self f.started h.right.rising) h.right.within
    in
    let goes : has_ended (state_of f row) ≡ false =
    all-first (λ (x : Row). has_ended (state_of f x) ≡ false) is_earlier (filter is_ready (flat_map (rows_of f) f.started)) row e
    (all-both (λ (x : Row). is_ready x ≡ true) (Goes f) (λ (x : Row). has_ended (state_of f x) ≡ false)
    (λ x ready may. may (and_parts _ _ ready).0) (filter is_ready (flat_map (rows_of f) f.started))
    (filter-passes is_ready (flat_map (rows_of f) f.started))
    (all-filter (Goes f) is_ready (flat_map (rows_of f) f.started) (all-flat_map (Goes f) (rows_of f) f.started each)))
    in
    goes_by (state_of f row).end (state_of f row).rest (state_of f row) goes
