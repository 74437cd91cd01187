-- What steps of each kind change.
use Rattle.std.specs.Prelude.{◌≡◌, ℕ, ◌+◌, ℤ, if◌then◌else◌, ◌||◌, List, [], ◌∷◌, is_some, Option, None, Some, Result, Ok, Err}
use Rattle.std.proofs.Common.{refl, add-one}
use Rattle.txn_runs.specs.declared.outcome.FaultKind.{FaultKind}
use Rattle.txn_runs.specs.declared.outcome.End.{End}
use Rattle.txn_runs.specs.declared.outcome.End.TheVariants.{Going, Failed, Fault}
use Rattle.txn_runs.specs.declared.kind.Kind.TheVariants.{Local, TableRead}
use Rattle.txn_runs.specs.declared.program.Stmt.{Stmt, out-Stmt}
use Rattle.txn_runs.specs.declared.program.Stmt.TheOpen.{Stmt-F}
use Rattle.txn_runs.specs.declared.program.Block.{Block}
use Rattle.txn_runs.specs.Value.{calc}
use Rattle.txn_runs.specs.Run.{Tables, Running, or_fault, put, value_of, item_at, own, logged, stored, fetch, read, write, act, step_from, step, after}
use Rattle.txn_runs.specs.Kind.{kind_of, kind_from, kind_act, kind_read, kind_write, Changes}

fetch_changes : (d : Tables) (n to item : ℕ) (s : Running) (rest : List Stmt) (o l : Option ℤ) → Changes (if is_some o || is_some l then Local else TableRead item) d n s (fetch o l (stored d item) n to item (record s { rest = rest }))
fetch_changes d n to item s rest (Some v) l = (refl, refl)
fetch_changes d n to item s rest None (Some v) = (refl, refl)
fetch_changes d n to item s rest None None = (refl, refl)

read_changes : (d : Tables) (n to : ℕ) (s : Running) (rest : List Stmt) (r : Result ℕ FaultKind) → Changes (kind_read s r) d n s (or_fault r (record s { rest = rest }) (read d n to (record s { rest = rest })))
read_changes d n to s rest (Ok item) = fetch_changes d n to item s rest (own s.writes item) (logged s.reads item)
read_changes d n to s rest (Err kind) = (refl, refl)

write_changes : (d : Tables) (n : ℕ) (v : ℤ) (s : Running) (rest : List Stmt) (r : Result ℕ FaultKind) → Changes (kind_write v r) d n s (or_fault r (record s { rest = rest }) (write v (record s { rest = rest })))
write_changes d n v s rest (Ok item) = (refl, refl)
write_changes d n v s rest (Err kind) = (refl, refl)

fault_changes : (d : Tables) (n to : ℕ) (s : Running) (rest : List Stmt) (r : Result ℤ FaultKind) → Changes Local d n s (or_fault r (record s { rest = rest }) (λ v. put to v (record s { rest = rest })))
fault_changes d n to s rest (Ok v) = (refl, refl)
fault_changes d n to s rest (Err kind) = (refl, refl)

act_changes : (d : Tables) (n : ℕ) (s : Running) (rest : List Stmt) (x : Stmt-F Stmt Block) → Changes (kind_act s x) d n s (act d n (record s { rest = rest }) x)
act_changes d n s rest (Stmt-F.Calc to left op right) = fault_changes d n to s rest (calc op (value_of s left) (value_of s right))
act_changes d n s rest (Stmt-F.Move to from) = (refl, refl)
act_changes d n s rest (Stmt-F.Read to table at) = read_changes d n to s rest (item_at table (value_of s at))
act_changes d n s rest (Stmt-F.Write table at from) = write_changes d n (value_of s from) s rest (item_at table (value_of s at))
act_changes d n s rest (Stmt-F.If left cmp right first second) = (refl, refl)
act_changes d n s rest (Stmt-F.Loop count body) = (refl, refl)
act_changes d n s rest (Stmt-F.Emit from) = (refl, refl)
act_changes d n s rest (Stmt-F.Fail code) = (refl, refl)

from_changes : (d : Tables) (n : ℕ) (s : Running) (end : End) (rest : List Stmt) → Changes (kind_from end rest s) d n s (step_from end rest d n s)
from_changes d n s Going (first ∷ rest) = act_changes d n s rest (out-Stmt first)
from_changes d n s Going [] = refl
from_changes d n s (Failed code) rest = refl
from_changes d n s (Fault kind) rest = refl

-- a step changes what its kind says
pub step_changes : (d : Tables) (n : ℕ) (s : Running) → Changes (kind_of s) d n s (step d n s)
step_changes d n s = from_changes d n s s.end s.rest

pub after_more : (body : List Stmt) (d : Tables) (n : ℕ) → after body d (n + 1) ≡ step d n (after body d n)
unfolding after
after_more body d n = rw add-one refl

pub after_changes : (body : List Stmt) (d : Tables) (n : ℕ) → Changes (kind_of (after body d n)) d n (after body d n) (after body d (n + 1))
after_changes body d n = rw (after_more body d n) (step_changes d n (after body d n))
