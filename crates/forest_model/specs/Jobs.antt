-- Jobs: shadows that are handed out, go on by local steps, and are given back.
use Rattle.std.specs.Prelude.{◌≡◌, ◌<◌, ◌≤◌, ℕ, zero, suc, Bool, true, false, ◌&&◌, ◌==◌, if◌then◌else◌, List, [], ◌∷◌, Option, Some, None, map}
use Rattle.std.specs.Ordering.{int_eq}
use Rattle.txn_runs.specs.Run.{Tables, Read, after}
use Rattle.txn_runs.specs.declared.program.Program.{Program}
use Rattle.block_rule.specs.declared.role.Row.{Row}
use Rattle.journal_core.specs.Journal.{program_of}
use Rattle.forest_model.specs.Runs.{reads, is_local}
use Rattle.forest_model.specs.Forest.{Shadow, Started, Forest, program, find_started}
use Rattle.forest_model.specs.Settle.{settle}
use Rattle.forest_model.specs.Pick.{pick}
use Rattle.forest_model.specs.Events.{move_to, give_shadows}

-- a shadow that was handed out: its transaction and program, where it stood and what it had read, how far it has come
pub record Job : Type 0 where
  pub number : ℕ
  pub program : Program
  pub from : ℕ
  pub reads : List Read
  pub reached : ℕ

-- the job is of a run over these tables, and each step since it was taken was a local one
pub record IsJobOver (tables : Tables) (job : Job) : Type 0 where
  pub forward : job.from ≤ job.reached
  pub seen : job.reads ≡ reads job.program tables job.from
  pub local : (n : ℕ) → job.from ≤ n → n < job.reached → is_local (after job.program tables n) ≡ true

-- Take and recall.

-- where the shadow at this place of the list stands
abbrev pub position_in : ℕ → List Shadow → ℕ
position_in n [] = 0
position_in zero (s ∷ ss) = s.position
position_in (suc n) (s ∷ ss) = position_in n ss

-- where the shadow at this place stands; the optimistic one has place 0
abbrev pub position_at : ℕ → Option Started → ℕ
position_at place None = 0
position_at zero (Some r) = r.position
position_at (suc n) (Some r) = position_in n r.shadows

-- the job of a shadow of t that stands here
abbrev pub job_at : Forest → ℕ → ℕ → Job
job_at f t position = record {
  number = t;
  program = program_of f.journal t;
  from = position;
  reads = reads (program_of f.journal t) f.tables position;
  reached = position;
}

-- the job of the shadow of this row
abbrev pub job_of : Forest → Row → Job
job_of f row = job_at f row.txn (position_at row.place (find_started f.started row.txn))

-- the shadow is out, or is not
abbrev pub set_out : Bool → Shadow → Shadow
set_out b s = record s { out = b }

-- the shadow at this place of the list is out
abbrev pub mark_place : ℕ → List Shadow → List Shadow
mark_place n [] = []
mark_place zero (s ∷ ss) = set_out true s ∷ ss
mark_place (suc n) (s ∷ ss) = s ∷ mark_place n ss

-- the shadow at this place is out; the optimistic one has place 0
abbrev pub marked : ℕ → Started → Started
marked zero r = record r { out = true }
marked (suc n) r = record r { shadows = mark_place n r.shadows }

-- the same for the transaction of the row
abbrev pub marked_at : Row → Started → Started
marked_at row r = if r.number == row.txn then marked row.place r else r

-- the shadow of the row is out
abbrev pub taken : Forest → Option Row → Forest
taken f None = f
taken f (Some row) = record f { started = map (marked_at row) f.started }

-- the forest after its pick was handed out
abbrev pub take_pick : Forest → Forest
take_pick f = taken f (pick f)

-- none of its shadows is out
abbrev pub recalled : Started → Started
recalled r = record r { out = false; shadows = map (set_out false) r.shadows }

-- nothing is out any more
abbrev pub recall : Forest → Forest
recall f = record f { started = map recalled f.started }

-- Give.

-- the same position, item and value
abbrev pub same_read : Read → Read → Bool
same_read x y = x.0 == y.0 && (x.1 == y.1 && int_eq x.2 y.2)

-- the same reads in the same order
abbrev pub same_reads : List Read → List Read → Bool
same_reads [] [] = true
same_reads [] (y ∷ ys) = false
same_reads (x ∷ xs) [] = false
same_reads (x ∷ xs) (y ∷ ys) = same_read x y && same_reads xs ys

-- it is out, and stands here
abbrev pub is_out_at : ℕ → ℕ → Bool → Bool
is_out_at from position out = position == from && out

-- one shadow in front of a list that may not be there
abbrev pub put_found : Shadow → Option (List Shadow) → Option (List Shadow)
put_found s None = None
put_found s (Some more) = Some (s ∷ more)

-- the first shadow that is out at the one position goes on to the other
abbrev pub moved : ℕ → ℕ → List Shadow → Option (List Shadow)
moved from reached [] = None
moved from reached (s ∷ ss) =
    if is_out_at from s.position s.out then Some (record s { position = reached; out = false } ∷ ss) else put_found s (moved from reached ss)

-- r with new shadows, if there are any
abbrev pub stored_in : Forest → Started → Option (List Shadow) → Option Forest
stored_in f r None = None
stored_in f r (Some ss) = Some (give_shadows r.number ss f)

-- the job is stored in the first shadow of r that is out where it was taken, the optimistic one first, if the present run has read the same up to there
abbrev pub given : Forest → Job → Option Started → Option Forest
given f job None = None
given f job (Some r) =
    if same_reads (reads (program f r) f.tables job.from) job.reads
    then
    (if is_out_at job.from r.position r.out
    then Some (settle f.started (move_to r.number job.reached f))
    else stored_in f r (moved job.from job.reached r.shadows))
    else None

-- the forest with the job stored; none where no shadow takes it
abbrev pub give : Forest → Job → Option Forest
give f job = given f job (find_started f.started job.number)
