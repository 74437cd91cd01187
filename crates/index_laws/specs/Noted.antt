-- What a lane notes of a run.
use Rattle.std.specs.Prelude.{ℕ, List, map, length, is_some}
use Rattle.txn_runs.specs.Run.{Read, Writes, own}
use Rattle.conflict_index.specs.Index as index
use Rattle.conflict_index.specs.Kept.{writes_of}

-- its reads: the position and the item of each
abbrev pub noted : List Read → List index.Read
noted rs = map (λ (r : Read). (r.0, r.1)) rs

-- the items that it has written, ascending
abbrev pub written : Writes → List ℕ
written ws = writes_of (λ (item : ℕ). is_some (own ws item)) 0 (length ws)

abbrev pub lane_of_run : List Read → Writes → index.Lane
lane_of_run rs ws = record { reads = noted rs; writes = written ws }
