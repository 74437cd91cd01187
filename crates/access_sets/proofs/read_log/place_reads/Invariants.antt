use Rattle.std.proofs.Common.{◌≡◌, take, length}
use Rattle.access_sets.specs.Log.{ArePlaced}
use Rattle.access_sets.proofs.read_log.place_reads.Given as goal

abbrev pub invariant-loop-i : goal.invariant-loop-i
invariant-loop-i l = (length l.places ≡ length l.fn.places) × ArePlaced 0 l.places (take l.i l.reads)
