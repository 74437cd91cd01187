-- Tables that have what a log has read.
use Rattle.std.specs.Prelude.{◌≡◌, ◌≢◌, ℕ, ◌<◌, ℤ, pos, false, nat_eq, List, [], ◌∷◌, length, replicate, slice_set}
use Rattle.std.proofs.Common.{◌∙◌, arith, length-set}
use Rattle.std.proofs.lemmas.List.{length-replicate, get_or-set_same, get_or-set_other}
use Rattle.txn_runs.specs.Run.{Tables, Read}
use Rattle.txn_runs.specs.Reads.{IsFirst, IsLog, Agrees}
use Rattle.access_sets.specs.Log.{AreBelow}

differ : (a b : ℕ) → nat_eq a b ≡ false → b ≢ a
differ a b e = grind (arith, e)

-- another item's value tells nothing of reads that are not of it
agrees_set : (tables : Tables) (r : Read) (reads : List Read) (v : ℤ) → IsFirst r reads → Agrees tables reads → Agrees (slice_set tables r.1 v) reads
agrees_set tables r [] v first h = tt
agrees_set tables r (q ∷ reads) v first h =
    (get_or-set_other tables r.1 q.1 v (pos 0) (differ r.1 q.1 first.1) ∙ h.0, agrees_set tables r reads v first.2 h.1)

pub agreeing : (room : ℕ) (reads : List Read) → IsLog reads → AreBelow room reads → (tables : Tables) × (length tables ≡ room) × Agrees tables reads
agreeing room [] log below = (replicate room (pos 0), length-replicate room (pos 0), tt)
agreeing room (r ∷ reads) log below =
    let rest = agreeing room reads log.1 below.1 in
    let within : r.1 < length rest.0 = omega (arith, below.0, rest.1) in
    (slice_set rest.0 r.1 r.2, length-set rest.0 r.1 r.2 ∙ rest.1, (get_or-set_same rest.0 r.1 r.2 (pos 0) within, agrees_set rest.0 r reads r.2 log.0 rest.2))
