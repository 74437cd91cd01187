-- What is said of the reads of a run.
use Rattle.std.specs.Prelude.{◌≡◌, ℕ, ◌<◌, false, nat_eq, List, [], ◌∷◌, Some, slice_get}
use Rattle.txn_runs.specs.Run.{Tables, Read, stored}

-- a later read's position against the one before
abbrev pub IsPast : ℕ → ℕ → Type 0
IsPast before position = before < position

-- a read may stand before these: their positions are past its own, and none is of its item
abbrev pub IsFirst : Read → List Read → Type 0
IsFirst r [] = Unit {0}
IsFirst r (q ∷ reads) = IsPast r.0 q.0 × (nat_eq r.1 q.1 ≡ false) × IsFirst r reads

-- each item once, positions ascending
abbrev pub IsLog : List Read → Type 0
IsLog [] = Unit {0}
IsLog (r ∷ reads) = IsFirst r reads × IsLog reads

-- two tables have the same values at the items of these reads
abbrev pub AgreeOn : List Read → Tables → Tables → Type 0
AgreeOn reads d e = (place : ℕ) (r : Read) → slice_get reads place ≡ Some r → stored e r.1 ≡ stored d r.1

-- the tables have what was read
abbrev pub Agrees : Tables → List Read → Type 0
Agrees tables [] = Unit {0}
Agrees tables (r ∷ reads) = (stored tables r.1 ≡ r.2) × Agrees tables reads

-- all these reads stand before a position
abbrev pub AreBefore : ℕ → List Read → Type 0
AreBefore position [] = Unit {0}
AreBefore position (r ∷ reads) = (r.0 < position) × AreBefore position reads
