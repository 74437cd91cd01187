-- Sums over tables, and what transfers come to.
use Rattle.std.specs.Prelude.{◌≡◌, ℕ, ◌+◌, ℤ, pos, ◌+ℤ◌, ◌-ℤ◌, ◌*ℤ◌, ◌≤ℤ◌, neg_ℤ, Bool, true, false, List, [], ◌∷◌, length, replicate}
use Rattle.std.specs.List.{AllByRecursion}
use Rattle.txn_runs.specs.Run.{Tables}
use Rattle.txn_runs.specs.Serial.{outcomes, last_tables}
use Rattle.txn_runs.specs.declared.program.Program.{Program}
use Rattle.txn_runs.specs.declared.outcome.Outcome.{Outcome}
use Rattle.txn_runs.specs.declared.outcome.Outcome.TheVariants.{Done, Failed, Fault}
use Rattle.scc_gen.specs.declared.lines.Transfer.{Transfer}

-- the sum of all values
abbrev pub sum : Tables → ℤ
sum [] = pos 0
sum (v ∷ tables) = v +ℤ sum tables

-- the sum of all values, each times its place, where the first has this one
abbrev pub weighted_from : ℕ → Tables → ℤ
weighted_from place [] = pos 0
weighted_from place (v ∷ tables) = (pos place *ℤ v) +ℤ weighted_from (place + 1) tables

-- each value times its place, counted from 1
abbrev pub weighted : Tables → ℤ
weighted tables = weighted_from 1 tables

-- the table before the first transfer
abbrev pub zeros : Tables
zeros = replicate 64 (pos 0)

abbrev pub is_done : Outcome → Bool
is_done (Done emits) = true
is_done (Failed code) = false
is_done (Fault kind) = false

-- what a transfer adds to the weighted sum: its amount times how far it goes
abbrev pub shift : Transfer → ℤ
shift t = pos t.amount *ℤ (pos t.to -ℤ pos t.from)

abbrev pub shifts : List Transfer → ℤ
shifts [] = pos 0
shifts (t ∷ transfers) = shift t +ℤ shifts transfers

-- a value that is at most so far from 0
pub record IsNear (m : ℕ) (v : ℤ) : Type 0 where
  pub low : neg_ℤ (pos m) ≤ℤ v
  pub high : v ≤ℤ pos m

abbrev pub AreNear : ℕ → Tables → Type 0
AreNear m tables = AllByRecursion (IsNear m) tables

-- Programs that ran one after another over a table in which all was 0: each came to its end, all values together are 0 again, each value
-- times its place comes to what the transfers shift, and no value is far from 0.
pub record ComesTo (transfers : List Transfer) (programs : List Program) : Type 0 where
  pub done : AllByRecursion (λ outcome. is_done outcome ≡ true) (outcomes zeros programs)
  pub sum : sum (last_tables zeros programs) ≡ pos 0
  pub weighted : weighted (last_tables zeros programs) ≡ shifts transfers
  pub items : length (last_tables zeros programs) ≡ 64
  pub near : AreNear 400000 (last_tables zeros programs)
