-- What a batch that takes in lines says of each, and what its type keeps.
use Rattle.std.specs.Prelude.{◌≡◌, ◌≢◌, ℕ, ◌≤◌, List, Result, Err}
use Rattle.txn_runs.specs.Bounds.{reach}
use Rattle.txn_names.specs.Tables.{Named, items_of}
use Rattle.txn_syntax.specs.declared.refusal.ReadRefusal.{ReadRefusal}
use Rattle.txn_syntax.specs.declared.refusal.ReadRefusal.TheVariants as refusals
use Rattle.batch_input.specs.declared.request.Request.{Request}
use Rattle.batch_input.specs.declared.taking.LineRefusal.{LineRefusal}
use Rattle.batch_input.specs.declared.taking.LineRefusal.TheVariants.{Code, OutOfMemory}
use Rattle.batch_input.specs.Input.{Batch, unread_code}

-- a program fits tables with these names, and its deadline lies within its limit
pub record IsFit (names : List Named) (request : Request) : Type 0 where
  pub reach : reach request.program ≤ items_of names
  pub deadline : request.deadline ≤ 1000000000000

-- the number is the one by which the line is refused
abbrev pub IsReason : LineRefusal → Result Batch ℕ → Type 0
IsReason (Code code) after = after ≡ Err code
IsReason OutOfMemory after = Unit {0}

-- bytes that are no program are refused by this number, unless memory ran out
abbrev pub IsCodeOf : LineRefusal → ReadRefusal → Type 0
IsCodeOf (Code code) refusal = (code ≡ unread_code refusal) × (refusal ≢ refusals.OutOfMemory)
IsCodeOf OutOfMemory refusal = refusal ≡ refusals.OutOfMemory
