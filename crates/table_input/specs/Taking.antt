-- What a line that is taken in or refused says.
use Rattle.std.specs.Prelude.{◌≡◌, ℕ, Result, Err}
use Rattle.scc_setup.specs.Opening.{Opening}
use Rattle.batch_input.specs.declared.taking.LineRefusal.{LineRefusal}
use Rattle.batch_input.specs.declared.taking.LineRefusal.TheVariants.{Code, OutOfMemory}

-- the number is the one by which the line is refused
abbrev pub IsReason : LineRefusal → Result Opening ℕ → Type 0
IsReason (Code code) after = after ≡ Err code
IsReason OutOfMemory after = Unit {0}
