-- What a machine over a borrowed tally keeps.
use Rattle.std.specs.Prelude.{◌≡◌, ℕ}

-- the reference is the same, and so is the owner behind it
abbrev pub KeepsOwner : {N : Type 0} → N → N → ℕ → ℕ → Type 0
KeepsOwner old_name new_name old new = (new_name ≡ old_name) × (new ≡ old)
