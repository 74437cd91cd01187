-- What is true of each token that is read over tables with so many items.
use Rattle.std.specs.Prelude.{ℕ, ◌+◌, ◌<◌, ◌≤◌, List, [], ◌∷◌, Some}
use Rattle.txn_tokens.specs.declared.token.Token.{Token}
use Rattle.txn_tokens.specs.declared.token.Token.TheVariants.{Register, Name}

-- a register is below 16, and a table lies within the items
abbrev pub IsSound : ℕ → Token → Type 0
IsSound items (Register number) = number < 16
IsSound items (Name (Some table)) = table.base + table.size ≤ items
IsSound items _ = Unit {0}

abbrev pub AreSound : ℕ → List Token → Type 0
AreSound items [] = Unit {0}
AreSound items (token ∷ tokens) = IsSound items token × AreSound items tokens
