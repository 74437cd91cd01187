-- Lists of programs by their numbers.
use Rattle.std.specs.Prelude.{◌≢◌, ℕ, Bool, ◌==◌, if◌then◌else◌, List, [], ◌∷◌}
use Rattle.std.specs.List.{AllByRecursion, list_any}
use Rattle.txn_runs.specs.declared.program.Program.{Program}

-- the program of this number; the empty one where there is none
abbrev pub program_named : List (ℕ × Program) → ℕ → Program
program_named [] t = []
program_named (b ∷ begun) t = if b.0 == t then b.1 else program_named begun t

-- whether there is a program of this number
abbrev pub is_named : List (ℕ × Program) → ℕ → Bool
is_named begun t = list_any (λ b. b.0 == t) begun

-- no number is there twice
abbrev pub AreDistinct : List ℕ → Type 0
AreDistinct [] = Unit {0}
AreDistinct (t ∷ ts) = AllByRecursion (λ u. u ≢ t) ts × AreDistinct ts
