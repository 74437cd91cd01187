-- What a row is read as before it is set beside a journal.
use Rattle.std.specs.Prelude.{◌≡◌, ℕ, ◌≤◌, ◌<◌, ◌^◌, List, [], ◌∷◌, codes, decimal, Option, Some, None}
use Rattle.journal_table.specs.declared.read.Row.{Row}
use Rattle.journal_table.specs.declared.read.Row.TheVariants.{Began, Sealed, Committed, Withdrawn}

-- these are the fields of no entry whose number has 64 bits
pub record IsNone (fields : List (List ℕ)) : Type 0 where
  pub began : (txn deadline : ℕ) (spelling : List ℕ) → txn < 2 ^ 64 → deadline ≤ 1000000000000 → fields ≡ codes "began" ∷ decimal txn ∷ decimal deadline ∷ spelling ∷ [] → ⊥
  pub sealed : fields ≡ codes "sealed" ∷ [] ∷ [] ∷ [] ∷ [] → ⊥
  pub committed : (txn : ℕ) (words : List ℕ) → txn < 2 ^ 64 → fields ≡ codes "committed" ∷ decimal txn ∷ [] ∷ words ∷ [] → ⊥
  pub withdrawn : (txn : ℕ) → txn < 2 ^ 64 → fields ≡ codes "withdrawn" ∷ decimal txn ∷ [] ∷ [] ∷ [] → ⊥

-- the fields say this, or are of no entry whose number has 64 bits
abbrev pub IsRead : List (List ℕ) → Option Row → Type 0
IsRead fields (Some (Began txn deadline spelling)) = (fields ≡ codes "began" ∷ decimal txn ∷ decimal deadline ∷ spelling.now ∷ []) × (deadline ≤ 1000000000000)
IsRead fields (Some Sealed) = fields ≡ codes "sealed" ∷ [] ∷ [] ∷ [] ∷ []
IsRead fields (Some (Committed txn words)) = fields ≡ codes "committed" ∷ decimal txn ∷ [] ∷ words.now ∷ []
IsRead fields (Some (Withdrawn txn)) = fields ≡ codes "withdrawn" ∷ decimal txn ∷ [] ∷ [] ∷ []
IsRead fields None = IsNone fields
