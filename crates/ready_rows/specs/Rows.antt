-- Rows of shadows that may make a step, in the order of the pick.
use Rattle.std.specs.Prelude.{ℕ, ◌≡◌, ◌≤◌, Bool, true, false, ◌&&◌, ◌==◌, List, [], ◌∷◌, length, ⊤}
use Rattle.std.specs.List.{AllByRecursion}
use Rattle.block_rule.specs.declared.role.Row.{Row}
use Rattle.forest_model.specs.Pick.{is_earlier, is_ready}

-- how many rows there may be, and the rows
pub record Rows : Type 0 where
  pub room : ℕ
  pub rows : List Row

-- the row is of the shadow at this place of the transaction
abbrev pub is_at : ℕ → ℕ → Row → Bool
is_at txn place row = row.txn == txn && row.place == place

-- each row comes before all behind it
abbrev pub IsInOrder : List Row → Type 0
IsInOrder [] = ⊤
IsInOrder (row ∷ rows) = AllByRecursion (λ other. is_earlier row other ≡ true) rows × IsInOrder rows

-- no two rows are of one shadow
abbrev pub AreApart : List Row → Type 0
AreApart [] = ⊤
AreApart (row ∷ rows) = AllByRecursion (λ other. is_at row.txn row.place other ≡ false) rows × AreApart rows

-- what is kept of rows with so much room, where the memory has so much
pub record AreReady (room capacity : ℕ) (rows : List Row) : Type 0 where
  pub fits : length rows ≤ room
  pub taken : room ≤ capacity
  pub order : IsInOrder rows
  pub ready : AllByRecursion (λ row. is_ready row ≡ true) rows
  pub apart : AreApart rows
