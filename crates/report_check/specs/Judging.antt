-- What is judged from its beginning on: a list of items, of which some lists are right.
use Rattle.std.specs.Prelude.{◌≡◌, ◌⊎◌, ℕ, ◌+◌, ◌<◌, List, ◌++◌, length, take}

-- some right list begins with these items
abbrev pub IsBegun : {A : Type 0} → (List A → Type 0) → List A → Type 0
IsBegun {A} right items = (more : List A) × right (items ++ more)

-- Some right list begins with the items before this place, and none with these and the one at the place; or there is none at the place,
-- and the items are no right list though some right one begins with them.
pub record IsFirstWrong {A : Type 0} (right : List A → Type 0) (items : List A) (place : ℕ) : Type 0 where
  pub before : IsBegun right (take place items)
  pub wrong : ((place < length items) × (IsBegun right (take (place + 1) items) → ⊥)) ⊎ ((place ≡ length items) × (right items → ⊥))
