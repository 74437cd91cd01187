-- Which forests are sound, and which are idle.
use Rattle.std.specs.Prelude.{◌≡◌, ◌≢◌, ◌≤◌, ◌<◌, ℕ, ◌==◌, Bool, true, false, List, [], ◌∷◌, Some, map, length}
use Rattle.std.specs.List.{AllByRecursion, AllZip, list_any}
use Rattle.journal_core.specs.Journal.{IsLegal, began, is_live, tables_after}
use Rattle.forest_model.specs.Forest.{Shadow, Started, Forest, length_of, wanted, find_started, is_started}
use Rattle.forest_model.specs.Point.{Conflict}

-- strictly increasing
abbrev pub IsRising : List ℕ → Type 0
IsRising [] = Unit {0}
IsRising (n ∷ ns) = AllByRecursion (λ m. n < m) ns × IsRising ns

-- the journal, the tables and the optimistic shadows fit together
pub record IsRight (f : Forest) : Type 0 where
  pub legal : IsLegal f.opening f.journal
  pub few : began f.journal ≤ 20000
  pub serial : f.tables ≡ tables_after f.opening f.journal
  pub rising : IsRising (map (λ r. r.number) f.started)
  pub live : AllByRecursion (λ r. is_live f.journal r.number ≡ true) f.started
  pub at_most : length f.started ≤ f.lanes
  pub full : (t : ℕ) → is_live f.journal t ≡ true → is_started f.started t ≡ false → length f.started ≡ f.lanes
  pub within : AllByRecursion (λ r. r.position ≤ length_of f r) f.started

-- the shadow stands for this guard, at or before this point
abbrev pub StandsFor : Shadow → Conflict → Type 0
StandsFor s w = (s.guard ≡ w.0) × (s.position ≤ w.1)

-- each has exactly the shadows that it wants
abbrev pub IsSettled : Forest → Type 0
IsSettled f = AllByRecursion (λ r. AllZip StandsFor r.shadows (wanted f r)) f.started

-- the forest is right, and each transaction has the shadows that it wants
pub record IsSound (f : Forest) : Type 0 where
  pub right : IsRight f
  pub settled : IsSettled f

-- each optimistic shadow has ended, each other one stands at its point, and nothing is out
pub record IsIdle (f : Forest) : Type 0 where
  pub ended : AllByRecursion (λ r. (r.out ≡ false) × (r.position ≡ length_of f r)) f.started
  pub blocked : AllByRecursion (λ r. AllZip (λ s w. (s.out ≡ false) × (s.position ≡ w.1)) r.shadows (wanted f r)) f.started

-- u has a shadow in this list of what is wanted
abbrev pub is_wanted : List Conflict → ℕ → Bool
is_wanted ws u = list_any (λ w. w.0 == u) ws

-- the last of the points, or n where there is none
abbrev pub last_from : ℕ → List Conflict → ℕ
last_from n [] = n
last_from n (w ∷ ws) = last_from w.1 ws

-- the last of the points, or 0 where there is none
abbrev pub last_point : List Conflict → ℕ
last_point ws = last_from 0 ws

-- nothing is out
pub record IsHome (f : Forest) : Type 0 where
  pub optimistic : AllByRecursion (λ r. r.out ≡ false) f.started
  pub others : AllByRecursion (λ r. AllByRecursion (λ s. s.out ≡ false) r.shadows) f.started

-- g keeps the lists that were there before, where they stand for what is wanted in g
abbrev pub LeavesLists : List Started → Forest → Type 0
LeavesLists before g =
    (v : ℕ) (old new : Started) → find_started before v ≡ Some old → find_started g.started v ≡ Some new → AllZip StandsFor old.shadows (wanted g new) → new.shadows ≡ old.shadows

-- who is started in f is started in g, and stands as in f
abbrev pub KeepsStarted : Forest → Forest → Type 0
KeepsStarted f g = (v : ℕ) (r : Started) → find_started f.started v ≡ Some r → find_started g.started v ≡ Some r

-- the same of all but t
abbrev pub KeepsOthers : ℕ → Forest → Forest → Type 0
KeepsOthers t f g = (v : ℕ) (r : Started) → v ≢ t → find_started f.started v ≡ Some r → find_started g.started v ≡ Some r
