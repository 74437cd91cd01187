-- What an event adds to the journal of a forest.
use Rattle.std.specs.Prelude.{◌≡◌, ◌≤◌, ℕ, ◌+◌, if◌then◌else◌, List, [], ◌∷◌, ◌++◌}
use Rattle.txn_runs.specs.Serial.{outcome_of}
use Rattle.txn_runs.specs.declared.program.Program.{Program}
use Rattle.journal_core.specs.Journal.{began, is_sealed, program_of}
use Rattle.journal_core.specs.declared.entry.Entry.{Entry}
use Rattle.journal_core.specs.declared.entry.Entry.TheVariants.{Began, Sealed, Committed}
use Rattle.forest_model.specs.Forest.{Forest}

-- g has f's opening tables, and its journal is f's with these entries behind it
pub record IsGrown (f g : Forest) (more : List Entry) : Type 0 where
  pub opening : g.opening ≡ f.opening
  pub journal : g.journal ≡ f.journal ++ more

-- g has f's opening tables, and its journal begins with f's
pub record IsLonger (f g : Forest) : Type 0 where
  pub more : List Entry
  pub grown : IsGrown f g more

-- t's commit, with the outcome of its program over the present tables
abbrev pub commit_entry : Forest → ℕ → Entry
commit_entry f t = Committed t (outcome_of (program_of f.journal t) f.tables)

-- what sealing adds
abbrev pub seal_entries : Forest → List Entry
seal_entries f = if is_sealed f.journal then [] else Sealed ∷ []

-- this program has begun under t, the next number, which is among the first 20,000
pub record HasBegun (f g : Forest) (t deadline : ℕ) (p : Program) : Type 0 where
  pub grown : IsGrown f g (Began t deadline p ∷ [])
  pub next : t ≡ began f.journal + 1
  pub few : t ≤ 20000
