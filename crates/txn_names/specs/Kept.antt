-- How the tables are kept.
use Rattle.std.specs.Prelude.{◌≡◌, ℕ, ◌+◌, List, [], ◌∷◌, map}
use Rattle.std.specs.declared.vec.Vec.{Vec}
use Rattle.std.specs.declared.alloc.Global.{Global}
use Rattle.txn_runs.specs.declared.program.TableRef.{TableRef}
use Rattle.txn_names.specs.Tables.{Named, items_of, IsNames}

abbrev pub Entry : Type 0
Entry = Vec ℕ Global × TableRef

-- the name and the size of an entry
abbrev pub named : Entry → Named
named entry = (entry.0.items, entry.1.size)

abbrev pub names_of : List Entry → List Named
names_of entries = map named entries

-- each entry has its number and the number of items before it
abbrev pub AreLaid : ℕ → ℕ → List Entry → Type 0
AreLaid number base [] = Unit {0}
AreLaid number base (entry ∷ entries) = (entry.1 ≡ record { number = number; base = base; size = entry.1.size }) × AreLaid (number + 1) (base + entry.1.size) entries

pub record IsKept (entries : List Entry) (total : ℕ) : Type 0 where
  pub laid : AreLaid 0 0 entries
  pub names : IsNames (names_of entries)
  pub items : total ≡ items_of (names_of entries)
