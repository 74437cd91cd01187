-- The tables of a program by their names: a list of names and sizes, in order.
use Rattle.std.specs.Prelude.{◌≡◌, ◌≢◌, ℕ, ◌+◌, ◌<◌, ◌≤◌, IsTrue, if◌then◌else◌, List, [], ◌∷◌, ◌++◌, Option, None, Some, length, take, slice_get}
use Rattle.std.specs.Option.{option_map}
use Rattle.std.specs.List.{sum_by, All, AllPairs}
use Rattle.std.specs.Str.{bytes_eq}
use Rattle.txn_runs.specs.declared.program.TableRef.{TableRef}
use Rattle.txn_names.specs.Word.{is_table_name}

-- a table's name and its size
abbrev pub Named : Type 0
Named = List ℕ × ℕ

-- the number of items of all tables
abbrev pub items_of : List Named → ℕ
items_of names = sum_by (λ (table : Named). table.1) names

-- a table by its number: the number of items before it, and its size
abbrev pub table_at : List Named → ℕ → Option TableRef
table_at names number = option_map (λ (table : Named). record { number = number; base = items_of (take number names); size = table.1 }) (slice_get names number)

-- the table of a name among those that follow `number` tables with `base` items
abbrev pub table_from : ℕ → ℕ → List Named → List ℕ → Option TableRef
table_from number base [] name = None
table_from number base (table ∷ tables) name =
    if bytes_eq name table.0 then Some (record { number = number; base = base; size = table.1 })
    else table_from (number + 1) (base + table.1) tables name

-- the table of a name
abbrev pub table_named : List Named → List ℕ → Option TableRef
table_named names name = table_from 0 0 names name

-- the tables with one more behind them
abbrev pub added : List ℕ → ℕ → List Named → List Named
added name size names = names ++ (name, size) ∷ []

-- a table's name is allowed, and its size is 1 to 1,024
pub record IsTable (table : Named) : Type 0 where
  pub name : IsTrue (is_table_name table.0)
  pub some : 1 ≤ table.1
  pub most : table.1 ≤ 1024

-- the tables that may be there together
pub record IsNames (names : List Named) : Type 0 where
  pub tables : All IsTable names
  pub distinct : AllPairs (λ (a b : Named). a.0 ≢ b.0) names
  pub count : length names ≤ 16
  pub items : items_of names ≤ 1024

-- a table that may be added
pub record CanAdd (names : List Named) (name : List ℕ) (size : ℕ) : Type 0 where
  pub allowed : IsTrue (is_table_name name)
  pub free : table_named names name ≡ None
  pub room : length names < 16
  pub some : 1 ≤ size
  pub most : size ≤ 1024
  pub items : items_of names + size ≤ 1024
