-- What a preparation makes of the bytes that it reads.
use Rattle.std.specs.Prelude.{◌≡◌, ℕ, List, [], ◌∷◌, Option, Result, Ok, Err}
use Rattle.txn_names.specs.Tables.{Named}
use Rattle.shadow_forest.specs.declared.kept.Item.{Item}
use Rattle.shadow_forest.specs.declared.kept.Item.TheVariants as items
use Rattle.batch_input.specs.declared.read.Unread.{Unread}
use Rattle.batch_input.specs.declared.read.Unread.TheVariants as ends
use Rattle.scc_setup.specs.Opening.{Opening}
use Rattle.table_input.specs.Unread.{ReadInput}

-- These names are those of the tables, and the list is that of a forest that opens over them, in which nothing happened.
abbrev pub HasOpened : Opening → ℕ → ℕ → List Named → List Item → Type 0
HasOpened opening k lanes names seen = (names ≡ opening.names) × (seen ≡ items.Opening opening.tables k lanes ∷ [])

-- An input was read to its end, and its tables are those of the forest.
pub record Prepared (k lanes : ℕ) (names : List Named) (seen : List Item) (left_old left_new : Option (List ℕ)) : Type 0 where
  pub read : List ℕ
  pub opening : Opening
  pub input : ReadInput (Ok opening) read left_old left_new
  pub opened : HasOpened opening k lanes names seen

-- memory may be wanting for a forest over tables that were read; any other end is that of the reading
abbrev pub EndsAs : Result Opening Unread → Unread → Type 0
EndsAs (Ok opening) end = end ≡ ends.OutOfMemory
EndsAs (Err why) end = end ≡ why

-- There is no forest, by the end of the reading or for want of memory behind it.
pub record Unprepared (end : Unread) (left_old left_new : Option (List ℕ)) : Type 0 where
  pub read : List ℕ
  pub made : Result Opening Unread
  pub input : ReadInput made read left_old left_new
  pub ended : EndsAs made end
