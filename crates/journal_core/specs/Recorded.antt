-- What a journal is seen as.
use Rattle.std.specs.Prelude.{ℕ, List}
use Rattle.txn_runs.specs.Run.{Tables}
use Rattle.journal_core.specs.declared.entry.Entry.{Entry}

-- the tables that it opened with, its entries, and for how many more there is room
pub record Recorded : Type 0 where
  pub opening : Tables
  pub entries : List Entry
  pub spare : ℕ
