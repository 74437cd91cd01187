-- The entry that a row is of. Numbers have no leading zeros, a program may be spelled in any way, and how a run ended is compared byte for byte.
use Rattle.std.specs.Prelude.{◌≡◌, ℕ, ◌≤◌, List, [], ◌∷◌, codes, decimal, Ok}
use Rattle.csv.specs.declared.reader.Reader.{Reader}
use Rattle.csv.specs.declared.reader.Trim.TheVariants as trim
use Rattle.csv.specs.Reading.{default_config, reader_config, reader_trim, records, strip_bom, Ready}
use Rattle.txn_names.specs.Tables.{Named}
use Rattle.txn_syntax.specs.Reads.{read_of}
use Rattle.journal_core.specs.declared.entry.Entry.{Entry}
use Rattle.journal_core.specs.declared.entry.Entry.TheVariants.{Began, Sealed, Committed, Withdrawn}
use Rattle.journal_core.specs.Reply.{outcome_words}
use Rattle.journal_table.specs.Rows.{Row}

-- the rows that bytes are read as by `csv`, with a byte order mark at their beginning taken off
abbrev pub rows_in : List ℕ → List Row
rows_in bytes = records default_config (strip_bom bytes)

-- the next read of this reader is of one row, as `rows_in` has it
pub record IsReading {R : Type 0} (reader : Reader R) : Type 0 where
  pub ready : Ready reader
  pub trim : reader_trim reader ≡ trim.None
  pub config : reader_config reader ≡ default_config

-- the row is one of this entry
abbrev pub Spells : List Named → Entry → Row → Type 0
Spells names (Began txn deadline program) row =
    (spelling : List ℕ) × (row ≡ codes "began" ∷ decimal txn ∷ decimal deadline ∷ spelling ∷ []) × (deadline ≤ 1000000000000) × (read_of names spelling ≡ Ok program)
Spells names Sealed row = row ≡ codes "sealed" ∷ [] ∷ [] ∷ [] ∷ []
Spells names (Committed txn outcome) row = row ≡ codes "committed" ∷ decimal txn ∷ [] ∷ outcome_words outcome ∷ []
Spells names (Withdrawn txn) row = row ≡ codes "withdrawn" ∷ decimal txn ∷ [] ∷ [] ∷ []

-- the rows are those of these entries, one for each
abbrev pub AreSpelled : List Named → List Entry → List Row → Type 0
AreSpelled names [] rows = rows ≡ []
AreSpelled names (entry ∷ entries) [] = ⊥
AreSpelled names (entry ∷ entries) (row ∷ rows) = Spells names entry row × AreSpelled names entries rows
