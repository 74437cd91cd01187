-- A journal as a table: a heading, and a row of four fields for each entry. The text of a row is what the writer of `csv` makes of it.
use Rattle.std.specs.Prelude.{◌≡◌, ℕ, List, [], ◌∷◌, map, flat_map, codes, decimal}
use Rattle.csv.specs.Writing.{default_writer, row_body, row_text}
use Rattle.txn_names.specs.Tables.{Named}
use Rattle.txn_spelling.specs.Canonical.{canonical}
use Rattle.txn_spelling.specs.Strangers.{strangers}
use Rattle.journal_core.specs.declared.entry.Entry.{Entry}
use Rattle.journal_core.specs.declared.entry.Entry.TheVariants.{Began, Sealed, Committed, Withdrawn}
use Rattle.journal_core.specs.Reply.{outcome_words}

-- the fields of a row
abbrev pub Row : Type 0
Row = List (List ℕ)

-- the names of the four columns
abbrev pub heading : Row
heading = codes "entry" ∷ codes "txn" ∷ codes "deadline" ∷ codes "detail" ∷ []

-- what an entry's row says: which kind of entry it is, the transaction's number, its deadline, and its program in the canonical spelling or how its run ended
abbrev pub row_of : List Named → Entry → Row
row_of names (Began txn deadline program) = codes "began" ∷ decimal txn ∷ decimal deadline ∷ canonical names program ∷ []
row_of names Sealed = codes "sealed" ∷ [] ∷ [] ∷ [] ∷ []
row_of names (Committed txn outcome) = codes "committed" ∷ decimal txn ∷ [] ∷ outcome_words outcome ∷ []
row_of names (Withdrawn txn) = codes "withdrawn" ∷ decimal txn ∷ [] ∷ [] ∷ []

-- an entry's row without its newline
abbrev pub record_text : List Named → Entry → List ℕ
record_text names entry = row_body default_writer (row_of names entry)

-- the heading, and the row of each entry
abbrev pub rows_of : List Named → List Entry → List Row
rows_of names entries = heading ∷ map (row_of names) entries

-- the text of a journal
abbrev pub journal_text : List Named → List Entry → List ℕ
journal_text names entries = flat_map (row_text default_writer) (rows_of names entries)

-- the tables of the program that an entry begins with are those of the names
abbrev pub IsKnown : List Named → Entry → Type 0
IsKnown names (Began txn deadline program) = strangers names program ≡ 0
IsKnown names Sealed = Unit {0}
IsKnown names (Committed txn outcome) = Unit {0}
IsKnown names (Withdrawn txn) = Unit {0}
