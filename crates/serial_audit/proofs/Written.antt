-- What is written is read back.
use Rattle.std.proofs.Common.{◌≡◌, ℕ, List, [], ◌∷◌, length, map, flat_map, Some, refl, ap, ◌∙◌}
use Rattle.std.specs.List.{AllByRecursion}
use Rattle.csv.specs.Machine.{next_record}
use Rattle.csv.specs.Reading.{Reached, default_config, records, strip_bom}
use Rattle.csv.specs.Writing.{default_writer, row_text, fields_text, is_blank, read_back}
use Rattle.csv.specs.declared.parser.State.TheVariants as st
use Rattle.csv.proofs.RoundTrip.{read-write}
use Rattle.txn_runs.specs.Run.{Tables}
use Rattle.txn_names.specs.Tables.{Named, IsNames}
use Rattle.txn_spelling.specs.Canonical.{canonical}
use Rattle.txn_spelling.proofs.ReadBack.{read_back as read-canonical}
use Rattle.journal_core.specs.declared.entry.Entry.{Entry}
use Rattle.journal_core.specs.declared.entry.Entry.TheVariants.{Began, Sealed, Committed, Withdrawn}
use Rattle.journal_core.specs.Journal.{commits, IsLegal}
use Rattle.journal_table.specs.Rows.{heading, row_of, rows_of, journal_text}
use Rattle.journal_table.specs.Spelled.{rows_in, Spells, AreSpelled}
use Rattle.journal_table.proofs.RowsRead.{rows-all}
use Rattle.serial_audit.specs.Tables.{IsTable}
use Rattle.serial_audit.specs.Written.{IsWritten}

-- no row of a journal is without fields
row-back : (names : List Named) (e : Entry) → read_back (row_of names e) ≡ row_of names e
row-back names (Began txn deadline program) = refl
row-back names Sealed = refl
row-back names (Committed txn outcome) = refl
row-back names (Withdrawn txn) = refl

rows-reached : (names : List Named) (entries : List Entry) → Reached default_config st.StartRecord (flat_map (row_text default_writer) (map (row_of names) entries)) (map (row_of names) entries) st.StartRecord []
unfolding Reached
rows-reached names [] = (refl, refl)
rows-reached names (e ∷ entries) =
    let rest : List ℕ = flat_map (row_text default_writer) (map (row_of names) entries) in
    ((row_of names e, st.StartRecord, rest), read-write (row_of names e) rest ∙ ap (λ r. Some (r, st.StartRecord, rest)) (row-back names e), refl, rows-reached names entries)

all-reached : (names : List Named) (entries : List Entry) → Reached default_config st.StartRecord (journal_text names entries) (rows_of names entries) st.StartRecord []
unfolding Reached
all-reached names entries =
    let rest : List ℕ = flat_map (row_text default_writer) (map (row_of names) entries) in
    ((heading, st.StartRecord, rest), read-write heading rest, refl, rows-reached names entries)

-- the heading is no byte order mark
plain-start : (names : List Named) (entries : List Entry) → strip_bom (journal_text names entries) ≡ journal_text names entries
unfolding strip_bom fields_text is_blank
plain-start names entries = refl

pub rows-back : (names : List Named) (entries : List Entry) → rows_in (journal_text names entries) ≡ rows_of names entries
unfolding next_record
rows-back names entries = ap (records default_config) (plain-start names entries) ∙ rows-all (rows_of names entries) st.StartRecord (journal_text names entries) [] (all-reached names entries) refl

spells : (names : List Named) (e : Entry) → IsNames names → IsWritten names e → Spells names e (row_of names e)
spells names (Began txn deadline program) is w = (canonical names program, refl, w.2, read-canonical names program is w.0 w.1)
spells names Sealed is w = refl
spells names (Committed txn outcome) is w = refl
spells names (Withdrawn txn) is w = refl

all-spelled : (names : List Named) (entries : List Entry) → IsNames names → AllByRecursion (IsWritten names) entries → AreSpelled names entries (map (row_of names) entries)
all-spelled names [] is w = refl
all-spelled names (e ∷ entries) is w = (spells names e is w.0, all-spelled names entries is w.1)

-- the text of a legal journal is that of a table with the same commits
pub written-table : (names : List Named) (opening : Tables) (entries : List Entry) → IsNames names → IsLegal opening entries → AllByRecursion (IsWritten names) entries
    → (t : IsTable names opening (rows_in (journal_text names entries))) × (length (commits entries) ≡ length (commits t.entries))
written-table names opening entries is legal w = (
  record {
    entries = entries;
    entry_rows = map (row_of names) entries;
    all = rows-back names entries;
    spelled = all-spelled names entries is w;
    legal = legal;
  },
  refl,
)
