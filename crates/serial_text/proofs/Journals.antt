-- The replies to `journal`. A journal's table can be told from what follows it: no reply but another journal begins with a word and a
-- comma, and that one begins with the heading.
use Rattle.std.proofs.Common.{◌≡◌, ℕ, true, false, List, [], ◌∷◌, ◌++◌, map, flat_map, Option, Some, refl, sym, ap, ◌∙◌, append_assoc, true≢false}
use Rattle.std.specs.Prelude.{codes}
use Rattle.csv.specs.Machine.{Read, next_record}
use Rattle.csv.specs.Reading.{default_config}
use Rattle.csv.specs.Writing.{default_writer, row_text, fields_text, is_blank, read_back}
use Rattle.csv.specs.declared.parser.State.{State}
use Rattle.csv.specs.declared.parser.State.TheVariants as st
use Rattle.csv.proofs.RoundTrip.{read-write}
use Rattle.txn_names.specs.Tables.{Named}
use Rattle.journal_core.specs.declared.entry.Entry.{Entry}
use Rattle.journal_core.specs.declared.entry.Entry.TheVariants.{Began, Sealed, Committed, Withdrawn}
use Rattle.journal_table.specs.Rows.{Row, row_of, journal_text}
use Rattle.report_text.proofs.Cuts.{IsWithout, head, tail, lacks, lacking}
use Rattle.serial_text.proofs.Behind.{letters, three, row_start, past_word}

-- the rows of these entries
abbrev pub entry_rows : List Named → List Entry → List ℕ
entry_rows names entries = flat_map (row_text default_writer) (map (row_of names) entries)

-- the line of the heading
unfoldable pub heading_line : List ℕ
heading_line = codes "entry,txn,deadline,detail"

pub heading-first : (names : List Named) (entries : List Entry) → journal_text names entries ≡ heading_line ++ 10 ∷ entry_rows names entries
unfolding heading_line fields_text is_blank
heading-first names entries = refl

pub heading-whole : IsWithout 10 heading_line
unfolding heading_line lacks
heading-whole = lacking 10 heading_line refl

pub heading-start : three heading_line ≡ false
unfolding heading_line three letters head tail
heading-start = refl

pub heading-apart : row_start heading_line ≡ false
unfolding heading_line row_start past_word head
heading-apart = refl

row-starts : (names : List Named) (e : Entry) (z : List ℕ) → row_start (row_text default_writer (row_of names e) ++ z) ≡ true
unfolding row_start past_word head fields_text is_blank
row-starts names (Began txn deadline program) z = refl
row-starts names Sealed z = refl
row-starts names (Committed txn outcome) z = refl
row-starts names (Withdrawn txn) z = refl

row-back : (names : List Named) (e : Entry) → read_back (row_of names e) ≡ row_of names e
row-back names (Began txn deadline program) = refl
row-back names Sealed = refl
row-back names (Committed txn outcome) = refl
row-back names (Withdrawn txn) = refl

-- the row at the front of a text
row-read : (names : List Named) (e : Entry) (rest : List ℕ) → next_record default_config st.StartRecord [] [] (row_text default_writer (row_of names e) ++ rest) ≡ Some (row_of names e, st.StartRecord, rest)
row-read names e rest = read-write (row_of names e) rest ∙ ap (λ (r : Row). Some (r, st.StartRecord, rest)) (row-back names e)

some-same : (r q : Row) (x y : List ℕ) (s : State) → ◌≡◌ {A = Option Read} (Some (r, s, x)) (Some (q, s, y)) → (r ≡ q) × (x ≡ y)
some-same r q x y s e =
    let both : ◌≡◌ {A = Read} (r, s, x) (q, s, y) = cc in
    (ap (λ (p : Read). p.0) both, ap (λ (p : Read). p.2) both)

-- two rows at the front of one text
rows-same : (names : List Named) (e d : Entry) (x y : List ℕ) → row_text default_writer (row_of names e) ++ x ≡ row_text default_writer (row_of names d) ++ y → (row_of names e ≡ row_of names d) × (x ≡ y)
rows-same names e d x y same =
    some-same (row_of names e) (row_of names d) x y st.StartRecord (sym (row-read names e x) ∙ ap (next_record default_config st.StartRecord [] []) same ∙ row-read names d y)

-- two journals at the front of one text, where no row follows
pub entries-same : (names : List Named) (es ds : List Entry) (x y : List ℕ) → row_start x ≡ false → row_start y ≡ false → entry_rows names es ++ x ≡ entry_rows names ds ++ y
    → (entry_rows names es ≡ entry_rows names ds) × (x ≡ y)
entries-same names [] [] x y hx hy e = (refl, e)
entries-same names [] (d ∷ ds) x y hx hy e =
    absurd (true≢false (sym (row-starts names d (entry_rows names ds ++ y)) ∙ ap row_start (sym (append_assoc (row_text default_writer (row_of names d)) (entry_rows names ds) y)) ∙ ap row_start (sym e) ∙ hx))
entries-same names (e ∷ es) [] x y hx hy same =
    absurd (true≢false (sym (row-starts names e (entry_rows names es ++ x)) ∙ ap row_start (sym (append_assoc (row_text default_writer (row_of names e)) (entry_rows names es) x)) ∙ ap row_start same ∙ hy))
entries-same names (e ∷ es) (d ∷ ds) x y hx hy same =
    let one : List ℕ = row_text default_writer (row_of names e) in
    let other : List ℕ = row_text default_writer (row_of names d) in
    let first = rows-same names e d (entry_rows names es ++ x) (entry_rows names ds ++ y) (sym (append_assoc one (entry_rows names es) x) ∙ same ∙ append_assoc other (entry_rows names ds) y) in
    let rest = entries-same names es ds x y hx hy first.1 in
    (ap (λ r. row_text default_writer r ++ entry_rows names es) first.0 ∙ ap (λ z. other ++ z) rest.0, rest.1)
