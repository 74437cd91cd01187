use Rattle.std.proofs.Common.{Bor, ◌≡◌, ◌∷◌, [], ℕ, List, Some, sym, refl}
use Rattle.csv.specs.Reading.{Reached, default_config, strip_bom, records}
use Rattle.csv.specs.Records.{fields_of}
use Rattle.csv.specs.declared.parser.State.TheVariants as st
use Rattle.csv.proofs.ReadFacts.{rows-end, rows-more}
use Rattle.journal_table.proofs.RowsRead.{rows-begin, rows-all, two-rows}
use Rattle.journal_table.proofs.rows.only_row.Goals as goal

pub returns-then-not-branch : goal.returns-then-not-branch
unfolding Reached
returns-then-not-branch c = λ row is.
    let xs = strip_bom c.args.bytes.now in
    let a = c.open_rows-reader.result in
    let reading = c.open_rows-reader.ensures.reading in
    let read = rw c.if-not-branch.true at c.in_ok-next_row.ensures.reads in
    let over = rows-end (λ (s : Bor (List ℕ)). Some s.now) a c.next_row.new.reader (fields_of c.next_row.new.row) default_config xs reading.config c.open_rows-reader.ensures.source read in
    let none : records default_config xs ≡ [] = rows-all [] a.state xs xs (sym c.open_rows-reader.ensures.start, refl) over in
    cc

pub returns-then-branch : goal.returns-then-branch
unfolding Reached
returns-then-branch c = λ row is.
    let xs = strip_bom c.args.bytes.now in
    let a = c.open_rows-reader.result in
    let b = c.next_row.new.reader in
    let reading = c.open_rows-reader.ensures.reading in
    let one = fields_of c.next_row.new.row in
    let two = fields_of c.next_row-2.new.row in
    let read = rw c.if-not-branch.false at c.in_ok-next_row.ensures.reads in
    let (y, source, first) = rows-more (λ (s : Bor (List ℕ)). Some s.now) a b one default_config st.StartRecord xs xs [] reading.config c.open_rows-reader.ensures.source (sym c.open_rows-reader.ensures.start, refl) read in
    let again = rw c.if-branch.true at c.in_ok-next_row-2.ensures.reads in
    let (z, left, both) = rows-more (λ (s : Bor (List ℕ)). Some s.now) b c.next_row-2.new.reader two default_config st.StartRecord xs y (one ∷ []) c.in_ok-next_row.ensures.reading.config source first again in
    let (more, all) = rows-begin (one ∷ two ∷ []) c.next_row-2.new.reader.state xs z both in
    two-rows (records default_config xs) more one two row all is

pub returns : goal.returns
unfolding Reached
returns c =
    let xs = strip_bom c.args.bytes.now in
    let a = c.open_rows-reader.result in
    let b = c.next_row.new.reader in
    let reading = c.open_rows-reader.ensures.reading in
    let one = fields_of c.next_row.new.row in
    let read = rw c.if-not-branch.false at c.in_ok-next_row.ensures.reads in
    let (y, source, first) = rows-more (λ (s : Bor (List ℕ)). Some s.now) a b one default_config st.StartRecord xs xs [] reading.config c.open_rows-reader.ensures.source (sym c.open_rows-reader.ensures.start, refl) read in
    let again = rw c.if-branch.false at c.in_ok-next_row-2.ensures.reads in
    let over = rows-end (λ (s : Bor (List ℕ)). Some s.now) b c.next_row-2.new.reader (fields_of c.next_row-2.new.row) default_config y c.in_ok-next_row.ensures.reading.config source again in
    rows-all (one ∷ []) b.state xs y first over
