use Rattle.std.proofs.Common.{Bor, ◌≡◌, ◌∙◌, ◌+◌, ◌++◌, ◌∷◌, [], ℕ, List, Some, length, sym, refl, ap, subst, arith, length-append}
use Rattle.csv.specs.Reading.{Reached, default_config, strip_bom}
use Rattle.csv.specs.Records.{fields_of}
use Rattle.csv.specs.declared.parser.State.TheVariants as st
use Rattle.csv.proofs.ReadFacts.{rows-end, rows-more}
use Rattle.journal_core.specs.Journal.{commits, IsLegal}
use Rattle.journal_core.proofs.Legal.{legal-push}
use Rattle.journal_table.specs.Rows.{heading}
use Rattle.journal_table.specs.Spelled.{rows_in}
use Rattle.journal_table.proofs.RowsRead.{rows-begin, rows-all}
use Rattle.report_check.specs.Judging.{IsFirstWrong}
use Rattle.serial_audit.specs.Tables.{IsTable}
use Rattle.serial_audit.proofs.Tabled.{first-none, first-other, first-bad, spelled-more}
use Rattle.serial_audit.proofs.journal.audit_journal.Goals as goal

pub returns-then-not-branch-clause-verdict : goal.returns-then-not-branch-clause-verdict
unfolding Reached
returns-then-not-branch-clause-verdict g c =
    let xs = strip_bom c.args.bytes.now in
    let a = c.open_rows-reader.result in
    let reading = c.open_rows-reader.ensures.reading in
    let read = rw c.if-not-branch.true at c.in_ok-next_row.ensures.reads in
    let over = rows-end (λ (s : Bor (List ℕ)). Some s.now) a c.next_row.new.reader (fields_of c.next_row.new.row) default_config xs reading.config c.open_rows-reader.ensures.source read in
    (0, refl, first-none c.args.names.now c.args.table (rows_in c.args.bytes.now) (rows-all [] a.state xs xs (sym c.open_rows-reader.ensures.start, refl) over))

pub returns-then-not-is_heading-clause-verdict : goal.returns-then-not-is_heading-clause-verdict
unfolding Reached
returns-then-not-is_heading-clause-verdict g c =
    let xs = strip_bom c.args.bytes.now in
    let a = c.open_rows-reader.result in
    let b = c.next_row.new.reader in
    let reading = c.open_rows-reader.ensures.reading in
    let one = fields_of c.next_row.new.row in
    let read = rw c.if-not-branch.false at c.in_ok-next_row.ensures.reads in
    let (y, source, first) = rows-more (λ (s : Bor (List ℕ)). Some s.now) a b one default_config st.StartRecord xs xs [] reading.config c.open_rows-reader.ensures.source (sym c.open_rows-reader.ensures.start, refl) read in
    let (more, all) = rows-begin (one ∷ []) b.state xs y first in
    (0, refl, first-other c.args.names.now c.args.table (rows_in c.args.bytes.now) more one all (λ same. let yes = c.is_heading.ensures.1 same in let not = c.if-not-is_heading.true in cc))

pub rows-init : goal.rows-init
unfolding Reached
rows-init g c =
    let xs = strip_bom c.args.bytes.now in
    let a = c.open_rows-reader.result in
    let b = c.next_row.new.reader in
    let reading = c.open_rows-reader.ensures.reading in
    let one = fields_of c.next_row.new.row in
    let read = rw c.if-not-branch.false at c.in_ok-next_row.ensures.reads in
    let (y, source, first) = rows-more (λ (s : Bor (List ℕ)). Some s.now) a b one default_config st.StartRecord xs xs [] reading.config c.open_rows-reader.ensures.source (sym c.open_rows-reader.ensures.start, refl) read in
    let heads : one ≡ heading = c.is_heading.ensures.0 c.if-not-is_heading.false in
    rw c.in_ok-replay.ensures record {
      reading = c.in_ok-next_row.ensures.reading;
      opening = refl;
      legal = tt;
      so_far = ([], y, refl, refl, source, subst (λ h. Reached default_config st.StartRecord xs (h ∷ []) b.state y) heads first);
      later = omega arith;
    }

pub returns-then-not-branch-2-clause-verdict : goal.returns-then-not-branch-2-clause-verdict
returns-then-not-branch-2-clause-verdict g c =
    let xs = strip_bom c.args.bytes.now in
    let (rows, left, spelled, number, source, reached) = c.rows.invariant.so_far in
    let over = rows-end (λ (s : Bor (List ℕ)). Some s.now) c.rows.reader c.next_row-in-rows.new.reader (fields_of c.next_row-in-rows.new.row) default_config left c.rows.invariant.reading.config source (rw c.if-not-branch-2.true at c.in_ok-next_row-2.ensures.reads) in (
      record {
        entries = c.rows.replay.entries;
        entry_rows = rows;
        all = rows-all (heading ∷ rows) c.rows.reader.state xs left reached over;
        spelled = spelled;
        legal = subst (λ o. IsLegal o c.rows.replay.entries) c.rows.invariant.opening c.rows.invariant.legal;
      },
      c.commits.ensures ∙ ap (λ es. length (commits es)) c.journal.ensures.entries,
    )

pub returns-then-not-branch-3-clause-verdict : goal.returns-then-not-branch-3-clause-verdict
returns-then-not-branch-3-clause-verdict g c =
    let xs = strip_bom c.args.bytes.now in
    let (rows, left, spelled, number, source, reached) = c.rows.invariant.so_far in
    let bad = fields_of c.next_row-in-rows.new.row in
    let (z, further, all) = rows-more (λ (s : Bor (List ℕ)). Some s.now) c.rows.reader c.next_row-in-rows.new.reader bad default_config st.StartRecord xs left (heading ∷ rows) c.rows.invariant.reading.config source reached (rw c.if-not-branch-2.false at c.in_ok-next_row-2.ensures.reads) in
    let (more, whole) = rows-begin (heading ∷ rows ++ bad ∷ []) c.next_row-in-rows.new.reader.state xs z all in
    let none = rw c.if-not-branch-3.true at c.in_ok-take.ensures.takes in
    let within = c.rows-test.true in (
      length rows + 1,
      omega (arith, number),
      subst (λ o. IsFirstWrong (IsTable c.args.names.now o) (rows_in c.args.bytes.now) (length rows + 1)) c.rows.invariant.opening
          (first-bad c.args.names.now c.rows.replay.opening (rows_in c.args.bytes.now) c.rows.replay.entries rows more bad whole spelled c.rows.invariant.legal (omega (arith, number, within)) none.0),
    )

pub rows-preserved : goal.rows-preserved
rows-preserved g c =
    let xs = strip_bom c.args.bytes.now in
    let (rows, left, spelled, number, source, reached) = c.rows.invariant.so_far in
    let row = fields_of c.next_row-in-rows.new.row in
    let (z, further, all) = rows-more (λ (s : Bor (List ℕ)). Some s.now) c.rows.reader c.next_row-in-rows.new.reader row default_config st.StartRecord xs left (heading ∷ rows) c.rows.invariant.reading.config source reached (rw c.if-not-branch-2.false at c.in_ok-next_row-2.ensures.reads) in
    let adds = rw c.if-not-branch-3.false at c.in_ok-take.ensures.takes in
    let longer = length-append rows (row ∷ []) in
    let ticked = c.take.ensures.later in
    let before = c.rows.invariant.later in
    record {
      reading = c.in_ok-next_row-2.ensures.reading;
      opening = adds.opening ∙ c.rows.invariant.opening;
      legal = rw (adds.opening, adds.entries) (legal-push c.rows.replay.opening c.rows.replay.entries adds.entry c.rows.invariant.legal adds.continues);
      so_far = (rows ++ row ∷ [], z, rw adds.entries (spelled-more c.args.names.now c.rows.replay.entries rows adds.entry row spelled adds.spells), omega (arith, number, longer), further, all);
      later = omega (arith, ticked, before);
    }
