use Rattle.std.proofs.Common.{Bor, ◌≡◌, ◌≤◌, ◌+◌, ℕ, List, Some, length, ◌∷◌}
use Rattle.csv.specs.Reading.{Reached, default_config, source_of, strip_bom, reader_state}
use Rattle.csv.specs.declared.parser.State.TheVariants as st
use Rattle.journal_core.specs.Journal.{IsLegal}
use Rattle.journal_table.specs.Rows.{heading}
use Rattle.journal_table.specs.Spelled.{IsReading, AreSpelled}
use Rattle.serial_audit.proofs.journal.audit_journal.Given as goal

abbrev pub invariant-rows : goal.invariant-rows
invariant-rows g l = record {
  reading : IsReading l.reader;
  opening : l.replay.opening ≡ l.fn.table;
  legal : IsLegal l.replay.opening l.replay.entries;
  so_far : (rows : List (List (List ℕ))) × (left : List ℕ) × AreSpelled l.names l.replay.entries rows × (l.line ≡ length rows + 2)
      × (source_of (λ (s : Bor (List ℕ)). Some s.now) l.reader ≡ Some left) × Reached default_config st.StartRecord (strip_bom l.bytes) (heading ∷ rows) (reader_state l.reader) left;
  later : l.initial.steps ≤ l.steps;
}
