-- What a writer of `csv` has written, row by row.
use Rattle.std.specs.Prelude.{◌≡◌, ℕ, false, List, Option, flat_map}
use Rattle.std.specs.Io.KnownBytes.{Appends}
use Rattle.csv.specs.Writing.{default_writer, row_text, text_written, writer_setup, fields_written, has_written}
use Rattle.csv.specs.declared.writer.Writer.{Writer}
use Rattle.journal_table.specs.Rows.{Row}

-- no row is under way, and rows are written as by default
pub record IsBetween {W : Type 0} (writer : Writer W) : Type 0 where
  pub setup : writer_setup writer ≡ default_writer
  pub fields : fields_written writer ≡ 0
  pub bytes : has_written writer ≡ false

-- these rows were written behind what was there
pub record PutsRows {W : Type 0} (contents : W → Option (List ℕ)) (old new : Writer W) (rows : List Row) : Type 0 where
  pub between : IsBetween new
  pub text : Appends (text_written contents old) (text_written contents new) (flat_map (row_text default_writer) rows)
