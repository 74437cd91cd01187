-- What a script has printed at each end of it, where its sink tells it.
use Rattle.std.specs.Prelude.{◌⊎◌, ℕ, List, Option}
use Rattle.scc_ports.specs.Ports.{Gains, GainsPrefix}
use Rattle.scc_text.specs.Lines.{lines_of, whole_lines, within_limit}
use Rattle.scc_replies.specs.declared.status.Status.{Status}
use Rattle.scc_replies.specs.declared.status.Status.TheVariants as status
use Rattle.serial_text.specs.Serial.{IsSerialText, IsSerialSoFar, IsSameReading, IsSameSoFar}

-- the lines of an input whose newline is among the bytes that count
abbrev pub lines_so_far : List ℕ → List (List ℕ)
lines_so_far read = whole_lines (within_limit read)

-- the input was read to its end: the text of a serial run, which can be read so in one way alone
pub record HasPrinted (read : List ℕ) (written_old written_new : Option (List ℕ)) : Type 0 where
  pub printed : List ℕ
  pub wrote : Gains written_old written_new printed
  pub serially : IsSerialText (lines_of read) printed
  pub alone : (other : IsSerialText (lines_of read) printed) → IsSameReading (lines_of read) printed other serially

-- the source failed or had too many bytes: the replies to the whole lines, without last lines, which can be read so in one way alone
pub record HasPrintedSoFar (read : List ℕ) (written_old written_new : Option (List ℕ)) : Type 0 where
  pub printed : List ℕ
  pub wrote : Gains written_old written_new printed
  pub serially : IsSerialSoFar (lines_so_far read) printed
  pub alone : (other : IsSerialSoFar (lines_so_far read) printed) → IsSameSoFar (lines_so_far read) printed other serially

-- writing failed or memory ran out: a front of one of these
pub record HasPrintedFront (read : List ℕ) (written_old written_new : Option (List ℕ)) : Type 0 where
  pub text : List ℕ
  pub wrote : GainsPrefix written_old written_new text
  pub serially : IsSerialText (lines_of read) text ⊎ IsSerialSoFar (lines_so_far read) text

-- what was printed at this end for the bytes that were read
abbrev pub PrintedSerially : Status → List ℕ → Option (List ℕ) → Option (List ℕ) → Type 0
PrintedSerially status.Done read written_old written_new = HasPrinted read written_old written_new
PrintedSerially status.ReadFault read written_old written_new = HasPrintedSoFar read written_old written_new
PrintedSerially status.InputLimit read written_old written_new = HasPrintedSoFar read written_old written_new
PrintedSerially status.WriteFault read written_old written_new = HasPrintedFront read written_old written_new
PrintedSerially status.OutOfMemory read written_old written_new = HasPrintedFront read written_old written_new
PrintedSerially status.BadWords read written_old written_new = Unit {0}
PrintedSerially (status.BadInput line) read written_old written_new = Unit {0}
PrintedSerially (status.AuditNo line) read written_old written_new = Unit {0}
