-- How the reading of a head ended, and what was read by then.
use Rattle.std.specs.Prelude.{◌≡◌, ℕ, List, [], ◌++◌, length, Bool, true, false, Option, Some, None, Result, Ok, Err}
use Rattle.std.specs.Io.KnownBytes.{Consumes, IsAtEnd}
use Rattle.scc_text.specs.Lines.{lines_of}
use Rattle.scc_text.specs.Reader.{Reader}
use Rattle.scc_text.specs.LinesRead.{LinesRead}
use Rattle.batch_input.specs.declared.taking.LineRefusal.{LineRefusal}
use Rattle.batch_input.specs.declared.taking.LineRefusal.TheVariants.{Code, OutOfMemory}
use Rattle.batch_input.specs.Input.{Batch}
use Rattle.batch_input.specs.Unread.{IsReadThrough}
use Rattle.audit_head.specs.declared.form.Form.{Form}
use Rattle.audit_head.specs.declared.form.HeadEnd.{HeadEnd}
use Rattle.audit_head.specs.declared.form.HeadEnd.TheVariants as ends
use Rattle.audit_head.specs.Head.{form_named, after_line, head_of, input_head}
use Rattle.audit_head.specs.Behind.{past_lines}

-- a line that says what follows changes nothing; any other one is taken in, or refused by its number
abbrev pub Takes : Result (Option Form) LineRefusal → Batch → List ℕ → Batch → Type 0
Takes (Ok (Some form)) old line new = (form_named line ≡ Some form) × (new ≡ old)
Takes (Ok None) old line new = (form_named line ≡ None) × (after_line old line ≡ Ok new)
Takes (Err (Code code)) old line new = (form_named line ≡ None) × (after_line old line ≡ Err code)
Takes (Err OutOfMemory) old line new = Unit {0}

-- of the bytes read these lines are the first and these bytes are behind them, whatever more may come, if more can
abbrev pub IsTail : Bool → List ℕ → List (List ℕ) → List ℕ → Type 0
IsTail goes_on read done pending =
    (more : List ℕ) → (goes_on ≡ false → more ≡ []) → (lines_of (read ++ more) ≡ done ++ lines_of (pending ++ more)) × (past_lines (length done) (read ++ more) ≡ pending ++ more)

-- The lines that were answered are a head, whatever follows, and these bytes are behind it. The reader may go on; where the newline of
-- the last line isn't among the bytes read, they are all.
pub record IsHeadRead (made : Batch × Form × Bool) (reader : Reader) (left_old left : Option (List ℕ)) (read : List ℕ) : Type 0 where
  pub done : List (List ℕ)
  pub pending : List ℕ
  pub lines : LinesRead reader left_old left read done pending
  pub ready : reader.skipping ≡ false
  pub tail : IsTail made.2 read done pending
  pub all : made.2 ≡ false → IsAtEnd left × (pending ≡ [])
  pub head : (more : List (List ℕ)) → head_of (done ++ more) ≡ Ok (record { batch = made.0; form = made.1; lines = length done })

-- what these bytes make, with this end
abbrev pub HeadTold : Result (Batch × Form × Bool) HeadEnd → Reader → Option (List ℕ) → Option (List ℕ) → List ℕ → Type 0
HeadTold (Ok head) reader left_old left read = IsHeadRead head reader left_old left read
HeadTold (Err (ends.Bad line code)) reader left_old left read = (input_head read ≡ Err (record { line = line; code = code })) × IsReadThrough read line left
HeadTold (Err ends.ReadFault) reader left_old left read = Unit {0}
HeadTold (Err ends.InputLimit) reader left_old left read = Unit {0}
HeadTold (Err ends.OutOfMemory) reader left_old left read = Unit {0}

-- A reading from the beginning of an input that took these bytes, and ended so.
pub record HeadRead (result : Result (Batch × Form × Bool) HeadEnd) (reader : Reader) (left_old left_new : Option (List ℕ)) : Type 0 where
  pub read : List ℕ
  pub took : Consumes left_old left_new read
  pub count : reader.taken ≡ length read
  pub told : HeadTold result reader left_old left_new read

-- with the batch that was made
abbrev pub with_form : Batch → Result (Form × Bool) HeadEnd → Result (Batch × Form × Bool) HeadEnd
with_form batch (Ok form) = Ok (batch, form.0, form.1)
with_form batch (Err end) = Err end
