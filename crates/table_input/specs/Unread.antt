-- How the reading of an input ended, and what was read by then.
use Rattle.std.specs.Prelude.{◌≡◌, ◌↔◌, ℕ, ◌≤◌, List, length, Option, Result, Ok, Err}
use Rattle.std.specs.Io.KnownBytes.{Consumes, IsAtEnd}
use Rattle.scc_text.specs.Lines.{whole_lines, within_limit}
use Rattle.batch_input.specs.declared.read.Unread.{Unread}
use Rattle.batch_input.specs.declared.read.Unread.TheVariants as ends
use Rattle.scc_setup.specs.Opening.{Opening}
use Rattle.batch_input.specs.Unread.{IsReadThrough}
use Rattle.table_input.specs.Tables.{input_of, table_input}

-- No line whose newline is among the bytes that count is refused.
pub record NoneRefused (read : List ℕ) : Type 0 where
  pub opening : Opening
  pub made : input_of (whole_lines (within_limit read)) ≡ Ok opening

-- These bytes were read, with this end.
abbrev pub InputRead : Result Opening Unread → List ℕ → Option (List ℕ) → Type 0
InputRead (Ok opening) read left = IsAtEnd left × (table_input read ≡ Ok opening)
InputRead (Err (ends.Bad line code)) read left = (table_input read ≡ Err (record { line = line; code = code })) × IsReadThrough read line left
InputRead (Err ends.ReadFault) read left = NoneRefused read
InputRead (Err ends.InputLimit) read left = NoneRefused read
InputRead (Err ends.WriteFault) read left = Unit {0}
InputRead (Err ends.OutOfMemory) read left = Unit {0}

-- A reading of an input that took these bytes, and ended so.
pub record ReadInput (result : Result Opening Unread) (read : List ℕ) (left_old left_new : Option (List ℕ)) : Type 0 where
  pub took : Consumes left_old left_new read
  pub few : length read ≤ 67108865
  pub limit : (result ≡ Err ends.InputLimit) ↔ (length read ≡ 67108865)
  pub told : InputRead result read left_new
