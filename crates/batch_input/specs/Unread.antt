-- How the reading of an input ended, and what was read by then.
use Rattle.std.specs.Prelude.{◌≡◌, ◌⊎◌, ◌↔◌, ℕ, ◌≤◌, List, length, Option, Result, Ok, Err}
use Rattle.std.specs.Io.KnownBytes.{Consumes, IsAtEnd}
use Rattle.scc_text.specs.Lines.{whole_lines, within_limit}
use Rattle.batch_input.specs.declared.read.Unread.{Unread}
use Rattle.batch_input.specs.declared.read.Unread.TheVariants as ends
use Rattle.batch_input.specs.Input.{Batch, input_of, batch_input}

-- The newline of the line with this number is among the bytes, or they end.
abbrev pub IsReadThrough : List ℕ → ℕ → Option (List ℕ) → Type 0
IsReadThrough read line left = (line ≤ length (whole_lines read)) ⊎ IsAtEnd left

-- No line whose newline is among the bytes that count is refused.
pub record NoneRefused (read : List ℕ) : Type 0 where
  pub batch : Batch
  pub made : input_of (whole_lines (within_limit read)) ≡ Ok batch

-- These bytes were read, with this end.
abbrev pub InputRead : Result Batch Unread → List ℕ → Option (List ℕ) → Type 0
InputRead (Ok batch) read left = IsAtEnd left × (batch_input read ≡ Ok batch)
InputRead (Err (ends.Bad line code)) read left = (batch_input read ≡ Err (record { line = line; code = code })) × IsReadThrough read line left
InputRead (Err ends.ReadFault) read left = NoneRefused read
InputRead (Err ends.InputLimit) read left = NoneRefused read
InputRead (Err ends.WriteFault) read left = Unit {0}
InputRead (Err ends.OutOfMemory) read left = Unit {0}

-- A reading of an input that took these bytes, and ended so.
pub record ReadInput (result : Result Batch Unread) (read : List ℕ) (left_old left_new : Option (List ℕ)) : Type 0 where
  pub took : Consumes left_old left_new read
  pub few : length read ≤ 67108865
  pub limit : (result ≡ Err ends.InputLimit) ↔ (length read ≡ 67108865)
  pub told : InputRead result read left_new
