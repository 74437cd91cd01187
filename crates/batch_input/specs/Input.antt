-- What the lines of a batch make: tables, and programs with their deadlines; or the first line that is refused.
use Rattle.std.specs.Prelude.{ℕ, ◌+◌, Bool, true, false, nat_lt, if◌then◌else◌, List, [], ◌∷◌, ◌++◌, length, map, Result, Ok, Err}
use Rattle.scc_text.specs.declared.command.Dialect.TheVariants as dialects
use Rattle.scc_text.specs.declared.command.Command.{Command}
use Rattle.scc_text.specs.declared.command.Command.TheVariants.{Blank, Table, Put, Begin}
use Rattle.scc_text.specs.Command.{command_of, program_bytes}
use Rattle.scc_text.specs.Lines.{lines_of}
use Rattle.txn_runs.specs.declared.program.Program.{Program}
use Rattle.txn_syntax.specs.declared.refusal.ReadRefusal.{ReadRefusal}
use Rattle.txn_syntax.specs.declared.refusal.ReadRefusal.TheVariants.{Syntax, UnknownTable, Limit, OutOfMemory}
use Rattle.txn_syntax.specs.Reads.{read_of}
use Rattle.scc_setup.specs.Opening.{Opening, no_tables, opening_after}
use Rattle.batch_input.specs.declared.request.Request.{Request}

-- the tables with their values, and the programs in the order of their lines
pub record Batch : Type 0 where
  pub opening : Opening
  pub requests : List Request

-- before the first line
abbrev pub no_batch : Batch
no_batch = record { opening = no_tables; requests = [] }

-- the programs, in the order of their lines
abbrev pub programs_of : List Request → List Program
programs_of requests = map (λ (request : Request). request.program) requests

-- no program is there yet
abbrev pub is_empty : List Request → Bool
is_empty [] = true
is_empty (request ∷ requests) = false

-- a `table` or `put` line that leads to these tables, or is refused so
abbrev pub set_by : Batch → Result Opening ℕ → Result Batch ℕ
set_by b (Ok opening) = Ok (record b { opening = opening })
set_by b (Err code) = Err code

-- `table` and `put` lines, of which none may come behind a program: refusal 21
abbrev pub after_setting : Batch → List ℕ → Command → Result Batch ℕ
after_setting b line command = if is_empty b.requests then set_by b (opening_after b.opening line command) else Err 21

-- the number by which bytes that are no program are refused; want of memory is no reason, and never comes here
abbrev pub unread_code : ReadRefusal → ℕ
unread_code (Syntax at) = 14
unread_code (UnknownTable at) = 16
unread_code (Limit which) = 15
unread_code OutOfMemory = 0

-- `begin DEADLINE PROGRAM`, where this was read; the 20,001st program is refused 23
abbrev pub after_begin : Batch → ℕ → Result Program ReadRefusal → Result Batch ℕ
after_begin b deadline (Ok program) =
    if nat_lt (length b.requests) 20000 then Ok (record b { requests = b.requests ++ record { deadline = deadline; program = program } ∷ [] }) else Err 23
after_begin b deadline (Err refusal) = Err (unread_code refusal)

-- a line that spells this command, or is refused by this number
abbrev pub after_command : Batch → List ℕ → Result Command ℕ → Result Batch ℕ
after_command b line (Ok Blank) = Ok b
after_command b line (Ok (Table name size)) = after_setting b line (Table name size)
after_command b line (Ok (Put name index value)) = after_setting b line (Put name index value)
after_command b line (Ok (Begin deadline at)) = after_begin b deadline (read_of b.opening.names (program_bytes line at))
after_command b line (Ok other) = Err 12
after_command b line (Err code) = Err code

-- what a line makes of the batch before it, or the number of its refusal; 11 is a line that is too long
unfoldable pub after_line : Batch → List ℕ → Result Batch ℕ
after_line b line = if nat_lt 8192 (length line) then Err 11 else after_command b line (command_of dialects.Batch line)

-- a line by its number that is refused so
pub record Bad : Type 0 where
  pub line : ℕ
  pub code : ℕ

-- what comes behind a line, unless it is refused
abbrev pub go_on : ℕ → Result Batch ℕ → (Batch → Result Batch Bad) → Result Batch Bad
go_on number (Ok b) more = more b
go_on number (Err code) more = Err (record { line = number; code = code })

-- what lines make of a batch, of which the first has this number, or the first of them that is refused
abbrev pub lines_from : Batch → ℕ → List (List ℕ) → Result Batch Bad
lines_from b number [] = Ok b
lines_from b number (line ∷ lines) = go_on number (after_line b line) (λ next. lines_from next (number + 1) lines)

-- what the lines of an input make, or the first that is refused
abbrev pub input_of : List (List ℕ) → Result Batch Bad
input_of lines = lines_from no_batch 1 lines

abbrev pub batch_input : List ℕ → Result Batch Bad
batch_input bytes = input_of (lines_of bytes)
