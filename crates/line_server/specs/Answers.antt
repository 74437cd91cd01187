-- What a session answers to a line, and what the line adds to the journal: a function of the line, the names of the tables, the tables
-- that the journal opens with, and the journal as the line's turn finds it.
use Rattle.std.specs.Prelude.{ℕ, ◌+◌, nat_lt, Bool, true, false, if◌then◌else◌, List, [], ◌∷◌, length, slice_range, Option, Some, None, Result, Ok, Err, codes}
use Rattle.scc_text.specs.declared.command.Dialect.TheVariants as dialects
use Rattle.scc_text.specs.declared.command.Command.{Command}
use Rattle.scc_text.specs.declared.command.Command.TheVariants.{Blank, Begin, Ask, Dump, Withdraw, Quit}
use Rattle.scc_text.specs.Command.{command_of, program_bytes}
use Rattle.scc_replies.specs.Lines.{row_line, number_line, refuse_line}
use Rattle.scc_replies.specs.Unread.{unread_line}
use Rattle.scc_setup.specs.Opening.{text_at}
use Rattle.txn_runs.specs.Run.{Tables}
use Rattle.txn_runs.specs.declared.outcome.Outcome.{Outcome}
use Rattle.txn_runs.specs.declared.program.Program.{Program}
use Rattle.txn_runs.specs.declared.program.TableRef.{TableRef}
use Rattle.txn_names.specs.Tables.{Named, table_named}
use Rattle.txn_syntax.specs.declared.refusal.ReadRefusal.{ReadRefusal}
use Rattle.txn_syntax.specs.Reads.{read_of}
use Rattle.journal_core.specs.Journal.{began, is_sealed, is_live, is_withdrawn, committed_of, tables_after}
use Rattle.journal_core.specs.Reply.{commit_line}
use Rattle.journal_core.specs.declared.entry.Entry.{Entry}
use Rattle.journal_core.specs.declared.entry.Entry.TheVariants.{Began, Withdrawn}

-- the reply, and the entries that the journal grows by
pub record Answer : Type 0 where
  pub reply : List ℕ
  pub adds : List Entry

-- a reply to a line that adds nothing
abbrev pub told : List ℕ → Answer
told reply = record { reply = reply; adds = [] }

abbrev pub refused : ℕ → Answer
refused code = told (refuse_line code)

-- the command that a line spells; 11 is a line that is too long
unfoldable pub line_command : List ℕ → Result Command ℕ
line_command line = if nat_lt 8192 (length line) then Err 11 else command_of dialects.Session line

-- a line that nobody answers
abbrev pub is_blank : Result Command ℕ → Bool
is_blank (Ok Blank) = true
is_blank other = false

-- the line that ends a session
abbrev pub is_quit : Result Command ℕ → Bool
is_quit (Ok Quit) = true
is_quit other = false

-- a program begins, unless the journal is sealed or 20,000 began
abbrev pub begin_answer : List Entry → ℕ → Program → Answer
begin_answer journal deadline program =
    if is_sealed journal then refused 24
    else (if nat_lt (began journal) 20000 then record { reply = number_line (codes "begin ") (began journal + 1); adds = Began (began journal + 1) deadline program ∷ [] } else refused 23)

-- `begin DEADLINE PROGRAM`, where this was read
abbrev pub read_answer : List Entry → ℕ → Result Program ReadRefusal → Answer
read_answer journal deadline (Ok program) = begin_answer journal deadline program
read_answer journal deadline (Err refusal) = told (unread_line refusal)

-- what became of a transaction that was committed with this outcome, if it was
abbrev pub fate_line : List Entry → ℕ → Option Outcome → List ℕ
fate_line journal txn (Some outcome) = commit_line txn outcome
fate_line journal txn None =
    if is_withdrawn journal txn then number_line (codes "withdrawn ") txn
    else (if is_live journal txn then number_line (codes "pending ") txn else number_line (codes "unknown ") txn)

-- `result T`
abbrev pub ask_answer : List Entry → ℕ → Answer
ask_answer journal txn = told (fate_line journal txn (committed_of journal txn))

-- the values of the table with this name, if there is one
abbrev pub row_answer : Tables → List ℕ → Option TableRef → Answer
row_answer tables name None = refused 22
row_answer tables name (Some table) = told (row_line name (slice_range tables table.base (table.base + table.size)))

-- `table NAME`: the tables are those after the committed programs were run alone, one after another
abbrev pub table_answer : List Named → Tables → List Entry → List ℕ → Answer
table_answer names opening journal name = row_answer (tables_after opening journal) name (table_named names name)

-- `withdraw T`
abbrev pub withdraw_answer : List Entry → ℕ → Answer
withdraw_answer journal txn =
    if is_live journal txn then (if is_sealed journal then refused 24 else record { reply = number_line (codes "withdraw ") txn; adds = Withdrawn txn ∷ [] })
    else refused 25

-- a command of this line
abbrev pub command_answer : List Named → Tables → List Entry → List ℕ → Command → Answer
command_answer names opening journal line Blank = told []
command_answer names opening journal line (Begin deadline at) = read_answer journal deadline (read_of names (program_bytes line at))
command_answer names opening journal line (Ask txn) = ask_answer journal txn
command_answer names opening journal line (Dump name) = table_answer names opening journal (text_at line name)
command_answer names opening journal line (Withdraw txn) = withdraw_answer journal txn
command_answer names opening journal line Quit = told (codes "bye\n")
command_answer names opening journal line other = refused 12

-- a command of this line, or a line that spells none
abbrev pub answer_to : List Named → Tables → List Entry → List ℕ → Result Command ℕ → Answer
answer_to names opening journal line (Ok command) = command_answer names opening journal line command
answer_to names opening journal line (Err code) = refused code

-- a line
abbrev pub answer : List Named → Tables → List Entry → List ℕ → Answer
answer names opening journal line = answer_to names opening journal line (line_command line)
