-- What a reader notes who sees the lines of a script and the reply to each. He knows the commands, how programs are spelled, what a
-- serial run is, and what a legal journal is and how its table is written.
use Rattle.std.specs.Prelude.{◌≡◌, ◌⊎◌, ◌≤◌, ℕ, ◌+◌, Bool, true, nat_lt, if◌then◌else◌, List, [], ◌∷◌, ◌++◌, length, map, Result, Ok, Err, codes, decimal}
use Rattle.std.specs.List.{AllByRecursion}
use Rattle.scc_text.specs.declared.command.Dialect.TheVariants as dialects
use Rattle.scc_text.specs.declared.command.Command.{Command}
use Rattle.scc_text.specs.declared.command.Command.TheVariants.{Blank, Table, Put, Begin, Step, Run, Commit, Withdraw, Show, Dump, Seal, Drain, Journal}
use Rattle.scc_text.specs.Command.{command_of, program_bytes}
use Rattle.txn_runs.specs.declared.program.Program.{Program}
use Rattle.txn_runs.specs.declared.outcome.Outcome.{Outcome}
use Rattle.txn_syntax.specs.declared.refusal.ReadRefusal.{ReadRefusal}
use Rattle.txn_syntax.specs.Reads.{read_of}
use Rattle.journal_core.specs.Numbered.{is_named}
use Rattle.journal_core.specs.Journal.{IsLegal}
use Rattle.journal_core.specs.Begins.{begins, commit_replies}
use Rattle.journal_core.specs.declared.entry.Entry.{Entry}
use Rattle.journal_table.specs.Rows.{journal_text}
use Rattle.scc_setup.specs.Opening.{Opening, no_tables, opening_after}
use Rattle.scc_replies.specs.Lines.{number_line, refuse_line}
use Rattle.scc_setup.specs.Settings.{setting_line}
use Rattle.scc_replies.specs.Unread.{unread_line}
use Rattle.scc_script.specs.Ended.{Ended, ended_text, all_ended_text}
use Rattle.serial_text.specs.Forms.{IsForm}

-- The tables' names and the values that were put, the programs that began, by their numbers, and the printed commits in order, each
-- with its outcome.
pub record Notes : Type 0 where
  pub opening : Opening
  pub begun : List (ℕ × Program)
  pub commits : List (ℕ × Outcome)

-- before the first line
abbrev pub no_notes : Notes
no_notes = record { opening = no_tables; begun = []; commits = [] }

-- one more program
abbrev pub with_begun : Notes → ℕ → Program → Notes
with_begun n txn program = record n { begun = n.begun ++ (txn, program) ∷ [] }

-- more commits
abbrev pub with_commits : Notes → List (ℕ × Outcome) → Notes
with_commits n commits = record n { commits = n.commits ++ commits }

-- what is noted of a printed commit
abbrev pub commit_of : Ended → ℕ × Outcome
commit_of e = (e.txn, e.outcome)

-- the line is refused, and nothing is noted
pub record IsRefused (before : Notes) (reply : List ℕ) (after : Notes) : Type 0 where
  pub code : ℕ
  pub told : reply ≡ refuse_line code
  pub noted : after ≡ before

-- a `table` or `put` line was accepted: its table or value is noted
pub record IsSet (before : Notes) (line : List ℕ) (command : Command) (reply : List ℕ) (after : Notes) : Type 0 where
  pub opening : Opening
  pub told : reply ≡ setting_line line command
  pub set : opening_after before.opening line command ≡ Ok opening
  pub noted : after ≡ record before { opening = opening }

-- the bytes of a `begin` line are no program, and nothing is noted
pub record IsUnread (before : Notes) (program : List ℕ) (reply : List ℕ) (after : Notes) : Type 0 where
  pub refusal : ReadRefusal
  pub read : read_of before.opening.names program ≡ Err refusal
  pub told : reply ≡ unread_line refusal
  pub noted : after ≡ before

-- the bytes of a `begin` line are a program, but it is refused, and nothing is noted
pub record IsDeclined (before : Notes) (program : List ℕ) (reply : List ℕ) (after : Notes) : Type 0 where
  pub code : ℕ
  pub body : Program
  pub read : read_of before.opening.names program ≡ Ok body
  pub told : reply ≡ refuse_line code
  pub noted : after ≡ before

-- the reply to a `begin` line that was accepted: the number, and whether the transaction started or waits
abbrev pub accepted_line : ℕ → Bool → List ℕ
accepted_line txn started = codes "begin " ++ decimal txn ++ (if started then codes " started\n" else codes " waiting\n")

-- A `begin` line with this program was accepted: the program is noted under the number that is told. Numbers count up from 1, to
-- 20,000 at most.
pub record IsBegun (before : Notes) (program : List ℕ) (reply : List ℕ) (after : Notes) : Type 0 where
  pub txn : ℕ
  pub started : Bool
  pub body : Program
  pub next : txn ≡ length before.begun + 1
  pub few : txn ≤ 20000
  pub told : reply ≡ accepted_line txn started
  pub read : read_of before.opening.names program ≡ Ok body
  pub noted : after ≡ with_begun before txn body

-- a `commit` line for this transaction, which began before, was accepted
pub record HasCommitted (before : Notes) (txn : ℕ) (reply : List ℕ) (after : Notes) : Type 0 where
  pub ended : Ended
  pub named : ended.txn ≡ txn
  pub began : is_named before.begun txn ≡ true
  pub told : reply ≡ ended_text ended
  pub noted : after ≡ with_commits before (commit_of ended ∷ [])

-- a `drain` line: its commits, each of a transaction that began before, one of the first 20,000, and their number
pub record HasDrained (before : Notes) (reply : List ℕ) (after : Notes) : Type 0 where
  pub ended : List Ended
  pub began : AllByRecursion (λ c. is_named before.begun c.0 ≡ true) (map commit_of ended)
  pub few : AllByRecursion (λ c. c.0 ≤ 20000) (map commit_of ended)
  pub told : reply ≡ all_ended_text ended ++ number_line (codes "drain ") (length ended)
  pub noted : after ≡ with_commits before (map commit_of ended)

-- A `journal` line: the table of a legal journal over the values that were put, in which the noted programs began and which has the
-- noted commits.
pub record TellsJournal (before : Notes) (reply : List ℕ) (after : Notes) : Type 0 where
  pub entries : List Entry
  pub told : reply ≡ journal_text before.opening.names entries
  pub legal : IsLegal before.opening.tables entries
  pub programs : begins entries ≡ before.begun
  pub replies : commit_replies entries ≡ before.commits
  pub noted : after ≡ before

-- nothing is noted
pub record IsPassed (before : Notes) (line : List ℕ) (command : Command) (reply : List ℕ) (after : Notes) : Type 0 where
  pub form : IsForm before.opening.names line command reply
  pub noted : after ≡ before

-- what is noted of the reply to a command of this line
abbrev pub IsNotedOf : Notes → List ℕ → Command → List ℕ → Notes → Type 0
IsNotedOf before line Blank reply after = IsPassed before line Blank reply after
IsNotedOf before line (Table name size) reply after = IsRefused before reply after ⊎ IsSet before line (Table name size) reply after
IsNotedOf before line (Put name index value) reply after = IsRefused before reply after ⊎ IsSet before line (Put name index value) reply after
IsNotedOf before line (Begin deadline at) reply after =
    IsUnread before (program_bytes line at) reply after ⊎ (IsDeclined before (program_bytes line at) reply after ⊎ IsBegun before (program_bytes line at) reply after)
IsNotedOf before line (Step txn guard) reply after = IsRefused before reply after ⊎ IsPassed before line (Step txn guard) reply after
IsNotedOf before line Run reply after = IsPassed before line Run reply after
IsNotedOf before line (Commit txn) reply after = IsRefused before reply after ⊎ HasCommitted before txn reply after
IsNotedOf before line (Withdraw txn) reply after = IsRefused before reply after ⊎ IsPassed before line (Withdraw txn) reply after
IsNotedOf before line (Show txn) reply after = IsRefused before reply after ⊎ IsPassed before line (Show txn) reply after
IsNotedOf before line (Dump name) reply after = IsPassed before line (Dump name) reply after
IsNotedOf before line Seal reply after = IsPassed before line Seal reply after
IsNotedOf before line Drain reply after = HasDrained before reply after
IsNotedOf before line Journal reply after = TellsJournal before reply after
IsNotedOf before line other reply after = IsRefused before reply after

-- the same for a line that spells this command, or is refused
abbrev pub IsNotedBy : Notes → List ℕ → Result Command ℕ → List ℕ → Notes → Type 0
IsNotedBy before line (Ok command) reply after = IsNotedOf before line command reply after
IsNotedBy before line (Err code) reply after = (reply ≡ refuse_line code) × (after ≡ before)

-- the command of a line of a script, or its refusal
abbrev pub command_in : List ℕ → Result Command ℕ
command_in line = if nat_lt 8192 (length line) then Err 11 else command_of dialects.Script line

-- what is noted of a line and its reply
unfoldable pub IsNoted : Notes → List ℕ → List ℕ → Notes → Type 0
IsNoted before line reply after = IsNotedBy before line (command_in line) reply after

-- what is noted of lines, each with its reply
abbrev pub AreNoted : Notes → List (List ℕ × List ℕ) → Notes → Type 0
AreNoted before [] after = after ≡ before
AreNoted before (answer ∷ more) after = (next : Notes) × IsNoted before answer.0 answer.1 next × AreNoted next more after
