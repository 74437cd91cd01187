-- The programs of a journal, each with its number, and its commits, each with its outcome.
use Rattle.std.specs.Prelude.{ℕ, List, Option, Some, None, filter_map}
use Rattle.txn_runs.specs.declared.program.Program.{Program}
use Rattle.txn_runs.specs.declared.outcome.Outcome.{Outcome}
use Rattle.journal_core.specs.declared.entry.Entry.{Entry}
use Rattle.journal_core.specs.declared.entry.Entry.TheVariants.{Began, Sealed, Committed, Withdrawn}

-- the program that an entry begins, with its number
abbrev pub begin_in : Entry → Option (ℕ × Program)
begin_in (Began txn deadline program) = Some (txn, program)
begin_in Sealed = None
begin_in (Committed txn outcome) = None
begin_in (Withdrawn txn) = None

-- the transaction that an entry commits, with its outcome
abbrev pub commit_reply_in : Entry → Option (ℕ × Outcome)
commit_reply_in (Began txn deadline program) = None
commit_reply_in Sealed = None
commit_reply_in (Committed txn outcome) = Some (txn, outcome)
commit_reply_in (Withdrawn txn) = None

-- the programs that began, in order
abbrev pub begins : List Entry → List (ℕ × Program)
begins journal = filter_map begin_in journal

-- the commits, in order
abbrev pub commit_replies : List Entry → List (ℕ × Outcome)
commit_replies journal = filter_map commit_reply_in journal
