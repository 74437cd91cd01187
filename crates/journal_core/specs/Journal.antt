-- The journal: what began, was withdrawn, was committed, and when no more may begin.
use Rattle.std.specs.Prelude.{◌≡◌, ℕ, ◌+◌, Bool, true, false, not, ◌&&◌, ◌==◌, if◌then◌else◌, List, [], ◌∷◌, ◌++◌, Option, Some, None, map, count_by, filter_map}
use Rattle.std.specs.List.{list_any}
use Rattle.txn_runs.specs.Run.{Tables}
use Rattle.txn_runs.specs.Serial.{outcome_of, last_tables}
use Rattle.txn_runs.specs.declared.program.Program.{Program}
use Rattle.txn_runs.specs.declared.outcome.Outcome.{Outcome}
use Rattle.journal_core.specs.declared.entry.Entry.{Entry}
use Rattle.journal_core.specs.declared.entry.Entry.TheVariants.{Began, Sealed, Committed, Withdrawn}

-- the entry begins some transaction
abbrev pub is_begin : Entry → Bool
is_begin (Began txn deadline program) = true
is_begin Sealed = false
is_begin (Committed txn outcome) = false
is_begin (Withdrawn txn) = false

-- the entry begins t
abbrev pub is_begin_of : ℕ → Entry → Bool
is_begin_of t (Began txn deadline program) = txn == t
is_begin_of t Sealed = false
is_begin_of t (Committed txn outcome) = false
is_begin_of t (Withdrawn txn) = false

-- the entry commits t
abbrev pub is_commit_of : ℕ → Entry → Bool
is_commit_of t (Began txn deadline program) = false
is_commit_of t Sealed = false
is_commit_of t (Committed txn outcome) = txn == t
is_commit_of t (Withdrawn txn) = false

-- the entry withdraws t
abbrev pub is_withdrawal_of : ℕ → Entry → Bool
is_withdrawal_of t (Began txn deadline program) = false
is_withdrawal_of t Sealed = false
is_withdrawal_of t (Committed txn outcome) = false
is_withdrawal_of t (Withdrawn txn) = txn == t

-- the entry commits or withdraws t
abbrev pub is_end_of : ℕ → Entry → Bool
is_end_of t (Began txn deadline program) = false
is_end_of t Sealed = false
is_end_of t (Committed txn outcome) = txn == t
is_end_of t (Withdrawn txn) = txn == t

abbrev pub is_seal : Entry → Bool
is_seal (Began txn deadline program) = false
is_seal Sealed = true
is_seal (Committed txn outcome) = false
is_seal (Withdrawn txn) = false

-- how many transactions began
abbrev pub began : List Entry → ℕ
began journal = count_by is_begin journal

-- whether t began
abbrev pub has_begun : List Entry → ℕ → Bool
has_begun journal t = list_any (is_begin_of t) journal

-- whether t was committed or withdrawn
abbrev pub has_ended : List Entry → ℕ → Bool
has_ended journal t = list_any (is_end_of t) journal

-- whether t was withdrawn
abbrev pub is_withdrawn : List Entry → ℕ → Bool
is_withdrawn journal t = list_any (is_withdrawal_of t) journal

-- whether no more may begin
abbrev pub is_sealed : List Entry → Bool
is_sealed journal = list_any is_seal journal

-- a transaction is live from its begin to its commit or withdrawal
abbrev pub is_live : List Entry → ℕ → Bool
is_live journal t = has_begun journal t && not (has_ended journal t)

-- the program that the entry begins t with, or this one
abbrev pub program_in : ℕ → Entry → Program → Program
program_in t (Began txn deadline program) otherwise = if txn == t then program else otherwise
program_in t Sealed otherwise = otherwise
program_in t (Committed txn outcome) otherwise = otherwise
program_in t (Withdrawn txn) otherwise = otherwise

-- the program that t began with
abbrev pub program_of : List Entry → ℕ → Program
program_of [] t = []
program_of (e ∷ journal) t = program_in t e (program_of journal t)

-- the deadline that the entry begins t with, or this one
abbrev pub deadline_in : ℕ → Entry → ℕ → ℕ
deadline_in t (Began txn deadline program) otherwise = if txn == t then deadline else otherwise
deadline_in t Sealed otherwise = otherwise
deadline_in t (Committed txn outcome) otherwise = otherwise
deadline_in t (Withdrawn txn) otherwise = otherwise

-- the deadline that t began with
abbrev pub deadline_of : List Entry → ℕ → ℕ
deadline_of [] t = 0
deadline_of (e ∷ journal) t = deadline_in t e (deadline_of journal t)

-- the outcome that the entry commits t with, or this one
abbrev pub committed_in : ℕ → Entry → Option Outcome → Option Outcome
committed_in t (Began txn deadline program) otherwise = otherwise
committed_in t Sealed otherwise = otherwise
committed_in t (Committed txn outcome) otherwise = if txn == t then Some outcome else otherwise
committed_in t (Withdrawn txn) otherwise = otherwise

-- the outcome that t was committed with, if it was
abbrev pub committed_of : List Entry → ℕ → Option Outcome
committed_of [] t = None
committed_of (e ∷ journal) t = committed_in t e (committed_of journal t)

abbrev pub commit_in : Entry → Option ℕ
commit_in (Began txn deadline program) = None
commit_in Sealed = None
commit_in (Committed txn outcome) = Some txn
commit_in (Withdrawn txn) = None

abbrev pub reply_in : Entry → Option Outcome
reply_in (Began txn deadline program) = None
reply_in Sealed = None
reply_in (Committed txn outcome) = Some outcome
reply_in (Withdrawn txn) = None

-- the committed transactions, in order
abbrev pub commits : List Entry → List ℕ
commits journal = filter_map commit_in journal

-- the outcomes that they were committed with
abbrev pub replies : List Entry → List Outcome
replies journal = filter_map reply_in journal

-- the programs of the committed transactions, in order
abbrev pub committed_programs : List Entry → List Program
committed_programs journal = map (program_of journal) (commits journal)

-- the tables after the committed programs were run alone, one after another
abbrev pub tables_after : Tables → List Entry → Tables
tables_after opening journal = last_tables opening (committed_programs journal)

-- the entry may follow this journal
abbrev pub Continues : Tables → List Entry → Entry → Type 0
Continues opening journal (Began txn deadline program) = (txn ≡ began journal + 1) × (is_sealed journal ≡ false)
Continues opening journal Sealed = is_sealed journal ≡ false
Continues opening journal (Committed txn outcome) =
    (is_live journal txn ≡ true) × (outcome ≡ outcome_of (program_of journal txn) (tables_after opening journal))
Continues opening journal (Withdrawn txn) = (is_live journal txn ≡ true) × (is_sealed journal ≡ false)

-- each of the later entries continues the journal before it
abbrev pub IsLegalFrom : Tables → List Entry → List Entry → Type 0
IsLegalFrom opening journal [] = Unit {0}
IsLegalFrom opening journal (e ∷ more) = Continues opening journal e × IsLegalFrom opening (journal ++ e ∷ []) more

-- each entry continues those before it
abbrev pub IsLegal : Tables → List Entry → Type 0
IsLegal opening journal = IsLegalFrom opening [] journal
