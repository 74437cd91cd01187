-- Entries that are all commits.
use Rattle.std.specs.Prelude.{◌≡◌, Bool, true, false, List}
use Rattle.std.specs.List.{AllByRecursion}
use Rattle.journal_core.specs.declared.entry.Entry.{Entry}
use Rattle.journal_core.specs.declared.entry.Entry.TheVariants.{Began, Sealed, Committed, Withdrawn}

-- the entry is a commit
abbrev pub is_commit : Entry → Bool
is_commit (Committed txn outcome) = true
is_commit (Began txn deadline program) = false
is_commit Sealed = false
is_commit (Withdrawn txn) = false

-- all of these entries are commits
abbrev pub AreCommits : List Entry → Type 0
AreCommits entries = AllByRecursion (λ e. is_commit e ≡ true) entries
