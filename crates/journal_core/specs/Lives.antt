-- What a journal says of each transaction, and what the type keeps of it.
use Rattle.std.specs.Prelude.{◌≡◌, ℕ, ◌+◌, ◌<◌, ◌≤◌, ◌^◌, Bool, true, false, List, Option, None, length, slice_get, slice_index_or, option_and_then}
use Rattle.txn_runs.specs.Run.{Tables}
use Rattle.txn_runs.specs.declared.outcome.Outcome.{Outcome}
use Rattle.journal_core.specs.declared.entry.Entry.{Entry}
use Rattle.journal_core.specs.declared.life.Life.{Life}
use Rattle.journal_core.specs.declared.life.Life.TheVariants.{Live, Committed, Withdrawn}
use Rattle.journal_core.specs.Journal.{is_live, is_withdrawn, is_sealed, reply_in, began, commits, committed_of, IsLegal}

abbrev pub lives : Life → Bool
lives Live = true
lives (Committed place) = false
lives Withdrawn = false

abbrev pub was_withdrawn : Life → Bool
was_withdrawn Live = false
was_withdrawn (Committed place) = false
was_withdrawn Withdrawn = true

-- the outcome that it was committed with, if it was
abbrev pub outcome_at : List Entry → Life → Option Outcome
outcome_at journal Live = None
outcome_at journal (Committed place) = option_and_then reply_in (slice_get journal place)
outcome_at journal Withdrawn = None

abbrev pub IsPlaced : List Entry → Life → Type 0
IsPlaced journal Live = Unit {0}
IsPlaced journal (Committed place) = place < length journal
IsPlaced journal Withdrawn = Unit {0}

-- t stands so
pub record IsLife (journal : List Entry) (t : ℕ) (life : Life) : Type 0 where
  pub live : is_live journal t ≡ lives life
  pub withdrawn : is_withdrawn journal t ≡ was_withdrawn life
  pub outcome : committed_of journal t ≡ outcome_at journal life
  pub placed : IsPlaced journal life

-- t did not begin
pub record IsUnbegun (journal : List Entry) (t : ℕ) : Type 0 where
  pub live : is_live journal t ≡ false
  pub withdrawn : is_withdrawn journal t ≡ false
  pub outcome : committed_of journal t ≡ None

-- the lives of transactions 1, 2, .. in order
abbrev pub AreLives : List Entry → List Life → Type 0
AreLives journal stand = (k : ℕ) → k < length stand → IsLife journal (k + 1) (slice_index_or stand k Live)

-- what a journal keeps
pub record IsKept (opening : Tables) (entries : List Entry) (stand : List Life) (committed : ℕ) (closed : Bool) (spare entry_capacity life_capacity : ℕ) : Type 0 where
  pub legal : IsLegal opening entries
  pub many : length stand ≡ began entries
  pub each : AreLives entries stand
  pub commits : committed ≡ length (commits entries)
  pub sealed : closed ≡ is_sealed entries
  pub few : length entries + spare < 2 ^ 32
  pub entry_room : length entries + spare ≤ entry_capacity
  pub life_room : length stand + spare ≤ life_capacity
