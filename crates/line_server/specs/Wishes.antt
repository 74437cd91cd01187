-- What a line that was read asks for, and what it is answered in its turn.
use Rattle.std.specs.Prelude.{◌≡◌, ◌+◌, ◌≤◌, ◌⊎◌, ℕ, Bool, true, false, List, map, ◌++◌, slice_range, codes, Result}
use Rattle.scc_text.specs.declared.command.Command.{Command}
use Rattle.scc_text.specs.Command.{IsWithin}
use Rattle.scc_replies.specs.Lines.{row_line}
use Rattle.scc_replies.specs.Unread.{unread_line}
use Rattle.scc_setup.specs.Opening.{text_at}
use Rattle.txn_runs.specs.Bounds.{reach}
use Rattle.txn_runs.specs.Run.{Tables}
use Rattle.txn_names.specs.Tables.{Named}
use Rattle.journal_core.specs.Journal.{tables_after}
use Rattle.journal_core.specs.declared.entry.Entry.{Entry}
use Rattle.shadow_forest.specs.Listed.{happened, journal_in}
use Rattle.shadow_forest.specs.declared.kept.Item.{Item}
use Rattle.line_server.specs.Answers.{Answer, told, refused, begin_answer, ask_answer, withdraw_answer, answer_to}
use Rattle.line_server.specs.Talks.{opening_in}
use Rattle.line_server.specs.declared.wish.Wish.{Wish}
use Rattle.line_server.specs.declared.wish.Wish.TheVariants as wish

-- what a wish is answered; a table's name stands in the line
abbrev pub wish_answer : Tables → List Entry → List ℕ → Wish → Answer
wish_answer opening journal line (wish.Refusal code) = refused code
wish_answer opening journal line (wish.Unread refusal) = told (unread_line refusal)
wish_answer opening journal line (wish.Begin deadline program) = begin_answer journal deadline program
wish_answer opening journal line (wish.Ask txn) = ask_answer journal txn
wish_answer opening journal line (wish.Values name base size) = told (row_line (text_at line name) (slice_range (tables_after opening journal) base (base + size)))
wish_answer opening journal line (wish.Withdraw txn) = withdraw_answer journal txn
wish_answer opening journal line wish.Quit = told (codes "bye\n")

-- a program fits so many items, and its deadline lies within its limit; a table's items are there, and its name lies within the line
abbrev pub Fits : ℕ → ℕ → Wish → Type 0
Fits items end (wish.Begin deadline program) = (reach program ≤ items) × (deadline ≤ 1000000000000)
Fits items end (wish.Values name base size) = IsWithin end name × (base + size ≤ items)
Fits items end other = Unit {0}

-- a line that spells this command, or none, asks for this, whatever journal its turn finds
abbrev pub IsWishOf : List Named → List ℕ → Result Command ℕ → Wish → Type 0
IsWishOf names line command wish = (opening : Tables) (journal : List Entry) → wish_answer opening journal line wish ≡ answer_to names opening journal line command

-- the wish ends the session
abbrev pub is_quit_wish : Wish → Bool
is_quit_wish wish.Quit = true
is_quit_wish other = false

-- what a wish is answered by a turn that finds this list
abbrev pub wish_at : List Item → List ℕ → Wish → Answer
wish_at found line wish = wish_answer (opening_in found) (journal_in found) line wish

-- the second list is the first, and behind it the entries that were added, or none
abbrev pub IsAddedOr : List Item → List Entry → List Item → Type 0
IsAddedOr found adds left = (left ≡ found ++ map happened adds) ⊎ (left ≡ found)
