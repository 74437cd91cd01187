-- The forms of the replies of which a reader notes nothing. They say where such a reply ends, so that it takes no other reply's lines.
use Rattle.std.specs.Prelude.{◌≡◌, ◌⊎◌, ℕ, ℤ, List, [], ◌∷◌, ◌++◌, Option, Some, None, codes, decimal}
use Rattle.scc_text.specs.declared.command.Command.{Command}
use Rattle.scc_text.specs.declared.command.Command.TheVariants.{Blank, Step, Run, Withdraw, Show, Dump, Seal}
use Rattle.txn_runs.specs.Run.{Writes}
use Rattle.txn_runs.specs.declared.program.TableRef.{TableRef}
use Rattle.txn_names.specs.Tables.{Named, table_named}
use Rattle.scc_setup.specs.Opening.{text_at}
use Rattle.scc_replies.specs.Lines.{number_line, refuse_line, row_line}
use Rattle.scc_script.specs.Fields.{waiting_line}
use Rattle.scc_script.specs.Ended.{start_lines}
use Rattle.scc_script.specs.Fields.{fields}

-- `o`, or the transaction that a shadow waits for
abbrev pub shadow_word : Option ℕ → List ℕ
shadow_word None = codes "o"
shadow_word (Some guard) = decimal guard

-- a word, a transaction, one of its shadows, and where that stands
abbrev pub place_words : List ℕ → ℕ → Option ℕ → ℕ → List ℕ
place_words word txn guard position = word ++ decimal txn ++ codes " " ++ shadow_word guard ++ codes " at " ++ decimal position

-- one of the three words for whether a shadow may step
abbrev pub IsStanding : List ℕ → Type 0
IsStanding word = (word ≡ codes " runnable") ⊎ ((word ≡ codes " blocked") ⊎ (word ≡ codes " ended"))

-- what `show` tells of any shadow: where it stands, whether it may step, and what its run holds
pub record Shown : Type 0 where
  pub position : ℕ
  pub standing : List ℕ
  pub known : IsStanding standing
  pub registers : List ℤ
  pub writes : Writes
  pub emits : List ℤ

-- the line of the optimistic shadow
abbrev pub optimistic_line : List Named → ℕ → Shown → List ℕ
optimistic_line names txn x = place_words (codes "shadow ") txn None x.position ++ x.standing ++ fields names x.registers x.writes x.emits ++ 10 ∷ []

-- the line of a shadow that waits for a transaction, with its point
abbrev pub guard_line : List Named → ℕ → ℕ → ℕ → Shown → List ℕ
guard_line names txn guard point x =
    place_words (codes "shadow ") txn (Some guard) x.position ++ (codes " point " ++ decimal point) ++ x.standing ++ fields names x.registers x.writes x.emits ++ 10 ∷ []

-- a line for each shadow that waits: its guard, its point and what is shown
abbrev pub guard_lines : List Named → ℕ → List (ℕ × (ℕ × Shown)) → List ℕ
guard_lines names txn [] = []
guard_lines names txn (x ∷ more) = guard_line names txn x.0 x.1.0 x.1.1 ++ guard_lines names txn more

-- the lines of `show` for one that has started
pub record ShowsShadows (names : List Named) (txn : ℕ) (reply : List ℕ) : Type 0 where
  pub first : Shown
  pub others : List (ℕ × (ℕ × Shown))
  pub told : reply ≡ optimistic_line names txn first ++ guard_lines names txn others

-- the refusal of `dump`, of a table that there isn't
pub record NoSuchTable (names : List Named) (name reply : List ℕ) : Type 0 where
  pub none : table_named names name ≡ None
  pub told : reply ≡ refuse_line 22

-- the line of `dump`, of a table that there is
pub record DumpsTable (names : List Named) (name reply : List ℕ) : Type 0 where
  pub table : TableRef
  pub values : List ℤ
  pub found : table_named names name ≡ Some table
  pub told : reply ≡ row_line name values

-- the reply has the form of its command
abbrev pub IsForm : List Named → List ℕ → Command → List ℕ → Type 0
IsForm names line Blank reply = reply ≡ []
IsForm names line (Step txn guard) reply = (position : ℕ) × (reply ≡ place_words (codes "step ") txn guard position ++ 10 ∷ [])
IsForm names line Run reply = (steps : ℕ) × (reply ≡ number_line (codes "run ") steps)
IsForm names line (Withdraw txn) reply = (starts : Option ℕ) × (reply ≡ number_line (codes "withdraw ") txn ++ start_lines starts)
IsForm names line (Show txn) reply = (reply ≡ waiting_line txn) ⊎ ShowsShadows names txn reply
IsForm names line (Dump name) reply = NoSuchTable names (text_at line name) reply ⊎ DumpsTable names (text_at line name) reply
IsForm names line Seal reply = reply ≡ codes "seal\n"
IsForm names line other reply = ⊥
