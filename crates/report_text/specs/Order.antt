-- The order of a report, as it is read off its text.
use Rattle.std.specs.Prelude.{ℕ, ◌^◌, ◌<◌, ◌≢◌, ◌≡◌, ◌≤◌, ◌↔◌, ◌==◌, true, List, [], ◌∷◌, take, drop, Option, None, if◌then◌else◌, codes, bytes_eq, filter_map}
use Rattle.std.specs.List.{AllByRecursion, list_any}
use Rattle.txn_names.specs.Tables.{Named}
use Rattle.journal_core.specs.Numbered.{AreDistinct}
use Rattle.scc_text.specs.Number.{natural_of}
use Rattle.scc_text.specs.Lines.{lines_of}

-- the bytes before the first blank
abbrev pub first_word : List ℕ → List ℕ
first_word [] = []
first_word (byte ∷ bytes) = if byte == 32 then [] else byte ∷ first_word bytes

-- the number that a line names behind `commit `, where it begins so
abbrev pub commit_number : List ℕ → Option ℕ
commit_number line = if bytes_eq (take 7 line) (codes "commit ") then natural_of (first_word (drop 7 line)) else None

-- the numbers that the `commit` lines of a text name, in order
unfoldable pub order_of : List ℕ → List ℕ
order_of text = filter_map commit_number (lines_of text)

-- no name has a newline in it
abbrev pub NamesFit : List Named → Type 0
NamesFit names = AllByRecursion (λ (t : Named). AllByRecursion (λ byte. byte ≢ 10) t.0) names

-- each is a number of 64 bits
abbrev pub NumbersFit : List ℕ → Type 0
NumbersFit order = AllByRecursion (λ t. t < 2 ^ 64) order

-- each number from 1 to the count is there once, and no other
pub record NamesEachOnce (count : ℕ) (order : List ℕ) : Type 0 where
  pub distinct : AreDistinct order
  pub each : (t : ℕ) → (list_any (λ u. u == t) order ≡ true) ↔ (1 ≤ t × t ≤ count)
