-- The lines of a session with their turns, by the list that its pass has seen in the end: what each line's turn found and left, what
-- it was answered, and the turns of work behind it. A turn is a pair of lengths: of the list that it found, and of the list that it left.
use Rattle.std.specs.Prelude.{◌≡◌, ◌≤◌, ℕ, ◌+◌, not, List, [], ◌∷◌, ◌++◌, length, take, map, filter}
use Rattle.txn_runs.specs.Run.{Tables}
use Rattle.txn_names.specs.Tables.{Named}
use Rattle.shadow_forest.specs.Listed.{happened, journal_in}
use Rattle.shadow_forest.specs.declared.kept.Item.{Item}
use Rattle.shadow_forest.specs.declared.kept.Item.TheVariants.{Opening, Happened}
use Rattle.shadow_worker.specs.Worked.{AreTurnsFrom}
use Rattle.line_server.specs.Answers.{Answer, line_command, is_blank, answer}

-- a line that isn't blank, its turn, and the turns of work behind it
pub record Talk : Type 0 where
  pub line : List ℕ
  pub turn : ℕ × ℕ
  pub work : List (ℕ × ℕ)

-- the lines that aren't blank
abbrev pub spoken : List (List ℕ) → List (List ℕ)
spoken lines = filter (λ line. not (is_blank (line_command line))) lines

abbrev pub lines_in : List Talk → List (List ℕ)
lines_in talks = map (λ (talk : Talk). talk.line) talks

-- all turns, in order
abbrev pub turns_in : List Talk → List (ℕ × ℕ)
turns_in [] = []
turns_in (talk ∷ talks) = talk.turn ∷ (talk.work ++ turns_in talks)

-- the tables that a forest's list opens with
abbrev pub opening_in : List Item → Tables
opening_in [] = []
opening_in (Opening table k lanes ∷ list) = table
opening_in (Happened entry ∷ list) = []

-- what a line is answered by a turn that finds this list
abbrev pub answer_at : List Named → List Item → List ℕ → Answer
answer_at names found line = answer names (opening_in found) (journal_in found) line

-- the reply to the line of a turn that found the first so many of all that was seen
abbrev pub reply_at : List Named → List Item → List ℕ → ℕ → List ℕ
reply_at names all line found = (answer_at names (take found all) line).reply

-- the replies, in order
abbrev pub replies_in : List Named → List Item → List Talk → List ℕ
replies_in names all [] = []
replies_in names all (talk ∷ talks) = reply_at names all talk.line talk.turn.0 ++ replies_in names all talks

-- A line's turn: what it left is what it found, and behind that just the entries that the line adds.
pub record IsLineTurn (names : List Named) (all : List Item) (line : List ℕ) (turn : ℕ × ℕ) : Type 0 where
  pub adds : take turn.1 all ≡ take turn.0 all ++ map happened (answer_at names (take turn.0 all) line).adds
  pub many : turn.1 ≡ turn.0 + length (answer_at names (take turn.0 all) line).adds

-- how long the list is that the last of these turns left; where there are none, it has this length
abbrev pub left_by : ℕ → List (ℕ × ℕ) → ℕ
left_by n [] = n
left_by n (turn ∷ turns) = left_by turn.1 turns

-- Talks in order, with so many turns of work behind each line. The first turn finds a list at least so long, and each later one a list
-- at least as long as the turn before it left. A turn of work adds a commit or nothing. All that the turns left is seen.
abbrev pub AreTalksFrom : List Named → List Item → ℕ → ℕ → List Talk → Type 0
AreTalksFrom names all help n [] = n ≤ length all
AreTalksFrom names all help n (talk ∷ talks) =
    (n ≤ talk.turn.0) × IsLineTurn names all talk.line talk.turn × AreTurnsFrom all talk.turn.1 talk.work × (length talk.work ≡ help)
    × AreTalksFrom names all help (left_by talk.turn.1 talk.work) talks
