-- What a session has read and written, and which turns it took, at each of its ends.
use Rattle.std.specs.Prelude.{◌≡◌, ◌⊎◌, ◌↔◌, ◌≤◌, ℕ, true, false, List, [], ◌∷◌, ◌++◌, length, take, Option}
use Rattle.std.specs.List.{AllByRecursion}
use Rattle.std.specs.Io.KnownBytes.{Consumes, IsAtEnd}
use mathlib.Core.List.{IsPrefix}
use Rattle.scc_ports.specs.Ports.{Gains}
use Rattle.scc_text.specs.Lines.{lines_of, whole_lines, within_limit}
use Rattle.txn_names.specs.Tables.{Named}
use Rattle.shadow_forest.specs.declared.kept.Item.{Item}
use Rattle.line_server.specs.Answers.{line_command, is_quit}
use Rattle.line_server.specs.Talks.{Talk, spoken, lines_in, turns_in, reply_at, replies_in, IsLineTurn, left_by, AreTalksFrom}
use Rattle.line_server.specs.declared.end.SessionEnd.{SessionEnd}
use Rattle.line_server.specs.declared.end.SessionEnd.TheVariants.{Quit, End, ReadFault, WriteFault, InputLimit, OutOfMemory}

-- These are the first lines of the bytes that aren't blank. The last one's newline is among the bytes, or they end.
abbrev pub AreFirst : List (List ℕ) → List ℕ → Option (List ℕ) → Type 0
AreFirst lines read left = (more : List (List ℕ)) × ((spoken (whole_lines read) ≡ lines ++ more) ⊎ (IsAtEnd left × (spoken (lines_of read) ≡ lines ++ more)))

-- The turn of one more line: it finds a list at least as long as the turns before it left, and what it leaves is seen.
pub record IsNextTurn (names : List Named) (all : List Item) (n : ℕ) (turns : List (ℕ × ℕ)) (line : List ℕ) (turn : ℕ × ℕ) : Type 0 where
  pub later : left_by n turns ≤ turn.0
  pub seen : turn.1 ≤ length all
  pub adds : IsLineTurn names all line turn

-- The same of a line that found no memory: the turn adds what the line adds, or nothing.
abbrev pub IsLastTurn : List Named → List Item → ℕ → List (ℕ × ℕ) → List ℕ → ℕ × ℕ → Type 0
IsLastTurn names all n turns line turn = IsNextTurn names all n turns line turn ⊎ ((left_by n turns ≤ turn.0) × (turn.0 ≤ length all) × (turn.1 ≡ turn.0))

-- How a session ended behind these talks, of whose lines none is `quit`. It had seen a list of length n, and took these turns.
module _ (names : List Named) (all : List Item) (n : ℕ) (talks : List Talk) (turns : List (ℕ × ℕ)) (read : List ℕ) (left told written : Option (List ℕ)) where
  -- it took no turn beyond those of the talks, whose lines are all of these, and wrote their replies
  abbrev pub HasAnswered : List (List ℕ) → Type 0
  HasAnswered lines = (spoken lines ≡ lines_in talks) × (turns ≡ turns_in talks) × Gains told written (replies_in names all talks)

  -- one line more was `quit`, and was answered
  pub record HasQuit : Type 0 where
    pub line : List ℕ
    pub quit : is_quit (line_command line) ≡ true
    pub first : AreFirst (lines_in talks ++ line ∷ []) read left
    pub turn : ℕ × ℕ
    pub next : IsNextTurn names all n (turns_in talks) line turn
    pub took : turns ≡ turns_in talks ++ turn ∷ []
    pub wrote : Gains told written (replies_in names all talks ++ reply_at names all line turn.0)

  -- one line more had its turn, and a front of its reply was written; or none had
  abbrev pub HasBroken : Type 0
  HasBroken =
      ((line : List ℕ) × (turn : ℕ × ℕ) × (k : ℕ) × AreFirst (lines_in talks ++ line ∷ []) read left × IsNextTurn names all n (turns_in talks) line turn
      × (turns ≡ turns_in talks ++ turn ∷ []) × Gains told written (replies_in names all talks ++ take k (reply_at names all line turn.0)))
      ⊎ (AreFirst (lines_in talks) read left × (turns ≡ turns_in talks) × Gains told written (replies_in names all talks))

  -- one line more found no memory in its turn; or none had a turn
  abbrev pub HasRunOut : Type 0
  HasRunOut =
      Gains told written (replies_in names all talks)
      × (((line : List ℕ) × (turn : ℕ × ℕ) × AreFirst (lines_in talks ++ line ∷ []) read left × IsLastTurn names all n (turns_in talks) line turn × (turns ≡ turns_in talks ++ turn ∷ []))
      ⊎ (AreFirst (lines_in talks) read left × (turns ≡ turns_in talks)))

  abbrev pub HasEnded : SessionEnd → Type 0
  HasEnded Quit = HasQuit
  HasEnded End = IsAtEnd left × HasAnswered (lines_of read)
  HasEnded ReadFault = HasAnswered (whole_lines (within_limit read))
  HasEnded InputLimit = HasAnswered (whole_lines (within_limit read))
  HasEnded WriteFault = HasBroken
  HasEnded OutOfMemory = HasRunOut

-- A session that works so many turns behind each line. Its pass had seen one list and has seen the other in the end, and has more turns.
pub record SessionRan (names : List Named) (help : ℕ) (before all : List Item) (turns_before turns_after : List (ℕ × ℕ)) (end : SessionEnd) (left_old left told written : Option (List ℕ)) : Type 0 where
  -- the bytes that were read
  pub read : List ℕ
  pub took : Consumes left_old left read
  pub few : length read ≤ 67108865
  pub limit : (end ≡ InputLimit) ↔ (length read ≡ 67108865)
  -- what was seen is not forgotten
  pub seen_longer : IsPrefix before all
  -- the turns beyond those before
  pub turns : List (ℕ × ℕ)
  pub added : turns_after ≡ turns_before ++ turns
  -- the lines that were answered and worked behind, with their turns; none of them is `quit`
  pub talks : List Talk
  pub order : AreTalksFrom names all help (length before) talks
  pub none_quit : AllByRecursion (λ (talk : Talk). is_quit (line_command talk.line) ≡ false) talks
  pub ended : HasEnded names all (length before) talks turns read left told written end
