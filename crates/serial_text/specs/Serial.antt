-- When a printed text is that of a serial run. Nothing here speaks of shadows, of the forest or of how many shadows or lanes it has.
use Rattle.std.specs.Prelude.{◌≡◌, ℕ, true, List, [], ◌∷◌, ◌++◌, length, map, codes}
use Rattle.std.specs.List.{AllByRecursion}
use Rattle.txn_runs.specs.Serial.{outcomes, last_tables}
use Rattle.txn_runs.specs.declared.program.Program.{Program}
use Rattle.journal_core.specs.Numbered.{program_named, is_named, AreDistinct}
use Rattle.scc_replies.specs.Lines.{number_line}
use Rattle.scc_replies.specs.Finals.{final_lines}
use Rattle.serial_text.specs.Notes.{Notes, no_notes, AreNoted}

-- the programs of the printed commits, in order
abbrev pub printed_programs : Notes → List Program
printed_programs n = map (λ c. program_named n.begun c.0) n.commits

-- The printed commits, run alone in printed order from the values that were put, give the printed outcomes. Each names a program that
-- began, and none is there twice.
pub record IsSerialRun (n : Notes) : Type 0 where
  pub named : AllByRecursion (λ c. is_named n.begun c.0 ≡ true) n.commits
  pub distinct : AreDistinct (map (λ c. c.0) n.commits)
  pub told : map (λ c. c.1) n.commits ≡ outcomes n.opening.tables (printed_programs n)

-- They give the final lines too, and their number is the one at the end.
pub record IsSerial (n : Notes) (last : List ℕ) : Type 0 where
  pub run : IsSerialRun n
  pub finals : last ≡ final_lines (last_tables n.opening.tables (printed_programs n)) 0 n.opening.names ++ number_line (codes "end ") (length n.commits)

-- the replies, one after another
abbrev pub texts : List (List ℕ × List ℕ) → List ℕ
texts [] = []
texts (answer ∷ more) = answer.1 ++ texts more

-- A text that is printed for these lines, a reply to each, and then the last lines.
pub record IsSerialText (lines : List (List ℕ)) (printed : List ℕ) : Type 0 where
  pub answers : List (List ℕ × List ℕ)
  pub last : List ℕ
  pub notes : Notes
  pub each : map (λ a. a.0) answers ≡ lines
  pub whole : printed ≡ texts answers ++ last
  pub noted : AreNoted no_notes answers notes
  pub serial : IsSerial notes last

-- A text that is printed for these lines so far, a reply to each.
pub record IsSerialSoFar (lines : List (List ℕ)) (printed : List ℕ) : Type 0 where
  pub answers : List (List ℕ × List ℕ)
  pub notes : Notes
  pub each : map (λ a. a.0) answers ≡ lines
  pub whole : printed ≡ texts answers
  pub noted : AreNoted no_notes answers notes
  pub serial : IsSerialRun notes

-- Two ways to read a text as one of a serial run are the same: each line's reply, the last lines, and what is noted.
pub record IsSameReading (lines : List (List ℕ)) (printed : List ℕ) (one other : IsSerialText lines printed) : Type 0 where
  pub answers : one.answers ≡ other.answers
  pub last : one.last ≡ other.last
  pub notes : one.notes ≡ other.notes

-- The same of a text so far.
pub record IsSameSoFar (lines : List (List ℕ)) (printed : List ℕ) (one other : IsSerialSoFar lines printed) : Type 0 where
  pub answers : one.answers ≡ other.answers
  pub notes : one.notes ≡ other.notes
