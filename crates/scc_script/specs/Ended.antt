-- What a commit prints.
use Rattle.std.specs.Prelude.{ℕ, List, [], ◌∷◌, ◌++◌, Option, Some, None, codes, decimal}
use Rattle.txn_runs.specs.declared.outcome.Outcome.{Outcome}
use Rattle.journal_core.specs.Reply.{commit_line}
use Rattle.scc_replies.specs.Lines.{number_line}

-- `resume`, whom a commit took back, and where to
abbrev pub resume_line : ℕ → ℕ → List ℕ
resume_line txn position = codes "resume " ++ decimal txn ++ number_line (codes " ") position

-- a line for each that was taken back
abbrev pub resume_lines : List (ℕ × ℕ) → List ℕ
resume_lines [] = []
resume_lines (r ∷ resumed) = resume_line r.0 r.1 ++ resume_lines resumed

-- `start` and who started, if one did
abbrev pub start_lines : Option ℕ → List ℕ
start_lines None = []
start_lines (Some txn) = number_line (codes "start ") txn

-- a printed commit: the transaction, how its program ended, whom the commit took back and where to, and who started
pub record Ended : Type 0 where
  pub txn : ℕ
  pub outcome : Outcome
  pub resumed : List (ℕ × ℕ)
  pub starts : Option ℕ

-- the commit line and the lines behind it
abbrev pub ended_text : Ended → List ℕ
ended_text e = commit_line e.txn e.outcome ++ resume_lines e.resumed ++ start_lines e.starts

-- those of several commits
abbrev pub all_ended_text : List Ended → List ℕ
all_ended_text [] = []
all_ended_text (e ∷ es) = ended_text e ++ all_ended_text es
