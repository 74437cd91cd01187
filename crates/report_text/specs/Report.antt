-- The report of a batch: its programs run alone, one after another, in the order in which they were committed.
use Rattle.std.specs.Prelude.{ℕ, ◌+◌, List, [], ◌∷◌, ◌++◌, length, map, flat_map}
use Rattle.std.specs.List.{zip}
use Rattle.txn_runs.specs.Run.{Tables}
use Rattle.txn_runs.specs.Serial.{outcomes, last_tables}
use Rattle.txn_runs.specs.declared.program.Program.{Program}
use Rattle.txn_runs.specs.declared.outcome.Outcome.{Outcome}
use Rattle.txn_names.specs.Tables.{Named}
use Rattle.journal_core.specs.Numbered.{program_named}
use Rattle.journal_core.specs.Reply.{commit_line}
use Rattle.scc_replies.specs.Lines.{end_line}
use Rattle.scc_replies.specs.Finals.{final_lines}

-- programs with their numbers, which count up from this one
abbrev pub numbered : ℕ → List Program → List (ℕ × Program)
numbered number [] = []
numbered number (program ∷ programs) = (number, program) ∷ numbered (number + 1) programs

-- the programs that these numbers name, counted from 1
abbrev pub in_order : List Program → List ℕ → List Program
in_order programs order = map (program_named (numbered 1 programs)) order

-- a commit line for each, with its outcome
abbrev pub commit_lines : List (ℕ × Outcome) → List ℕ
commit_lines commits = flat_map (λ c. commit_line c.0 c.1) commits

-- The commit line of each number in this order, with the outcomes that the programs have when they run alone in it, one after another;
-- then the last tables, and how many there are.
unfoldable pub report : List Named → Tables → List Program → List ℕ → List ℕ
report names tables programs order =
    commit_lines (zip order (outcomes tables (in_order programs order)))
    ++ final_lines (last_tables tables (in_order programs order)) 0 names ++ end_line (length order)
