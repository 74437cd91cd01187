-- The lines of a report one by one, each without its newline.
use Rattle.std.specs.Prelude.{ℕ, ◌+◌, List, [], ◌∷◌, ◌++◌, length, slice_range, codes, decimal}
use Rattle.std.specs.List.{zip}
use Rattle.txn_runs.specs.Run.{Tables}
use Rattle.txn_runs.specs.Serial.{outcomes, last_tables}
use Rattle.txn_runs.specs.declared.program.Program.{Program}
use Rattle.txn_runs.specs.declared.outcome.Outcome.{Outcome}
use Rattle.txn_names.specs.Tables.{Named}
use Rattle.scc_text.specs.Number.{numbers}
use Rattle.journal_core.specs.Reply.{outcome_words}
use Rattle.report_text.specs.Report.{in_order}

-- the line of a commit
abbrev pub commit_row : ℕ → Outcome → List ℕ
commit_row txn outcome = codes "commit " ++ decimal txn ++ codes " " ++ outcome_words outcome

-- the line of a table's last values
abbrev pub final_row : List ℕ → Tables → List ℕ
final_row name values = codes "final " ++ (name ++ numbers values)

-- the line of the number of commits
abbrev pub end_row : ℕ → List ℕ
end_row commits = codes "end " ++ decimal commits

abbrev pub commit_rows : List (ℕ × Outcome) → List (List ℕ)
commit_rows [] = []
commit_rows (c ∷ cs) = commit_row c.0 c.1 ∷ commit_rows cs

-- the last values of the tables, of which the first begins at this item
abbrev pub final_rows : Tables → ℕ → List Named → List (List ℕ)
final_rows tables base [] = []
final_rows tables base (table ∷ names) = final_row table.0 (slice_range tables base (base + table.1)) ∷ final_rows tables (base + table.1) names

-- the commits of an order, over tables that opened so
abbrev pub order_rows : Tables → List Program → List ℕ → List (List ℕ)
order_rows opening programs order = commit_rows (zip order (outcomes opening (in_order programs order)))

-- what comes behind the commits
abbrev pub last_rows : List Named → Tables → ℕ → List (List ℕ)
last_rows names tables commits = final_rows tables 0 names ++ end_row commits ∷ []

-- all lines of a report
abbrev pub report_rows : List Named → Tables → List Program → List ℕ → List (List ℕ)
report_rows names opening programs order =
    order_rows opening programs order ++ last_rows names (last_tables opening (in_order programs order)) (length order)
