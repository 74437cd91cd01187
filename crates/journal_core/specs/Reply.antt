-- The commit line.
use Rattle.std.specs.Prelude.{ℕ, List, ◌++◌, codes, decimal}
use Rattle.std.specs.Fmt.{signed_decimal}
use Rattle.scc_text.specs.Number.{numbers}
use Rattle.txn_runs.specs.declared.outcome.FaultKind.{FaultKind}
use Rattle.txn_runs.specs.declared.outcome.FaultKind.TheVariants.{Overflow, Zero, Range}
use Rattle.txn_runs.specs.declared.outcome.Outcome.{Outcome}
use Rattle.txn_runs.specs.declared.outcome.Outcome.TheVariants.{Done, Failed, Fault}

abbrev pub fault_word : FaultKind → List ℕ
fault_word Overflow = codes "overflow"
fault_word Zero = codes "zero"
fault_word Range = codes "range"

-- how a run ended, in words
abbrev pub outcome_words : Outcome → List ℕ
outcome_words (Done emits) = codes "done" ++ numbers emits
outcome_words (Failed code) = codes "failed " ++ signed_decimal code
outcome_words (Fault kind) = codes "fault " ++ fault_word kind

-- the line that says that a transaction was committed, and how its run ended
abbrev pub commit_line : ℕ → Outcome → List ℕ
commit_line txn outcome = codes "commit " ++ decimal txn ++ codes " " ++ outcome_words outcome ++ codes "\n"
