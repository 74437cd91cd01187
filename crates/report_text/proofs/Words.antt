-- Words of lines have no newline inside.
use Rattle.std.proofs.Common.{◌≡◌, ℕ, true, List, ◌++◌, refl, arith}
use Rattle.std.specs.Prelude.{codes, decimal}
use Rattle.txn_runs.specs.declared.outcome.Outcome.{Outcome}
use Rattle.txn_runs.specs.declared.outcome.Outcome.TheVariants.{Done, Failed, Fault}
use Rattle.txn_runs.specs.declared.outcome.FaultKind.{FaultKind}
use Rattle.txn_runs.specs.declared.outcome.FaultKind.TheVariants.{Overflow, Zero, Range}
use Rattle.journal_core.specs.Reply.{outcome_words, fault_word}
use Rattle.report_text.proofs.Cuts.{IsWithout, decimal-without, without-append, lacks, lacking, signed-without, numbers-without}

fault-without : (kind : FaultKind) → IsWithout 10 (fault_word kind)
unfolding lacks
fault-without Overflow = lacking 10 (codes "overflow") refl
fault-without Zero = lacking 10 (codes "zero") refl
fault-without Range = lacking 10 (codes "range") refl

pub outcome-without : (o : Outcome) → IsWithout 10 (outcome_words o)
unfolding lacks
outcome-without (Done emits) = without-append 10 (codes "done") _ (lacking 10 (codes "done") refl) (numbers-without emits)
outcome-without (Failed code) = without-append 10 (codes "failed ") _ (lacking 10 (codes "failed ") refl) (signed-without code)
outcome-without (Fault kind) = without-append 10 (codes "fault ") _ (lacking 10 (codes "fault ") refl) (fault-without kind)

pub row-without : (word : List ℕ) (n : ℕ) → lacks 10 word ≡ true → IsWithout 10 (word ++ decimal n)
row-without word n plain = without-append 10 word (decimal n) (lacking 10 word plain) (decimal-without 10 n (omega arith))
