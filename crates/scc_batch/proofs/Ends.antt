-- Ends that a batch never has.
use Rattle.std.proofs.Common.{◌⊎◌, inl, inr, ℕ, List, Option, Result, Ok, Err}
use Rattle.scc_replies.specs.declared.status.Status.TheVariants as status
use Rattle.batch_input.specs.Input.{Batch, Bad, batch_input}
use Rattle.scc_batch.specs.Told.{Batched, HasAnswered, HasStopped}

-- what follows from neither end follows from none
neither : (A B : Type 0) → (A → ⊥) → (B → ⊥) → A ⊎ B → ⊥
neither A B a b told = elim told [ inl x ↦ a x | inr y ↦ b y ]

answered-bad-words : (result : Result Batch Bad) (read : List ℕ) (left old new : Option (List ℕ)) → ¬ HasAnswered status.BadWords result read left old new
answered-bad-words (Ok batch) read left old new told = told.1
answered-bad-words (Err bad) read left old new told = told.1

answered-audit : (line : ℕ) (result : Result Batch Bad) (read : List ℕ) (left old new : Option (List ℕ)) → ¬ HasAnswered (status.AuditNo line) result read left old new
answered-audit line (Ok batch) read left old new told = told.1
answered-audit line (Err bad) read left old new told = told.1

pub never-bad-words : (read : List ℕ) (left_old left_new old new : Option (List ℕ)) → ¬ Batched status.BadWords read left_old left_new old new
never-bad-words read left_old left_new old new ran =
    neither (HasAnswered status.BadWords (batch_input read) read left_new old new) (HasStopped status.BadWords old new)
    (answered-bad-words (batch_input read) read left_new old new) (λ none. none) ran.told

pub never-audit : (line : ℕ) (read : List ℕ) (left_old left_new old new : Option (List ℕ)) → ¬ Batched (status.AuditNo line) read left_old left_new old new
never-audit line read left_old left_new old new ran =
    neither (HasAnswered (status.AuditNo line) (batch_input read) read left_new old new) (HasStopped (status.AuditNo line) old new)
    (answered-audit line (batch_input read) read left_new old new) (λ none. none) ran.told
