use Rattle.std.proofs.Common.{◌≡◌, ℕ, pos, List, [], ◌∷◌, ◌++◌, ◌∙◌, refl, ap, sym}
use denote.Hole.Carrier
use Rattle.txn_runs.specs.Bounds.{steps_max, steps_row, plus}
use Rattle.txn_runs.specs.Run.{Tables, after}
use Rattle.txn_runs.specs.Serial.{first_end, outcome_by, outcome_of}
use Rattle.txn_runs.proofs.Folds.{of_stmt_is}
use Rattle.txn_runs.specs.declared.outcome.Outcome.TheVariants.{Failed}
use Rattle.txn_runs.specs.declared.program.Operand.TheVariants.{Lit}
use Rattle.txn_runs.specs.declared.program.Stmt as statement
use Rattle.txn_runs.specs.declared.program.Stmt.{Stmt}
use Rattle.txn_runs.specs.declared.program.Stmt.TheVariants.{Fail}
use Rattle.journal_core.specs.declared.entry.Entry.TheVariants.{Began, Sealed}
use Rattle.core_tests.proofs.journals.a_commit_may_follow_the_seal.Goals as goal

abbrev body : List Stmt
body = Fail (Lit (pos 7)) ∷ []

one_step : steps_max body ≡ 1
unfolding statement.out-Stmt Carrier.out
one_step = rw (of_stmt_is steps_row plus (Fail (Lit (pos 7)))) refl

ends : (tables : Tables) (n : ℕ) → n ≡ 1 → outcome_by (after body tables (first_end body tables n 0)).end (after body tables (first_end body tables n 0)).emits ≡ Failed (pos 7)
unfolding after statement.out-Stmt Carrier.out
ends tables n e = rw e refl

failing-failed : (tables : Tables) → outcome_of body tables ≡ Failed (pos 7)
failing-failed tables = ends tables (steps_max body) one_step

pub push_reserved-requires-3-clause-continues : goal.push_reserved-requires-3-clause-continues
push_reserved-requires-3-clause-continues g c =
    let none = c.in_ok-reserve.ensures.entries ∙ ap (λ j. j.entries) c.new-journal.ensures in
    let one : c.push_reserved.new.self.entries ≡ Began 1 10 body ∷ [] =
    c.push_reserved.ensures.entries ∙ (ap (λ es. es ++ Began 1 10 c.in_ok-failing.field-0 ∷ []) none ∙ ap (λ program. Began 1 10 program ∷ []) c.in_ok-failing.ensures)
    in
    let two : c.push_reserved-2.new.self.entries ≡ Began 1 10 body ∷ Sealed ∷ [] = c.push_reserved-2.ensures.entries ∙ ap (λ es. es ++ Sealed ∷ []) one in
    rw two (refl, sym (failing-failed _))
