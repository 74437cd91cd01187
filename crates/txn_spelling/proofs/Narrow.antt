-- The literals of a program that was read have 64 bits.
use Rattle.std.proofs.Common.{◌≡◌, ℕ, Bool, true, false, cond, List, Option, None, Some, Ok, refl, ap, ◌∙◌, subst}
use Rattle.std.specs.Prelude.{not}
use Rattle.txn_runs.specs.declared.program.Stmt.{Stmt}
use Rattle.txn_runs.specs.Bounds.{wides}
use Rattle.txn_names.specs.Tables.{Named}
use Rattle.txn_syntax.specs.declared.refusal.Which.{Which}
use Rattle.txn_syntax.specs.Meaning.{literals_fit}
use Rattle.txn_syntax.specs.Reads.{read_of}
use Rattle.txn_syntax.specs.Answers.{IsAnswer}
use Rattle.txn_syntax.proofs.Answering.{read_answers}
use Rattle.txn_syntax.proofs.Narrow.{text_narrow}

first_kept : (fits : Bool) (which : Which) (later : Option Which) → cond (not fits) (Some which) later ≡ None → fits ≡ true
first_kept true which later is = refl
first_kept false which later is = cc

-- a program that was read has no literal that is too wide
pub read_narrow : (names : List Named) (bytes : List ℕ) (body : List Stmt) → read_of names bytes ≡ Ok body → wides body ≡ 0
read_narrow names bytes body is =
    let answer : IsAnswer names bytes (Ok body) = subst (IsAnswer names bytes) is (read_answers names bytes) in
    let (text, spells, known, fits, same) = answer in
    ap wides same ∙ text_narrow text (first_kept (literals_fit text) _ _ fits)
