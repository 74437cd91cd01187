-- The first line that is wrong, and what is said where no line follows.
use Rattle.std.proofs.Common.{◌≡◌, inl, inr, ℕ, ◌+◌, ◌≤◌, List, [], ◌∷◌, ◌++◌, length, take, refl, sym, ap, ◌∙◌, subst, append_assoc, length-append, arith}
use Rattle.std.proofs.lemmas.List.{take_all, take_at}
use Rattle.txn_runs.specs.Run.{Tables}
use Rattle.txn_runs.specs.declared.program.Program.{Program}
use Rattle.txn_names.specs.Tables.{Named, IsNames}
use Rattle.report_check.specs.Judging.{IsBegun, IsFirstWrong}
use Rattle.report_check.specs.Reports.{AreReport}
use Rattle.report_check.specs.Checked.{Held, IsSound, Stands}
use Rattle.report_check.proofs.Taking.{begins, ends-cut}

-- no line follows, though not all have come
pub first-missing : (names : List Named) (opening : Tables) (programs : List Program) (h : Held) (lines : List (List ℕ)) → IsNames names → IsSound names programs h → Stands names opening programs h lines
    → h.told ≤ length names → IsFirstWrong (AreReport names opening programs) lines (length lines)
first-missing names opening programs h lines plain sound s short = record {
  before = subst (IsBegun (AreReport names opening programs)) (sym (take_all (length lines) lines (omega arith))) (begins names opening programs h lines plain sound s);
  wrong = inr (refl, ends-cut names opening programs h lines plain sound s short);
}

-- a line that no report has there
pub first-bad : (names : List Named) (opening : Tables) (programs : List Program) (h : Held) (lines more : List (List ℕ)) (line : List ℕ) → IsNames names → IsSound names programs h → Stands names opening programs h lines
    → (IsBegun (AreReport names opening programs) (lines ++ line ∷ []) → ⊥) → IsFirstWrong (AreReport names opening programs) (lines ++ line ∷ more) (length lines)
first-bad names opening programs h lines more line plain sound s none =
    let size = length-append lines (line ∷ more) in
    let one = length-append lines (line ∷ []) in
    let cut : take (length lines + 1) (lines ++ line ∷ more) ≡ lines ++ line ∷ [] =
    ap (take (length lines + 1)) (sym (append_assoc lines (line ∷ []) more)) ∙ take_at (lines ++ line ∷ []) more (length lines + 1) (omega (arith, one)) in
    record {
      before = subst (IsBegun (AreReport names opening programs)) (sym (take_at lines (line ∷ more) (length lines) refl)) (begins names opening programs h lines plain sound s);
      wrong = inl (omega (arith, size), λ begun. none (subst (IsBegun (AreReport names opening programs)) cut begun));
    }
