-- There is one verdict.
use Rattle.std.proofs.Common.{◌≡◌, inl, inr, ℕ, ◌+◌, ◌<◌, ◌≤◌, List, ◌++◌, length, take, drop, sym, ap, ◌∙◌, subst, append_assoc, arith}
use Rattle.std.proofs.lemmas.List.{take-take, take-append-drop}
use Rattle.txn_runs.specs.Run.{Tables}
use Rattle.txn_runs.specs.declared.program.Program.{Program}
use Rattle.txn_names.specs.Tables.{Named}
use Rattle.report_check.specs.declared.verdict.Verdict.{Verdict}
use Rattle.report_check.specs.declared.verdict.Verdict.TheVariants.{Yes, No}
use Rattle.report_check.specs.Judging.{IsBegun, IsFirstWrong}
use Rattle.report_check.specs.Reports.{AreReport, IsReportVerdict}

-- what begins a right list, begins one after fewer items too
fewer-begun : {A : Type 0} (right : List A → Type 0) (items : List A) (m n : ℕ) → m ≤ n → IsBegun right (take n items) → IsBegun right (take m items)
fewer-begun right items m n le begun =
    let cut : take m items ++ drop m (take n items) ≡ take n items = ap (λ xs. xs ++ drop m (take n items)) (sym (take-take m n items le)) ∙ take-append-drop m (take n items) in
    (drop m (take n items) ++ begun.0, subst right (ap (λ xs. xs ++ begun.0) (sym cut) ∙ append_assoc (take m items) (drop m (take n items)) begun.0) begun.1)

-- where the items before a later place begin a right list, an earlier place isn't the first that is wrong
not-before : {A : Type 0} (right : List A → Type 0) (items : List A) (m n : ℕ) → m < n → IsBegun right (take n items) → n ≤ length items → IsFirstWrong right items m → ⊥
not-before right items m n less begun within wrong = elim wrong.wrong [
  | inl bad ↦ bad.1 (fewer-begun right items (m + 1) n (omega (arith, less)) begun)
  | inr cut ↦ absurd (let at = cut.0 in omega (arith, at, less, within))
]

place-within : {A : Type 0} (right : List A → Type 0) (items : List A) (n : ℕ) → IsFirstWrong right items n → n ≤ length items
place-within right items n wrong = elim wrong.wrong [ inl bad ↦ (let less = bad.0 in omega (arith, less)) | inr cut ↦ (let at = cut.0 in omega (arith, at)) ]

pub one-place : {A : Type 0} (right : List A → Type 0) (items : List A) (m n : ℕ) → IsFirstWrong right items m → IsFirstWrong right items n → m ≡ n
one-place right items m n first second =
    let not-less : ¬ (m < n) = λ less. not-before right items m n less second.before (place-within right items n second) first in
    let not-more : ¬ (n < m) = λ less. not-before right items n m less first.before (place-within right items m first) second in
    omega (arith, not-less, not-more)

-- a right list has no wrong item
pub never-wrong : {A : Type 0} (right : List A → Type 0) (items : List A) (n : ℕ) → right items → IsFirstWrong right items n → ⊥
never-wrong right items n is wrong = elim wrong.wrong [
  | inl bad ↦ bad.1 (drop (n + 1) items, subst right (sym (take-append-drop (n + 1) items)) is)
  | inr cut ↦ cut.1 is
]

pub one-verdict : (names : List Named) (tables : Tables) (programs : List Program) (before : ℕ) (lines : List (List ℕ)) (v w : Verdict) → IsReportVerdict names tables programs before lines v → IsReportVerdict names tables programs before lines w → v ≡ w
one-verdict names tables programs before lines (Yes m) (Yes n) h k = ap (λ c. Yes c) (h.1 ∙ sym k.1)
one-verdict names tables programs before lines (Yes m) (No n) h k = absurd (never-wrong (AreReport names tables programs) lines k.0 h.0 k.2)
one-verdict names tables programs before lines (No m) (Yes n) h k = absurd (never-wrong (AreReport names tables programs) lines h.0 k.0 h.2)
one-verdict names tables programs before lines (No m) (No n) h k =
    ap (λ l. No l) (h.1 ∙ ap (λ p. before + p + 1) (one-place (AreReport names tables programs) lines h.0 k.0 h.2 k.2) ∙ sym k.1)
