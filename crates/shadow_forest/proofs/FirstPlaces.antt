-- The first element that passes a test, and the test of a shadow that takes a job.
use Rattle.std.proofs.Common.{◌≡◌, ℕ, zero, suc, ◌+◌, Bool, true, false, ◌↔◌, IsTrue, List, [], ◌∷◌, length, take, ◌≤◌, ◌<◌, Option, Some, None, refl, ap, sym, ◌∙◌, subst, arith, eq-eqb, true≢false}
use Rattle.std.specs.Prelude.{slice_get}
use Rattle.std.proofs.lemmas.Bool.{cases_Bool}
use Rattle.std.proofs.lemmas.Bool.Decides.{Decides-int_eq}
use Rattle.std.proofs.lemmas.List.{take_all}
use Rattle.txn_runs.specs.Run.{Read}
use Rattle.forest_model.specs.Jobs.{same_read, same_reads}
use Rattle.forest_model.proofs.Lists.{either}
use Rattle.forest_model.proofs.GiveLaws.{same_reads-true}
use Rattle.shadow_forest.specs.Parts.{further_slot, first_place}

module _ {X : Type 0} (test : X → Bool) where
  later-none : (o : Option ℕ) → further_slot o ≡ None → o ≡ None
  later-none None e = refl
  later-none (Some n) e = cc

  pub first-here : (xs : List X) (i : ℕ) (x : X) → first_place test (take i xs) ≡ None → slice_get xs i ≡ Some x → test x ≡ true → Some i ≡ first_place test xs
  first-here [] i x none at e = cc
  first-here (y ∷ ys) zero x none at e =
      let same : y ≡ x = cc in
      let here : test y ≡ true = ap test same ∙ e in
      rw here refl
  first-here (y ∷ ys) (suc i) x none at e =
      either (cases_Bool (test y))
      (λ here. let no : Some 0 ≡ None = rw here at none in cc)
      (λ other.
      let rest : further_slot (first_place test (take i ys)) ≡ None = rw other at none in
      rw other (ap further_slot (first-here ys i x (later-none _ rest) at e)))

  pub first-later : (xs : List X) (i : ℕ) (x : X) → first_place test (take i xs) ≡ None → slice_get xs i ≡ Some x → test x ≡ false → first_place test (take (i + 1) xs) ≡ None
  first-later [] i x none at e = cc
  first-later (y ∷ ys) zero x none at e =
      let same : y ≡ x = cc in
      let here : test y ≡ false = ap test same ∙ e in
      rw here refl
  first-later (y ∷ ys) (suc i) x none at e =
      either (cases_Bool (test y))
      (λ here. let no : Some 0 ≡ None = rw here at none in cc)
      (λ other.
      let rest : further_slot (first_place test (take i ys)) ≡ None = rw other at none in
      let next : suc i + 1 ≡ suc (i + 1) = omega arith in
      rw (next, other, first-later ys i x (later-none _ rest) at e) refl)

  pub first-within : (xs : List X) (i : ℕ) → Some i ≡ first_place test xs → i < length xs
  first-within [] i e = cc
  first-within (x ∷ xs) i e =
      either (cases_Bool (test x))
      (λ here. let first : Some i ≡ Some 0 = rw here at e in let zero_is : i ≡ 0 = cc in omega (arith, zero_is))
      (λ other. let later : Some i ≡ further_slot (first_place test xs) = rw other at e in within i (first_place test xs) (first-within xs) later)
    where
      within : (i : ℕ) (o : Option ℕ) → ((n : ℕ) → Some n ≡ o → n < length xs) → Some i ≡ further_slot o → i < suc (length xs)
      within i None less e = cc
      within i (Some n) less e =
          let is : i ≡ suc n = cc in
          let lt : n < length xs = less n refl in
          omega (arith, is, lt)

  pub first-none : (xs : List X) (i : ℕ) → first_place test (take i xs) ≡ None → length xs ≤ i → None ≡ first_place test xs
  first-none xs i none all = sym none ∙ ap (first_place test) (take_all i xs all)

-- The same reads.

same_read-refl : (x : Read) → same_read x x ≡ true
same_read-refl x = rw (eq-eqb x.0 x.0 refl, eq-eqb x.1 x.1 refl) ((Decides-int_eq x.2 x.2).1 refl)

same_reads-refl : (xs : List Read) → same_reads xs xs ≡ true
same_reads-refl [] = refl
same_reads-refl (x ∷ xs) = rw (same_read-refl x, same_reads-refl xs) refl

pub same-decides : (xs ys : List Read) (b : Bool) → (IsTrue b ↔ (xs ≡ ys)) → b ≡ same_reads xs ys
same-decides xs ys true h = sym (subst (λ zs. same_reads xs zs ≡ true) (h.0 refl) (same_reads-refl xs))
same-decides xs ys false h =
    either (cases_Bool (same_reads xs ys))
    (λ e. absurd (true≢false (sym (h.1 (same_reads-true xs ys e)))))
    (λ e. sym e)
