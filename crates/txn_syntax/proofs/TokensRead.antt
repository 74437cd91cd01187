-- Reading placed tokens.
use Rattle.std.proofs.Common.{◌≡◌, List, [], ◌∷◌, ◌++◌, map, Option, None, Some, Result, Ok, Err, refl, sym, ap, ◌∙◌, append_assoc}
use Rattle.std.proofs.lemmas.List.{append-nil}
use Rattle.txn_tokens.specs.declared.token.Token.{Token}
use Rattle.txn_syntax.specs.Reading.{Progress, progress_step, going_on, reading}
use Rattle.txn_syntax.proofs.SoFar.{so_far, IsFair}
use Rattle.txn_syntax.proofs.Moves.{Moves, moves}
use Rattle.txn_syntax.proofs.Complete.{read}

module _ {A : Type 0} (token : A → Token) where
  abbrev pub Same : Result Progress (List A) → Result Progress (List Token) → Type 0
  Same (Ok p) plain = plain ≡ Ok p
  Same (Err rest) plain = plain ≡ Err (map token rest)

  same_on : (o : Option Progress) (x : A) (xs : List A) → ((p : Progress) → Same (reading token p xs) (read p (map token xs))) → Same (going_on o (Err (x ∷ xs)) (λ q. reading token q xs)) (going_on o (Err (token x ∷ map token xs)) (λ q. read q (map token xs)))
  same_on None x xs each = refl
  same_on (Some p) x xs each = each p

  -- places don't matter
  pub same_read : (p : Progress) (xs : List A) → Same (reading token p xs) (read p (map token xs))
  same_read p [] = refl
  same_read p (x ∷ xs) = same_on (progress_step p (token x)) x xs (λ q. same_read q xs)

  -- what is known of a result: how far the tokens have been read, or the first that doesn't go on
  abbrev pub Tells : List Token → Progress → List A → Result Progress (List A) → Type 0
  Tells before p xs (Ok q) = IsFair q × (so_far q ≡ before ++ map token xs)
  Tells before p xs (Err rest) = (front : List A) × (x : A) × (more : List A) × (rest ≡ x ∷ more) × (xs ≡ front ++ rest) × (q : Progress) × IsFair q × (so_far q ≡ before ++ map token front) × (reading token p front ≡ Ok q) × (progress_step q (token x) ≡ None)

  step_is : (p : Progress) (o : Option Progress) (x : A) (front : List A) (q : Progress) → progress_step p (token x) ≡ o → going_on o (Err (x ∷ front)) (λ q. reading token q front) ≡ Ok q → reading token p (x ∷ front) ≡ Ok q
  step_is p o x front q is goes = ap (λ v. going_on v (Err (x ∷ front)) (λ q. reading token q front)) is ∙ goes

  tells_more : (p q : Progress) (x : A) (xs : List A) (r : Result Progress (List A)) → progress_step p (token x) ≡ Some q → so_far q ≡ so_far p ++ token x ∷ [] → Tells (so_far q) q xs r → Tells (so_far p) p (x ∷ xs) r
  tells_more p q x xs (Ok last) is moved (fair, all) = (fair, all ∙ ap (λ ts. ts ++ map token xs) moved ∙ append_assoc (so_far p) (token x ∷ []) (map token xs))
  tells_more p q x xs (Err rest) is moved (front, y, more, rest_is, parts, last, fair, all, reads, dead) =
      (x ∷ front, y, more, rest_is, ap (λ ys. x ∷ ys) parts, last, fair, all ∙ ap (λ ts. ts ++ map token front) moved ∙ append_assoc (so_far p) (token x ∷ []) (map token front), step_is p (Some q) x front last is reads, dead)

  tells_on : (p : Progress) (o : Option Progress) (x : A) (xs : List A) → IsFair p → progress_step p (token x) ≡ o → Moves p (token x) o → ((q : Progress) → IsFair q → Tells (so_far q) q xs (reading token q xs)) → Tells (so_far p) p (x ∷ xs) (going_on o (Err (x ∷ xs)) (λ q. reading token q xs))
  tells_on p None x xs fair is moved each = ([], x, xs, refl, refl, p, fair, sym (append-nil (so_far p)), refl, is)
  tells_on p (Some q) x xs fair is (fair_q, moved) each = tells_more p q x xs (reading token q xs) is moved (each q fair_q)

  pub tells : (p : Progress) (xs : List A) → IsFair p → Tells (so_far p) p xs (reading token p xs)
  tells p [] fair = (fair, sym (append-nil (so_far p)))
  tells p (x ∷ xs) fair = tells_on p (progress_step p (token x)) x xs fair refl (moves p (token x) fair) (λ q fair_q. tells q xs fair_q)
