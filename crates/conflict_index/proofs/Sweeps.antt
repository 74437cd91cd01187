-- Points that change at the lanes of a set, one lane after another.
use Rattle.std.proofs.Common.{◌≡◌, ◌≢◌, ℕ, ◌+◌, ◌*◌, ◌<◌, nat_lt, Bool, true, false, not, cond, ◌&&◌, ◌||◌, ◌==◌, List, length, get_or, set, Option, None, refl, sym, ap, ◌∙◌, arith, ◌⊎◌, inl, inr, ◌↔◌}
use Rattle.std.proofs.Math.Bool.{and-false, and-not_self}
use Rattle.std.proofs.lemmas.Bool.{cases_eq, both_ways, eq-eqb, ne_eqb, ltb-true, le-ltb}
use Rattle.std.proofs.lemmas.Bool.Decides.{nat_tests}
use Rattle.std.proofs.lemmas.Nat.{mul-add-lt}
use Rattle.conflict_index.specs.Masks.{has}
use Rattle.conflict_index.specs.Kept.{AreChanged}
use Rattle.conflict_index.proofs.MaskLaws.{has-none}
use Rattle.conflict_index.proofs.Changes.{change-none, change-like, change-more}

-- before the first
pub sweep-none : (mask : ℕ) (place : ℕ → ℕ) (becomes : ℕ → Option ℕ → Option ℕ) (old : List (Option ℕ)) → AreChanged (λ u. has mask u && not (has mask u)) place becomes old old 0
sweep-none mask place becomes old = change-none (λ u. has mask u && not (has mask u)) place becomes old (λ u. and-not_self (has mask u))

and-true : (t : Bool) → t ≡ (t && true)
and-true true = refl
and-true false = refl

-- where none is left
pub sweep-all : (mask left : ℕ) (place : ℕ → ℕ) (becomes : ℕ → Option ℕ → Option ℕ) (old new : List (Option ℕ)) (moved : ℕ)
    → left ≡ 0 → AreChanged (λ u. has mask u && not (has left u)) place becomes old new moved → AreChanged (has mask) place becomes old new moved
sweep-all mask left place becomes old new moved e h =
    change-like (λ u. has mask u && not (has left u)) (has mask) place becomes old new moved
    (λ u. and-true (has mask u) ∙ ap (λ t. has mask u && not t) (sym (ap (λ m. has m u) e ∙ has-none u))) h

-- one lane of those that are left
pub record Visit (mask left rest : ℕ) (place : ℕ → ℕ) (becomes : ℕ → Option ℕ → Option ℕ) (now next : List (Option ℕ)) (moved after k : ℕ) (flag : Bool) : Type 0 where
  pub waits : has left k ≡ true
  pub member : has mask k ≡ true
  pub rest_is : (u : ℕ) → has rest u ≡ cond (u == k) false (has left u)
  pub apart : (u : ℕ) → has mask u ≡ true → u ≢ k → place u ≢ place k
  pub within : place k < length now
  pub is : next ≡ set now (place k) (becomes k (get_or now (place k) None))
  pub told : (flag ≡ true) ↔ (get_or next (place k) None ≢ get_or now (place k) None)
  pub after_is : (u : ℕ) → has after u ≡ cond (u == k) (flag || has moved k) (has moved u)

pub sweep-more : (mask left rest : ℕ) (place : ℕ → ℕ) (becomes : ℕ → Option ℕ → Option ℕ) (old now next : List (Option ℕ)) (moved after k : ℕ) (flag : Bool)
    → AreChanged (λ u. has mask u && not (has left u)) place becomes old now moved → Visit mask left rest place becomes now next moved after k flag
    → AreChanged (λ u. has mask u && not (has rest u)) place becomes old next after
sweep-more mask left rest place becomes old now next moved after k flag h v =
    change-more (λ u. has mask u && not (has left u)) (λ u. has mask u && not (has rest u)) place becomes old now next moved after k flag h (record {
      fresh = fresh;
      more_is = λ u. more u (cases_eq u k);
      apart = λ u e. v.apart u (first-of (has mask u) (not (has left u)) e) (λ q. both_ways (has mask k && not (has left k)) fresh (sym (ap (λ i. has mask i && not (has left i)) q) ∙ e));
      within = v.within;
      is = v.is;
      told = v.told;
      after_is = v.after_is;
    })
  where
    first-of : (s t : Bool) → (s && t) ≡ true → s ≡ true
    first-of true t e = refl
    first-of false t e = e

    fresh : (has mask k && not (has left k)) ≡ false
    fresh = ap (λ t. has mask k && not t) v.waits ∙ and-false (has mask k)

    more : (u : ℕ) → (u ≡ k) ⊎ (u ≢ k) → (has mask u && not (has rest u)) ≡ cond (u == k) true (has mask u && not (has left u))
    more u (inl q) =
        ap (λ t. has mask u && not t) (v.rest_is u ∙ ap (λ t. cond t false (has left u)) (eq-eqb u k q))
        ∙ ap (λ t. t && true) (ap (has mask) q ∙ v.member)
        ∙ sym (ap (λ t. cond t true (has mask u && not (has left u))) (eq-eqb u k q))
    more u (inr n) =
        ap (λ t. has mask u && not t) (v.rest_is u ∙ ap (λ t. cond t false (has left u)) (ne_eqb u k n))
        ∙ sym (ap (λ t. cond t true (has mask u && not (has left u))) (ne_eqb u k n))

-- what waits after the visit waited before it
pub still-waits : (left rest k : ℕ) → ((u : ℕ) → has rest u ≡ cond (u == k) false (has left u)) → (u : ℕ) → has rest u ≡ true → has left u ≡ true
still-waits left rest k h u e = go (u == k) (sym (h u) ∙ e)
  where
    go : (t : Bool) → cond t false (has left u) ≡ true → has left u ≡ true
    go true q = absurd (both_ways false refl q)
    go false q = q

-- a place of one row or column, in a square of such rows
pub cell-within : (r u n : ℕ) → r < n → u < n → r * n + u < n * n
cell-within r u n p q = mul-add-lt r n u n p q

up-to-more : (u k : ℕ) → nat_lt u (k + 1) ≡ cond (u == k) true (nat_lt u k)
up-to-more u k = grind (arith, nat_tests)

-- the next of all lanes
pub record Next (k : ℕ) (place : ℕ → ℕ) (becomes : ℕ → Option ℕ → Option ℕ) (now next : List (Option ℕ)) (moved after : ℕ) (flag : Bool) : Type 0 where
  pub apart : (u : ℕ) → u < k → place u ≢ place k
  pub within : place k < length now
  pub is : next ≡ set now (place k) (becomes k (get_or now (place k) None))
  pub told : (flag ≡ true) ↔ (get_or next (place k) None ≢ get_or now (place k) None)
  pub after_is : (u : ℕ) → has after u ≡ cond (u == k) (flag || has moved k) (has moved u)

pub next-lane : (k : ℕ) (place : ℕ → ℕ) (becomes : ℕ → Option ℕ → Option ℕ) (old now next : List (Option ℕ)) (moved after : ℕ) (flag : Bool)
    → AreChanged (λ u. nat_lt u k) place becomes old now moved → Next k place becomes now next moved after flag
    → AreChanged (λ u. nat_lt u (k + 1)) place becomes old next after
next-lane k place becomes old now next moved after flag h v =
    change-more (λ u. nat_lt u k) (λ u. nat_lt u (k + 1)) place becomes old now next moved after k flag h (record {
      fresh = le-ltb k k (omega arith);
      more_is = λ u. up-to-more u k;
      apart = λ u e. v.apart u (ltb-true u k e);
      within = v.within;
      is = v.is;
      told = v.told;
      after_is = v.after_is;
    })

pub no-lane : (place : ℕ → ℕ) (becomes : ℕ → Option ℕ → Option ℕ) (old : List (Option ℕ)) → AreChanged (λ u. nat_lt u 0) place becomes old old 0
no-lane place becomes old = change-none (λ u. nat_lt u 0) place becomes old (λ u. le-ltb u 0 (omega arith))
