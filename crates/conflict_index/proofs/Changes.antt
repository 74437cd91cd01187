-- Points that change at one place after another.
use Rattle.std.proofs.Common.{◌≡◌, ◌≢◌, ℕ, ◌<◌, Bool, true, false, cond, ◌||◌, ◌==◌, List, length, get_or, set, length-set, Option, None, refl, sym, ap, ◌∙◌, ◌⊎◌, inl, inr, ◌↔◌}
use Rattle.std.proofs.lemmas.Bool.{cases_eq, both_ways, eq-eqb, ne_eqb}
use Rattle.std.proofs.lemmas.List.{get_or-set_same, get_or-set_other}
use Rattle.conflict_index.specs.Masks.{has}
use Rattle.conflict_index.specs.Kept.{AreChanged}
use Rattle.conflict_index.proofs.MaskLaws.{has-none}

-- before the first
pub change-none : (done : ℕ → Bool) (place : ℕ → ℕ) (becomes : ℕ → Option ℕ → Option ℕ) (old : List (Option ℕ)) → ((u : ℕ) → done u ≡ false) → AreChanged done place becomes old old 0
change-none done place becomes old h = record {
  long = refl;
  changed = λ u e. absurd (both_ways (done u) (h u) e);
  others = λ at f. refl;
  moves = λ u. ((λ e. absurd (both_ways (has 0 u) (has-none u) e)), λ p. absurd (both_ways (done u) (h u) p.0));
}

-- of the same lanes, told by another test
pub change-like : (done same : ℕ → Bool) (place : ℕ → ℕ) (becomes : ℕ → Option ℕ → Option ℕ) (old new : List (Option ℕ)) (moved : ℕ)
    → ((u : ℕ) → same u ≡ done u) → AreChanged done place becomes old new moved → AreChanged same place becomes old new moved
change-like done same place becomes old new moved e h = record {
  long = h.long;
  changed = λ u t. h.changed u (sym (e u) ∙ t);
  others = λ at f. h.others at (λ u t. f u (e u ∙ t));
  moves = λ u. ((λ t. let p = (h.moves u).0 t in (e u ∙ p.0, p.1)), λ p. (h.moves u).1 (sym (e u) ∙ p.0, p.1));
}

-- one lane more, whose place is no other's
pub record OneMore (done more : ℕ → Bool) (place : ℕ → ℕ) (becomes : ℕ → Option ℕ → Option ℕ) (now next : List (Option ℕ)) (moved after k : ℕ) (flag : Bool) : Type 0 where
  pub fresh : done k ≡ false
  pub more_is : (u : ℕ) → more u ≡ cond (u == k) true (done u)
  pub apart : (u : ℕ) → done u ≡ true → place u ≢ place k
  pub within : place k < length now
  pub is : next ≡ set now (place k) (becomes k (get_or now (place k) None))
  pub told : (flag ≡ true) ↔ (get_or next (place k) None ≢ get_or now (place k) None)
  pub after_is : (u : ℕ) → has after u ≡ cond (u == k) (flag || has moved k) (has moved u)

pub change-more : (done more : ℕ → Bool) (place : ℕ → ℕ) (becomes : ℕ → Option ℕ → Option ℕ) (old now next : List (Option ℕ)) (moved after k : ℕ) (flag : Bool)
    → AreChanged done place becomes old now moved → OneMore done more place becomes now next moved after k flag → AreChanged more place becomes old next after
change-more done more place becomes old now next moved after k flag h g = record {
  long = ap length g.is ∙ length-set now (place k) _ ∙ h.long;
  changed = λ u e. lane u (cases_eq u k) e;
  others = λ at f. apart-from at f;
  moves = λ u. moves u (cases_eq u k);
}
  where
    -- the place of the lane was as at first
    same : get_or now (place k) None ≡ get_or old (place k) None
    same = h.others (place k) g.apart

    at-k : get_or next (place k) None ≡ becomes k (get_or old (place k) None)
    at-k = ap (λ xs. get_or xs (place k) None) g.is ∙ get_or-set_same now (place k) _ None g.within ∙ ap (becomes k) same

    was : (u : ℕ) → u ≢ k → more u ≡ true → done u ≡ true
    was u n e = sym (ap (λ t. cond t true (done u)) (ne_eqb u k n)) ∙ sym (g.more_is u) ∙ e

    at-other : (u : ℕ) → place u ≢ place k → get_or next (place u) None ≡ get_or now (place u) None
    at-other u n = ap (λ xs. get_or xs (place u) None) g.is ∙ get_or-set_other now (place k) (place u) _ None n

    lane : (u : ℕ) → (u ≡ k) ⊎ (u ≢ k) → more u ≡ true → get_or next (place u) None ≡ becomes u (get_or old (place u) None)
    lane u (inl q) e = rw q at-k
    lane u (inr n) e = at-other u (g.apart u (was u n e)) ∙ h.changed u (was u n e)

    unmoved : (t : Bool) → has moved k ≡ t → has moved k ≡ false
    unmoved false e = e
    unmoved true e = absurd (both_ways (done k) g.fresh ((h.moves k).0 e).0)

    here-is : (t : Bool) → has moved k ≡ false → (t || has moved k) ≡ t
    here-is true e = refl
    here-is false e = e

    here : has after k ≡ flag
    here = g.after_is k ∙ ap (λ t. cond t (flag || has moved k) (has moved k)) (eq-eqb k k refl) ∙ here-is flag (unmoved (has moved k) refl)

    there : (u : ℕ) → u ≢ k → has after u ≡ has moved u
    there u n = g.after_is u ∙ ap (λ t. cond t (flag || has moved k) (has moved u)) (ne_eqb u k n)

    is-more : more k ≡ true
    is-more = g.more_is k ∙ ap (λ t. cond t true (done k)) (eq-eqb k k refl)

    still : (u : ℕ) → u ≢ k → done u ≡ true → more u ≡ true
    still u n e = g.more_is u ∙ ap (λ t. cond t true (done u)) (ne_eqb u k n) ∙ e

    any : (u : ℕ) → (u ≡ k) ⊎ (u ≢ k) → done u ≡ true → more u ≡ true
    any u (inl q) e = rw q is-more
    any u (inr n) e = still u n e

    apart-from : (at : ℕ) → ((u : ℕ) → more u ≡ true → place u ≢ at) → get_or next at None ≡ get_or old at None
    apart-from at f =
        ap (λ xs. get_or xs at None) g.is
        ∙ get_or-set_other now (place k) at _ None (λ q. f k is-more (sym q))
        ∙ h.others at (λ u e. f u (any u (cases_eq u k) e))

    moves : (u : ℕ) → (u ≡ k) ⊎ (u ≢ k) → (has after u ≡ true) ↔ ((more u ≡ true) × (get_or next (place u) None ≢ get_or old (place u) None))
    moves u (inl q) = rw q (
      (λ e. (is-more, λ s. g.told.0 (sym here ∙ e) (s ∙ sym same))),
      λ p. here ∙ g.told.1 (λ s. p.1 (s ∙ same)),
    )
    moves u (inr n) = (
      (λ e. let p = (h.moves u).0 (sym (there u n) ∙ e) in (still u n p.0, λ s. p.1 (sym (at-other u (g.apart u p.0)) ∙ s))),
      λ p. let d = was u n p.0 in there u n ∙ (h.moves u).1 (d, λ s. p.1 (at-other u (g.apart u d) ∙ s)),
    )
