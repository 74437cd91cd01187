-- The furthest up to a limit, one shadow more, and where there is none.
use Rattle.std.proofs.Common.{◌≡◌, ℕ, ◌+◌, ◌<◌, ◌≤◌, Bool, true, false, ◌||◌, cond, List, [], ◌∷◌, ◌++◌, length, take, filter, get_or, leb, Option, Some, None, option_to_list, refl, sym, ◌∙◌, arith, ◌↔◌}
use Rattle.std.specs.Cmp.{IsStrictWeakOrder}
use Rattle.std.specs.List.{AllByRecursion, list_any}
use Rattle.std.proofs.lemmas.Bool.{leb-true, and_parts}
use Rattle.std.proofs.lemmas.Bool.Decides.{nat_tests}
use Rattle.block_rule.specs.declared.role.Origin.TheVariants.{Fresh}
use Rattle.forest_model.specs.Choose.{first_by}
use Rattle.forest_model.specs.Origin.{Placed, is_further, furthest, from_found, successor, waits_for, is_kept}
use Rattle.forest_model.proofs.FirstLaws.{first_with, first_by_more}

further_order : IsStrictWeakOrder is_further
further_order = record {
  one_way = λ a b h. grind (arith, nat_tests);
  chain = λ a b c g h. grind (arith, nat_tests);
}

first-with : (o : Option Placed) (x : Placed) → first_by is_further (option_to_list o ++ x ∷ []) ≡ first_with is_further o x
first-with None x = refl
first-with (Some best) x = refl

-- the furthest of one shadow more of a list
pub furthest-more : (best new : Option Placed) (xs : List Placed) (limit i : ℕ) (d : Placed) (t : Bool) → i < length xs → leb (get_or xs i d).1 limit ≡ t
    → new ≡ cond t (first_by is_further (option_to_list best ++ get_or xs i d ∷ [])) best → best ≡ furthest (take i xs) limit → new ≡ furthest (take (i + 1) xs) limit
furthest-more best new xs limit i d true lt e is h =
    is ∙ first-with best (get_or xs i d) ∙ sym (first_by_more is_further further_order (λ (x : Placed). leb x.1 limit) xs i d lt ∙ rw (e, ← h) refl)
furthest-more best new xs limit i d false lt e is h =
    is ∙ sym (first_by_more is_further further_order (λ (x : Placed). leb x.1 limit) xs i d lt ∙ rw (e, ← h) refl)

-- there is none exactly where all stand past the limit
pub fresh-past : (xs : List Placed) (limit : ℕ) → (successor xs limit ≡ Fresh) ↔ AllByRecursion (λ (x : Placed). limit < x.1) xs
fresh-past [] limit = ((λ h. tt), λ h. refl)
fresh-past (x ∷ xs) limit = go (leb x.1 limit) refl (fresh-past xs limit)
  where
    go : (t : Bool) → leb x.1 limit ≡ t → (successor xs limit ≡ Fresh) ↔ AllByRecursion (λ (x : Placed). limit < x.1) xs
        → (from_found (first_by is_further (cond t (x ∷ filter (λ (x : Placed). leb x.1 limit) xs) (filter (λ (x : Placed). leb x.1 limit) xs))) ≡ Fresh) ↔ ((limit < x.1) × AllByRecursion (λ (x : Placed). limit < x.1) xs)
    go true e rest = ((λ h. cc), λ h. let lt = h.0 in let le : x.1 ≤ limit = grind (arith, nat_tests) in absurd (omega arith))
    go false e rest = ((λ h. (grind (arith, nat_tests), rest.0 h)), λ h. rest.1 h.1)

-- one that is kept does not stand past the point
pub kept-before : (u p : ℕ) (xs : List Placed) → list_any (is_kept u p) xs ≡ true → AllByRecursion (λ (x : Placed). p < x.1) xs → ⊥
kept-before u p [] h all = cc
kept-before u p (x ∷ xs) h all = go (is_kept u p x) refl h (λ k. kept-before u p xs k all.1)
  where
    go : (t : Bool) → is_kept u p x ≡ t → t || list_any (is_kept u p) xs ≡ true → (list_any (is_kept u p) xs ≡ true → ⊥) → ⊥
    go true e h rest = let le : x.1 ≤ p = leb-true x.1 p (and_parts (waits_for u x.0) (leb x.1 p) e).1 in omega (arith, all.0)
    go false e h rest = rest h
