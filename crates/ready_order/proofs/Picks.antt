-- The pick, one row more, and where there is none.
use Rattle.std.proofs.Common.{◌≡◌, ℕ, ◌+◌, ◌<◌, Bool, true, false, cond, List, [], ◌∷◌, ◌++◌, length, take, filter, get_or, Option, Some, None, option_map, option_to_list, refl, sym, ap, ◌∙◌, arith, append-nil, ◌↔◌}
use Rattle.std.specs.Cmp.{IsStrictWeakOrder}
use Rattle.std.specs.List.{AllByRecursion}
use Rattle.std.proofs.lemmas.Bool.Decides.{nat_tests}
use Rattle.std.proofs.lemmas.List.{take_more}
use Rattle.block_rule.specs.declared.role.Row.{Row}
use Rattle.forest_model.specs.Choose.{first_by}
use Rattle.forest_model.specs.Pick.{pick_of, is_earlier, is_ready}
use Rattle.forest_model.proofs.FirstLaws.{first_with, first_by-push}

earlier_order : IsStrictWeakOrder is_earlier
earlier_order = record {
  one_way = λ a b h. grind (arith, nat_tests);
  chain = λ a b c g h. grind (arith, nat_tests);
}

first-with : (o : Option Row) (row : Row) → first_by is_earlier (option_to_list o ++ row ∷ []) ≡ first_with is_earlier o row
first-with None row = refl
first-with (Some best) row = refl

filter-push : {X : Type 0} (test : X → Bool) (xs : List X) (x : X) → filter test (xs ++ x ∷ []) ≡ filter test xs ++ cond (test x) (x ∷ []) []
filter-push test [] x = refl
filter-push test (y ∷ ys) x = go (test y) (filter-push test ys x)
  where
    go : (t : Bool) → filter test (ys ++ x ∷ []) ≡ filter test ys ++ cond (test x) (x ∷ []) []
        → cond t (y ∷ filter test (ys ++ x ∷ [])) (filter test (ys ++ x ∷ [])) ≡ cond t (y ∷ filter test ys) (filter test ys) ++ cond (test x) (x ∷ []) []
    go true h = ap (λ zs. y ∷ zs) h
    go false h = h

-- a ready row more
pub picks-ready : (rows : List Row) (row : Row) → is_ready row ≡ true → pick_of (rows ++ row ∷ []) ≡ first_by is_earlier (option_to_list (pick_of rows) ++ row ∷ [])
picks-ready rows row e =
    let more : filter is_ready (rows ++ row ∷ []) ≡ filter is_ready rows ++ row ∷ [] = filter-push is_ready rows row ∙ rw e refl in
    ap (first_by is_earlier) more ∙ first_by-push is_earlier earlier_order (filter is_ready rows) row ∙ sym (first-with (pick_of rows) row)

-- a row more that is not ready
pub picks-other : (rows : List Row) (row : Row) → is_ready row ≡ false → pick_of (rows ++ row ∷ []) ≡ pick_of rows
picks-other rows row e =
    let more : filter is_ready (rows ++ row ∷ []) ≡ filter is_ready rows ++ [] = filter-push is_ready rows row ∙ rw e refl in
    ap (first_by is_earlier) (more ∙ append-nil (filter is_ready rows))

-- there is none exactly where none is ready
pub none-ready : {X : Type 0} (f : Row → X) (rows : List Row) → (option_map f (pick_of rows) ≡ None) ↔ AllByRecursion (λ row. is_ready row ≡ false) rows
none-ready f [] = ((λ h. tt), λ h. refl)
none-ready {X = X} f (row ∷ rows) = go (is_ready row) (none-ready f rows)
  where
    go : (t : Bool) → (option_map f (pick_of rows) ≡ None) ↔ AllByRecursion (λ row. is_ready row ≡ false) rows
        → (option_map f (first_by is_earlier (cond t (row ∷ filter is_ready rows) (filter is_ready rows))) ≡ None) ↔ ((t ≡ false) × AllByRecursion (λ row. is_ready row ≡ false) rows)
    go true rest = ((λ h. cc), λ h. let e = h.0 in cc)
    go false rest = ((λ h. (refl, rest.0 h)), λ h. rest.1 h.1)

-- the pick of one row more of a list
pub picks-more : (best new : Option Row) (rows : List Row) (i : ℕ) (d : Row) (t : Bool) → i < length rows → is_ready (get_or rows i d) ≡ t
    → new ≡ cond t (first_by is_earlier (option_to_list best ++ get_or rows i d ∷ [])) best → best ≡ pick_of (take i rows) → new ≡ pick_of (take (i + 1) rows)
picks-more best new rows i d true lt e is h =
    is ∙ ap (λ o. first_by is_earlier (option_to_list o ++ get_or rows i d ∷ [])) h ∙ sym (ap pick_of (take_more rows i d lt) ∙ picks-ready (take i rows) (get_or rows i d) e)
picks-more best new rows i d false lt e is h = is ∙ h ∙ sym (ap pick_of (take_more rows i d lt) ∙ picks-other (take i rows) (get_or rows i d) e)
