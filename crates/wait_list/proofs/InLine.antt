-- Those that wait in their order by deadline, and the same in the order of numbers.
use Rattle.std.proofs.Common.{◌≡◌, ◌<◌, Bool, true, false, not, List, [], ◌∷◌, ◌++◌, filter, length, ℕ, Option, Some, None, ◌↔◌, option_map, slice_get, refl, ap, sym, ◌∙◌, arith}
use Rattle.std.specs.List.{AllByRecursion}
use Rattle.std.specs.Set.{remove_key}
use Rattle.std.specs.BTreeMap.{is_at}
use Rattle.std.specs.BTreeSet.{insert_key}
use Rattle.std.specs.Ordering.{match_ordering}
use Rattle.std.specs.declared.cmp.Ordering.{Ordering}
use Rattle.std.specs.declared.cmp.Ordering.TheVariants.{Less, Equal, Greater}
use Rattle.std.proofs.lemmas.Bool.{cases_Bool}
use Rattle.std.proofs.lemmas.Bool.Decides.{nat_tests}
use Rattle.std.proofs.lemmas.Map.Keys.{sorted_head, sorted_tail}
use Rattle.forest_model.specs.Choose.{put_in_order, first_by}
use Rattle.forest_model.proofs.Lists.{either, all-weaken}
use Rattle.wait_list.specs.Waiting.{Waiting, comes_first, is_lower, is_same, by_number, in_line, AreInLine}
use Rattle.wait_list.proofs.ByNumber.{all-put_back, all-by_number, put-last, put-before_last, first-put, up-by_number, filter-put}

less_first : (x y : Waiting) → in_line x y ≡ Less → comes_first x y ≡ true
less_first x y h = grind (arith, nat_tests)

equal_number : (x y : Waiting) → in_line x y ≡ Equal → x.1 ≡ y.1
equal_number x y h = grind (arith, nat_tests)

same_at : (k x : Waiting) → is_same x k ≡ is_at (in_line k) x
same_at k x = grind (arith, nat_tests)

-- one more, with a greater number than all
pub numbers-insert : (ws : List Waiting) (k : Waiting) → AllByRecursion (λ w. w.1 < k.1) (by_number ws) → by_number (insert_key in_line ws k) ≡ by_number ws ++ k ∷ []
numbers-insert [] k all = refl
numbers-insert (x ∷ ws) k all =
    let parts : (x.1 < k.1) × AllByRecursion (λ w. w.1 < k.1) (by_number ws) = all-put_back (λ w. w.1 < k.1) is_lower x (by_number ws) all in
    go (in_line k x) refl parts.0 (numbers-insert ws k parts.1)
  where
    go : (o : Ordering) → in_line k x ≡ o → x.1 < k.1 → by_number (insert_key in_line ws k) ≡ by_number ws ++ k ∷ []
        → by_number (match_ordering o (k ∷ x ∷ ws) (x ∷ ws) (x ∷ insert_key in_line ws k)) ≡ by_number (x ∷ ws) ++ k ∷ []
    go Less e lt more = put-last k (by_number (x ∷ ws)) all
    go Equal e lt more = let same : k.1 ≡ x.1 = equal_number k x e in absurd (omega (arith, lt, same))
    go Greater e lt more =
        let after : is_lower k x ≡ false = grind (arith, nat_tests) in
        ap (put_in_order is_lower x) more ∙ put-before_last x k (by_number ws) after

-- the one in front comes first
pub first-in_line : (k : Waiting) (ws : List Waiting) → AreInLine (k ∷ ws) → first_by comes_first (by_number (k ∷ ws)) ≡ Some k
first-in_line k ws h =
    first-put k (by_number ws)
    (all-by_number (λ w. comes_first k w ≡ true) ws
    (all-weaken (λ w. in_line k w ≡ Less) (λ w. comes_first k w ≡ true) (λ w e. less_first k w e) ws (sorted_head in_line k ws h)))

pub front-first : (k : Waiting) (ws : List Waiting) → slice_get ws 0 ≡ Some k → AreInLine ws → option_map (λ (w : Waiting). w.1) (first_by comes_first (by_number ws)) ≡ Some k.1
front-first k [] e h = cc
front-first k (w ∷ ws) e h =
    let same : w ≡ k = let there : Some w ≡ Some k = e in cc in
    ap (option_map (λ (v : Waiting). v.1)) (first-in_line w ws h) ∙ ap (λ (v : Waiting). Some v.1) same

pub empty-nobody : (keys : List Waiting) → (0 < length keys → ⊥) → None ≡ option_map (λ (w : Waiting). w.1) (first_by comes_first (by_number keys))
empty-nobody [] h = refl
empty-nobody (w ∷ ws) h = absurd (h (omega arith))

-- an answer that tells who is first is none exactly where nobody waits
pub none-nobody : (answer : Option ℕ) (ws : List Waiting) → answer ≡ option_map (λ (w : Waiting). w.1) (first_by comes_first ws) → (answer ≡ None) ↔ (ws ≡ [])
none-nobody answer [] h = ((λ e. refl), λ e. h)
none-nobody answer (w ∷ ws) h = ((λ e. let no = sym h ∙ e in cc), λ e. cc)

filter-keeps : {X : Type 0} (test : X → Bool) (xs : List X) → AllByRecursion (λ x. test x ≡ true) xs → filter test xs ≡ xs
filter-keeps test [] all = refl
filter-keeps test (x ∷ xs) all = rw (all.0) (ap (λ ys. x ∷ ys) (filter-keeps test xs all.1))

-- one less
pub numbers-remove : (ws : List Waiting) (k : Waiting) → AreInLine ws → by_number (remove_key (is_at (in_line k)) ws) ≡ filter (λ w. not (is_same w k)) (by_number ws)
numbers-remove [] k h = refl
numbers-remove (x ∷ ws) k h =
    either (cases_Bool (is_same x k))
    (λ e.
    let at : is_at (in_line k) x ≡ true = sym (same_at k x) ∙ e in
    let off : not (is_same x k) ≡ false = ap not e in
    let stay : AllByRecursion (λ w. not (is_same w k) ≡ true) (by_number ws) =
    all-by_number (λ w. not (is_same w k) ≡ true) ws
    (all-weaken (λ w. in_line x w ≡ Less) (λ w. not (is_same w k) ≡ true) (λ w l. others w e l) ws (sorted_head in_line x ws h))
    in
    rw at (sym (filter-put (λ w. not (is_same w k)) x (by_number ws) (up-by_number ws) ∙ rw off (filter-keeps (λ w. not (is_same w k)) (by_number ws) stay))))
    (λ e.
    let at : is_at (in_line k) x ≡ false = sym (same_at k x) ∙ e in
    let on : not (is_same x k) ≡ true = ap not e in
    rw at (ap (put_in_order is_lower x) (numbers-remove ws k (sorted_tail in_line x ws h)) ∙ sym (filter-put (λ w. not (is_same w k)) x (by_number ws) (up-by_number ws) ∙ rw on refl)))
  where
    others : (w : Waiting) → is_same x k ≡ true → in_line x w ≡ Less → not (is_same w k) ≡ true
    others w e l = grind (arith, nat_tests)
