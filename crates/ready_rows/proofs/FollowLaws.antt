-- How rows in order follow any rows that are apart: their pick, one row more, one row less.
use Rattle.std.proofs.Common.{◌≡◌, Bool, true, false, cond, not, List, [], ◌∷◌, ◌++◌, filter, fold, Some, refl, sym, ap, ◌∙◌, arith, append_assoc, append-nil}
use Rattle.std.specs.List.{AllByRecursion}
use Rattle.std.proofs.lemmas.Bool.{both_ways}
use Rattle.std.proofs.lemmas.Bool.Decides.{nat_tests}
use Rattle.std.proofs.lemmas.List.Elements.{filter-append}
use Rattle.std.proofs.lemmas.List.Sums.{fold-append}
use Rattle.block_rule.specs.declared.role.Row.{Row}
use Rattle.forest_model.specs.Choose.{put_in_order, in_order, first_by, earlier_of}
use Rattle.forest_model.specs.Pick.{pick_of, is_earlier, is_ready}
use Rattle.forest_model.proofs.FirstLaws.{first_by-has, first_with, first_by-push}
use Rattle.forest_model.proofs.StartedLaws.{all-put}
use Rattle.ready_rows.specs.Rows.{is_at, AreApart}
use Rattle.ready_rows.proofs.Ordered.{earlier_order, other-way, at-both, filter-all, filter-apart, keeps-ready}

abbrev put : Row → List Row → List Row
put x rows = put_in_order is_earlier x rows

abbrev put_all : List Row → List Row → List Row
put_all done rows = fold (λ d x. put x d) done rows

abbrev AreOthers : Row → List Row → Type 0
AreOthers x rows = AllByRecursion (λ o. is_at x.txn x.place o ≡ false) rows

-- The first.

-- in front or behind, the earlier of two comes first
either-end : (m x : Row) → is_at x.txn x.place m ≡ false → Some (earlier_of is_earlier x (Some m)) ≡ first_with is_earlier (Some m) x
either-end m x n = go (is_earlier m x) (is_earlier x m) refl refl
  where
    go : (s t : Bool) → is_earlier m x ≡ s → is_earlier x m ≡ t → Some (cond s m x) ≡ Some (cond t x m)
    go true false e f = refl
    go false true e f = refl
    go true true e f = absurd (both_ways (is_earlier x m) (earlier_order.one_way m x e) f)
    go false false e f = absurd (both_ways (is_earlier x m) f (other-way x m n e))

first-put : (x : Row) (zs : List Row) → AreOthers x zs → first_by is_earlier (put x zs) ≡ first_by is_earlier (zs ++ x ∷ [])
first-put x [] h = refl
first-put x (z ∷ zs) h = go (is_earlier z x) (first-put x zs h.1)
  where
    go : (t : Bool) → first_by is_earlier (put x zs) ≡ first_by is_earlier (zs ++ x ∷ []) → first_by is_earlier (cond t (z ∷ put x zs) (x ∷ z ∷ zs)) ≡ first_by is_earlier (z ∷ (zs ++ x ∷ []))
    go true r = ap (λ o. Some (earlier_of is_earlier z o)) r
    go false r =
        either-end (earlier_of is_earlier z (first_by is_earlier zs)) x (first_by-has (λ o. is_at x.txn x.place o ≡ false) is_earlier (z ∷ zs) h)
        ∙ sym (first_by-push is_earlier earlier_order (z ∷ zs) x)

first-front : (us vs ws : List Row) → first_by is_earlier us ≡ first_by is_earlier vs → first_by is_earlier (us ++ ws) ≡ first_by is_earlier (vs ++ ws)
first-front us vs [] e = ap (first_by is_earlier) (append-nil us) ∙ e ∙ sym (ap (first_by is_earlier) (append-nil vs))
first-front us vs (w ∷ ws) e =
    ap (first_by is_earlier) (sym (append_assoc us (w ∷ []) ws))
    ∙ first-front (us ++ w ∷ []) (vs ++ w ∷ []) ws (first_by-push is_earlier earlier_order us w ∙ ap (λ o. first_with is_earlier o w) e ∙ sym (first_by-push is_earlier earlier_order vs w))
    ∙ ap (first_by is_earlier) (append_assoc vs (w ∷ []) ws)

new-put : (y : Row) (done ys : List Row) → AllByRecursion (λ z. AreOthers z done) ys → AreOthers y ys → AllByRecursion (λ z. AreOthers z (put y done)) ys
new-put y done [] h n = tt
new-put y done (z ∷ zs) h n = (all-put (λ o. is_at z.txn z.place o ≡ false) is_earlier y done (at-both y z n.0) h.0, new-put y done zs h.1 n.1)

first-all : (done ys : List Row) → AllByRecursion (λ z. AreOthers z done) ys → AreApart ys → first_by is_earlier (put_all done ys) ≡ first_by is_earlier (done ++ ys)
first-all done [] h a = ap (first_by is_earlier) (sym (append-nil done))
first-all done (y ∷ ys) h a =
    first-all (put y done) ys (new-put y done ys h.1 a.0) a.1
    ∙ first-front (put y done) (done ++ y ∷ []) ys (first-put y done h.0)
    ∙ ap (first_by is_earlier) (append_assoc done (y ∷ []) ys)

none-new : (ys : List Row) → AllByRecursion (λ z. AreOthers z []) ys
none-new [] = tt
none-new (y ∷ ys) = (tt, none-new ys)

put-keeps : (P : Row → Type 0) (done ys : List Row) → AllByRecursion P done → AllByRecursion P ys → AllByRecursion P (put_all done ys)
put-keeps P done [] d h = d
put-keeps P done (y ∷ ys) d h = put-keeps P (put y done) ys (all-put P is_earlier y done h.0 d) h.1

filtered : (test : Row → Bool) (rows : List Row) → AllByRecursion (λ o. test o ≡ true) (filter test rows)
filtered test [] = tt
filtered test (y ∷ ys) = go (test y) refl (filtered test ys)
  where
    go : (t : Bool) → test y ≡ t → AllByRecursion (λ o. test o ≡ true) (filter test ys) → AllByRecursion (λ o. test o ≡ true) (cond t (y ∷ filter test ys) (filter test ys))
    go true e r = (e, r)
    go false e r = r

-- the pick of rows is that of those that are ready, in order
pub pick-ordered : (rows : List Row) → AreApart rows → pick_of (in_order is_earlier (filter is_ready rows)) ≡ pick_of rows
pick-ordered rows a =
    ap (first_by is_earlier) (keeps-ready (in_order is_earlier (filter is_ready rows)) (put-keeps (λ o. is_ready o ≡ true) [] (filter is_ready rows) tt (filtered is_ready rows)))
    ∙ first-all [] (filter is_ready rows) (none-new (filter is_ready rows)) (filter-apart is_ready rows a)

-- One row more.

put-put : (a b : Row) (zs : List Row) → is_at a.txn a.place b ≡ false → put a (put b zs) ≡ put b (put a zs)
put-put a b [] n = go (is_earlier b a) (is_earlier a b) refl refl
  where
    go : (s t : Bool) → is_earlier b a ≡ s → is_earlier a b ≡ t → cond s (b ∷ a ∷ []) (a ∷ b ∷ []) ≡ cond t (a ∷ b ∷ []) (b ∷ a ∷ [])
    go true false e f = refl
    go false true e f = refl
    go true true e f = absurd (both_ways (is_earlier a b) (earlier_order.one_way b a e) f)
    go false false e f = absurd (both_ways (is_earlier a b) f (other-way a b n e))
put-put a b (y ∷ ys) n = go (is_earlier y a) (is_earlier y b) refl refl (put-put a b ys n)
  where
    both : (s t : Bool) → is_earlier b a ≡ s → is_earlier a b ≡ t → cond s (b ∷ a ∷ y ∷ ys) (a ∷ b ∷ y ∷ ys) ≡ cond t (a ∷ b ∷ y ∷ ys) (b ∷ a ∷ y ∷ ys)
    both true false e f = refl
    both false true e f = refl
    both true true e f = absurd (both_ways (is_earlier a b) (earlier_order.one_way b a e) f)
    both false false e f = absurd (both_ways (is_earlier a b) f (other-way a b n e))

    between : (c d : Row) → is_earlier y d ≡ true → is_earlier y c ≡ false → is_earlier c d ≡ true
    between c d e f = on (is_earlier c d) refl
      where
        on : (t : Bool) → is_earlier c d ≡ t → is_earlier c d ≡ true
        on true g = g
        on false g = absurd (both_ways (is_earlier y d) (earlier_order.chain y c d f g) e)

    go : (s t : Bool) → is_earlier y a ≡ s → is_earlier y b ≡ t → put a (put b ys) ≡ put b (put a ys)
        → put a (cond t (y ∷ put b ys) (b ∷ y ∷ ys)) ≡ put b (cond s (y ∷ put a ys) (a ∷ y ∷ ys))
    go true true e f h = rw (e, f) (ap (λ l. y ∷ l) h)
    go false true e f h = let g : is_earlier a b ≡ true = between a b f e in rw (e, g, f) refl
    go true false e f h = let g : is_earlier b a ≡ true = between b a e f in rw (f, g, e) refl
    go false false e f h = rw (e, f) (both (is_earlier b a) (is_earlier a b) refl refl)

put-first : (x : Row) (done ys : List Row) → AreOthers x ys → put_all (put x done) ys ≡ put x (put_all done ys)
put-first x done [] h = refl
put-first x done (y ∷ ys) h = ap (λ d. put_all d ys) (put-put y x done (at-both x y h.0)) ∙ put-first x (put y done) ys h.1

-- a ready row more, wherever it stands
pub put-ordered : (xs ys : List Row) (x : Row) → is_ready x ≡ true → AreOthers x ys
    → in_order is_earlier (filter is_ready (xs ++ x ∷ ys)) ≡ put x (in_order is_earlier (filter is_ready (xs ++ ys)))
put-ordered xs ys x e n =
    ap (put_all []) (filter-append is_ready xs (x ∷ ys) ∙ ap (λ t. filter is_ready xs ++ cond t (x ∷ filter is_ready ys) (filter is_ready ys)) e)
    ∙ fold-append (λ d y. put y d) [] (filter is_ready xs) (x ∷ filter is_ready ys)
    ∙ put-first x (put_all [] (filter is_ready xs)) (filter is_ready ys) (filter-all (λ o. is_at x.txn x.place o ≡ false) is_ready ys n)
    ∙ ap (put x) (sym (ap (put_all []) (filter-append is_ready xs ys) ∙ fold-append (λ d y. put y d) [] (filter is_ready xs) (filter is_ready ys)))

-- One row less.

others-pass : (x : Row) (zs : List Row) → AreOthers x zs → filter (λ row. not (is_at x.txn x.place row)) zs ≡ zs
others-pass x [] h = refl
others-pass x (z ∷ zs) h = rw h.0 (ap (λ l. z ∷ l) (others-pass x zs h.1))

itself : (x : Row) → is_at x.txn x.place x ≡ true
itself x = grind (arith, nat_tests)

out-put : (x : Row) (zs : List Row) → AreOthers x zs → filter (λ row. not (is_at x.txn x.place row)) (put x zs) ≡ zs
out-put x [] h = rw (itself x) refl
out-put x (z ∷ zs) h = go (is_earlier z x) (out-put x zs h.1) (others-pass x zs h.1)
  where
    go : (t : Bool) → filter (λ row. not (is_at x.txn x.place row)) (put x zs) ≡ zs → filter (λ row. not (is_at x.txn x.place row)) zs ≡ zs → filter (λ row. not (is_at x.txn x.place row)) (cond t (z ∷ put x zs) (x ∷ z ∷ zs)) ≡ z ∷ zs
    go true r s = rw h.0 (ap (λ l. z ∷ l) r)
    go false r s = rw (itself x, h.0) (ap (λ l. z ∷ l) s)

both-others : (x : Row) (xs ys : List Row) → AreOthers x xs → AreOthers x ys → AreOthers x (xs ++ ys)
both-others x [] ys h g = g
both-others x (y ∷ xs) ys h g = (h.0, both-others x xs ys h.1 g)

-- wherever the row of a shadow stands, without it there are those of the others
pub out-ordered : (xs ys : List Row) (x : Row) → AreOthers x xs → AreOthers x ys
    → filter (λ row. not (is_at x.txn x.place row)) (in_order is_earlier (filter is_ready (xs ++ x ∷ ys))) ≡ in_order is_earlier (filter is_ready (xs ++ ys))
out-ordered xs ys x h g = go (is_ready x) refl
  where
    left : AreOthers x (in_order is_earlier (filter is_ready (xs ++ ys)))
    left = put-keeps (λ o. is_at x.txn x.place o ≡ false) [] (filter is_ready (xs ++ ys)) tt (filter-all (λ o. is_at x.txn x.place o ≡ false) is_ready (xs ++ ys) (both-others x xs ys h g))

    go : (t : Bool) → is_ready x ≡ t → filter (λ row. not (is_at x.txn x.place row)) (in_order is_earlier (filter is_ready (xs ++ x ∷ ys))) ≡ in_order is_earlier (filter is_ready (xs ++ ys))
    go true e = ap (filter (λ row. not (is_at x.txn x.place row))) (put-ordered xs ys x e g) ∙ out-put x (in_order is_earlier (filter is_ready (xs ++ ys))) left
    go false e =
        ap (λ rows. filter (λ row. not (is_at x.txn x.place row)) (in_order is_earlier rows)) (filter-append is_ready xs (x ∷ ys) ∙ ap (λ t. filter is_ready xs ++ cond t (x ∷ filter is_ready ys) (filter is_ready ys)) e ∙ sym (filter-append is_ready xs ys))
        ∙ others-pass x (in_order is_earlier (filter is_ready (xs ++ ys))) left
