-- What is put in order into a list.
use Rattle.std.proofs.Common.{◌≡◌, ◌≢◌, ℕ, Bool, true, false, not, cond, ◌&&◌, ◌||◌, ◌==◌, nat_lt, List, [], ◌∷◌, ◌++◌, refl, sym, ap, ◌∙◌, arith}
use Rattle.std.specs.List.{AllByRecursion}
use Rattle.std.proofs.lemmas.Bool.{ne_eqb}
use Rattle.std.proofs.lemmas.Bool.Decides.{nat_tests}
use Rattle.conflict_index.specs.Index.{Read, Lane, is_read, is_sooner, put_in_order, with_read}

-- of two reads of different items one is sooner
sooner-one : (p i q j : ℕ) → i ≢ j → (nat_lt p q || (p == q && nat_lt i j)) ≡ not (nat_lt q p || (q == p && nat_lt j i))
sooner-one p i q j n = grind (arith, nat_tests)

-- what isn't sooner than another comes after all that is
sooner-between : (y a b : Read) → is_sooner y b ≡ true → is_sooner y a ≡ false → is_sooner a b ≡ true
sooner-between (p, i) (q, j) (r, k) e f = grind (arith, nat_tests)

-- two reads of different items may be put in either order
pub put-put : (a b : Read) (xs : List Read) → a.1 ≢ b.1 → put_in_order is_sooner a (put_in_order is_sooner b xs) ≡ put_in_order is_sooner b (put_in_order is_sooner a xs)
put-put a b [] n = go (is_sooner a b) (is_sooner b a) (sooner-one a.0 a.1 b.0 b.1 n)
  where
    go : (s t : Bool) → s ≡ not t → cond t (b ∷ a ∷ []) (a ∷ b ∷ []) ≡ cond s (a ∷ b ∷ []) (b ∷ a ∷ [])
    go true false e = refl
    go false true e = refl
    go true true e = cc
    go false false e = cc
put-put a b (y ∷ ys) n = go (is_sooner y a) (is_sooner y b) refl refl (put-put a b ys n)
  where
    one : is_sooner a b ≡ not (is_sooner b a)
    one = sooner-one a.0 a.1 b.0 b.1 n

    both : (s t : Bool) → s ≡ not t → cond t (b ∷ a ∷ y ∷ ys) (a ∷ b ∷ y ∷ ys) ≡ cond s (a ∷ b ∷ y ∷ ys) (b ∷ a ∷ y ∷ ys)
    both true false e = refl
    both false true e = refl
    both true true e = cc
    both false false e = cc

    go : (s t : Bool) → is_sooner y a ≡ s → is_sooner y b ≡ t
        → put_in_order is_sooner a (put_in_order is_sooner b ys) ≡ put_in_order is_sooner b (put_in_order is_sooner a ys)
        → put_in_order is_sooner a (cond t (y ∷ put_in_order is_sooner b ys) (b ∷ y ∷ ys)) ≡ put_in_order is_sooner b (cond s (y ∷ put_in_order is_sooner a ys) (a ∷ y ∷ ys))
    go true true e f h = rw (e, f) (ap (λ l. y ∷ l) h)
    go false true e f h = let g : is_sooner a b ≡ true = sooner-between y a b f e in rw (e, g, f) refl
    go true false e f h =
        let g : is_sooner b a ≡ true = sooner-between y b a e f in
        rw (f, g, e) refl
    go false false e f h = rw (e, f) (both (is_sooner a b) (is_sooner b a) one)

-- what comes after all of a list is put behind it
put-last : {X : Type 0} (P : X → Type 0) (before : X → X → Bool) (x : X) (xs : List X) → AllByRecursion (λ y. P y × (before y x ≡ true)) xs → put_in_order before x xs ≡ xs ++ x ∷ []
put-last P before x [] h = refl
put-last P before x (y ∷ ys) h = rw h.0.1 (ap (λ l. y ∷ l) (put-last P before x ys h.1))

-- where all reads are of other items, none is of this one
none-of : (Q : Read → Type 0) (item : ℕ) (xs : List Read) → AllByRecursion (λ r. (r.1 ≢ item) × Q r) xs → is_read xs item ≡ false
none-of Q item [] h = refl
none-of Q item (y ∷ ys) h = rw (ne_eqb item y.1 (λ e. h.0.0 (sym e))) (none-of Q item ys h.1)

-- a read of a new item that comes after all others is the last one
pub read-last : (lane : Lane) (read : Read) → AllByRecursion (λ r. (r.1 ≢ read.1) × (is_sooner r read ≡ true)) lane.reads → (with_read lane read).reads ≡ lane.reads ++ read ∷ []
read-last lane read h =
    ap (λ t. cond t lane.reads (put_in_order is_sooner read lane.reads)) (none-of (λ r. is_sooner r read ≡ true) read.1 lane.reads h)
    ∙ put-last (λ r. r.1 ≢ read.1) is_sooner read lane.reads h
