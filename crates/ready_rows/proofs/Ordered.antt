-- Rows in order: one more, one less, and the first.
use Rattle.std.proofs.Common.{◌≡◌, ℕ, zero, suc, ◌+◌, ◌<◌, ◌≤◌, Bool, true, false, cond, not, nat_lt, ◌||◌, List, [], ◌∷◌, length, get_or, filter, Some, None, refl, sym, ap, ◌∙◌, arith}
use Rattle.std.specs.List.{AllByRecursion, list_any, insert, remove, position, position_or_len}
use Rattle.std.specs.List.Sorted.{IsPartitionPoint, IsPartitionedBy}
use Rattle.std.specs.Prelude.{slice_get}
use Rattle.std.specs.Cmp.{IsStrictWeakOrder}
use Rattle.std.proofs.lemmas.Bool.{both_ways}
use Rattle.std.proofs.lemmas.Bool.Decides.{nat_tests}
use Rattle.forest_model.proofs.StartedLaws.{all-put, length-put}
use Rattle.block_rule.specs.declared.role.Row.{Row}
use Rattle.forest_model.specs.Choose.{put_in_order, first_by, earlier_of}
use Rattle.forest_model.specs.Pick.{pick_of, is_earlier, is_ready}
use Rattle.ready_rows.specs.Rows.{is_at, IsInOrder, AreApart, AreReady}

pub earlier_order : IsStrictWeakOrder is_earlier
earlier_order = record {
  one_way = λ a b h. grind (arith, nat_tests);
  chain = λ a b c g h. grind (arith, nat_tests);
}

through : (a b c : Row) → is_earlier a b ≡ true → is_earlier b c ≡ true → is_earlier a c ≡ true
through a b c g h = go (is_earlier a c) refl
  where
    go : (t : Bool) → is_earlier a c ≡ t → is_earlier a c ≡ true
    go true e = e
    go false e = absurd (both_ways (is_earlier b c) (earlier_order.chain b a c (earlier_order.one_way a b g) e) h)

-- of the rows of two shadows one is the earlier
pub other-way : (a b : Row) → is_at a.txn a.place b ≡ false → is_earlier b a ≡ false → is_earlier a b ≡ true
other-way a b n h = grind (arith, nat_tests)

pub at-both : (a b : Row) → is_at a.txn a.place b ≡ false → is_at b.txn b.place a ≡ false
at-both a b n = grind (arith, nat_tests)

all-at : {X : Type 0} (P : X → Type 0) (xs : List X) (i : ℕ) (d : X) → i < length xs → AllByRecursion P xs → P (get_or xs i d)
all-at P [] i d l h = absurd (omega arith)
all-at P (x ∷ xs) zero d l h = h.0
all-at P (x ∷ xs) (suc i) d l h = all-at P xs i d (omega arith) h.1

-- those that come before a row stand in front
pub parted : (row : Row) (rows : List Row) → IsInOrder rows → IsPartitionedBy (λ other. is_earlier other row) rows
parted row [] order i j d g l e = absurd (omega arith)
parted row (y ∷ ys) order zero zero d g l e = e
parted row (y ∷ ys) order zero (suc j) d g l e = through y (get_or ys j d) row (all-at (λ o. is_earlier y o ≡ true) ys j d (omega arith) order.0) e
parted row (y ∷ ys) order (suc i) zero d g l e = absurd (omega arith)
parted row (y ∷ ys) order (suc i) (suc j) d g l e = parted row ys order.1 i j d (omega arith) (omega arith) e

tail : (row y : Row) (ys : List Row) (i : ℕ) → IsPartitionPoint (λ o. is_earlier o row ≡ true) (λ o. is_earlier o row ≡ false) (y ∷ ys) (suc i) → IsPartitionPoint (λ o. is_earlier o row ≡ true) (λ o. is_earlier o row ≡ false) ys i
tail row y ys i h = (λ k d low high. h.0 (suc k) d (omega arith) (omega (arith, high)), λ k d low high. h.1 (suc k) d (omega (arith, low)) (omega (arith, high)))

-- a row that is put in order stands where halving ends
pub put-inserts : (row : Row) (rows : List Row) (i : ℕ) → i ≤ length rows → IsPartitionPoint (λ o. is_earlier o row ≡ true) (λ o. is_earlier o row ≡ false) rows i → put_in_order is_earlier row rows ≡ insert rows i row
put-inserts row [] zero l h = refl
put-inserts row [] (suc i) l h = absurd (omega arith)
put-inserts row (y ∷ ys) zero l h = rw (h.1 0 y (omega arith) (omega arith)) refl
put-inserts row (y ∷ ys) (suc i) l h = rw (h.0 0 y (omega arith) (omega arith)) (ap (λ zs. y ∷ zs) (put-inserts row ys i (omega arith) (tail row y ys i h)))

behind : (row y : Row) (ys : List Row) → is_earlier row y ≡ true → AllByRecursion (λ o. is_earlier y o ≡ true) ys → AllByRecursion (λ o. is_earlier row o ≡ true) ys
behind row y [] e h = tt
behind row y (z ∷ zs) e h = (through row y z e h.0, behind row y zs e h.1)

put-order : (row : Row) (rows : List Row) → IsInOrder rows → AllByRecursion (λ o. is_at row.txn row.place o ≡ false) rows → IsInOrder (put_in_order is_earlier row rows)
put-order row [] h n = (tt, tt)
put-order row (y ∷ ys) h n = go (is_earlier y row) refl (put-order row ys h.1 n.1)
  where
    go : (t : Bool) → is_earlier y row ≡ t → IsInOrder (put_in_order is_earlier row ys) → IsInOrder (cond t (y ∷ put_in_order is_earlier row ys) (row ∷ y ∷ ys))
    go true e r = (all-put (λ o. is_earlier y o ≡ true) is_earlier row ys e h.0, r)
    go false e r = let b = other-way row y n.0 e in ((b, behind row y ys b h.0), h)

put-apart : (row : Row) (rows : List Row) → AreApart rows → AllByRecursion (λ o. is_at row.txn row.place o ≡ false) rows → AreApart (put_in_order is_earlier row rows)
put-apart row [] h n = (tt, tt)
put-apart row (y ∷ ys) h n = go (is_earlier y row) (put-apart row ys h.1 n.1)
  where
    go : (t : Bool) → AreApart (put_in_order is_earlier row ys) → AreApart (cond t (y ∷ put_in_order is_earlier row ys) (row ∷ y ∷ ys))
    go true r = (all-put (λ o. is_at y.txn y.place o ≡ false) is_earlier row ys (at-both row y n.0) h.0, r)
    go false r = (n, h)

-- the first of rows in order is their pick
pub keeps-ready : (rows : List Row) → AllByRecursion (λ row. is_ready row ≡ true) rows → filter is_ready rows ≡ rows
keeps-ready [] h = refl
keeps-ready (y ∷ ys) h = rw h.0 (ap (λ zs. y ∷ zs) (keeps-ready ys h.1))

first-head : (rows : List Row) → IsInOrder rows → first_by is_earlier rows ≡ slice_get rows 0
first-head [] h = refl
first-head (x ∷ []) h = refl
first-head (x ∷ y ∷ ys) h = ap (λ o. Some (earlier_of is_earlier x o)) (first-head (y ∷ ys) h.1) ∙ ap (λ t. Some (cond t y x)) (earlier_order.one_way x y h.0.0)

pub pick-head : (rows : List Row) → IsInOrder rows → AllByRecursion (λ row. is_ready row ≡ true) rows → pick_of rows ≡ slice_get rows 0
pick-head rows h r = ap (first_by is_earlier) (keeps-ready rows r) ∙ first-head rows h

-- without the row of a shadow
pub filter-all : (P : Row → Type 0) (test : Row → Bool) (rows : List Row) → AllByRecursion P rows → AllByRecursion P (filter test rows)
filter-all P test [] h = tt
filter-all P test (y ∷ ys) h = go (test y) (filter-all P test ys h.1)
  where
    go : (t : Bool) → AllByRecursion P (filter test ys) → AllByRecursion P (cond t (y ∷ filter test ys) (filter test ys))
    go true r = (h.0, r)
    go false r = r

filter-order : (test : Row → Bool) (rows : List Row) → IsInOrder rows → IsInOrder (filter test rows)
filter-order test [] h = tt
filter-order test (y ∷ ys) h = go (test y) (filter-order test ys h.1)
  where
    go : (t : Bool) → IsInOrder (filter test ys) → IsInOrder (cond t (y ∷ filter test ys) (filter test ys))
    go true r = (filter-all (λ o. is_earlier y o ≡ true) test ys h.0, r)
    go false r = r

pub filter-apart : (test : Row → Bool) (rows : List Row) → AreApart rows → AreApart (filter test rows)
filter-apart test [] h = tt
filter-apart test (y ∷ ys) h = go (test y) (filter-apart test ys h.1)
  where
    go : (t : Bool) → AreApart (filter test ys) → AreApart (cond t (y ∷ filter test ys) (filter test ys))
    go true r = (filter-all (λ o. is_at y.txn y.place o ≡ false) test ys h.0, r)
    go false r = r

filter-length : (test : Row → Bool) (rows : List Row) → length (filter test rows) ≤ length rows
filter-length test [] = omega arith
filter-length test (y ∷ ys) = go (test y) (filter-length test ys)
  where
    go : (t : Bool) → length (filter test ys) ≤ length ys → length (cond t (y ∷ filter test ys) (filter test ys)) ≤ suc (length ys)
    go true r = omega arith
    go false r = omega arith

-- where none is of the shadow, all stay
others-stay : (txn place : ℕ) (rows : List Row) → AllByRecursion (λ o. is_at txn place o ≡ false) rows → filter (λ row. not (is_at txn place row)) rows ≡ rows
others-stay txn place [] h = refl
others-stay txn place (y ∷ ys) h = rw h.0 (ap (λ zs. y ∷ zs) (others-stay txn place ys h.1))

same-at : (txn place : ℕ) (y : Row) (ys : List Row) → is_at txn place y ≡ true → AllByRecursion (λ o. is_at y.txn y.place o ≡ false) ys → AllByRecursion (λ o. is_at txn place o ≡ false) ys
same-at txn place y [] e h = tt
same-at txn place y (z ∷ zs) e h = (one txn place y z e h.0, same-at txn place y zs e h.1)
  where
    one : (t p : ℕ) (a b : Row) → is_at t p a ≡ true → is_at a.txn a.place b ≡ false → is_at t p b ≡ false
    one t p a b f g = grind (arith, nat_tests)

-- taking out the row at the first place of the shadow's takes out all of its rows
pub removed : (txn place : ℕ) (rows : List Row) → AreApart rows → list_any (is_at txn place) rows ≡ true
    → remove rows (position_or_len (is_at txn place) rows) ≡ filter (λ row. not (is_at txn place row)) rows
removed txn place [] h e = absurd (both_ways false refl e)
removed txn place (y ∷ ys) h any = go (is_at txn place y) refl (λ f. removed txn place ys h.1 f)
  where
    go : (t : Bool) → is_at txn place y ≡ t → (list_any (is_at txn place) ys ≡ true → remove ys (position_or_len (is_at txn place) ys) ≡ filter (λ row. not (is_at txn place row)) ys)
        → remove (y ∷ ys) (position_or_len (is_at txn place) (y ∷ ys)) ≡ filter (λ row. not (is_at txn place row)) (y ∷ ys)
    go true f rest = rw f (sym (others-stay txn place ys (same-at txn place y ys f h.0)))
    go false f rest = let e : 1 + position_or_len (is_at txn place) ys ≡ suc (position_or_len (is_at txn place) ys) = omega arith in rw (f, e) (ap (λ zs. y ∷ zs) (rest (sym (ap (λ t. t || list_any (is_at txn place) ys) f) ∙ any)))

-- where no row is of the shadow, all stay
pub none-leaves : (txn place : ℕ) (rows : List Row) → list_any (is_at txn place) rows ≡ false → filter (λ row. not (is_at txn place row)) rows ≡ rows
none-leaves txn place [] e = refl
none-leaves txn place (y ∷ ys) e = go (is_at txn place y) refl (λ f. none-leaves txn place ys f)
  where
    go : (t : Bool) → is_at txn place y ≡ t → (list_any (is_at txn place) ys ≡ false → filter (λ row. not (is_at txn place row)) ys ≡ ys) → filter (λ row. not (is_at txn place row)) (y ∷ ys) ≡ y ∷ ys
    go true f rest = absurd (both_ways (list_any (is_at txn place) (y ∷ ys)) e (ap (λ t. t || list_any (is_at txn place) ys) f))
    go false f rest = rw f (ap (λ zs. y ∷ zs) (rest (sym (ap (λ t. t || list_any (is_at txn place) ys) f) ∙ e)))

less-by-one : (k n : ℕ) → nat_lt (1 + k) (suc n) ≡ nat_lt k n
less-by-one k n = grind (arith, nat_tests)

front : (n : ℕ) → true ≡ nat_lt 0 (suc n)
front n = grind (arith, nat_tests)

-- a test passes somewhere exactly where the first place is within the rows
any-within : (p : Row → Bool) (rows : List Row) → list_any p rows ≡ nat_lt (position_or_len p rows) (length rows)
any-within p [] = refl
any-within p (y ∷ ys) = go (p y) refl (any-within p ys)
  where
    go : (t : Bool) → p y ≡ t → list_any p ys ≡ nat_lt (position_or_len p ys) (length ys) → list_any p (y ∷ ys) ≡ nat_lt (position_or_len p (y ∷ ys)) (length (y ∷ ys))
    go true f h = rw f (front (length ys))
    go false f h = rw f (h ∙ sym (less-by-one (position_or_len p ys) (length ys)))

-- the answer of a search for the first place
pub found-there : (p : Row → Bool) (rows : List Row) (at : ℕ) → position p rows ≡ Some at → (list_any p rows ≡ true) × (at ≡ position_or_len p rows)
found-there p rows at e = go (nat_lt (position_or_len p rows) (length rows)) (any-within p rows) e
  where
    go : (t : Bool) → list_any p rows ≡ t → cond t (Some (position_or_len p rows)) None ≡ Some at → (list_any p rows ≡ true) × (at ≡ position_or_len p rows)
    go true h q = (h, cc)
    go false h q = cc

pub found-none : (p : Row → Bool) (rows : List Row) → position p rows ≡ None → list_any p rows ≡ false
found-none p rows e = go (nat_lt (position_or_len p rows) (length rows)) (any-within p rows) e
  where
    go : (t : Bool) → list_any p rows ≡ t → cond t (Some (position_or_len p rows)) None ≡ None → list_any p rows ≡ false
    go true h q = cc
    go false h q = h

-- what is kept with one row more
pub put-kept : (room capacity larger : ℕ) (row : Row) (rows : List Row) → AreReady room capacity rows → capacity ≤ larger → length rows < room → is_ready row ≡ true → AllByRecursion (λ o. is_at row.txn row.place o ≡ false) rows
    → AreReady room larger (put_in_order is_earlier row rows)
put-kept room capacity larger row rows kept more fits ready new = record {
  fits = omega (arith, length-put is_earlier row rows);
  taken = omega (arith, kept.taken);
  order = put-order row rows kept.order new;
  ready = all-put (λ o. is_ready o ≡ true) is_earlier row rows ready kept.ready;
  apart = put-apart row rows kept.apart new;
}

-- and with some left out
pub filter-kept : (room capacity larger : ℕ) (test : Row → Bool) (rows : List Row) → AreReady room capacity rows → capacity ≤ larger → AreReady room larger (filter test rows)
filter-kept room capacity larger test rows kept more = record {
  fits = omega (arith, filter-length test rows, kept.fits);
  taken = omega (arith, kept.taken);
  order = filter-order test rows kept.order;
  ready = filter-all (λ o. is_ready o ≡ true) test rows kept.ready;
  apart = filter-apart test rows kept.apart;
}
