-- The places of reads by item, and what is found through them.
use Rattle.std.specs.Prelude.{◌≡◌, ◌≢◌, ℕ, zero, suc, ◌+◌, ◌<◌, ℤ, Bool, true, false, if◌then◌else◌, nat_eq, List, [], ◌∷◌, ◌++◌, Option, None, Some, length, get_or, set, take, slice_get}
use Rattle.std.proofs.Common.{refl, sym, ap, ◌∙◌, subst, arith}
use Rattle.txn_runs.specs.Run.{Read, logged}
use Rattle.txn_runs.specs.Reads.{IsFirst, IsLog}
use Rattle.access_sets.specs.Log.{Follows, AreBelow, ArePlaced, read_at, read_through}

get_set_same : (xs : List ℕ) (i v : ℕ) → i < length xs → slice_get (set xs i v) i ≡ Some v
get_set_same [] i v lt = absurd (omega arith)
get_set_same (x ∷ xs) zero v lt = refl
get_set_same (x ∷ xs) (suc i) v lt = get_set_same xs i v (omega arith)

get_set_other : (xs : List ℕ) (i j v : ℕ) → j ≢ i → slice_get (set xs i v) j ≡ slice_get xs j
get_set_other [] i j v ne = refl
get_set_other (x ∷ xs) zero zero v ne = absurd (ne refl)
get_set_other (x ∷ xs) zero (suc j) v ne = refl
get_set_other (x ∷ xs) (suc i) zero v ne = refl
get_set_other (x ∷ xs) (suc i) (suc j) v ne = get_set_other xs i j v (λ e. ne (ap suc e))

-- none of these reads is of the item
abbrev pub AreOther : List Read → ℕ → Type 0
AreOther [] item = Unit {0}
AreOther (r ∷ reads) item = (nat_eq r.1 item ≡ false) × AreOther reads item

pub others : (reads : List Read) (position item : ℕ) → Follows reads position item → AreOther reads item
others [] position item f = tt
others (r ∷ reads) position item f = (f.1, others reads position item f.2)

pub placed_push : (from : ℕ) (places : List ℕ) (reads : List Read) (r : Read) → ArePlaced from places reads → AreOther reads r.1 → r.1 < length places → ArePlaced from (set places r.1 (from + length reads)) (reads ++ r ∷ [])
placed_push from places [] r h o lt = (get_set_same places r.1 (from + 0) lt ∙ ap (λ n. Some n) (let e : from + 0 ≡ from = omega arith in e), tt)
placed_push from places (x ∷ reads) r h o lt =
    let ne : x.1 ≢ r.1 = grind (arith, o.0) in
    let rest = placed_push (suc from) places reads r h.1 o.1 lt in
    let same : suc from + length reads ≡ from + suc (length reads) = omega arith in
    (get_set_other places r.1 x.1 _ ne ∙ h.0, subst (λ n. ArePlaced (suc from) (set places r.1 n) (reads ++ r ∷ [])) same rest)

-- a log's places with one more
pub placed_end : (places : List ℕ) (reads : List Read) (r : Read) → ArePlaced 0 places reads → AreOther reads r.1 → r.1 < length places → ArePlaced 0 (set places r.1 (length reads)) (reads ++ r ∷ [])
placed_end places reads r h o lt =
    let same : 0 + length reads ≡ length reads = omega arith in
    subst (λ n. ArePlaced 0 (set places r.1 n) (reads ++ r ∷ [])) same (placed_push 0 places reads r h o lt)

-- the reads before one are of other items
first_other : (r q : Read) (reads : List Read) (i : ℕ) → IsFirst r reads → slice_get reads i ≡ Some q → nat_eq r.1 q.1 ≡ false
first_other r q [] i h is = cc
first_other r q (x ∷ reads) zero h is = let e : x ≡ q = cc in ap (λ y. nat_eq r.1 y.1) (sym e) ∙ h.1
first_other r q (x ∷ reads) (suc i) h is = first_other r q reads i h.2 is

-- what a read has read is what is logged of its item
logged_at : (reads : List Read) (i : ℕ) (r : Read) → IsLog reads → slice_get reads i ≡ Some r → logged reads r.1 ≡ Some r.2
logged_at [] i r h is = cc
logged_at (x ∷ reads) zero r h is =
    let same : x ≡ r = cc in
    let hit : nat_eq x.1 r.1 ≡ true = grind (arith, ap (λ (q : Read). q.1) same) in
    rw hit (ap (λ (q : Read). Some q.2) same)
logged_at (x ∷ reads) (suc i) r h is = rw (first_other x r reads i h.0 is) (logged_at reads i r h.1 is)

-- the read of an item, at the place that is noted there
record Found (from item : ℕ) (places : List ℕ) (reads : List Read) (v : ℤ) : Type 0 where
  place : ℕ
  r : Read
  noted : slice_get places item ≡ Some (from + place)
  is : slice_get reads place ≡ Some r
  of : r.1 ≡ item
  value : r.2 ≡ v

found_by : (from item : ℕ) (places : List ℕ) (x : Read) (reads : List Read) (v : ℤ) (b : Bool) → nat_eq x.1 item ≡ b → ArePlaced from places (x ∷ reads) → (if b then Some x.2 else logged reads item) ≡ Some v → (logged reads item ≡ Some v → Found (suc from) item places reads v) → Found from item places (x ∷ reads) v
found_by from item places x reads v true hit h is rest =
    let at : x.1 ≡ item = grind (arith, hit) in
    let start : from ≡ from + 0 = omega arith in
    record { place = 0; r = x; noted = ap (slice_get places) (sym at) ∙ h.0 ∙ ap (λ n. Some n) start; is = refl; of = at; value = cc }
found_by from item places x reads v false hit h is rest =
    let f = rest is in
    let on : suc from + f.place ≡ from + suc f.place = omega arith in
    record { place = suc f.place; r = f.r; noted = f.noted ∙ ap (λ n. Some n) on; is = f.is; of = f.of; value = f.value }

found_from : (from item : ℕ) (places : List ℕ) (reads : List Read) (v : ℤ) → ArePlaced from places reads → logged reads item ≡ Some v → Found from item places reads v
found_from from item places [] v h is = cc
found_from from item places (x ∷ reads) v h is = found_by from item places x reads v (nat_eq x.1 item) refl h is (found_from (suc from) item places reads v h.1)

read_by : (reads : List Read) (item place : ℕ) (r : Read) (b : Bool) → nat_eq r.1 item ≡ b → IsLog reads → slice_get reads place ≡ Some r → logged reads item ≡ None → None ≡ read_at (Some r) item
read_by reads item place r true hit h is none =
    let at : r.1 ≡ item = grind (arith, hit) in
    let there = logged_at reads place r h is in
    let here : logged reads item ≡ Some r.2 = ap (logged reads) (sym at) ∙ there in
    cc
read_by reads item place r false hit h is none = rw hit refl

none_at : (reads : List Read) (item place : ℕ) (o : Option Read) → slice_get reads place ≡ o → IsLog reads → logged reads item ≡ None → None ≡ read_at o item
none_at reads item place None is h none = refl
none_at reads item place (Some r) is h none = read_by reads item place r (nat_eq r.1 item) refl h is none

none_through : (reads : List Read) (item : ℕ) (o : Option ℕ) → IsLog reads → logged reads item ≡ None → None ≡ read_through o reads item
none_through reads item None h none = refl
none_through reads item (Some place) h none = none_at reads item place (slice_get reads place) refl h none

some_through : (reads : List Read) (places : List ℕ) (item : ℕ) (v : ℤ) → Found 0 item places reads v → Some v ≡ read_through (slice_get places item) reads item
some_through reads places item v f =
    let hit : nat_eq f.r.1 item ≡ true = grind (arith, f.of) in
    let read : read_at (Some f.r) item ≡ Some f.r.2 = rw hit refl in
    let start : 0 + f.place ≡ f.place = omega arith in
    sym (ap (λ o. read_through o reads item) (f.noted ∙ ap (λ n. Some n) start) ∙ ap (λ o. read_at o item) f.is ∙ read ∙ ap (λ x. Some x) f.value)

logged_by : (reads : List Read) (places : List ℕ) (item : ℕ) (o : Option ℤ) → logged reads item ≡ o → IsLog reads → ArePlaced 0 places reads → o ≡ read_through (slice_get places item) reads item
logged_by reads places item None is h placed = none_through reads item (slice_get places item) h is
logged_by reads places item (Some v) is h placed = some_through reads places item v (found_from 0 item places reads v placed is)

-- what is logged of an item is what the read has read whose place is noted there
pub logged_through : (reads : List Read) (places : List ℕ) (item : ℕ) → IsLog reads → ArePlaced 0 places reads → logged reads item ≡ read_through (slice_get places item) reads item
logged_through reads places item h placed = logged_by reads places item (logged reads item) refl h placed

-- the reads up to a place are of other items than the one there
taken_other : (reads : List Read) (i : ℕ) (r : Read) → IsLog reads → slice_get reads i ≡ Some r → AreOther (take i reads) r.1
taken_other [] i r h is = cc
taken_other (x ∷ reads) zero r h is = tt
taken_other (x ∷ reads) (suc i) r h is = (first_other x r reads i h.0 is, taken_other reads i r h.1 is)

taken_push : (reads : List Read) (i : ℕ) (r : Read) → slice_get reads i ≡ Some r → take (suc i) reads ≡ take i reads ++ r ∷ []
taken_push [] i r is = cc
taken_push (x ∷ reads) zero r is = let same : x ≡ r = cc in ap (λ (q : Read). q ∷ []) same
taken_push (x ∷ reads) (suc i) r is = ap (λ xs. x ∷ xs) (taken_push reads i r is)

taken_long : (reads : List Read) (i : ℕ) (r : Read) → slice_get reads i ≡ Some r → length (take i reads) ≡ i
taken_long [] i r is = cc
taken_long (x ∷ reads) zero r is = refl
taken_long (x ∷ reads) (suc i) r is = ap suc (taken_long reads i r is)

there : (reads : List Read) (i : ℕ) (d : Read) → i < length reads → slice_get reads i ≡ Some (get_or reads i d)
there [] i d lt = absurd (omega arith)
there (x ∷ reads) zero d lt = refl
there (x ∷ reads) (suc i) d lt = there reads i d (omega arith)

-- noting one place more
pub placed_more : (places : List ℕ) (reads : List Read) (i : ℕ) (d : Read) → IsLog reads → i < length reads → (get_or reads i d).1 < length places → ArePlaced 0 places (take i reads) → ArePlaced 0 (set places (get_or reads i d).1 i) (take (i + 1) reads)
placed_more places reads i d h within lt placed =
    let r = get_or reads i d in
    let is = there reads i d within in
    let long = taken_long reads i r is in
    let next : suc i ≡ i + 1 = omega arith in
    let push = placed_end places (take i reads) r placed (taken_other reads i r h is) lt in
    subst (λ n. ArePlaced 0 (set places r.1 i) (take n reads)) next (subst (ArePlaced 0 (set places r.1 i)) (sym (taken_push reads i r is)) (subst (λ n. ArePlaced 0 (set places r.1 n) (take i reads ++ r ∷ [])) long push))

-- each read of a log below a room is of an item below it
pub item_below : (room : ℕ) (reads : List Read) (i : ℕ) (d : Read) → AreBelow room reads → i < length reads → (get_or reads i d).1 < room
item_below room [] i d h lt = absurd (omega arith)
item_below room (x ∷ reads) zero d h lt = h.0
item_below room (x ∷ reads) (suc i) d h lt = item_below room reads i d h.1 (omega arith)
