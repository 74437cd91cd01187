-- The lists of a lane as its items make them: one item more, or none at all.
use Rattle.std.proofs.Common.{◌≡◌, ◌≢◌, ℕ, zero, suc, ◌+◌, ◌<◌, ◌≤◌, Bool, true, false, cond, ◌||◌, nat_eq, nat_lt, List, [], ◌∷◌, None, refl, sym, ap, ◌∙◌, arith, ◌⊎◌, inl, inr}
use Rattle.std.proofs.lemmas.Bool.{cases_eq, eq-eqb, ne_eqb, lt-ltb, le-ltb}
use Rattle.conflict_index.specs.Index.{Read, is_among, is_read, is_sooner, put_in_order}
use Rattle.conflict_index.specs.Kept.{reads_of, writes_of}
use Rattle.conflict_index.proofs.LaneLists.{least_hit, OneItem, behind, reads-same, writes-same}
use Rattle.conflict_index.proofs.Orders.{put-put}

-- no item of so many from this one on
pub record NoItem (hit : ℕ → Bool) (item many : ℕ) : Type 0 where
  pub none : (i : ℕ) → item ≤ i → i < item + many → hit i ≡ false

none-later : (hit : ℕ → Bool) (item many : ℕ) → NoItem hit item (suc many) → NoItem hit (suc item) many
none-later hit item many h = record { none = λ i g l. h.none i (omega arith) (omega arith) }

pub reads-none : (hit : ℕ → Bool) (position : ℕ → ℕ) (item many : ℕ) → NoItem hit item many → reads_of hit position item many ≡ []
reads-none hit position item zero h = refl
reads-none hit position item (suc many) h = rw (h.none item (omega arith) (omega arith)) (reads-none hit position (suc item) many (none-later hit item many h))

pub writes-none : (hit : ℕ → Bool) (item many : ℕ) → NoItem hit item many → writes_of hit item many ≡ []
writes-none hit item zero h = refl
writes-none hit item (suc many) h = rw (h.none item (omega arith) (omega arith)) (writes-none hit (suc item) many (none-later hit item many h))

pub least-none : (hit : ℕ → Bool) (position : ℕ → ℕ) (item many : ℕ) → NoItem hit item many → least_hit hit position item many ≡ None
least-none hit position item zero h = refl
least-none hit position item (suc many) h = rw (h.none item (omega arith) (omega arith)) (least-none hit position (suc item) many (none-later hit item many h))

-- one item more is put into the reads
pub reads-more : (hit new : ℕ → Bool) (position moved : ℕ → ℕ) (k item many : ℕ) → item ≤ k → k < item + many → OneItem hit new position moved k
    → reads_of new moved item many ≡ put_in_order is_sooner (moved k, k) (reads_of hit position item many)
reads-more hit new position moved k item zero g l h = absurd (omega arith)
reads-more hit new position moved k item (suc many) g l h = at (λ p q. reads-more hit new position moved k (suc item) many p q h) (cases_eq item k)
  where
    go : (t : Bool) → hit item ≡ t → moved item ≡ position item → new item ≡ hit item → item ≢ k → reads_of new moved (suc item) many ≡ put_in_order is_sooner (moved k, k) (reads_of hit position (suc item) many)
        → cond (new item) (put_in_order is_sooner (moved item, item) (reads_of new moved (suc item) many)) (reads_of new moved (suc item) many)
        ≡ put_in_order is_sooner (moved k, k) (cond (hit item) (put_in_order is_sooner (position item, item) (reads_of hit position (suc item) many)) (reads_of hit position (suc item) many))
    go true e p q n r = rw (q, e, r, p) (put-put (position item, item) (moved k, k) (reads_of hit position (suc item) many) n)
    go false e p q n r = rw (q, e) r

    at : (suc item ≤ k → k < suc item + many → reads_of new moved (suc item) many ≡ put_in_order is_sooner (moved k, k) (reads_of hit position (suc item) many)) → (item ≡ k) ⊎ (item ≢ k)
        → cond (new item) (put_in_order is_sooner (moved item, item) (reads_of new moved (suc item) many)) (reads_of new moved (suc item) many)
        ≡ put_in_order is_sooner (moved k, k) (cond (hit item) (put_in_order is_sooner (position item, item) (reads_of hit position (suc item) many)) (reads_of hit position (suc item) many))
    at rest-of (inl e) =
        let rest = reads-same hit new position moved (suc item) many (behind hit new position moved k (suc item) many (omega arith) h) in
        rw (e, h.here, h.fresh) (ap (λ l. put_in_order is_sooner (moved k, k) l) (sym (ap (λ i. reads_of new moved (suc i) many) e) ∙ rest ∙ ap (λ i. reads_of hit position (suc i) many) e))
    at rest-of (inr n) = go (hit item) refl (h.kept item n) (h.others item n) n (rest-of (omega arith) (omega arith))

-- an item before all of them is put in front
put-first : (hit : ℕ → Bool) (k item many : ℕ) → k ≤ item → put_in_order nat_lt k (writes_of hit item many) ≡ k ∷ writes_of hit item many
put-first hit k item zero l = refl
put-first hit k item (suc many) l = go (hit item) (put-first hit k (suc item) many (omega arith))
  where
    go : (t : Bool) → put_in_order nat_lt k (writes_of hit (suc item) many) ≡ k ∷ writes_of hit (suc item) many
        → put_in_order nat_lt k (cond t (item ∷ writes_of hit (suc item) many) (writes_of hit (suc item) many)) ≡ k ∷ cond t (item ∷ writes_of hit (suc item) many) (writes_of hit (suc item) many)
    go true h = rw (le-ltb item k l) refl
    go false h = h

-- one item more is put into the writes
pub record WritesOne (hit new : ℕ → Bool) (k : ℕ) : Type 0 where
  pub fresh : hit k ≡ false
  pub here : new k ≡ true
  pub others : (i : ℕ) → i ≢ k → new i ≡ hit i

pub writes-more : (hit new : ℕ → Bool) (k item many : ℕ) → item ≤ k → k < item + many → WritesOne hit new k
    → writes_of new item many ≡ put_in_order nat_lt k (writes_of hit item many)
writes-more hit new k item zero g l h = absurd (omega arith)
writes-more hit new k item (suc many) g l h = at (λ p q. writes-more hit new k (suc item) many p q h) (cases_eq item k)
  where
    go : (t : Bool) → hit item ≡ t → new item ≡ hit item → item < k → writes_of new (suc item) many ≡ put_in_order nat_lt k (writes_of hit (suc item) many)
        → cond (new item) (item ∷ writes_of new (suc item) many) (writes_of new (suc item) many)
        ≡ put_in_order nat_lt k (cond (hit item) (item ∷ writes_of hit (suc item) many) (writes_of hit (suc item) many))
    go true e q b r = rw (q, e, r, lt-ltb item k b) refl
    go false e q b r = rw (q, e) r

    at : (suc item ≤ k → k < suc item + many → writes_of new (suc item) many ≡ put_in_order nat_lt k (writes_of hit (suc item) many)) → (item ≡ k) ⊎ (item ≢ k)
        → cond (new item) (item ∷ writes_of new (suc item) many) (writes_of new (suc item) many)
        ≡ put_in_order nat_lt k (cond (hit item) (item ∷ writes_of hit (suc item) many) (writes_of hit (suc item) many))
    at rest-of (inl e) =
        let rest = writes-same hit new (suc item) many (λ i p q. h.others i (omega arith)) in
        let first = put-first hit k (suc item) many (omega arith) in
        rw (e, h.here, h.fresh) (ap (λ l. k ∷ l) (sym (ap (λ i. writes_of new (suc i) many) e) ∙ rest) ∙ sym first ∙ ap (λ i. put_in_order nat_lt k (writes_of hit (suc i) many)) e)
    at rest-of (inr n) = go (hit item) refl (h.others item n) (omega arith) (rest-of (omega arith) (omega arith))

-- an item that was passed isn't among the writes
among-passed : (hit : ℕ → Bool) (i item many : ℕ) → i < item → is_among (writes_of hit item many) i ≡ false
among-passed hit i item zero l = refl
among-passed hit i item (suc many) l = go (hit item) (among-passed hit i (suc item) many (omega arith))
  where
    go : (t : Bool) → is_among (writes_of hit (suc item) many) i ≡ false → is_among (cond t (item ∷ writes_of hit (suc item) many) (writes_of hit (suc item) many)) i ≡ false
    go true h = rw (ne_eqb i item (omega arith)) h
    go false h = h

-- an item is among the writes where it was written
pub among-writes : (hit : ℕ → Bool) (i item many : ℕ) → item ≤ i → i < item + many → is_among (writes_of hit item many) i ≡ hit i
among-writes hit i item zero g l = absurd (omega arith)
among-writes hit i item (suc many) g l = at (λ p q. among-writes hit i (suc item) many p q) (cases_eq i item)
  where
    here : (t : Bool) → is_among (cond t (i ∷ writes_of hit (suc i) many) (writes_of hit (suc i) many)) i ≡ t
    here true = rw (eq-eqb i i refl) refl
    here false = among-passed hit i (suc i) many (omega arith)

    go : (t : Bool) → i ≢ item → is_among (writes_of hit (suc item) many) i ≡ hit i → is_among (cond t (item ∷ writes_of hit (suc item) many) (writes_of hit (suc item) many)) i ≡ hit i
    go true n h = rw (ne_eqb i item n) h
    go false n h = h

    at : (suc item ≤ i → i < suc item + many → is_among (writes_of hit (suc item) many) i ≡ hit i) → (i ≡ item) ⊎ (i ≢ item)
        → is_among (cond (hit item) (item ∷ writes_of hit (suc item) many) (writes_of hit (suc item) many)) i ≡ hit i
    at rest-of (inl e) = rw (sym e) (here (hit i))
    at rest-of (inr n) = go (hit item) n (rest-of (omega arith) (omega arith))

-- what is put into the reads is of its item
is-read-put : (before : Read → Read → Bool) (x : Read) (xs : List Read) (i : ℕ) → is_read (put_in_order before x xs) i ≡ (nat_eq i x.1 || is_read xs i)
is-read-put before x [] i = refl
is-read-put before x (y ∷ ys) i = go (before y x) (is-read-put before x ys i)
  where
    swap : (s t u : Bool) → (s || (t || u)) ≡ (t || (s || u))
    swap true true u = refl
    swap true false u = refl
    swap false t u = refl

    go : (t : Bool) → is_read (put_in_order before x ys) i ≡ (nat_eq i x.1 || is_read ys i) → is_read (cond t (y ∷ put_in_order before x ys) (x ∷ y ∷ ys)) i ≡ (nat_eq i x.1 || (nat_eq i y.1 || is_read ys i))
    go true h = ap (λ t. nat_eq i y.1 || t) h ∙ swap (nat_eq i y.1) (nat_eq i x.1) (is_read ys i)
    go false h = refl

-- no read is of an item that was passed
read-passed : (hit : ℕ → Bool) (position : ℕ → ℕ) (i item many : ℕ) → i < item → is_read (reads_of hit position item many) i ≡ false
read-passed hit position i item zero l = refl
read-passed hit position i item (suc many) l = go (hit item) (read-passed hit position i (suc item) many (omega arith))
  where
    go : (t : Bool) → is_read (reads_of hit position (suc item) many) i ≡ false → is_read (cond t (put_in_order is_sooner (position item, item) (reads_of hit position (suc item) many)) (reads_of hit position (suc item) many)) i ≡ false
    go true h = is-read-put is_sooner (position item, item) (reads_of hit position (suc item) many) i ∙ rw (ne_eqb i item (omega arith)) h
    go false h = h

-- one of the reads is of an item where it was read
pub among-reads : (hit : ℕ → Bool) (position : ℕ → ℕ) (i item many : ℕ) → item ≤ i → i < item + many → is_read (reads_of hit position item many) i ≡ hit i
among-reads hit position i item zero g l = absurd (omega arith)
among-reads hit position i item (suc many) g l = at (λ p q. among-reads hit position i (suc item) many p q) (cases_eq i item)
  where
    here : (t : Bool) → is_read (cond t (put_in_order is_sooner (position i, i) (reads_of hit position (suc i) many)) (reads_of hit position (suc i) many)) i ≡ t
    here true = is-read-put is_sooner (position i, i) (reads_of hit position (suc i) many) i ∙ rw (eq-eqb i i refl) refl
    here false = read-passed hit position i (suc i) many (omega arith)

    go : (t : Bool) → i ≢ item → is_read (reads_of hit position (suc item) many) i ≡ hit i → is_read (cond t (put_in_order is_sooner (position item, item) (reads_of hit position (suc item) many)) (reads_of hit position (suc item) many)) i ≡ hit i
    go true n h = is-read-put is_sooner (position item, item) (reads_of hit position (suc item) many) i ∙ rw (ne_eqb i item n) h
    go false n h = h

    at : (suc item ≤ i → i < suc item + many → is_read (reads_of hit position (suc item) many) i ≡ hit i) → (i ≡ item) ⊎ (i ≢ item)
        → is_read (cond (hit item) (put_in_order is_sooner (position item, item) (reads_of hit position (suc item) many)) (reads_of hit position (suc item) many)) i ≡ hit i
    at rest-of (inl e) = rw (sym e) (here (hit i))
    at rest-of (inr n) = go (hit item) n (rest-of (omega arith) (omega arith))
