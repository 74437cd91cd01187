-- The lists of a lane: one read more, one write more, and the points among them.
use Rattle.std.proofs.Common.{◌≡◌, ◌≢◌, ℕ, zero, suc, ◌+◌, ◌<◌, ◌≤◌, Bool, true, false, cond, ◌&&◌, List, [], ◌∷◌, map, filter, Option, Some, None, refl, sym, ap, ◌∙◌, arith, ◌⊎◌, inl, inr}
use Rattle.std.proofs.lemmas.Bool.{cases_eq}
use Rattle.conflict_index.specs.Index.{Read, less_or, least, is_among, point, is_sooner, put_in_order}
use Rattle.conflict_index.specs.Kept.{reads_of, writes_of}

-- the least with two numbers more is the same in either order
pub less-swap : (o : Option ℕ) (a b : ℕ) → less_or (Some (less_or o a)) b ≡ less_or (Some (less_or o b)) a
less-swap None a b = omega arith
less-swap (Some m) a b = omega arith

-- the point of a list with one read more in front
pub point-cons : (x : Read) (xs : List Read) (ws : List ℕ) → point (x ∷ xs) ws ≡ cond (is_among ws x.1) (Some (less_or (point xs ws) x.0)) (point xs ws)
point-cons x xs ws = go (is_among ws x.1)
  where
    go : (t : Bool) → least (map (λ (r : Read). r.0) (cond t (x ∷ filter (λ (r : Read). is_among ws r.1) xs) (filter (λ (r : Read). is_among ws r.1) xs))) ≡ cond t (Some (less_or (point xs ws) x.0)) (point xs ws)
    go true = refl
    go false = refl

-- the same with two, in either order
swap-conds : (s t : Bool) (o : Option ℕ) (a b : ℕ) → cond s (Some (less_or (cond t (Some (less_or o b)) o) a)) (cond t (Some (less_or o b)) o) ≡ cond t (Some (less_or (cond s (Some (less_or o a)) o) b)) (cond s (Some (less_or o a)) o)
swap-conds true true o a b = ap Some (less-swap o b a)
swap-conds true false o a b = refl
swap-conds false true o a b = refl
swap-conds false false o a b = refl

-- wherever the read stands
pub point-put : (before : Read → Read → Bool) (x : Read) (xs : List Read) (ws : List ℕ) → point (put_in_order before x xs) ws ≡ cond (is_among ws x.1) (Some (less_or (point xs ws) x.0)) (point xs ws)
point-put before x [] ws = point-cons x [] ws
point-put before x (y ∷ ys) ws = go (before y x) (point-put before x ys ws)
  where
    go : (t : Bool) → point (put_in_order before x ys) ws ≡ cond (is_among ws x.1) (Some (less_or (point ys ws) x.0)) (point ys ws)
        → point (cond t (y ∷ put_in_order before x ys) (x ∷ y ∷ ys)) ws ≡ cond (is_among ws x.1) (Some (less_or (point (y ∷ ys) ws) x.0)) (point (y ∷ ys) ws)
    go false h = point-cons x (y ∷ ys) ws
    go true h =
        point-cons y (put_in_order before x ys) ws
        ∙ ap (λ o. cond (is_among ws y.1) (Some (less_or o y.0)) o) h
        ∙ swap-conds (is_among ws y.1) (is_among ws x.1) (point ys ws) y.0 x.0
        ∙ ap (λ o. cond (is_among ws x.1) (Some (less_or o x.0)) o) (sym (point-cons y ys ws))

-- of so many items from this one on the least position of one with a hit
abbrev pub least_hit : (ℕ → Bool) → (ℕ → ℕ) → ℕ → ℕ → Option ℕ
least_hit hit position item zero = None
least_hit hit position item (suc many) =
    cond (hit item) (Some (less_or (least_hit hit position (suc item) many) (position item))) (least_hit hit position (suc item) many)

-- the point is the least position of an item that was read and is among the writes
pub point-hit : (is_read : ℕ → Bool) (position : ℕ → ℕ) (ws : List ℕ) (item many : ℕ) → point (reads_of is_read position item many) ws ≡ least_hit (λ i. is_read i && is_among ws i) position item many
point-hit is_read position ws item zero = refl
point-hit is_read position ws item (suc many) = go (is_read item) (point-hit is_read position ws (suc item) many)
  where
    go : (t : Bool) → point (reads_of is_read position (suc item) many) ws ≡ least_hit (λ i. is_read i && is_among ws i) position (suc item) many
        → point (cond t (put_in_order is_sooner (position item, item) (reads_of is_read position (suc item) many)) (reads_of is_read position (suc item) many)) ws
        ≡ cond (t && is_among ws item) (Some (less_or (least_hit (λ i. is_read i && is_among ws i) position (suc item) many) (position item))) (least_hit (λ i. is_read i && is_among ws i) position (suc item) many)
    go false h = h
    go true h = point-put is_sooner (position item, item) (reads_of is_read position (suc item) many) ws ∙ ap (λ o. cond (is_among ws item) (Some (less_or o (position item))) o) h

-- what two tests and two positions agree in from this item on, so many items
pub record Agree (hit new : ℕ → Bool) (position moved : ℕ → ℕ) (item many : ℕ) : Type 0 where
  pub tests : (i : ℕ) → item ≤ i → i < item + many → new i ≡ hit i
  pub positions : (i : ℕ) → item ≤ i → i < item + many → hit i ≡ true → moved i ≡ position i

later : (hit new : ℕ → Bool) (position moved : ℕ → ℕ) (item many : ℕ) → Agree hit new position moved item (suc many) → Agree hit new position moved (suc item) many
later hit new position moved item many h = record {
  tests = λ i g l. h.tests i (omega arith) (omega arith);
  positions = λ i g l e. h.positions i (omega arith) (omega arith) e;
}

pub hit-same : (hit new : ℕ → Bool) (position moved : ℕ → ℕ) (item many : ℕ) → Agree hit new position moved item many → least_hit new moved item many ≡ least_hit hit position item many
hit-same hit new position moved item zero h = refl
hit-same hit new position moved item (suc many) h = go (hit item) (new item) refl (h.tests item (omega arith) (omega arith)) (hit-same hit new position moved (suc item) many (later hit new position moved item many h))
  where
    go : (s t : Bool) → hit item ≡ s → t ≡ hit item → least_hit new moved (suc item) many ≡ least_hit hit position (suc item) many
        → cond t (Some (less_or (least_hit new moved (suc item) many) (moved item))) (least_hit new moved (suc item) many)
        ≡ cond s (Some (less_or (least_hit hit position (suc item) many) (position item))) (least_hit hit position (suc item) many)
    go true true e f q = let p : moved item ≡ position item = h.positions item (omega arith) (omega arith) e in cc
    go false false e f q = q
    go true false e f q = cc
    go false true e f q = cc

pub reads-same : (hit new : ℕ → Bool) (position moved : ℕ → ℕ) (item many : ℕ) → Agree hit new position moved item many → reads_of new moved item many ≡ reads_of hit position item many
reads-same hit new position moved item zero h = refl
reads-same hit new position moved item (suc many) h = go (hit item) (new item) refl (h.tests item (omega arith) (omega arith)) (reads-same hit new position moved (suc item) many (later hit new position moved item many h))
  where
    go : (s t : Bool) → hit item ≡ s → t ≡ hit item → reads_of new moved (suc item) many ≡ reads_of hit position (suc item) many
        → cond t (put_in_order is_sooner (moved item, item) (reads_of new moved (suc item) many)) (reads_of new moved (suc item) many)
        ≡ cond s (put_in_order is_sooner (position item, item) (reads_of hit position (suc item) many)) (reads_of hit position (suc item) many)
    go true true e f q = let p : moved item ≡ position item = h.positions item (omega arith) (omega arith) e in cc
    go false false e f q = q
    go true false e f q = cc
    go false true e f q = cc

pub writes-same : (hit new : ℕ → Bool) (item many : ℕ) → ((i : ℕ) → item ≤ i → i < item + many → new i ≡ hit i) → writes_of new item many ≡ writes_of hit item many
writes-same hit new item zero h = refl
writes-same hit new item (suc many) h = go (hit item) (new item) (h item (omega arith) (omega arith)) refl (writes-same hit new (suc item) many (λ i g l. h i (omega arith) (omega arith)))
  where
    go : (s t : Bool) → new item ≡ hit item → hit item ≡ hit item → writes_of new (suc item) many ≡ writes_of hit (suc item) many
        → cond (new item) (item ∷ writes_of new (suc item) many) (writes_of new (suc item) many) ≡ cond (hit item) (item ∷ writes_of hit (suc item) many) (writes_of hit (suc item) many)
    go s t e f q = cc

-- one lane's tests and positions with one item more, at this one
pub record OneItem (hit new : ℕ → Bool) (position moved : ℕ → ℕ) (k : ℕ) : Type 0 where
  pub fresh : hit k ≡ false
  pub here : new k ≡ true
  pub others : (i : ℕ) → i ≢ k → new i ≡ hit i
  pub kept : (i : ℕ) → i ≢ k → moved i ≡ position i

-- behind the item all is as it was
pub behind : (hit new : ℕ → Bool) (position moved : ℕ → ℕ) (k item many : ℕ) → k < item → OneItem hit new position moved k → Agree hit new position moved item many
behind hit new position moved k item many l h = record {
  tests = λ i g b. h.others i (λ e. omega arith);
  positions = λ i g b t. h.kept i (λ e. omega arith);
}

-- a hit more lowers the least to its position, where that is less
pub hit-more : (hit new : ℕ → Bool) (position moved : ℕ → ℕ) (k item many : ℕ) → item ≤ k → k < item + many → OneItem hit new position moved k
    → least_hit new moved item many ≡ Some (less_or (least_hit hit position item many) (moved k))
hit-more hit new position moved k item zero g l h = absurd (omega arith)
hit-more hit new position moved k item (suc many) g l h = at (λ p q. hit-more hit new position moved k (suc item) many p q h) (cases_eq item k)
  where
    go : (t : Bool) → hit item ≡ t → moved item ≡ position item → new item ≡ hit item → least_hit new moved (suc item) many ≡ Some (less_or (least_hit hit position (suc item) many) (moved k))
        → cond (new item) (Some (less_or (least_hit new moved (suc item) many) (moved item))) (least_hit new moved (suc item) many)
        ≡ Some (less_or (cond (hit item) (Some (less_or (least_hit hit position (suc item) many) (position item))) (least_hit hit position (suc item) many)) (moved k))
    go true e p q r = rw (q, e, r, p) (ap Some (less-swap (least_hit hit position (suc item) many) (moved k) (position item)))
    go false e p q r = rw (q, e) r

    at : (suc item ≤ k → k < suc item + many → least_hit new moved (suc item) many ≡ Some (less_or (least_hit hit position (suc item) many) (moved k))) → (item ≡ k) ⊎ (item ≢ k) → cond (new item) (Some (less_or (least_hit new moved (suc item) many) (moved item))) (least_hit new moved (suc item) many)
        ≡ Some (less_or (cond (hit item) (Some (less_or (least_hit hit position (suc item) many) (position item))) (least_hit hit position (suc item) many)) (moved k))
    at rest-of (inl e) =
        let rest = hit-same hit new position moved (suc item) many (behind hit new position moved k (suc item) many (omega arith) h) in
        rw (e, h.here, h.fresh) (ap (λ o. Some (less_or o (moved k))) (sym (ap (λ i. least_hit new moved (suc i) many) e) ∙ rest ∙ ap (λ i. least_hit hit position (suc i) many) e))
    at rest-of (inr n) = go (hit item) refl (h.kept item n) (h.others item n) (rest-of (omega arith) (omega arith))
