-- Points of what was noted, and one read or write more.
use Rattle.std.proofs.Common.{◌≡◌, ◌≢◌, ℕ, zero, suc, ◌+◌, ◌<◌, ◌≤◌, ℤ, Bool, true, false, cond, nat_lt, List, [], ◌∷◌, ◌++◌, map, filter, length, replicate, set, length-set, is_some, Option, Some, None, refl, sym, ap, ◌∙◌, arith, ◌⊎◌, inl, inr}
use Rattle.std.specs.List.{AllByRecursion}
use Rattle.std.proofs.lemmas.Bool.{cases_eq, cases_lt, ne_eqb, lt-ltb}
use Rattle.std.proofs.lemmas.List.{get_or-set_same, get_or-set_other, get_or_past, get_or-replicate, length-replicate, map_push}
use Rattle.txn_runs.specs.Run.{Read, Writes, own}
use Rattle.forest_model.specs.Choose as choose
use Rattle.forest_model.specs.Point.{point, is_changed}
use Rattle.conflict_index.specs.Index as index
use Rattle.conflict_index.specs.Kept.{writes_of}
use Rattle.conflict_index.proofs.LaneLists.{point-cons, writes-same}
use Rattle.conflict_index.proofs.ItemLists.{among-writes, writes-more, writes-none}
use Rattle.conflict_index.proofs.Orders.{read-last}
use Rattle.access_sets.specs.Entries.{entries}
use Rattle.index_laws.specs.Noted.{noted, written, lane_of_run}

same-less : (o : Option ℕ) (n : ℕ) → index.less_or o n ≡ choose.less_or o n
same-less None n = refl
same-less (Some m) n = refl

-- the scheme's point of one read more in front
front : (r : Read) (rs : List Read) (ws : Writes) → point (r ∷ rs) ws ≡ cond (is_some (own ws r.1)) (Some (choose.less_or (point rs ws) r.0)) (point rs ws)
front r rs ws = go (is_some (own ws r.1))
  where
    go : (t : Bool) → choose.least (map (λ (x : Read). x.0) (cond t (r ∷ filter (is_changed ws) rs) (filter (is_changed ws) rs))) ≡ cond t (Some (choose.less_or (point rs ws) r.0)) (point rs ws)
    go true = refl
    go false = refl

-- an item past the end isn't among the writes
among-past : (hit : ℕ → Bool) (i item many : ℕ) → item + many ≤ i → index.is_among (writes_of hit item many) i ≡ false
among-past hit i item zero l = refl
among-past hit i item (suc many) l = go (hit item) (among-past hit i (suc item) many (omega arith))
  where
    go : (t : Bool) → index.is_among (writes_of hit (suc item) many) i ≡ false → index.is_among (cond t (item ∷ writes_of hit (suc item) many) (writes_of hit (suc item) many)) i ≡ false
    go true h = rw (ne_eqb i item (omega arith)) h
    go false h = h

among-written : (ws : Writes) (i : ℕ) → index.is_among (written ws) i ≡ is_some (own ws i)
among-written ws i = go (cases_lt i (length ws))
  where
    go : (i < length ws) ⊎ (length ws ≤ i) → index.is_among (written ws) i ≡ is_some (own ws i)
    go (inl l) = among-writes (λ (item : ℕ). is_some (own ws item)) i 0 (length ws) (omega arith) (omega (arith, l))
    go (inr g) = among-past (λ (item : ℕ). is_some (own ws item)) i 0 (length ws) (omega (arith, g)) ∙ sym (ap (λ (o : Option ℤ). is_some o) (get_or_past ws i None g))

pub points-same : (rs : List Read) (ws : Writes) → index.point (noted rs) (written ws) ≡ point rs ws
points-same [] ws = refl
points-same (r ∷ rs) ws =
    point-cons (r.0, r.1) (noted rs) (written ws)
    ∙ ap (λ t. cond t (Some (index.less_or (index.point (noted rs) (written ws)) r.0)) (index.point (noted rs) (written ws))) (among-written ws r.1)
    ∙ ap (λ o. cond (is_some (own ws r.1)) (Some (index.less_or o r.0)) o) (points-same rs ws)
    ∙ ap (λ n. cond (is_some (own ws r.1)) (Some n) (point rs ws)) (same-less (point rs ws) r.0)
    ∙ sym (front r rs ws)

abbrev lane_made : List index.Read → List ℕ → index.Lane
lane_made reads writes = record { reads = reads; writes = writes }

unwritten : (items i : ℕ) → is_some (own (replicate {A = Option ℤ} items None) i) ≡ false
unwritten items i = go (cases_lt i items)
  where
    go : (i < items) ⊎ (items ≤ i) → is_some (own (replicate {A = Option ℤ} items None) i) ≡ false
    go (inl l) = ap (λ (o : Option ℤ). is_some o) (get_or-replicate items i None None l)
    go (inr g) = ap (λ (o : Option ℤ). is_some o) (get_or_past (replicate {A = Option ℤ} items None) i None (omega (arith, length-replicate {A = Option ℤ} items None)))

pub nothing-noted : (items : ℕ) → lane_of_run [] (replicate items None) ≡ index.forgotten
nothing-noted items = ap (lane_made []) (writes-none (λ (item : ℕ). is_some (own (replicate {A = Option ℤ} items None) item)) 0 (length (replicate {A = Option ℤ} items None)) (record { none = λ i g l. unwritten items i }))

-- what is said of the reads is said of what was noted of them
noted-all : (r : Read) (rs : List Read) → AllByRecursion (λ (x : Read). (x.1 ≢ r.1) × (index.is_sooner (x.0, x.1) (r.0, r.1) ≡ true)) rs
    → AllByRecursion (λ (x : index.Read). (x.1 ≢ r.1) × (index.is_sooner x (r.0, r.1) ≡ true)) (noted rs)
noted-all r [] h = tt
noted-all r (x ∷ xs) h = (h.0, noted-all r xs h.1)

pub one-read : (rs : List Read) (r : Read) (ws : Writes) → AllByRecursion (λ (x : Read). (x.1 ≢ r.1) × (index.is_sooner (x.0, x.1) (r.0, r.1) ≡ true)) rs
    → index.with_read (lane_of_run rs ws) (r.0, r.1) ≡ lane_of_run (rs ++ r ∷ []) ws
one-read rs r ws h = ap (λ reads. lane_made reads (written ws)) (read-last (lane_of_run rs ws) (r.0, r.1) (noted-all r rs h) ∙ sym (map_push (λ (x : Read). (x.0, x.1)) rs r))

pub one-write : (rs : List Read) (ws : Writes) (item : ℕ) (v : ℤ) → item < length ws → index.with_write (lane_of_run rs ws) item ≡ lane_of_run rs (set ws item (Some v))
one-write rs ws item v l = ap (lane_made (noted rs)) (go (is_some (own ws item)) refl)
  where
    here : is_some (own (set ws item (Some v)) item) ≡ true
    here = ap (λ (o : Option ℤ). is_some o) (get_or-set_same ws item (Some v) None l)

    others : (i : ℕ) → i ≢ item → is_some (own (set ws item (Some v)) i) ≡ is_some (own ws i)
    others i n = ap (λ (o : Option ℤ). is_some o) (get_or-set_other ws item i (Some v) None n)

    long : writes_of (λ (i : ℕ). is_some (own (set ws item (Some v)) i)) 0 (length (set ws item (Some v))) ≡ writes_of (λ (i : ℕ). is_some (own (set ws item (Some v)) i)) 0 (length ws)
    long = ap (writes_of (λ (i : ℕ). is_some (own (set ws item (Some v)) i)) 0) (length-set ws item (Some v))

    same : is_some (own ws item) ≡ true → (i : ℕ) → (i ≡ item) ⊎ (i ≢ item) → is_some (own (set ws item (Some v)) i) ≡ is_some (own ws i)
    same e i (inl q) = rw q (here ∙ sym e)
    same e i (inr n) = others i n

    go : (t : Bool) → is_some (own ws item) ≡ t → cond (index.is_among (written ws) item) (written ws) (index.put_in_order nat_lt item (written ws)) ≡ written (set ws item (Some v))
    go true e =
        ap (λ t. cond t (written ws) (index.put_in_order nat_lt item (written ws))) (among-written ws item ∙ e)
        ∙ sym (long ∙ writes-same (λ (i : ℕ). is_some (own ws i)) (λ (i : ℕ). is_some (own (set ws item (Some v)) i)) 0 (length ws) (λ i g b. same e i (cases_eq i item)))
    go false e =
        ap (λ t. cond t (written ws) (index.put_in_order nat_lt item (written ws))) (among-written ws item ∙ e)
        ∙ sym (long ∙ writes-more (λ (i : ℕ). is_some (own ws i)) (λ (i : ℕ). is_some (own (set ws item (Some v)) i)) item 0 (length ws) (omega arith) (omega (arith, l)) (record { fresh = e; here = here; others = others }))

-- an item behind all others is put behind them
put-behind : (item : ℕ) (items : List ℕ) → AllByRecursion (λ (i : ℕ). i < item) items → index.put_in_order nat_lt item items ≡ items ++ item ∷ []
put-behind item [] h = refl
put-behind item (i ∷ is) h = rw (lt-ltb i item h.0) (ap (λ js. i ∷ js) (put-behind item is h.1))

not-among : (item : ℕ) (items : List ℕ) → AllByRecursion (λ (i : ℕ). i < item) items → index.is_among items item ≡ false
not-among item [] h = refl
not-among item (i ∷ is) h = rw (ne_eqb item i (let l = h.0 in λ e. omega arith)) (not-among item is h.1)

pub last-write : (reads : List index.Read) (items : List ℕ) (item : ℕ) → AllByRecursion (λ (i : ℕ). i < item) items
    → index.with_write (record { reads = reads; writes = items }) item ≡ record { reads = reads; writes = items ++ item ∷ [] }
last-write reads items item h =
    ap (λ t. lane_made reads (cond t items (index.put_in_order nat_lt item items))) (not-among item items h)
    ∙ ap (lane_made reads) (put-behind item items h)

-- what was written from an item on, by the values from there on
from-here : (all : Writes) (from : ℕ) (rest : Writes) → ((i : ℕ) → own all (from + i) ≡ own rest i) → writes_of (λ (item : ℕ). is_some (own all item)) from (length rest) ≡ map (λ (e : ℕ × ℤ). e.0) (entries from rest)
from-here all from [] h = refl
from-here all from (o ∷ rest) h = go o (is_some (own all from)) (ap (λ (w : Option ℤ). is_some w) (ap (own all) (omega arith) ∙ h 0)) (from-here all (suc from) rest (λ i. ap (own all) (omega arith) ∙ h (suc i)))
  where
    go : (o : Option ℤ) (t : Bool) → t ≡ is_some o → writes_of (λ (item : ℕ). is_some (own all item)) (suc from) (length rest) ≡ map (λ (e : ℕ × ℤ). e.0) (entries (suc from) rest)
        → cond t (from ∷ writes_of (λ (item : ℕ). is_some (own all item)) (suc from) (length rest)) (writes_of (λ (item : ℕ). is_some (own all item)) (suc from) (length rest)) ≡ map (λ (e : ℕ × ℤ). e.0) (entries from (o ∷ rest))
    go None t e r = rw e r
    go (Some v) t e r = rw e (ap (λ is. from ∷ is) r)

pub written-entries : (ws : Writes) → written ws ≡ map (λ (e : ℕ × ℤ). e.0) (entries 0 ws)
written-entries ws = from-here ws 0 ws (λ i. ap (own ws) (omega arith))
