-- Reads and writes noted one after another.
use Rattle.std.specs.Prelude.{◌≡◌, ◌≢◌, ◌<◌, ◌≤◌, ◌+◌, ℕ, zero, suc, ℤ, true, List, [], ◌∷◌, ◌++◌, length, map, take, slice_get, slice_set, slice_index_or, None, Some}
use Rattle.std.proofs.Common.{refl, sym, ap, subst, arith, ◌∙◌, take_all}
use Rattle.std.proofs.lemmas.Bool.{lt-ltb}
use Rattle.std.proofs.lemmas.List.{get_or-set_same, set-set, set-get_or, map_push}
use Rattle.std.specs.List.{AllByRecursion}
use Rattle.std.proofs.Common.{add-one}
use Rattle.txn_runs.specs.Run.{Read, Writes}
use Rattle.txn_runs.specs.Reads.{IsFirst, IsLog}
use Rattle.access_sets.specs.Log.{AreBelow}
use Rattle.access_sets.specs.Entries.{entries, AreAscending}
use Rattle.shadow_lanes.proofs.Lists.{take_next}
use Rattle.conflict_index.specs.Index as index
use Rattle.conflict_index.specs.Index.{Lane, Index, forgotten, lane_at, lanes_with, with_read, with_write}
use Rattle.index_laws.specs.Noted.{noted, written, lane_of_run}
use Rattle.index_laws.proofs.Ties.{one-read, last-write, written-entries}

abbrev lane_made : List index.Read → List ℕ → Lane
lane_made rs items = record { reads = rs; writes = items }

-- one lane of an index set once more
set_more : (first now : Index) (place : ℕ) (lane new : Lane) (f : Lane → Lane) → place < length first.lanes → now.lanes ≡ lanes_with first place lane → f lane ≡ new
    → lanes_with now place (f (lane_at now place)) ≡ lanes_with first place new
set_more first now place lane new f lt is e =
    ap (λ ls. slice_set ls place (f (slice_index_or ls place forgotten))) is
    ∙ ap (λ l. slice_set (slice_set first.lanes place lane) place (f l)) (get_or-set_same first.lanes place lane forgotten lt)
    ∙ set-set first.lanes place lane (f lane)
    ∙ ap (λ l. slice_set first.lanes place l) e

-- before the first
pub none_noted : (first : Index) (place : ℕ) (lane : Lane) → lane_at first place ≡ lane → first.lanes ≡ lanes_with first place lane
none_noted first place lane is = sym (ap (λ l. slice_set first.lanes place l) (sym is) ∙ set-get_or first.lanes place forgotten)

-- Reads.

past_first : (x : Read) (rs : List Read) (i : ℕ) (r : Read) → IsFirst x rs → slice_get rs i ≡ Some r → (x.1 ≢ r.1) × (x.0 < r.0)
past_first x [] i r h is = cc
past_first x (q ∷ rs) zero r h is =
    let same : q ≡ r = cc in
    subst (λ (y : Read). (x.1 ≢ y.1) × (x.0 < y.0)) same ((λ e. absurd (grind (arith, h.1, e))), h.0)
past_first x (q ∷ rs) (suc i) r h is = past_first x rs i r h.2 is

before_it : (rs : List Read) (i : ℕ) (r : Read) → IsLog rs → slice_get rs i ≡ Some r → AllByRecursion (λ (x : Read). (x.1 ≢ r.1) × (index.is_sooner (x.0, x.1) (r.0, r.1) ≡ true)) (take i rs)
before_it [] i r h is = cc
before_it (x ∷ rs) zero r h is = tt
before_it (x ∷ rs) (suc i) r h is =
    let head = past_first x rs i r h.0 is in
    ((head.0, rw (lt-ltb x.0 r.0 head.1) refl), before_it rs i r h.1 is)

pub read_below : (room : ℕ) (rs : List Read) (i : ℕ) (r : Read) → AreBelow room rs → slice_get rs i ≡ Some r → r.1 < room
read_below room [] i r h is = cc
read_below room (x ∷ rs) zero r h is = let same : x ≡ r = cc in subst (λ (y : Read). y.1 < room) same h.0
read_below room (x ∷ rs) (suc i) r h is = read_below room rs i r h.1 is

pub reads_more : (first now : Index) (place : ℕ) (rs : List Read) (i : ℕ) (r : Read) → place < length first.lanes → IsLog rs → slice_get rs i ≡ Some r
    → now.lanes ≡ lanes_with first place (lane_made (noted (take i rs)) []) → lanes_with now place (with_read (lane_at now place) (r.0, r.1)) ≡ lanes_with first place (lane_made (noted (take (i + 1) rs)) [])
reads_more first now place rs i r lt log at is =
    let more : take (i + 1) rs ≡ take i rs ++ r ∷ [] = rw add-one (take_next rs i r at) in
    set_more first now place (lane_made (noted (take i rs)) []) (lane_made (noted (take (i + 1) rs)) []) (λ l. with_read l (r.0, r.1)) lt is
    (one-read (take i rs) r [] (before_it rs i r log at) ∙ ap (λ qs. lane_made (noted qs) []) (sym more))

-- Writes.

ascends_from : (from room : ℕ) (es : List (ℕ × ℤ)) → AreAscending (suc from) room es → AreAscending from room es
ascends_from from room [] h = tt
ascends_from from room (e ∷ es) h = (omega (arith, h.0), h.1, h.2)

entries_ascend : (from : ℕ) (ws : Writes) → AreAscending from (from + length ws) (entries from ws)
entries_ascend from [] = tt
entries_ascend from (Some v ∷ ws) = (omega arith, omega arith, subst (λ room. AreAscending (suc from) room (entries (suc from) ws)) (omega arith) (entries_ascend (suc from) ws))
entries_ascend from (None ∷ ws) = ascends_from from (from + suc (length ws)) (entries (suc from) ws) (subst (λ room. AreAscending (suc from) room (entries (suc from) ws)) (omega arith) (entries_ascend (suc from) ws))

-- what ascends
record Ascends (from room i : ℕ) (es : List (ℕ × ℤ)) (e : ℕ × ℤ) : Type 0 where
  least : from ≤ e.0
  below : e.0 < room
  before : AllByRecursion (λ n. n < e.0) (map (λ (x : ℕ × ℤ). x.0) (take i es))

ascends_at : (from room : ℕ) (es : List (ℕ × ℤ)) (i : ℕ) (e : ℕ × ℤ) → AreAscending from room es → slice_get es i ≡ Some e → Ascends from room i es e
ascends_at from room [] i e h is = cc
ascends_at from room (x ∷ es) zero e h is =
    let same : x ≡ e = cc in
    record { least = subst (λ (y : ℕ × ℤ). from ≤ y.0) same h.0; below = subst (λ (y : ℕ × ℤ). y.0 < room) same h.1; before = tt }
ascends_at from room (x ∷ es) (suc i) e h is =
    let rest = ascends_at (suc x.0) room es i e h.2 is in
    record { least = omega (arith, h.0, rest.least); below = rest.below; before = (omega (arith, rest.least), rest.before) }

pub write_below : (ws : Writes) (i : ℕ) (e : ℕ × ℤ) → slice_get (entries 0 ws) i ≡ Some e → e.0 < length ws
write_below ws i e is = let h = (ascends_at 0 (0 + length ws) (entries 0 ws) i e (entries_ascend 0 ws) is).below in omega (arith, h)

pub writes_more : (first now : Index) (place : ℕ) (rs : List index.Read) (ws : Writes) (i : ℕ) (e : ℕ × ℤ) → place < length first.lanes → slice_get (entries 0 ws) i ≡ Some e
    → now.lanes ≡ lanes_with first place (lane_made rs (map (λ (x : ℕ × ℤ). x.0) (take i (entries 0 ws))))
    → lanes_with now place (with_write (lane_at now place) e.0) ≡ lanes_with first place (lane_made rs (map (λ (x : ℕ × ℤ). x.0) (take (i + 1) (entries 0 ws))))
writes_more first now place rs ws i e lt at is =
    let es = entries 0 ws in
    let items = map (λ (x : ℕ × ℤ). x.0) (take i es) in
    let more : take (i + 1) es ≡ take i es ++ e ∷ [] = rw add-one (take_next es i e at) in
    let all : map (λ (x : ℕ × ℤ). x.0) (take (i + 1) es) ≡ items ++ e.0 ∷ [] = ap (map (λ (x : ℕ × ℤ). x.0)) more ∙ map_push (λ (x : ℕ × ℤ). x.0) (take i es) e in
    set_more first now place (lane_made rs items) (lane_made rs (map (λ (x : ℕ × ℤ). x.0) (take (i + 1) es))) (λ l. with_write l e.0) lt is
    (last-write rs items e.0 (ascends_at 0 (0 + length ws) es i e (entries_ascend 0 ws) at).before ∙ ap (lane_made rs) (sym all))

pub writes_all : (first now : Index) (place : ℕ) (rs : List index.Read) (ws : Writes) (i : ℕ) → length (entries 0 ws) ≤ i
    → now.lanes ≡ lanes_with first place (lane_made rs (map (λ (x : ℕ × ℤ). x.0) (take i (entries 0 ws)))) → now.lanes ≡ lanes_with first place (lane_made rs (written ws))
writes_all first now place rs ws i le is =
    is ∙ ap (λ items. lanes_with first place (lane_made rs items)) (ap (map (λ (x : ℕ × ℤ). x.0)) (take_all i (entries 0 ws) le) ∙ sym (written-entries ws))

-- All anew.

pub noted_anew : (first a b new : Index) (place : ℕ) (rs : List Read) (ws : Writes) → place < length first.lanes → a.lanes ≡ lanes_with first place forgotten → b.lanes ≡ lanes_with a place (lane_made (noted rs) [])
    → new.lanes ≡ lanes_with b place (lane_made (lane_at b place).reads (written ws)) → new.lanes ≡ lanes_with first place (lane_of_run rs ws)
noted_anew first a b new place rs ws lt of_a of_b of_new =
    let one : b.lanes ≡ lanes_with first place (lane_made (noted rs) []) = of_b ∙ set_more first a place forgotten (lane_made (noted rs) []) (λ l. lane_made (noted rs) []) lt of_a refl in
    of_new ∙ set_more first b place (lane_made (noted rs) []) (lane_of_run rs ws) (λ l. lane_made l.reads (written ws)) lt one refl
