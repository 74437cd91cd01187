-- Lemmas on maps as ascending entries.
use Rattle.std.specs.Prelude.{◌≡◌, ◌≢◌, ℕ, zero, suc, ◌+◌, ◌<◌, ◌≤◌, ℤ, Bool, true, false, if◌then◌else◌, nat_eq, nat_lt, List, [], ◌∷◌, ◌++◌, None, Some, length, drop, get_or, set, insert, replicate, slice_get, slice_set, ◌-◌, ◌⊎◌, Result, Ok, Err, IsOk, is_ok}
use Rattle.std.proofs.Common.{inl, inr, refl, sym, ap, ◌∙◌, subst, arith, add-one, drop-cons, length-set}
use Rattle.std.proofs.Math.ListN.{drop_of_length-le}
use Rattle.txn_runs.specs.Run.{Tables, Writes, own}
use Rattle.txn_runs.specs.Serial.{over, instead}
use Rattle.access_sets.specs.Entries.{entries, found, map_of, place_of, AreAscending}

abbrev pub Entries : Type 0
Entries = List (ℕ × ℤ)

eq_true : (a b : ℕ) → nat_eq a b ≡ true → a ≡ b
eq_true a b e = grind (arith, e)

eq_false : (a b : ℕ) → nat_eq a b ≡ false → a ≢ b
eq_false a b e = grind (arith, e)

-- items below all entries have nothing
pub found_below : (es : Entries) (from room item : ℕ) → AreAscending from room es → item < from → found es item ≡ None
found_below [] from room item h lt = refl
found_below (e ∷ es) from room item h lt =
    let ne : nat_eq e.0 item ≡ false = grind (arith, h.0, lt) in
    rw ne (found_below es (suc e.0) room item h.2 (omega (arith, h.0, lt)))

found_above : (es : Entries) (from room item : ℕ) → AreAscending from room es → room ≤ item → found es item ≡ None
found_above [] from room item h le = refl
found_above (e ∷ es) from room item h le =
    let ne : nat_eq e.0 item ≡ false = grind (arith, h.1, le) in
    rw ne (found_above es (suc e.0) room item h.2 le)

pub length_map : (many item : ℕ) (es : Entries) → length (map_of item many es) ≡ many
length_map zero item es = refl
length_map (suc many) item es = ap suc (length_map many (suc item) es)

own_map : (many item : ℕ) (es : Entries) (j : ℕ) → j < many → own (map_of item many es) j ≡ found es (item + j)
own_map zero item es j lt = absurd (omega arith)
own_map (suc many) item es zero lt = ap (found es) (let e : item ≡ item + 0 = omega arith in e)
own_map (suc many) item es (suc j) lt = own_map many (suc item) es j (omega arith) ∙ ap (found es) (let e : suc item + j ≡ item + suc j = omega arith in e)

own_past : (ws : Writes) (j : ℕ) → length ws ≤ j → own ws j ≡ None
own_past [] j le = refl
own_past (w ∷ ws) zero le = absurd (omega arith)
own_past (w ∷ ws) (suc j) le = own_past ws j (omega arith)

which : (m n : ℕ) → (m < n) ⊎ (n ≤ m)
which zero zero = inr (omega arith)
which zero (suc n) = inl (omega arith)
which (suc m) zero = inr (omega arith)
which (suc m) (suc n) = elim (which m n) [ inl h ↦ inl (omega (arith, h)) | inr h ↦ inr (omega (arith, h)) ]

-- what the map has of an item is what the entries have
pub own_found : (room : ℕ) (es : Entries) (j : ℕ) → AreAscending 0 room es → own (map_of 0 room es) j ≡ found es j
own_found room es j h =
    elim (which j room) [
      | inl lt ↦ own_map room 0 es j lt ∙ ap (found es) (let e : 0 + j ≡ j = omega arith in e)
      | inr le ↦ own_past (map_of 0 room es) j (omega (arith, length_map room 0 es, le)) ∙ sym (found_above es 0 room j h le)
    ]

-- maps are the same where their entries have the same of each item from here on
same_map : (many item : ℕ) (es fs : Entries) → ((i : ℕ) → item ≤ i → found es i ≡ found fs i) → map_of item many es ≡ map_of item many fs
same_map zero item es fs h = refl
same_map (suc many) item es fs h = λ k. h item (omega arith) k ∷ same_map many (suc item) es fs (λ i le. h i (omega (arith, le))) k

-- an item with its value, and of each other what was there
abbrev pub IsPut : Entries → Entries → ℕ → ℤ → Type 0
IsPut es fs item v = (found fs item ≡ Some v) × ((i : ℕ) → i ≢ item → found fs i ≡ found es i)

put_map : (many from k item : ℕ) (es fs : Entries) (v : ℤ) → item ≡ from + k → k < many → IsPut es fs item v → map_of from many fs ≡ set (map_of from many es) k (Some v)
put_map zero from k item es fs v at lt h = absurd (omega arith)
put_map (suc many) from zero item es fs v at lt h =
    let here : item ≡ from = omega (arith, at) in
    λ i. (ap (found fs) (sym here) ∙ h.0) i ∷ same_map many (suc from) fs es (λ j le. h.1 j (λ e. absurd (omega (arith, e, here, le)))) i
put_map (suc many) from (suc k) item es fs v at lt h =
    λ i. h.1 from (λ e. absurd (omega (arith, e, at))) i ∷ put_map many (suc from) k item es fs v (omega (arith, at)) (omega arith) h i

-- entries without an item, and what is put between them
pub found_head : (e : ℕ × ℤ) (es : Entries) (item : ℕ) (v : ℤ) → e.0 ≡ item → e.1 ≡ v → found (e ∷ es) item ≡ Some v
found_head e es item v is has = let t : nat_eq e.0 item ≡ true = grind (arith, is) in rw t (ap (λ x. Some x) has)

pub found_other : (e : ℕ × ℤ) (es : Entries) (i : ℕ) → e.0 ≢ i → found (e ∷ es) i ≡ found es i
found_other e es i ne = let t : nat_eq e.0 i ≡ false = grind (arith, ne) in rw t refl

found_tail : (e : ℕ × ℤ) (es fs : Entries) (i : ℕ) (b : Bool) → nat_eq e.0 i ≡ b → found es i ≡ found fs i → found (e ∷ es) i ≡ found (e ∷ fs) i
found_tail e es fs i true t h = rw t refl
found_tail e es fs i false t h = rw t h

-- what setting the place of an item makes of the entries
pub record Put (from room item : ℕ) (v : ℤ) (es fs : Entries) : Type 0 where
  pub ascending : AreAscending from room fs
  pub puts : IsPut es fs item v

put_head : (from room item : ℕ) (v : ℤ) (e : ℕ × ℤ) (es fs : Entries) → e.0 < item → from ≤ e.0 → e.0 < room → Put (suc e.0) room item v es fs → Put from room item v (e ∷ es) (e ∷ fs)
put_head from room item v e es fs lt le below p =
    let differs : e.0 ≢ item = λ is. absurd (omega (arith, lt, is)) in
    record {
      ascending = (le, below, p.ascending);
      puts = (found_other e fs item differs ∙ p.puts.0, λ i ne. found_tail e fs es i (nat_eq e.0 i) refl (p.puts.1 i ne));
    }

set_by : (from room item : ℕ) (v w : ℤ) (e : ℕ × ℤ) (es : Entries) (b : Bool) → nat_lt e.0 item ≡ b → AreAscending from room (e ∷ es) → slice_get (e ∷ es) (if b then suc (place_of es item) else 0) ≡ Some (item, w) → (AreAscending (suc e.0) room es → slice_get es (place_of es item) ≡ Some (item, w) → Put (suc e.0) room item v es (set es (place_of es item) (item, v))) → Put from room item v (e ∷ es) (set (e ∷ es) (if b then suc (place_of es item) else 0) (item, v))
set_by from room item v w e es true lt h is rest = put_head from room item v e es _ (grind (arith, lt)) h.0 h.1 (rest h.2 is)
set_by from room item v w e es false lt h is rest =
    let same : e ≡ (item, w) = cc in
    let at : e.0 ≡ item = ap (λ x. x.0) same in
    record {
      ascending = (omega (arith, h.0, at), omega (arith, h.1, at), subst (λ n. AreAscending (suc n) room es) at h.2);
      puts = (found_head (item, v) es item v refl refl, λ i ne. found_other (item, v) es i (λ q. ne (sym q)) ∙ sym (found_other e es i (λ q. ne (sym q ∙ at))));
    }

pub set_put : (from room item : ℕ) (v w : ℤ) (es : Entries) → AreAscending from room es → slice_get es (place_of es item) ≡ Some (item, w) → Put from room item v es (set es (place_of es item) (item, v))
set_put from room item v w [] h is = cc
set_put from room item v w (e ∷ es) h is = set_by from room item v w e es (nat_lt e.0 item) refl h is (set_put (suc e.0) room item v w es)

insert_by : (from room item : ℕ) (v : ℤ) (e : ℕ × ℤ) (es : Entries) (b : Bool) → nat_lt e.0 item ≡ b → from ≤ item → item < room → AreAscending from room (e ∷ es) → ((w : ℤ) → slice_get (e ∷ es) (if b then suc (place_of es item) else 0) ≡ Some (item, w) → ⊥) → (suc e.0 ≤ item → AreAscending (suc e.0) room es → ((w : ℤ) → slice_get es (place_of es item) ≡ Some (item, w) → ⊥) → Put (suc e.0) room item v es (insert es (place_of es item) (item, v))) → Put from room item v (e ∷ es) (insert (e ∷ es) (if b then suc (place_of es item) else 0) (item, v))
insert_by from room item v e es true lt le below h none rest =
    let less : e.0 < item = grind (arith, lt) in put_head from room item v e es _ less h.0 h.1 (rest (omega (arith, less)) h.2 none)
insert_by from room item v e es false lt le below h none rest =
    let ne : e.0 ≢ item = λ q. none e.1 (ap (λ k. Some (k, e.1)) q) in
    let ge : item ≤ e.0 = grind (arith, lt) in
    let more : suc item ≤ e.0 = omega (arith, ge, ne) in
    record {
      ascending = (le, below, (more, h.1, h.2));
      puts = (found_head (item, v) (e ∷ es) item v refl refl, λ i differs. found_other (item, v) (e ∷ es) i (λ q. differs (sym q)));
    }

pub insert_put : (from room item : ℕ) (v : ℤ) (es : Entries) → from ≤ item → item < room → AreAscending from room es → ((w : ℤ) → slice_get es (place_of es item) ≡ Some (item, w) → ⊥) → Put from room item v es (insert es (place_of es item) (item, v))
insert_put from room item v [] le below h none =
    record { ascending = (le, below, tt); puts = (found_head (item, v) [] item v refl refl, λ i differs. found_other (item, v) [] i (λ q. differs (sym q))) }
insert_put from room item v (e ∷ es) le below h none = insert_by from room item v e es (nat_lt e.0 item) refl le below h none (λ more asc no. insert_put (suc e.0) room item v es more below asc no)

-- the map after a value was put
pub put_is : (room item : ℕ) (v : ℤ) (es fs : Entries) → item < room → Put 0 room item v es fs → map_of 0 room fs ≡ slice_set (map_of 0 room es) item (Some v)
put_is room item v es fs lt p = put_map room 0 item item es fs v (omega arith) lt p.puts

pub length_entries : (from room : ℕ) (es : Entries) → AreAscending from room es → length es ≤ room - from
length_entries from room [] h = omega arith
length_entries from room (e ∷ es) h = omega (arith, h.0, h.1, length_entries (suc e.0) room es h.2)

pub few : (room : ℕ) (es : Entries) → AreAscending 0 room es → length es ≤ room
few room es h = omega (arith, length_entries 0 room es h)

-- an entry that isn't there leaves a place free
pub place_left : (room item : ℕ) (v : ℤ) (es : Entries) → item < room → AreAscending 0 room es → ((w : ℤ) → slice_get es (place_of es item) ≡ Some (item, w) → ⊥) → length (insert es (place_of es item) (item, v)) ≤ room
place_left room item v es lt h none = few room _ (insert_put 0 room item v es (omega arith) lt h none).ascending

place_by : (e : ℕ × ℤ) (es : Entries) (item : ℕ) (b : Bool) → place_of es item ≤ length es → (if b then suc (place_of es item) else 0) ≤ length (e ∷ es)
place_by e es item true le = omega (arith, le)
place_by e es item false le = omega arith

pub place_within : (es : Entries) (item : ℕ) → place_of es item ≤ length es
place_within [] item = omega arith
place_within (e ∷ es) item = place_by e es item (nat_lt e.0 item) (place_within es item)

-- the entries of the map are the entries
head_entries : (many item : ℕ) (e : ℕ × ℤ) (es : Entries) (b : Bool) → nat_eq e.0 item ≡ b → AreAscending item (item + suc many) (e ∷ es) → ((fs : Entries) → AreAscending (suc item) (suc item + many) fs → entries (suc item) (map_of (suc item) many fs) ≡ fs) → entries item (found (e ∷ es) item ∷ map_of (suc item) many (e ∷ es)) ≡ e ∷ es
head_entries many item e es true t h each =
    let at : e.0 ≡ item = eq_true e.0 item t in
    let same : map_of (suc item) many (e ∷ es) ≡ map_of (suc item) many es = same_map many (suc item) (e ∷ es) es (λ i le. found_other e es i (λ q. absurd (omega (arith, le, q, at)))) in
    let rest : AreAscending (suc item) (suc item + many) es = subst (λ n. AreAscending (suc item) n es) (let k : item + suc many ≡ suc item + many = omega arith in k) (subst (λ n. AreAscending (suc n) (item + suc many) es) at h.2) in
    ap (λ o. entries item (o ∷ map_of (suc item) many (e ∷ es))) (found_head e es item e.1 at refl) ∙ ap (λ m. (item, e.1) ∷ entries (suc item) m) same ∙ ap (λ x. (item, e.1) ∷ x) (each es rest) ∙ ap (λ n. (n, e.1) ∷ es) (sym at)
head_entries many item e es false t h each =
    let ne : e.0 ≢ item = eq_false e.0 item t in
    let more : suc item ≤ e.0 = omega (arith, h.0, ne) in
    let none : found (e ∷ es) item ≡ None = found_other e es item ne ∙ found_below es (suc e.0) (item + suc many) item h.2 (omega (arith, h.0)) in
    ap (λ o. entries item (o ∷ map_of (suc item) many (e ∷ es))) none ∙ each (e ∷ es) (more, omega (arith, h.1), subst (λ n. AreAscending (suc e.0) n es) (let k : item + suc many ≡ suc item + many = omega arith in k) h.2)

pub entries_map : (many item : ℕ) (es : Entries) → AreAscending item (item + many) es → entries item (map_of item many es) ≡ es
entries_map zero item [] h = refl
entries_map zero item (e ∷ es) h = absurd (omega (arith, h.0, h.1))
entries_map (suc many) item [] h = entries_map many (suc item) [] tt
entries_map (suc many) item (e ∷ es) h = head_entries many item e es (nat_eq e.0 item) refl h (entries_map many (suc item))

pub entries_are : (room : ℕ) (es : Entries) → AreAscending 0 room es → entries 0 (map_of 0 room es) ≡ es
entries_are room es h = entries_map room 0 es (subst (λ n. AreAscending 0 n es) (let k : room ≡ 0 + room = omega arith in k) h)

pub no_entries : (many item : ℕ) → map_of item many [] ≡ replicate many None
no_entries zero item = refl
no_entries (suc many) item = ap (λ x. None ∷ x) (no_entries many (suc item))

-- laying a map is laying its first entry and then the others
over_head : (many item : ℕ) (e : ℕ × ℤ) (es : Entries) (j : ℕ) (ts : Tables) → e.0 ≡ item + j → j < many → length ts ≡ many → found es e.0 ≡ None → over (map_of item many (e ∷ es)) ts ≡ over (map_of item many es) (set ts j e.1)
over_head zero item e es j ts at lt long none = absurd (omega (arith, lt))
over_head (suc many) item e es j [] at lt long none = absurd (omega (arith, long))
over_head (suc many) item e es zero (t ∷ ts) at lt long none =
    let here : e.0 ≡ item = omega (arith, at) in
    let same : map_of (suc item) many (e ∷ es) ≡ map_of (suc item) many es = same_map many (suc item) (e ∷ es) es (λ i le. found_other e es i (λ q. absurd (omega (arith, le, q, here)))) in
    ap (λ o. instead t o ∷ over (map_of (suc item) many (e ∷ es)) ts) (found_head e es item e.1 here refl) ∙ ap (λ m. e.1 ∷ over m ts) same ∙ ap (λ o. instead e.1 o ∷ over (map_of (suc item) many es) ts) (sym none ∙ ap (found es) here)
over_head (suc many) item e es (suc j) (t ∷ ts) at lt long none =
    ap (λ o. instead t o ∷ over (map_of (suc item) many (e ∷ es)) ts) (found_other e es item (λ q. absurd (omega (arith, q, at)))) ∙ ap (λ m. instead t (found es item) ∷ m) (over_head many (suc item) e es j ts (omega (arith, at)) (omega (arith, lt)) (omega (arith, long)) none)

over_none : (many item : ℕ) (ts : Tables) → over (map_of item many []) ts ≡ ts
over_none zero item [] = refl
over_none zero item (t ∷ ts) = refl
over_none (suc many) item [] = refl
over_none (suc many) item (t ∷ ts) = ap (λ x. t ∷ x) (over_none many (suc item) ts)

-- the entries before a place are laid over the table, and the others are left
pub record Rest (es : Entries) (i room : ℕ) (old new : Tables) : Type 0 where
  pub long : length new ≡ room
  pub from : ℕ
  pub ascending : AreAscending from room (drop i es)
  pub left : over (map_of 0 room es) old ≡ over (map_of 0 room (drop i es)) new

drop_is : (es : Entries) (i : ℕ) (e : ℕ × ℤ) → i < length es → e ≡ get_or es i e → drop i es ≡ e ∷ drop (i + 1) es
drop_is es i e lt is = rw (add-one, drop-cons es i e lt, ← is) refl

pub rest_more : (es : Entries) (i room : ℕ) (old new : Tables) (e : ℕ × ℤ) → Rest es i room old new → i < length es → e ≡ get_or es i e → Rest es (i + 1) room old (set new e.0 e.1)
rest_more es i room old new e r lt is =
    let here = drop_is es i e lt is in
    let h = subst (AreAscending r.from room) here r.ascending in
    let more = drop (i + 1) es in
    record {
      long = length-set new e.0 e.1 ∙ r.long;
      from = suc e.0;
      ascending = h.2;
      left = r.left ∙ ap (λ x. over (map_of 0 room x) new) here ∙ over_head room 0 e more e.0 new (omega arith) h.1 r.long (found_below more (suc e.0) room e.0 h.2 (omega arith));
    }

pub rest_none : (es : Entries) (i room : ℕ) (old new : Tables) → Rest es i room old new → i ≡ length es → new ≡ over (map_of 0 room es) old
rest_none es i room old new r all =
    let none : drop i es ≡ [] = drop_of_length-le es (omega (arith, all)) in
    sym (r.left ∙ ap (λ x. over (map_of 0 room x) new) none ∙ over_none room 0 new)

pub length_insert : (es : Entries) (k : ℕ) (x : ℕ × ℤ) → k ≤ length es → length (insert es k x) ≡ length es + 1
length_insert [] zero x le = omega arith
length_insert [] (suc k) x le = absurd (omega arith)
length_insert (e ∷ es) zero x le = omega arith
length_insert (e ∷ es) (suc k) x le = omega (arith, length_insert es k x (omega arith))

-- what is there after an insertion that found room
pub inserted : {E : Type 0} (r : Result (Unit {0}) E) (old new more : Entries) → new ≡ (if is_ok r then more else old) → IsOk r → new ≡ more
inserted (Ok u) old new more is ok = is
inserted (Err e) old new more is ok = cc

-- what a list holds after it was cleared and another one was appended
pub appended : {E : Type 0} (r : Result (Unit {0}) E) (old new more other : Entries) → new ≡ (if is_ok r then old ++ more else old) → IsOk r → old ≡ [] → more ≡ other → new ≡ other
appended (Ok u) old new more other is ok empty same = is ∙ ap (λ xs. xs ++ more) empty ∙ same
appended (Err e) old new more other is ok empty same = cc

pub some_below : (room item : ℕ) (v : ℤ) (es : Entries) → item < room → AreAscending 0 room es → ((w : ℤ) → slice_get es (place_of es item) ≡ Some (item, w) → ⊥) → length es < room
some_below room item v es lt h none = omega (arith, place_left room item v es lt h none, length_insert es (place_of es item) (item, v) (place_within es item))

-- an element that is there, whatever stands in for one that isn't
pub get_default : (es : Entries) (i : ℕ) (d e : ℕ × ℤ) → i < length es → get_or es i d ≡ get_or es i e
get_default [] i d e lt = absurd (omega arith)
get_default (x ∷ es) zero d e lt = refl
get_default (x ∷ es) (suc i) d e lt = get_default es i d e (omega arith)

pub get_some : (es : Entries) (i : ℕ) (e : ℕ × ℤ) → i < length es → e ≡ get_or es i e → slice_get es i ≡ Some e
get_some [] i e lt is = absurd (omega arith)
get_some (x ∷ es) zero e lt is = ap (λ y. Some y) (sym is)
get_some (x ∷ es) (suc i) e lt is = get_some es i e (omega arith) is
