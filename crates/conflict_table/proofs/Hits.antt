-- The least read of a written item is the point.
use Rattle.std.proofs.Common.{◌≡◌, ℕ, zero, suc, Bool, true, false, cond, List, [], ◌∷◌, map, filter, min, ℤ, Option, Some, None, is_some, slice_get, refl, ap, sym, ◌∙◌, arith, ◌⊎◌, inl, inr, ◌↔◌}
use Rattle.std.specs.List.{AllByRecursion}
use Rattle.std.proofs.lemmas.Bool.{cases_lt}
use Rattle.txn_runs.specs.Run.{Read, Writes, own}
use Rattle.access_sets.specs.Log.{IsHit, IsLeastHit}
use Rattle.forest_model.specs.Choose.{less_or, least}
use Rattle.forest_model.specs.Point.{is_changed, point}
use Rattle.forest_model.proofs.Lists.{either}

-- a hit of a longer list is its first read, or a hit of the rest
split-hit : (r : Read) (rs : List Read) (ws : Writes) (p place item : ℕ) (v : ℤ) → slice_get (r ∷ rs) place ≡ Some (p, item, v) → is_some (own ws item) ≡ true
    → ((is_changed ws r ≡ true) × (p ≡ r.0)) ⊎ IsHit rs ws p
split-hit r rs ws p zero item v is written =
    let e : r ≡ (p, item, v) = cc in
    inl (ap (is_changed ws) e ∙ written, sym (ap (λ (q : Read). q.0) e))
split-hit r rs ws p (suc place) item v is written = inr (record { place = place; item = item; value = v; is = is; written = written })

hit-parts : (r : Read) (rs : List Read) (ws : Writes) (p : ℕ) → IsHit (r ∷ rs) ws p → ((is_changed ws r ≡ true) × (p ≡ r.0)) ⊎ IsHit rs ws p
hit-parts r rs ws p h = split-hit r rs ws p h.place h.item h.value h.is h.written

hit-here : (r : Read) (rs : List Read) (ws : Writes) → is_changed ws r ≡ true → IsHit (r ∷ rs) ws r.0
hit-here r rs ws e = record { place = zero; item = r.1; value = r.2; is = refl; written = e }

hit-later : (r : Read) (rs : List Read) (ws : Writes) (p : ℕ) → IsHit rs ws p → IsHit (r ∷ rs) ws p
hit-later r rs ws p h = record { place = suc h.place; item = h.item; value = h.value; is = h.is; written = h.written }

-- a read of no written item changes nothing
skip-least : (r : Read) (rs : List Read) (ws : Writes) (o : Option ℕ) → is_changed ws r ≡ false → IsLeastHit rs ws o → IsLeastHit (r ∷ rs) ws o
skip-least r rs ws None e h = λ p hit. either (hit-parts r rs ws p hit) (λ here. let t = here.0 in cc) (h p)
skip-least r rs ws (Some m) e h = (hit-later r rs ws m h.0, λ p hit. either (hit-parts r rs ws p hit) (λ here. let t = here.0 in cc) (h.1 p))

-- a read of a written item is the least, or a lesser one behind it
add-least : (r : Read) (rs : List Read) (ws : Writes) (o : Option ℕ) → is_changed ws r ≡ true → IsLeastHit rs ws o → IsLeastHit (r ∷ rs) ws (Some (less_or o r.0))
add-least r rs ws None e h = (hit-here r rs ws e, λ p hit. either (hit-parts r rs ws p hit) (λ here. omega (arith, here.1)) (λ later. absurd (h p later)))
add-least r rs ws (Some m) e h = (
  either (cases_lt m r.0)
      (λ lt. let is : min m r.0 ≡ m = omega arith in rw is (hit-later r rs ws m h.0))
      (λ ge. let is : min m r.0 ≡ r.0 = omega arith in rw is (hit-here r rs ws e)),
  λ p hit. either (hit-parts r rs ws p hit) (λ here. omega (arith, here.1)) (λ later. omega (arith, h.1 p later)),
)

point-least : (rs : List Read) (ws : Writes) → IsLeastHit rs ws (point rs ws)
point-least [] ws = λ p hit. let is = hit.is in cc
point-least (r ∷ rs) ws = go (is_changed ws r) refl (point-least rs ws)
  where
    go : (t : Bool) → is_changed ws r ≡ t → IsLeastHit rs ws (point rs ws) → IsLeastHit (r ∷ rs) ws (least (map (λ (x : Read). x.0) (cond t (r ∷ filter (is_changed ws) rs) (filter (is_changed ws) rs))))
    go true e h = add-least r rs ws (point rs ws) e h
    go false e h = skip-least r rs ws (point rs ws) e h

one-least : (rs : List Read) (ws : Writes) (a b : Option ℕ) → IsLeastHit rs ws a → IsLeastHit rs ws b → a ≡ b
one-least rs ws None None g h = refl
one-least rs ws None (Some n) g h = absurd (g n h.0)
one-least rs ws (Some m) None g h = absurd (h m g.0)
one-least rs ws (Some m) (Some n) g h = let e : m ≡ n = omega (arith, g.1 n h.0, h.1 m g.0) in ap Some e

-- the least hit is the point
pub least-point : (rs : List Read) (ws : Writes) (o : Option ℕ) → IsLeastHit rs ws o → o ≡ point rs ws
least-point rs ws o h = one-least rs ws o (point rs ws) h (point-least rs ws)

-- there is none exactly where no item that was read is among the writes
pub none-written : (rs : List Read) (ws : Writes) → (point rs ws ≡ None) ↔ AllByRecursion (λ (r : Read). own ws r.1 ≡ None) rs
none-written [] ws = ((λ h. tt), λ h. refl)
none-written (r ∷ rs) ws = go (own ws r.1) (none-written rs ws)
  where
    go : (o : Option ℤ) → (point rs ws ≡ None) ↔ AllByRecursion (λ (r : Read). own ws r.1 ≡ None) rs
        → (least (map (λ (x : Read). x.0) (cond (is_some o) (r ∷ filter (is_changed ws) rs) (filter (is_changed ws) rs))) ≡ None) ↔ ((o ≡ None) × AllByRecursion (λ (r : Read). own ws r.1 ≡ None) rs)
    go None rest = ((λ h. (refl, rest.0 h)), λ h. rest.1 h.1)
    go (Some v) rest = ((λ h. cc), λ h. let e = h.0 in cc)
