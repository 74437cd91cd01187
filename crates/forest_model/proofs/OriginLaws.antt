-- The origin and the successor say where settling and a cut take their shadows from.
use Rattle.std.proofs.Common.{◌≡◌, ℕ, ◌<◌, ◌≤◌, ◌==◌, ◌&&◌, Bool, false, ltb, leb, max, List, [], ◌∷◌, map, find, is_some, Option, Some, None, IfSome, option_map, refl, ap, sym, ◌∙◌, arith, ltb-true, ltb-false, eq-eqb, ◌≢◌, filter}
use Rattle.std.specs.List.{AllByRecursion, AllZip, list_any}
use Rattle.std.proofs.lemmas.Bool.{cases_Bool, cond_both, ne_eqb}
use Rattle.forest_model.specs.Choose.{greatest_up_to, earlier_of}
use Rattle.forest_model.specs.Forest.{Shadow, Started, Forest, wanted}
use Rattle.forest_model.specs.Settle.{stands_for, stay_or_copy, settled_shadows, positions_in}
use Rattle.forest_model.specs.Cut.{survives, survivors, heir, is_further, resumed_by, after_cut}
use Rattle.forest_model.specs.Point.{Conflict}
use Rattle.forest_model.specs.Sound.{StandsFor, IsSound}
use Rattle.forest_model.specs.Origin.{Placed, is_kept, is_further as is_further_placed, furthest, from_found, origin, successor, position_of, placed, placed_of, AreApart, waiting_for, position_at, new_for, from_origin, waiting_at}
use Rattle.forest_model.proofs.FirstLaws.{first_by-has}
use Rattle.forest_model.proofs.Lists.{either, map-map, map-agree, all-map, all-filter, all-both, all-weaken, all-everywhere}
use Rattle.forest_model.proofs.RestLaws.{IsApart, wanted-apart}

later-position : (x : Placed) (o : Option Placed) → (earlier_of is_further_placed x o).1 ≡ max x.1 (position_of o)
later-position x None = omega arith
later-position x (Some y) =
    cond_both {A = Placed} (ltb x.1 y.1) y x (λ z. z.1 ≡ max x.1 y.1)
    (λ e. let lt : x.1 < y.1 = ltb-true _ _ e in omega arith)
    (λ e. let ge : y.1 ≤ x.1 = ltb-false _ _ e in omega arith)

-- the furthest stands at the greatest position up to the limit
pub furthest-position : (xs : List Placed) (limit : ℕ) → position_of (furthest xs limit) ≡ greatest_up_to limit (map (λ (x : Placed). x.1) xs)
furthest-position [] limit = refl
furthest-position (x ∷ xs) limit =
    either (cases_Bool (leb x.1 limit))
    (λ e. rw e (later-position x (furthest xs limit) ∙ ap (max x.1) (furthest-position xs limit)))
    (λ e. rw e (furthest-position xs limit))

placed-positions : (ss : List Shadow) → map (λ (x : Placed). x.1) (map placed ss) ≡ map (λ (s : Shadow). s.position) ss
placed-positions ss = map-map (λ (x : Placed). x.1) placed ss

-- so a copy that settling makes stands where its origin does
pub copy-position : (r : Started) (limit : ℕ) → position_of (furthest (placed_of r) limit) ≡ greatest_up_to limit (positions_in (Some r))
copy-position r limit = furthest-position (placed_of r) limit ∙ ap (λ ns. greatest_up_to limit (r.position ∷ ns)) (placed-positions r.shadows)

-- a shadow is kept where settling finds it
pub kept-found : (r : Started) (u p : ℕ) → list_any (is_kept u p) (placed_of r) ≡ is_some (find (stands_for (u, p)) r.shadows)
kept-found r u p = go r.shadows
  where
    go : (ss : List Shadow) → list_any (is_kept u p) (map placed ss) ≡ is_some (find (stands_for (u, p)) ss)
    go [] = refl
    go (s ∷ ss) = either (cases_Bool (s.guard == u && leb s.position p)) (λ e. rw e refl) (λ e. rw e (go ss))

-- the heir of a cut is the furthest survivor
later-shadow : (s : Shadow) (o : Option Shadow) → earlier_of is_further_placed (placed s) (option_map placed o) ≡ placed (earlier_of is_further s o)
later-shadow s None = refl
later-shadow s (Some t) = either (cases_Bool (ltb s.position t.position)) (λ e. rw e refl) (λ e. rw e refl)

heir-placed : (ss : List Shadow) (cut : ℕ) → furthest (map placed ss) cut ≡ option_map placed (heir (survivors (Some cut) ss))
heir-placed [] cut = refl
heir-placed (s ∷ ss) cut =
    either (cases_Bool (leb s.position cut))
    (λ e. rw e (ap (λ o. Some (earlier_of is_further_placed (placed s) o)) (heir-placed ss cut) ∙ ap Some (later-shadow s (heir (survivors (Some cut) ss)))))
    (λ e. rw e (heir-placed ss cut))

pub heir-furthest_survivor : (r : Started) (cut : ℕ) → leb r.position cut ≡ false → furthest (placed_of r) cut ≡ option_map placed (heir (survivors (Some cut) r.shadows))
heir-furthest_survivor r cut e = rw e (heir-placed r.shadows cut)

-- A shadow is found by its guard.

apart-filter : (test : Shadow → Bool) (ss : List Shadow) → AreApart ss → AreApart (filter test ss)
apart-filter test [] h = tt
apart-filter test (s ∷ ss) h =
    cond_both (test s) (s ∷ filter test ss) (filter test ss) AreApart
    (λ e. (all-filter (λ x. s.guard ≢ x.guard) test ss h.0, apart-filter test ss h.1))
    (λ e. apart-filter test ss h.1)

apart-resumed : (o : Option Shadow) (r : Started) (ss : List Shadow) → AreApart ss → AreApart (resumed_by o r ss).shadows
apart-resumed None r ss h = tt
apart-resumed (Some s) r ss h = apart-filter _ ss h

-- a cut leaves no two for one guard
pub apart-cut : (r : Started) (cut : Option ℕ) → AreApart r.shadows → AreApart (after_cut cut r).shadows
apart-cut r cut h =
    let left = apart-filter (λ s. survives cut s.position) r.shadows h in
    cond_both (survives cut r.position) _ _ (λ (q : Started). AreApart q.shadows)
    (λ e. left)
    (λ e. apart-resumed (heir (survivors cut r.shadows)) r (survivors cut r.shadows) left)

zip-apart : (ss : List Shadow) (ws : List Conflict) → AllZip StandsFor ss ws → IsApart ws → AreApart ss
zip-apart [] ws h apart = tt
zip-apart (s ∷ ss) [] h apart = absurd h
zip-apart (s ∷ ss) (w ∷ ws) h apart = (others ss ws h.1 apart.0, zip-apart ss ws h.1 apart.1)
  where
    others : (ts : List Shadow) (vs : List Conflict) → AllZip StandsFor ts vs → AllByRecursion (λ v. w.0 ≢ v.0) vs → AllByRecursion (λ t. s.guard ≢ t.guard) ts
    others [] vs z all = tt
    others (t ∷ ts) [] z all = absurd z
    others (t ∷ ts) (v ∷ vs) z all = ((λ e. all.0 (sym h.0.0 ∙ (e ∙ z.0.0))), others ts vs z.1 all.1)

-- in a sound forest no two of a transaction's shadows wait for one guard
pub sound-apart : (f : Forest) → IsSound f → AllByRecursion (λ (r : Started). AreApart r.shadows) f.started
sound-apart f h =
    all-weaken (λ r. AllZip StandsFor r.shadows (wanted f r)) (λ r. AreApart r.shadows)
    (λ r fits. zip-apart r.shadows (wanted f r) fits (wanted-apart f r h.right.rising)) f.started h.settled

each-found : (ss : List Shadow) → AreApart ss → AllByRecursion (λ s. waiting_for s.guard ss ≡ Some s) ss
each-found [] h = tt
each-found (s ∷ ss) h = (
  rw (eq-eqb s.guard s.guard refl) refl,
  all-both (λ x. s.guard ≢ x.guard) (λ x. waiting_for x.guard ss ≡ Some x) (λ x. waiting_for x.guard (s ∷ ss) ≡ Some x)
      (λ x ne found. rw (ne_eqb s.guard x.guard ne) found) ss h.0 (each-found ss h.1),
)

each-placed : (r : Started) → AreApart r.shadows → AllByRecursion (λ (x : Placed). position_at r x.0 ≡ Some x.1) (placed_of r)
each-placed r h = (
  refl,
  all-map (λ (x : Placed). position_at r x.0 ≡ Some x.1) placed r.shadows
      (all-weaken (λ s. waiting_for s.guard r.shadows ≡ Some s) (λ s. position_at r (placed s).0 ≡ Some (placed s).1)
      (λ s found. ap (option_map (λ (x : Shadow). x.position)) found) r.shadows (each-found r.shadows h)),
)

furthest-placed : (r : Started) (limit : ℕ) → AreApart r.shadows → IfSome (furthest (placed_of r) limit) (λ (x : Placed). position_at r x.0 ≡ Some x.1)
furthest-placed r limit h =
    let near : List Placed = filter (λ (x : Placed). leb x.1 limit) (placed_of r) in
    first_by-has (λ (x : Placed). position_at r x.0 ≡ Some x.1) is_further_placed near
    (all-filter (λ (x : Placed). position_at r x.0 ≡ Some x.1) (λ (x : Placed). leb x.1 limit) (placed_of r) (each-placed r h))

-- Settling takes each shadow from its origin.

copied-from : (r : Started) (w : Conflict) (o : Option Placed) → IfSome o (λ x. position_at r x.0 ≡ Some x.1) → Some (new_for w (position_of o)) ≡ from_origin (from_found o) r w
copied-from r w None h = refl
copied-from r w (Some x) h = sym (ap (option_map (new_for w)) h)

pub settled-from : (r : Started) (w : Conflict) → AreApart r.shadows
    → Some (stay_or_copy (find (stands_for w) r.shadows) (positions_in (Some r)) w) ≡ from_origin (origin (placed_of r) w.0 w.1) r w
settled-from r w h = go (find (stands_for w) r.shadows) refl (kept-found r w.0 w.1)
  where
    go : (o : Option Shadow) → find (stands_for w) r.shadows ≡ o → list_any (is_kept w.0 w.1) (placed_of r) ≡ is_some o
        → Some (stay_or_copy o (positions_in (Some r)) w) ≡ from_origin (origin (placed_of r) w.0 w.1) r w
    go (Some s) found kept = rw kept (sym found)
    go None found kept =
        rw (kept, ← copy-position r w.1) (copied-from r w (furthest (placed_of r) w.1) (furthest-placed r w.1 h))

pub all-settled-from : (r : Started) (ws : List Conflict) → AreApart r.shadows
    → map Some (settled_shadows (Some r) ws) ≡ map (λ (w : Conflict). from_origin (origin (placed_of r) w.0 w.1) r w) ws
all-settled-from r ws h =
    map-map Some (λ (w : Conflict). stay_or_copy (find (stands_for w) r.shadows) (positions_in (Some r)) w) ws
    ∙ map-agree _ _ ws (all-everywhere _ (λ (w : Conflict). settled-from r w h) ws)

-- A cut takes the optimistic shadow from the successor.

named : (ss : List Shadow) (o : Option Shadow) → IfSome o (λ s. waiting_for s.guard ss ≡ Some s) → o ≡ waiting_at (from_found (option_map placed o)) ss
named ss None h = refl
named ss (Some s) h = sym h

pub resumed-from : (r : Started) (cut : ℕ) → AreApart r.shadows → survives (Some cut) r.position ≡ false
    → after_cut (Some cut) r ≡ resumed_by (waiting_at (successor (placed_of r) cut) r.shadows) r (survivors (Some cut) r.shadows)
resumed-from r cut h past =
    let left = survivors (Some cut) r.shadows in
    let is : heir left ≡ waiting_at (successor (placed_of r) cut) r.shadows =
    named r.shadows (heir left) (first_by-has _ is_further left (all-filter (λ s. waiting_for s.guard r.shadows ≡ Some s) _ r.shadows (each-found r.shadows h)))
    ∙ ap (λ o. waiting_at (from_found o) r.shadows) (sym (heir-furthest_survivor r cut past))
    in
    let step : after_cut (Some cut) r ≡ resumed_by (heir left) r left = rw past refl in
    step ∙ ap (λ o. resumed_by o r left) is
