-- What a step of an optimistic shadow changes of what is wanted.
use Rattle.std.proofs.Common.{◌≡◌, ◌≢◌, ℕ, ◌==◌, ℤ, Bool, true, false, List, [], ◌∷◌, map, is_some, Option, Some, None, refl, ap, ap₂, sym, ◌∙◌, eq-eqb, true≢false, get_or-set_other}
use Rattle.std.specs.Prelude.{if◌then◌else◌, slice_set}
use Rattle.std.specs.List.{AllByRecursion}
use Rattle.std.proofs.lemmas.Bool.{cases_Bool}
use Rattle.txn_runs.specs.Run.{Read, Writes, logged}
use Rattle.forest_model.specs.Choose.{less_or}
use Rattle.forest_model.specs.Point.{is_changed, point, wanted_of}
use Rattle.forest_model.specs.Forest.{Started, Forest, reads_of, writes_of, conflict_at, against, wanted}
use Rattle.forest_model.proofs.Lists.{either, filter_map-map, filter_map-agree, all-weaken}
use Rattle.indexed_lanes.proofs.Reading.{point_cons}

-- The point after one write more.

-- what was read is changed as before by the write of another item
other_changed : (item : ℕ) (v : ℤ) (ws : Writes) (x : Read) → x.1 == item ≡ false → is_changed (slice_set ws item (Some v)) x ≡ is_changed ws x
other_changed item v ws x e = let ne : x.1 ≢ item = (λ q. true≢false (sym (eq-eqb _ _ q) ∙ e)) in rw get_or-set_other refl

unread_by : (x : Read) (rs : List Read) (item : ℕ) (b : Bool) → is_some (if b then Some x.2 else logged rs item) ≡ false → (b ≡ false) × (is_some (logged rs item) ≡ false)
unread_by x rs item true e = cc
unread_by x rs item false e = (refl, e)

-- a write of an item that was not read leaves the point
pub point_unread : (item : ℕ) (v : ℤ) (ws : Writes) (rs : List Read) → is_some (logged rs item) ≡ false → point rs (slice_set ws item (Some v)) ≡ point rs ws
point_unread item v ws [] h = refl
point_unread item v ws (x ∷ rs) h =
    let apart = unread_by x rs item (x.1 == item) h in
    point_cons x (slice_set ws item (Some v)) rs
    ∙ ap₂ (λ (b : Bool) (o : Option ℕ). if b then Some (less_or o x.0) else o) (other_changed item v ws x apart.0) (point_unread item v ws rs apart.1)
    ∙ sym (point_cons x ws rs)

-- What is wanted, after a change that keeps the numbers.

-- and the points against the others
pub wants_points : (f : Forest) (m : Started → Started) (y : Started) → ((x : Started) → (m x).number ≡ x.number)
    → AllByRecursion (λ (u : Started). u.number ≢ y.number → point (reads_of f (m y)) (writes_of f (m u)) ≡ point (reads_of f y) (writes_of f u)) f.started
    → wanted (record f { started = map m f.started }) (m y) ≡ wanted f y
wants_points f m y counts points =
    ap (λ pairs. wanted_of pairs f.k)
    (filter_map-map (against (record f { started = map m f.started }) (m y)) m f.started
    ∙ filter_map-agree (λ u. against (record f { started = map m f.started }) (m y) (m u)) (against f y) f.started
    (all-weaken (λ (u : Started). u.number ≢ y.number → point (reads_of f (m y)) (writes_of f (m u)) ≡ point (reads_of f y) (writes_of f u))
    (λ u. against (record f { started = map m f.started }) (m y) (m u) ≡ against f y u) (λ u of_u. pair u of_u) f.started points))
  where
    pair : (u : Started) → (u.number ≢ y.number → point (reads_of f (m y)) (writes_of f (m u)) ≡ point (reads_of f y) (writes_of f u)) → against (record f { started = map m f.started }) (m y) (m u) ≡ against f y u
    pair u of_u =
        either (cases_Bool (u.number == y.number))
        (λ e. rw (counts u, counts y, e) refl)
        (λ e.
        let apart : u.number ≢ y.number = (λ q. true≢false (sym (eq-eqb _ _ q) ∙ e)) in
        ap (λ p. if (m u).number == (m y).number then None else conflict_at (m u).number p) (of_u apart) ∙ rw (counts u, counts y) refl)

-- and what y has read and the others have written
pub wants_same : (f : Forest) (m : Started → Started) (y : Started) → ((x : Started) → (m x).number ≡ x.number) → reads_of f (m y) ≡ reads_of f y
    → AllByRecursion (λ (u : Started). u.number ≢ y.number → writes_of f (m u) ≡ writes_of f u) f.started → wanted (record f { started = map m f.started }) (m y) ≡ wanted f y
wants_same f m y counts rs ws =
    wants_points f m y counts
    (all-weaken (λ (u : Started). u.number ≢ y.number → writes_of f (m u) ≡ writes_of f u) (λ (u : Started). u.number ≢ y.number → point (reads_of f (m y)) (writes_of f (m u)) ≡ point (reads_of f y) (writes_of f u))
    (λ u of_u apart. ap₂ point rs (of_u apart)) f.started ws)
