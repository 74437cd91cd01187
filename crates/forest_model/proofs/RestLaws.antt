-- Settling leaves what it need not touch; a forest with no pick and nothing out is idle.
use Rattle.std.proofs.Common.{◌≡◌, ◌≢◌, ℕ, zero, suc, ◌-◌, ◌<◌, ◌≤◌, ◌==◌, Bool, true, false, not, ◌&&◌, ltb, leb, List, [], ◌∷◌, ◌++◌, map, filter_map, find, fold, flat_map, take, Option, Some, None, refl, ap, sym, ◌∙◌, arith, true≢false, eq-eqb, ltb-false, append_assoc}
use Rattle.std.specs.List.{AllByRecursion, AllZip, cons_option}
use Rattle.block_rule.specs.Standing.{unless_ended, up_to_point, is_runnable}
use Rattle.std.proofs.lemmas.Bool.{cases_Bool, cond_both, ne_eqb, and_from, and_left, le-leb}
use Rattle.block_rule.specs.declared.role.Row.{Row}
use Rattle.forest_model.specs.Choose.{put_in_order}
use Rattle.forest_model.specs.Point.{Conflict, is_sooner}
use Rattle.forest_model.specs.Forest.{is_ended, Shadow, Started, Forest, length_of, against, wanted}
use Rattle.forest_model.specs.Settle.{stands_for, stay_or_copy, settled_shadows, positions_in}
use Rattle.forest_model.specs.Pick.{is_ready, is_earlier, guard_rows, rows_of, pick}
use Rattle.forest_model.specs.Sound.{IsRising, StandsFor, IsSound, IsIdle, IsHome}
use Rattle.forest_model.proofs.Lists.{either, all-append_left, all-append_right, all-append, all-weaken, all-both, all-everywhere}
use Rattle.forest_model.proofs.StartedLaws.{number, all-put, none-first, filter-none}
use Rattle.forest_model.proofs.PointLaws.{against-is, all-filter_map, all-take}

-- Untouched.

-- no guard twice
abbrev pub IsApart : List Conflict → Type 0
IsApart [] = Unit {0}
IsApart (w ∷ ws) = AllByRecursion (λ x. w.0 ≢ x.0) ws × IsApart ws

find-past : (w : Conflict) (front back : List Shadow) → AllByRecursion (λ s. s.guard ≢ w.0) front → find (stands_for w) (front ++ back) ≡ find (stands_for w) back
find-past w [] back h = refl
find-past w (s ∷ front) back h = rw (and_left (s.guard == w.0) (leb s.position w.1) (ne_eqb _ _ h.0)) (find-past w front back h.1)

pub settle_again : (olds : List ℕ) (front ss : List Shadow) (ws : List Conflict) → AllZip StandsFor ss ws → IsApart ws → AllByRecursion (λ w. AllByRecursion (λ s. s.guard ≢ w.0) front) ws
    → map (λ w. stay_or_copy (find (stands_for w) (front ++ ss)) olds w) ws ≡ ss
settle_again olds front [] [] h apart new = refl
settle_again olds front [] (w ∷ ws) h apart new = absurd h
settle_again olds front (s ∷ ss) [] h apart new = absurd h
settle_again olds front (s ∷ ss) (w ∷ ws) h apart new =
    let stands : stands_for w s ≡ true = and_from _ _ (eq-eqb _ _ h.0.0) (le-leb _ _ h.0.1) in
    let hit : find (stands_for w) (front ++ s ∷ ss) ≡ Some s = find-past w front (s ∷ ss) new.0 ∙ rw stands refl in
    let more : AllByRecursion (λ x. AllByRecursion (λ t. t.guard ≢ x.0) (front ++ s ∷ [])) ws =
    all-both (λ x. w.0 ≢ x.0) (λ x. AllByRecursion (λ t. t.guard ≢ x.0) front) (λ x. AllByRecursion (λ t. t.guard ≢ x.0) (front ++ s ∷ []))
    (λ x ne old. all-append (λ t. t.guard ≢ x.0) front (s ∷ []) old ((λ e. ne (sym h.0.0 ∙ e)), tt)) ws apart.0 new.1
    in
    let rest : map (λ x. stay_or_copy (find (stands_for x) ((front ++ s ∷ []) ++ ss)) olds x) ws ≡ ss = settle_again olds (front ++ s ∷ []) ss ws h.1 apart.1 more in
    rw (ap (λ o. stay_or_copy o olds w) hit) (ap (λ xs. s ∷ xs) (rw append_assoc at rest))

apart-put : (x : Conflict) (xs : List Conflict) → IsApart xs → AllByRecursion (λ y. y.0 ≢ x.0) xs → IsApart (put_in_order is_sooner x xs)
apart-put x [] h new = (tt, tt)
apart-put x (y ∷ ys) h new =
    cond_both (is_sooner y x) _ _ IsApart
    (λ e. (all-put (λ z. y.0 ≢ z.0) is_sooner x ys new.0 h.0, apart-put x ys h.1 new.1))
    (λ e. (((λ q. new.0 (sym q)), all-weaken (λ z. z.0 ≢ x.0) (λ z. x.0 ≢ z.0) (λ z ne q. ne (sym q)) ys new.1), h))

apart-fold : (done xs : List Conflict) → IsApart done → IsApart xs → AllByRecursion (λ x. AllByRecursion (λ y. y.0 ≢ x.0) done) xs
    → IsApart (fold (λ done x. put_in_order is_sooner x done) done xs)
apart-fold done [] d h new = d
apart-fold done (x ∷ xs) d h new =
    apart-fold (put_in_order is_sooner x done) xs (apart-put x done d new.0) h.1
    (all-both (λ z. x.0 ≢ z.0) (λ z. AllByRecursion (λ y. y.0 ≢ z.0) done) (λ z. AllByRecursion (λ y. y.0 ≢ z.0) (put_in_order is_sooner x done))
    (λ z ne old. all-put (λ y. y.0 ≢ z.0) is_sooner x done ne old) xs h.0 new.1)

apart-take : (n : ℕ) (xs : List Conflict) → IsApart xs → IsApart (take n xs)
apart-take zero xs h = tt
apart-take (suc n) [] h = tt
apart-take (suc n) (x ∷ xs) h = (all-take (λ y. x.0 ≢ y.0) n xs h.0, apart-take n xs h.1)

apart-pairs : (f : Forest) (r : Started) (us : List Started) → IsRising (map number us) → IsApart (filter_map (against f r) us)
apart-pairs f r [] h = tt
apart-pairs f r (u ∷ us) h = cons (against f r u) refl (apart-pairs f r us h.1)
  where
    above : (vs : List Started) → AllByRecursion (λ m. u.number < m) (map number vs) → AllByRecursion (λ v. (w : Conflict) → against f r v ≡ Some w → u.number < w.0) vs
    above [] all = tt
    above (v ∷ vs) all = ((λ w e. let is : w.0 ≡ v.number = (against-is f r v w e).0 in rw is all.0), above vs all.1)

    cons : (o : Option Conflict) → against f r u ≡ o → IsApart (filter_map (against f r) us) → IsApart (cons_option o (filter_map (against f r) us))
    cons None e rest = rest
    cons (Some w) e rest =
        let is : w.0 ≡ u.number = (against-is f r u w e).0 in
        (all-weaken (λ x. u.number < x.0) (λ x. w.0 ≢ x.0) (λ x lt q. omega arith) (filter_map (against f r) us) (all-filter_map (λ x. u.number < x.0) (against f r) us (above us h.0)), rest)

pub wanted-apart : (f : Forest) (r : Started) → IsRising (map number f.started) → IsApart (wanted f r)
wanted-apart f r h =
    apart-take (f.k - 1) _ (apart-fold [] (filter_map (against f r) f.started) tt (apart-pairs f r f.started h) (all-everywhere (λ x. AllByRecursion (λ (y : Conflict). y.0 ≢ x.0) []) (λ x. tt) (filter_map (against f r) f.started)))

-- untouched: where a transaction's shadows stand for what it wants, settling leaves them
pub settle-untouched : (f : Forest) (old r : Started) → IsRising (map number f.started) → AllZip StandsFor old.shadows (wanted f r) → settled_shadows (Some old) (wanted f r) ≡ old.shadows
settle-untouched f old r rising fits =
    settle_again (positions_in (Some old)) [] old.shadows (wanted f r) fits (wanted-apart f r rising) (all-everywhere (λ w. AllByRecursion (λ (s : Shadow). s.guard ≢ w.0) []) (λ w. tt) (wanted f r))

-- Idle.

flat_unready : {X : Type 0} (g : X → List Row) (xs : List X) → AllByRecursion (λ x. is_ready x ≡ false) (flat_map g xs) → AllByRecursion (λ x. AllByRecursion (λ y. is_ready y ≡ false) (g x)) xs
flat_unready g [] h = tt
flat_unready g (x ∷ xs) h = (all-append_left (λ y. is_ready y ≡ false) (g x) (flat_map g xs) h, flat_unready g xs (all-append_right (λ y. is_ready y ≡ false) (g x) (flat_map g xs) h))

not_runnable : (b out : Bool) → (b && not out) ≡ false → out ≡ false → b ≡ false
not_runnable true out h e = let t : not out ≡ false = h in absurd (true≢false (rw e at t))
not_runnable false out h e = refl

ended-past : (position length : ℕ) → is_runnable (unless_ended (not (ltb position length))) ≡ false → length ≤ position
ended-past position length h =
    either (cases_Bool (ltb position length)) (λ e. let hit : true ≡ false = rw e at h in absurd (true≢false hit)) (λ e. ltb-false _ _ e)

blocked-past : (position point : ℕ) → is_runnable (up_to_point position point) ≡ false → point ≤ position
blocked-past position point h =
    either (cases_Bool (ltb position point)) (λ e. let hit : true ≡ false = rw e at h in absurd (true≢false hit)) (λ e. ltb-false _ _ e)

blocked_all : (t deadline place : ℕ) (ss : List Shadow) (ws : List Conflict) → AllZip StandsFor ss ws → AllByRecursion (λ s. s.out ≡ false) ss
    → AllByRecursion (λ y. is_ready y ≡ false) (guard_rows t deadline place ss ws) → AllZip (λ s w. (s.out ≡ false) × (s.position ≡ w.1)) ss ws
blocked_all t deadline place [] [] fits home h = tt
blocked_all t deadline place [] (w ∷ ws) fits home h = fits
blocked_all t deadline place (s ∷ ss) [] fits home h = fits
blocked_all t deadline place (s ∷ ss) (w ∷ ws) fits home h =
    let past : w.1 ≤ s.position = blocked-past s.position w.1 (not_runnable (is_runnable (up_to_point s.position w.1)) s.out h.0 home.0) in
    let before : s.position ≤ w.1 = fits.0.1 in
    ((home.0, omega arith), blocked_all t deadline (suc place) ss ws fits.1 home.1 h.1)

pub idle-without_pick : (f : Forest) → IsSound f → IsHome f → pick f ≡ None → IsIdle f
idle-without_pick f h home none =
    let unready : AllByRecursion (λ x. is_ready x ≡ false) (flat_map (rows_of f) f.started) =
    filter-none is_ready (flat_map (rows_of f) f.started) (none-first is_earlier _ none)
    in
    let each : AllByRecursion (λ r. AllByRecursion (λ y. is_ready y ≡ false) (rows_of f r)) f.started = flat_unready (rows_of f) f.started unready in
    record {
      ended =
          all-both (λ r. r.out ≡ false) (λ r. (r.position ≤ length_of f r) × AllByRecursion (λ y. is_ready y ≡ false) (rows_of f r)) (λ r. (r.out ≡ false) × (r.position ≡ length_of f r))
          (λ r out b.
          let past : length_of f r ≤ r.position = ended-past r.position (length_of f r) (not_runnable (is_runnable (unless_ended (is_ended f r))) r.out b.1.0 out) in
          let before : r.position ≤ length_of f r = b.0 in
          (out, omega arith))
          f.started home.optimistic
          (all-both (λ r. r.position ≤ length_of f r) _ (λ r. (r.position ≤ length_of f r) × AllByRecursion (λ y. is_ready y ≡ false) (rows_of f r)) (λ r x y. (x, y)) f.started h.right.within each);
      blocked =
          all-both (λ r. AllByRecursion (λ s. s.out ≡ false) r.shadows) (λ r. AllZip StandsFor r.shadows (wanted f r) × AllByRecursion (λ y. is_ready y ≡ false) (rows_of f r))
          (λ r. AllZip (λ s w. (s.out ≡ false) × (s.position ≡ w.1)) r.shadows (wanted f r))
          (λ r out b. blocked_all r.number _ 1 r.shadows (wanted f r) b.0 out b.1.1)
          f.started home.others
          (all-both (λ r. AllZip StandsFor r.shadows (wanted f r)) _ (λ r. AllZip StandsFor r.shadows (wanted f r) × AllByRecursion (λ y. is_ready y ≡ false) (rows_of f r)) (λ r x y. (x, y)) f.started h.settled each);
    }
