-- Reads that give a point where there was none.
use Rattle.std.specs.Prelude.{◌≡◌, ◌≢◌, ◌<◌, ◌≤◌, ◌+◌, ◌==◌, ◌↔◌, ℕ, zero, suc, true, false, List, [], ◌∷◌, length, map, is_some, slice_get, Option, None, Some}
use Rattle.std.specs.List.{AllByRecursion}
use Rattle.std.proofs.Common.{refl, sym, ap, subst, arith, ◌∙◌, eqb-true, eq-eqb, true≢false}
use Rattle.std.proofs.lemmas.Bool.{cases_Bool, false_from_ne_true, ne_eqb}
use Rattle.std.proofs.lemmas.List.{length-map}
use Rattle.std.proofs.lemmas.Option.{same_Some, slice_get_within}
use Rattle.txn_runs.specs.Run.{Read, Writes, own, stored}
use Rattle.txn_code.specs.declared.node.Node.{Node}
use Rattle.forest_model.specs.Point.{point, wanted_of}
use Rattle.forest_model.proofs.Lists.{either}
use Rattle.shadow_state.specs.Bank.{at_place}
use Rattle.shadow_state.proofs.Places.{some_at, all_get}
use Rattle.shadow_lanes.specs.Kept.{AreAll, one_if, times}
use Rattle.shadow_lanes.specs.Seats.{Seat, Seated}
use Rattle.conflict_index.specs.Index as index
use Rattle.conflict_index.specs.Index.{Lane, Index, lane_at, is_among, is_marked, point_at, Fills}
use Rattle.index_laws.specs.Noted.{written}
use Rattle.index_laws.proofs.Ties.{points-same}
use Rattle.indexed_lanes.specs.Noted.{IsNoted}
use Rattle.indexed_lanes.specs.Placed.{in_places}
use Rattle.indexed_lanes.specs.Wanted.{point_with, conflict_between, wanted_among, renewed, IsKept}
use Rattle.indexed_lanes.proofs.Notes.{noted_at, place_within}
use Rattle.indexed_lanes.proofs.Orders.{apart, below, placed_lane}
use Rattle.indexed_lanes.proofs.Marks.{placed_point}
use Rattle.indexed_lanes.proofs.Settled.{conflict_numbers, pairs_agree, point_against, point_there}
use Rattle.indexed_lanes.proofs.Renewed.{renewed_same, at_still}
use Rattle.indexed_lanes.proofs.Reading.{point_cons}

-- Each lane stands at a place.

-- how often the numbers below n are in the list
abbrev total : ℕ → List ℕ → ℕ
total zero ms = 0
total (suc n) ms = times n ms + total n ms

total_none : (n : ℕ) → total n [] ≡ 0
total_none zero = refl
total_none (suc n) = omega (arith, total_none n)

total_over : (n m : ℕ) (ms : List ℕ) → n ≤ m → total n (m ∷ ms) ≡ total n ms
total_over zero m ms le = refl
total_over (suc n) m ms le =
    let other : (m == n) ≡ false = ne_eqb m n (λ e. absurd (omega (arith, le, e))) in
    rw other (omega (arith, total_over n m ms (omega (arith, le))))

total_one : (n m : ℕ) (ms : List ℕ) → m < n → total n (m ∷ ms) ≡ suc (total n ms)
total_one zero m ms lt = absurd (omega (arith, lt))
total_one (suc n) m ms lt =
    either (cases_Bool (m == n))
    (λ e. let same : m ≡ n = eqb-true m n e in rw e (omega (arith, total_over n m ms (omega (arith, same)))))
    (λ e. let ne : m ≢ n = λ q. true≢false (sym (eq-eqb m n q) ∙ e) in rw e (omega (arith, total_one n m ms (omega (arith, lt, ne)))))

all_counted : (n : ℕ) (ms : List ℕ) → AllByRecursion (λ m. m < n) ms → total n ms ≡ length ms
all_counted n [] h = total_none n
all_counted n (m ∷ ms) h = total_one n m ms h.0 ∙ ap suc (all_counted n ms h.1)

counted_few : (n : ℕ) (ms : List ℕ) → ((m : ℕ) → times m ms ≤ 1) → total n ms ≤ n
counted_few zero ms once = omega arith
counted_few (suc n) ms once = omega (arith, once n, counted_few n ms once)

counted_fewer : (n k : ℕ) (ms : List ℕ) → ((m : ℕ) → times m ms ≤ 1) → k < n → times k ms ≡ 0 → total n ms < n
counted_fewer zero k ms once lt none = absurd (omega (arith, lt))
counted_fewer (suc n) k ms once lt none =
    either (cases_Bool (k == n))
    (λ e. let same : times n ms ≡ 0 = subst (λ m. times m ms ≡ 0) (eqb-true k n e) none in omega (arith, same, counted_few n ms once))
    (λ e. let ne : k ≢ n = λ q. true≢false (sym (eq-eqb k n q) ∙ e) in omega (arith, once n, counted_fewer n k ms once (omega (arith, lt, ne)) none))

found : (k : ℕ) (ms : List ℕ) → 1 ≤ times k ms → (i : ℕ) × (slice_get ms i ≡ Some k)
found k [] h = absurd (omega (arith, h))
found k (m ∷ ms) h =
    either (cases_Bool (m == k))
    (λ e. (0, ap Some (eqb-true m k e)))
    (λ e.
    let fewer : 1 ≤ one_if false + times k ms = rw e at h in
    let rest = found k ms (omega (arith, fewer)) in (suc rest.0, rest.1))

all_found : (n k : ℕ) (ms : List ℕ) (room : ℕ) → AreAll n ms room → k < n → (i : ℕ) × (slice_get ms i ≡ Some k)
all_found n k ms room h lt =
    found k ms
    (either (cases_Bool (times k ms == 0))
    (λ e. absurd (omega (arith, counted_fewer n k ms h.once lt (eqb-true (times k ms) 0 e), all_counted n ms h.within, h.many)))
    (λ e. let ne : times k ms ≢ 0 = λ q. true≢false (sym (eq-eqb (times k ms) 0 q) ∙ e) in omega (arith, ne)))

-- A read fills a point at places where it does in the index.

module _ (i : Index) (order : List ℕ) (room place n item : ℕ) (h : AreAll (length i.lanes) order room) (at : slice_get order place ≡ Some n) where
  to_places : Fills i n item → Fills (in_places i order) place item
  to_places (writer, less, ne, among, none) =
      let there = all_found (length i.lanes) writer order room h less in
      let within = slice_get_within order there.0 writer there.1 in (
        there.0,
        omega (arith, within, length-map order (lane_at i)),
        λ e. ne (same_Some writer n (sym there.1 ∙ ap (slice_get order) e ∙ at)),
        ap (λ (l : Lane). is_among l.writes item) (placed_lane i order there.0 writer there.1) ∙ among,
        placed_point i order place there.0 n writer at there.1 ∙ none,
      )

  from_places : Fills (in_places i order) place item → Fills i n item
  from_places (writer, less, ne, among, none) =
      let there = some_at order writer (omega (arith, less, length-map order (lane_at i))) in (
        there.0,
        all_get (λ m. m < length i.lanes) order writer there.0 h.within there.1,
        apart order writer place there.0 n h.once there.1 at ne,
        sym (ap (λ (l : Lane). is_among l.writes item) (placed_lane i order writer there.0 there.1)) ∙ among,
        sym (placed_point i order place writer n there.0 at there.1) ∙ none,
      )

pub placed_fills : (i view : Index) (order : List ℕ) (room place n item : ℕ) → in_places i order ≡ view → AreAll (length i.lanes) order room → slice_get order place ≡ Some n → Fills i n item ↔ Fills view place item
placed_fills i view order room place n item is h at =
    subst (λ v. Fills i n item ↔ Fills v place item) is (to_places i order room place n item h at, from_places i order room place n item h at)

-- Who gets no point by a read wants after it what it wants now.

among_written : (ws : Writes) (item : ℕ) → is_some (own ws item) ≡ true → is_among (written ws) item ≡ true
among_written ws item has =
    either (cases_Bool (is_among (written ws) item))
    (λ e. e)
    (λ e.
    let x : Read = (0, item, stored [] item) in
    let none : index.point ((0, item) ∷ []) (written ws) ≡ None = rw e refl in
    let some : point (x ∷ []) ws ≡ Some 0 = point_cons x ws [] ∙ rw has refl in
    let both : None ≡ Some 0 = sym none ∙ points-same (x ∷ []) ws ∙ some in
    cc)

unfilled_point : (item position : ℕ) (ws : Writes) (o : Option ℕ) → (o ≡ None → is_some (own ws item) ≡ false) → point_with (Some item) position ws o ≡ o
unfilled_point item position ws None h = rw (h refl) refl
unfilled_point item position ws (Some p) h = refl

module _ (s : Seated) (i : Index) (place item : ℕ) (r : Seat) (at : slice_get s.seats place ≡ Some r) (none : Fills i place item → ⊥) where
  -- against another one it has the point that it has
  same_point : IsNoted s i → (q : ℕ) (u : Seat) → slice_get s.seats q ≡ Some u → u.number ≢ r.number → point_with (Some item) r.optimistic.state.position u.optimistic.state.writes (point_against r u) ≡ point_against r u
  same_point h q u is differ =
      unfilled_point item r.optimistic.state.position u.optimistic.state.writes (point_against r u)
      (λ p. false_from_ne_true (is_some (own u.optimistic.state.writes item))
      (λ has.
      none (
        q,
        place_within s i q h (slice_get_within s.seats q u is),
        λ e. differ (ap (λ (x : Seat). x.number) (same_Some u r (sym is ∙ ap (slice_get s.seats) e ∙ at))),
        ap (λ (l : Lane). is_among l.writes item) (noted_at s i q u h is) ∙ among_written u.optimistic.state.writes item has,
        point_there s i place q r u h at is ∙ p,
      )))

  still_wanted : IsNoted s i → wanted_among s.most (Some item) s.seats r ≡ wanted_among s.most None s.seats r
  still_wanted h =
      ap (λ pairs. wanted_of pairs s.most)
      (pairs_agree (conflict_between None r) (conflict_between (Some item) r) s.seats s.seats refl
      (λ q u u' is is'.
      let same : u' ≡ u = same_Some u' u (sym is' ∙ is) in
      conflict_numbers u.number u'.number r.number r.number
      (point_against r u) (point_with (Some item) r.optimistic.state.position u'.optimistic.state.writes (point_against r u'))
      (ap (λ (x : Seat). x.number) same) refl
      (λ differ.
      ap (λ (x : Seat). point_with (Some item) r.optimistic.state.position x.optimistic.state.writes (point_against r x)) same
      ∙ same_point h q u is differ)))

  -- so it stays as it is, if it isn't marked
  pub stays_before_read : (nodes : List Node) → IsKept s i → is_marked i place ≡ false → s ≡ record s { seats = at_place place (renewed nodes s.items (wanted_among s.most (Some item) s.seats r)) s.seats }
  stays_before_read nodes h unmarked =
      let ws = wanted_among s.most (Some item) s.seats r in
      ap (λ (seats : List Seat). record s { seats = seats })
      (at_still place (renewed nodes s.items ws) s.seats r at (renewed_same nodes s.items ws r (h.settled place r at unmarked ∙ sym (still_wanted h.noted))))
