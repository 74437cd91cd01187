-- Who isn't marked wants what it wanted.
use Rattle.std.specs.Prelude.{◌≡◌, ◌≢◌, ◌<◌, ◌==◌, ◌⊎◌, ℕ, zero, suc, false, if◌then◌else◌, List, [], ◌∷◌, length, map, filter_map, slice_get, Option, None, Some}
use Rattle.std.proofs.Common.{refl, sym, ap, ap₂, subst, arith, ◌∙◌, inl, inr, eqb-true, eq-eqb, true≢false}
use Rattle.std.proofs.lemmas.Bool.{cases_Bool}
use Rattle.std.proofs.lemmas.List.{length-map}
use Rattle.std.proofs.lemmas.Option.{same_Some, slice_get_within}
use Rattle.std.specs.List.{cons_option}
use Rattle.forest_model.specs.Point.{point, wanted_of}
use Rattle.forest_model.specs.Forest.{conflict_at}
use Rattle.forest_model.proofs.Lists.{either}
use Rattle.shadow_state.specs.Bank.{at_place}
use Rattle.shadow_state.proofs.Places.{get_same, get_other, length_at, some_at}
use Rattle.shadow_lanes.specs.Seats.{Seat, Seated, conflicts_of}
use Rattle.conflict_index.specs.Index as index
use Rattle.conflict_index.specs.Index.{Lane, Index, is_marked, point_at}
use Rattle.index_laws.proofs.Ties.{points-same}
use Rattle.indexed_lanes.specs.Noted.{noted_of, IsNoted}
use Rattle.indexed_lanes.specs.Placed.{AreUnmoved}
use Rattle.indexed_lanes.specs.Wanted.{conflict_between, wanted_among, AreSettled}
use Rattle.indexed_lanes.proofs.Notes.{noted_at, place_within}

-- Points.

-- the point of r against u
abbrev pub point_against : Seat → Seat → Option ℕ
point_against r u = point r.optimistic.state.log.reads u.optimistic.state.writes

-- the index has it
pub point_there : (s : Seated) (i : Index) (p q : ℕ) (r u : Seat) → IsNoted s i → slice_get s.seats p ≡ Some r → slice_get s.seats q ≡ Some u → point_at i p q ≡ point_against r u
point_there s i p q r u h at_p at_q =
    ap₂ (λ (a b : Lane). index.point a.reads b.writes) (noted_at s i p r h at_p) (noted_at s i q u h at_q)
    ∙ points-same r.optimistic.state.log.reads u.optimistic.state.writes

-- so it goes by what is noted of both
pub point_noted : (r r' u u' : Seat) → noted_of r' ≡ noted_of r → noted_of u' ≡ noted_of u → point_against r' u' ≡ point_against r u
point_noted r r' u u' e_r e_u =
    sym (points-same r'.optimistic.state.log.reads u'.optimistic.state.writes)
    ∙ ap₂ (λ (a b : Lane). index.point a.reads b.writes) e_r e_u
    ∙ points-same r.optimistic.state.log.reads u.optimistic.state.writes

-- Conflicts.

pub conflict_numbers : (n n' m m' : ℕ) (o o' : Option ℕ) → n' ≡ n → m' ≡ m → (n ≢ m → o' ≡ o) → (if n' == m' then None else conflict_at n' o') ≡ (if n == m then None else conflict_at n o)
conflict_numbers n n' m m' o o' e_n e_m same =
    ap₂ (λ (a b : ℕ). if a == b then None else conflict_at a o') e_n e_m
    ∙ either (cases_Bool (n == m))
    (λ e. rw e refl)
    (λ e. rw e (ap (conflict_at n) (same (λ q. true≢false (sym (eq-eqb n m q) ∙ e)))))

-- the same numbers, and the same point where they differ
pub same_conflict_between : (r r' u u' : Seat) → r'.number ≡ r.number → u'.number ≡ u.number → (u.number ≢ r.number → point_against r' u' ≡ point_against r u) → conflict_between None r' u' ≡ conflict_between None r u
same_conflict_between r r' u u' e_r e_u same = conflict_numbers u.number u'.number r.number r'.number (point_against r u) (point_against r' u') e_u e_r same

-- two lists that read the same at each place
pub pairs_agree : {X Y : Type 0} (h g : X → Option Y) (xs ys : List X) → length ys ≡ length xs → ((q : ℕ) (x y : X) → slice_get xs q ≡ Some x → slice_get ys q ≡ Some y → g y ≡ h x) → filter_map g ys ≡ filter_map h xs
pairs_agree h g [] [] long same = refl
pairs_agree h g [] (y ∷ ys) long same = absurd (omega (arith, long))
pairs_agree h g (x ∷ xs) [] long same = absurd (omega (arith, long))
pairs_agree h g (x ∷ xs) (y ∷ ys) long same =
    ap₂ (λ (o : Option _) (rest : List _). cons_option o rest) (same 0 x y refl refl) (pairs_agree h g xs ys (omega (arith, long)) (λ q a b at_a at_b. same (suc q) a b at_a at_b))

-- Seats changed in their places.

-- the same transactions, of each of which a place is known
pub record IsInPlace (s s' : Seated) : Type 0 where
  pub most : s'.most ≡ s.most
  pub long : length s'.seats ≡ length s.seats
  pub numbers : (q : ℕ) (u u' : Seat) → slice_get s.seats q ≡ Some u → slice_get s'.seats q ≡ Some u' → u'.number ≡ u.number

module _ (s s' : Seated) (i i' : Index) (h : IsNoted s i) (h' : IsNoted s' i') (same : IsInPlace s s') where
  -- who has the points that it had wants what it wanted
  points_wanted : (p : ℕ) (r r' : Seat) → slice_get s.seats p ≡ Some r → slice_get s'.seats p ≡ Some r' → ((q : ℕ) → q < length i.lanes → q ≢ p → point_at i' p q ≡ point_at i p q)
      → wanted_among s'.most None s'.seats r' ≡ wanted_among s.most None s.seats r
  points_wanted p r r' at at' points =
      ap₂ wanted_of
      (pairs_agree (conflict_between None r) (conflict_between None r') s.seats s'.seats same.long
      (λ q u u' is is'.
      same_conflict_between r r' u u' (same.numbers p r r' at at') (same.numbers q u u' is is')
      (λ differ.
      let apart : q ≢ p = λ e. differ (ap (λ (x : Seat). x.number) (same_Some u r (sym is ∙ ap (slice_get s.seats) e ∙ at))) in
      let within : q < length i.lanes = place_within s i q h (slice_get_within s.seats q u is) in
      sym (point_there s' i' p q r' u' h' at' is') ∙ points q within apart ∙ point_there s i p q r u h at is)))
      same.most

  -- who isn't marked has what it wants, if the change leaves it that or gives it that
  pub unmoved_settled : AreUnmoved i i' → AreSettled s i
      → ((q : ℕ) (u u' : Seat) → slice_get s.seats q ≡ Some u → slice_get s'.seats q ≡ Some u' → is_marked i' q ≡ false → wanted_among s'.most None s'.seats u' ≡ wanted_among s.most None s.seats u → conflicts_of u ≡ wanted_among s.most None s.seats u
      → (conflicts_of u' ≡ conflicts_of u) ⊎ (conflicts_of u' ≡ wanted_among s'.most None s'.seats u'))
      → AreSettled s' i'
  unmoved_settled unmoved settled own = λ p r' at' none.
      let lt' = slice_get_within s'.seats p r' at' in
      let lt : p < length s.seats = subst (λ n. p < n) same.long lt' in
      let r = some_at s.seats p lt in
      let before = unmoved p (place_within s i p h lt) none in
      let wants = points_wanted p r.0 r' r.1 at' before.1 in
      let has = settled p r.0 r.1 before.0 in
      either (own p r.0 r' r.1 at' none wants has) (λ e. e ∙ has ∙ sym wants) (λ e. e)

-- A seat changed at one place.

-- what stands at a place then
pub at_either : {X : Type 0} (place q : ℕ) (f : X → X) (xs : List X) (x y : X) → slice_get xs q ≡ Some x → slice_get (at_place place f xs) q ≡ Some y → ((q ≡ place) × (y ≡ f x)) ⊎ (y ≡ x)
at_either place q f xs x y at at' =
    either (cases_Bool (q == place))
    (λ e.
    let is : q ≡ place = eqb-true q place e in
    let there : slice_get (at_place place f xs) q ≡ Some (f x) = subst (λ n. slice_get (at_place n f xs) q ≡ Some (f x)) is (get_same q f xs x at) in
    inl (is, same_Some y (f x) (sym at' ∙ there)))
    (λ e.
    let ne : q ≢ place = λ z. true≢false (sym (eq-eqb q place z) ∙ e) in
    inr (same_Some y x (sym at' ∙ get_other place q f xs ne ∙ at)))

pub in_place : (s : Seated) (place : ℕ) (f : Seat → Seat) → ((r : Seat) → slice_get s.seats place ≡ Some r → (f r).number ≡ r.number) → IsInPlace s (record s { seats = at_place place f s.seats })
in_place s place f keeps = record {
  most = refl;
  long = length_at place f s.seats;
  numbers = λ q u u' at at'.
      either (at_either place q f s.seats u u' at at')
      (λ e. ap (λ (x : Seat). x.number) e.1 ∙ keeps u (subst (λ n. slice_get s.seats n ≡ Some u) e.0 at))
      (λ e. ap (λ (x : Seat). x.number) e);
}

pub in_all : (s : Seated) (f : Seat → Seat) → ((r : Seat) → (f r).number ≡ r.number) → IsInPlace s (record s { seats = map f s.seats })
in_all s f keeps = record {
  most = refl;
  long = length-map s.seats f;
  numbers = λ q u u' at at'. ap (λ (x : Seat). x.number) (same_Some u' (f u) (sym at' ∙ mapped s.seats q u at)) ∙ keeps u;
}
  where
    mapped : (xs : List Seat) (q : ℕ) (u : Seat) → slice_get xs q ≡ Some u → slice_get (map f xs) q ≡ Some (f u)
    mapped [] q u at = cc
    mapped (x ∷ xs) zero u at = let e : x ≡ u = cc in ap (λ y. Some (f y)) e
    mapped (x ∷ xs) (suc q) u at = mapped xs q u at
