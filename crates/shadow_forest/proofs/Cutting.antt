-- The others cut in turn by the writes of one, and who is taken back.
use Rattle.std.proofs.Common.{◌≡◌, ◌≢◌, ℕ, ◌+◌, ◌<◌, ◌++◌, [], ◌∷◌, List, Option, Some, None, length, take, filter_map, option_map, slice_get, refl, ap, ap₂, sym, ◌∙◌, subst}
use Rattle.std.proofs.lemmas.Bool.{eq-eqb, ne_eqb}
use Rattle.std.proofs.lemmas.List.{append_assoc}
use Rattle.std.proofs.lemmas.Option.{same_Some}
use Rattle.txn_code.specs.declared.node.Node.{Node}
use Rattle.txn_interp.specs.State.{Held}
use Rattle.shadow_state.specs.Bank.{Slot, at_place}
use Rattle.shadow_lanes.specs.Seats.{Seat, Seated, slot_at, promoted_seat}
use Rattle.shadow_forest.specs.declared.txn.Txn.{Txn}
use Rattle.shadow_forest.specs.Parts.{nodes_at, cut_seat, seat_cut, seat_after, back_to, taken_back}
use Rattle.shadow_forest.specs.Ready.{IsCarried, AreCarried}
use Rattle.shadow_forest.proofs.Places.{all-at, slice_get-some, so_far, slice_get-so_far, slice_get-so_far_still, so_far_more, so_far_more-at, so_far_more-still, slice_get-at_place_same}
use Rattle.indexed_lanes.proofs.Passing.{filter_map_more-none, filter_map_more-some}
use Rattle.shadow_forest.proofs.SeatPlaces.{with_seats, number-at, state-at}

-- One.

module _ (items : ℕ) (txns : List Txn) (u r : Seat) where
  seat_after-same : r.number ≡ u.number → seat_after items txns u r ≡ r
  seat_after-same e = rw (eq-eqb r.number u.number e) refl

  taken_back-same : r.number ≡ u.number → taken_back items txns u r ≡ None
  taken_back-same e = rw (eq-eqb r.number u.number e) refl

  seat_after-other : r.number ≢ u.number → seat_after items txns u r ≡ cut_seat (nodes_at txns r.number) items (seat_cut u r) r
  seat_after-other ne = rw (ne_eqb r.number u.number ne) refl

  taken_back-other : r.number ≢ u.number → taken_back items txns u r ≡ back_to r.number (seat_cut u r) (seat_after items txns u r)
  taken_back-other ne = rw (ne_eqb r.number u.number ne) refl

  seat_after-none : r.number ≢ u.number → seat_cut u r ≡ None → seat_after items txns u r ≡ r
  seat_after-none ne e = seat_after-other ne ∙ ap (λ o. cut_seat (nodes_at txns r.number) items o r) e

  taken_back-none : r.number ≢ u.number → seat_cut u r ≡ None → taken_back items txns u r ≡ None
  taken_back-none ne e = taken_back-other ne ∙ ap (λ o. back_to r.number o (seat_after items txns u r)) e

  seat_after-some : (at : ℕ) → r.number ≢ u.number → seat_cut u r ≡ Some at → seat_after items txns u r ≡ promoted_seat (nodes_at txns r.number) items at r
  seat_after-some at ne e = seat_after-other ne ∙ ap (λ o. cut_seat (nodes_at txns r.number) items o r) e

  taken_back-some : (at : ℕ) → r.number ≢ u.number → seat_cut u r ≡ Some at → taken_back items txns u r ≡ Some (r.number, (seat_after items txns u r).optimistic.state.position)
  taken_back-some at ne e = taken_back-other ne ∙ ap (λ o. back_to r.number o (seat_after items txns u r)) e

-- All in turn.

-- the first i are cut
abbrev pub cut_so_far : List Txn → Seat → ℕ → Seated → Seated
cut_so_far txns u i s = with_seats s (so_far (seat_after s.items txns u) i s.seats)

module _ (start now : Seated) (txns : List Txn) (i : ℕ) (u r : Seat) (h : now ≡ cut_so_far txns u i start) (here : slice_get start.seats i ≡ Some r) where
  -- the next is as it was
  next_there : slice_get now.seats i ≡ Some r
  next_there = ap (λ (s : Seated). slice_get s.seats i) h ∙ slice_get-so_far (seat_after start.items txns u) i start.seats ∙ here

  -- and so is the one that commits
  committed_there : (of : ℕ) → slice_get start.seats of ≡ Some u → slice_get now.seats of ≡ Some u
  committed_there of is =
      ap (λ (s : Seated). slice_get s.seats of) h
      ∙ slice_get-so_far_still (seat_after start.items txns u) i of start.seats u is (seat_after-same start.items txns u u refl)

  cut_more_still : seat_after start.items txns u r ≡ r → now ≡ cut_so_far txns u (i + 1) start
  cut_more_still e = h ∙ ap (with_seats start) (so_far_more-still (seat_after start.items txns u) i start.seats r here e)

  cut_more : (new : Seated) (nodes : List Node) (at : ℕ) → r.number ≢ u.number → seat_cut u r ≡ Some at → nodes ≡ nodes_at txns r.number
      → new ≡ with_seats now (at_place i (promoted_seat nodes now.items at) now.seats) → new ≡ cut_so_far txns u (i + 1) start
  cut_more new nodes at ne cut same e =
      e
      ∙ ap (λ (s : Seated). with_seats s (at_place i (promoted_seat nodes s.items at) s.seats)) h
      ∙ ap (with_seats start)
      (so_far_more-at (seat_after start.items txns u) (promoted_seat nodes start.items at) i start.seats r here
      (ap (λ ns. promoted_seat ns start.items at r) same ∙ sym (seat_after-some start.items txns u r at ne cut)))

-- where the next is taken back to
back-position : (start new : Seated) (txns : List Txn) (i : ℕ) (u r : Seat) (state : Held) → slice_get start.seats i ≡ Some r → new ≡ cut_so_far txns u (i + 1) start
    → option_map (λ (s : Slot). s.state) (slot_at new.seats i 0) ≡ Some state → (seat_after start.items txns u r).optimistic.state.position ≡ state.position
back-position start new txns i u r state here e read =
    let there : slice_get new.seats i ≡ Some (seat_after start.items txns u r) =
    ap (λ (s : Seated). slice_get s.seats i) (e ∙ ap (with_seats start) (sym (so_far_more (seat_after start.items txns u) i start.seats)))
    ∙ slice_get-at_place_same i (seat_after start.items txns u) (so_far (seat_after start.items txns u) i start.seats) r (slice_get-so_far (seat_after start.items txns u) i start.seats ∙ here)
    in
    ap (λ s. s.position) (state-at new.seats i (seat_after start.items txns u r) state there read)

-- Who is taken back.

module _ (items : ℕ) (txns : List Txn) (u r : Seat) (before seen : List (ℕ × ℕ)) (seats : List Seat) (i : ℕ)
    (h : seen ≡ before ++ filter_map (taken_back items txns u) (take i seats)) (here : slice_get seats i ≡ Some r) where
  back_same : taken_back items txns u r ≡ None → seen ≡ before ++ filter_map (taken_back items txns u) (take (i + 1) seats)
  back_same e = h ∙ ap (λ ps. before ++ ps) (sym (filter_map_more-none (taken_back items txns u) seats i r here e))

  back_more : (p : ℕ × ℕ) → taken_back items txns u r ≡ Some p → seen ++ p ∷ [] ≡ before ++ filter_map (taken_back items txns u) (take (i + 1) seats)
  back_more p e =
      ap (λ ps. ps ++ p ∷ []) h
      ∙ append_assoc before (filter_map (taken_back items txns u) (take i seats)) (p ∷ [])
      ∙ ap (λ ps. before ++ ps) (sym (filter_map_more-some (taken_back items txns u) seats i r p here e))

-- the first i are cut by the one that stands at a place, and who of them is taken back was told behind what was told before
pub record AreCut (start now : Seated) (txns : List Txn) (of i : ℕ) (before seen : List (ℕ × ℕ)) : Type 0 where
  pub seats : (u : Seat) → slice_get start.seats of ≡ Some u → now ≡ cut_so_far txns u i start
  pub back : (u : Seat) → slice_get start.seats of ≡ Some u → seen ≡ before ++ filter_map (taken_back start.items txns u) (take i start.seats)

-- the next is kept
pub carried-next : (start now : Seated) (txns : List Txn) (of i : ℕ) (before seen : List (ℕ × ℕ)) (number : ℕ) → AreCut start now txns of i before seen → of < length start.seats → i < length start.seats
    → AreCarried start.items txns start.seats → option_map (λ (x : Seat). x.number) (slice_get now.seats i) ≡ Some number → IsCarried start.items txns number
carried-next start now txns of i before seen number cut lt_of lt carried e =
    let committed = slice_get-some start.seats of lt_of in
    let next = slice_get-some start.seats i lt in
    subst (IsCarried start.items txns)
    (number-at now.seats i next.0 number (next_there start now txns i committed.0 next.0 (cut.seats committed.0 committed.1) next.1) e)
    (all-at (λ (x : Seat). IsCarried start.items txns x.number) start.seats i next.0 next.1 carried)

-- The next passed, by what the code reads of it and of the one that commits.

module _ (start now : Seated) (txns : List Txn) (of i : ℕ) (before seen : List (ℕ × ℕ)) (mine theirs : ℕ) (r : Seat) (cut : AreCut start now txns of i before seen) (next : slice_get start.seats i ≡ Some r)
    (read_mine : option_map (λ (x : Seat). x.number) (slice_get now.seats i) ≡ Some mine) (read_theirs : option_map (λ (x : Seat). x.number) (slice_get start.seats of) ≡ Some theirs) where
  number_mine : (u : Seat) → slice_get start.seats of ≡ Some u → r.number ≡ mine
  number_mine u is = number-at now.seats i r mine (next_there start now txns i u r (cut.seats u is) next) read_mine

  number_theirs : (u : Seat) → slice_get start.seats of ≡ Some u → u.number ≡ theirs
  number_theirs u is = number-at start.seats of u theirs is read_theirs

  apart : mine ≢ theirs → (u : Seat) → slice_get start.seats of ≡ Some u → r.number ≢ u.number
  apart ne u is = λ e. ne (sym (number_mine u is) ∙ e ∙ number_theirs u is)

  -- the cut that is found is that of the two
  pub cut_found : (found : Option ℕ) → ((x y : Seat) → slice_get now.seats i ≡ Some x → slice_get now.seats of ≡ Some y → found ≡ seat_cut y x)
      → (u : Seat) → slice_get start.seats of ≡ Some u → seat_cut u r ≡ found
  cut_found found e u is = sym (e r u (next_there start now txns i u r (cut.seats u is) next) (committed_there start now txns i u r (cut.seats u is) next of is))

  -- it stands at another place
  pub places_apart : mine ≢ theirs → of < length start.seats → i ≢ of
  places_apart ne lt same =
      let u = slice_get-some start.seats of lt in
      let both : Some r ≡ Some u.0 = sym next ∙ ap (slice_get start.seats) same ∙ u.1 in
      apart ne u.0 u.1 (ap (λ (x : Seat). x.number) (same_Some r u.0 both))

  -- it is the one that commits
  pub own_passed : (new : Seated) (told : List (ℕ × ℕ)) → new ≡ now → told ≡ seen → mine ≡ theirs → AreCut start new txns of (i + 1) before told
  own_passed new told e f same = record {
    seats = λ u is. e ∙ cut_more_still start now txns i u r (cut.seats u is) next (seat_after-same start.items txns u r (number_mine u is ∙ same ∙ sym (number_theirs u is)));
    back = λ u is. f ∙ back_same start.items txns u r before seen start.seats i (cut.back u is) next (taken_back-same start.items txns u r (number_mine u is ∙ same ∙ sym (number_theirs u is)));
  }

  -- there is no cut
  pub uncut_passed : (new : Seated) (told : List (ℕ × ℕ)) → new ≡ now → told ≡ seen → mine ≢ theirs → ((u : Seat) → slice_get start.seats of ≡ Some u → seat_cut u r ≡ None)
      → AreCut start new txns of (i + 1) before told
  uncut_passed new told e f ne none = record {
    seats = λ u is. e ∙ cut_more_still start now txns i u r (cut.seats u is) next (seat_after-none start.items txns u r (apart ne u is) (none u is));
    back = λ u is. f ∙ back_same start.items txns u r before seen start.seats i (cut.back u is) next (taken_back-none start.items txns u r (apart ne u is) (none u is));
  }

  -- there is one
  pub cut_passed : (new : Seated) (told : List (ℕ × ℕ)) (nodes : List Node) (at : ℕ) (state : Held) → new ≡ with_seats now (at_place i (promoted_seat nodes now.items at) now.seats)
      → told ≡ seen ++ (mine, state.position) ∷ [] → mine ≢ theirs → ((u : Seat) → slice_get start.seats of ≡ Some u → seat_cut u r ≡ Some at) → nodes ≡ nodes_at txns mine
      → option_map (λ (s : Slot). s.state) (slot_at new.seats i 0) ≡ Some state → AreCut start new txns of (i + 1) before told
  cut_passed new told nodes at state e f ne some same read = record {
    seats = more;
    back =
        λ u is. f ∙ back_more start.items txns u r before seen start.seats i (cut.back u is) next (mine, state.position)
        (taken_back-some start.items txns u r at (apart ne u is) (some u is)
        ∙ ap₂ (λ (t p : ℕ). Some (t, p)) (number_mine u is) (back-position start new txns i u r state next (more u is) read));
  }
    where
      more : (u : Seat) → slice_get start.seats of ≡ Some u → new ≡ cut_so_far txns u (i + 1) start
      more u is =
          cut_more start now txns i u r (cut.seats u is) next new nodes at (apart ne u is) (some u is) (same ∙ ap (nodes_at txns) (sym (number_mine u is))) e
