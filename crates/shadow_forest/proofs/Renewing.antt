-- All transactions get the shadows that they want in turn.
use Rattle.std.proofs.Common.{◌≡◌, ℕ, ◌+◌, ◌≤◌, List, map, length, Some, None, slice_get, refl, ap, sym, subst, ◌∙◌}
use Rattle.std.proofs.lemmas.Bool.{cond_both}
use Rattle.txn_code.specs.declared.node.Node.{Node}
use Rattle.forest_model.specs.Point.{Conflict, wanted_of}
use Rattle.forest_model.proofs.Lists.{all-map, all-everywhere, filter_map-map, filter_map-agree}
use Rattle.shadow_state.specs.Bank.{at_place}
use Rattle.shadow_lanes.specs.Seats.{Seat, Seated, conflicts_of, settled_seat}
use Rattle.indexed_lanes.specs.Wanted.{conflict_between, wanted_among, same_conflicts, renewed, AreWanted}
use Rattle.indexed_lanes.proofs.Renewed.{renewed_same, renewed_conflicts}
use Rattle.shadow_forest.specs.declared.txn.Txn.{Txn}
use Rattle.shadow_forest.specs.Parts.{nodes_at, renewed_among, all_renewed}
use Rattle.shadow_forest.specs.Ready.{IsCarried, AreCarried}
use Rattle.shadow_forest.proofs.Places.{all-at, so_far, so_far-all, slice_get-so_far, so_far_more-at, so_far_more-still, filter_map-so_far}
use Rattle.shadow_forest.proofs.SeatPlaces.{with_seats}

-- the others' conflicts with it stay, and so do its own
renewed-conflict : (nodes : List Node) (items : ℕ) (ws : List Conflict) (r u : Seat) → conflict_between None r (renewed nodes items ws u) ≡ conflict_between None r u
renewed-conflict nodes items ws r u =
    cond_both (same_conflicts (conflicts_of u) ws) u (settled_seat nodes items ws u) (λ (x : Seat). conflict_between None r x ≡ conflict_between None r u) (λ e. refl) (λ e. refl)

renewed-own : (nodes : List Node) (items : ℕ) (ws : List Conflict) (r u : Seat) → conflict_between None (renewed nodes items ws r) u ≡ conflict_between None r u
renewed-own nodes items ws r u =
    cond_both (same_conflicts (conflicts_of r) ws) r (settled_seat nodes items ws r) (λ (x : Seat). conflict_between None x u ≡ conflict_between None r u) (λ e. refl) (λ e. refl)

module _ (start : Seated) (txns : List Txn) where
  abbrev f : Seat → Seat
  f = renewed_among start.most start.items txns start.seats

  -- of the first i each has what it wants
  abbrev pub all_so_far : ℕ → Seated
  all_so_far i = with_seats start (so_far f i start.seats)

  same_conflict_with : (r u : Seat) → conflict_between None r (f u) ≡ conflict_between None r u
  same_conflict_with r u = renewed-conflict (nodes_at txns u.number) start.items (wanted_among start.most None start.seats u) r u

  -- what r wants while others are given theirs
  wanted-so_far : (now : Seated) (i : ℕ) (r : Seat) → now ≡ all_so_far i → wanted_among now.most None now.seats r ≡ wanted_among start.most None start.seats r
  wanted-so_far now i r h =
      ap (λ (s : Seated). wanted_among s.most None s.seats r) h
      ∙ ap (λ cs. wanted_of cs start.most) (filter_map-so_far (conflict_between None r) f (same_conflict_with r) i start.seats)

  -- one more, which is given what it wants
  pub renewing_more : (now new : Seated) (i : ℕ) (r : Seat) → now ≡ all_so_far i → slice_get start.seats i ≡ Some r
      → new ≡ with_seats now (at_place i (renewed (nodes_at txns r.number) now.items (wanted_among now.most None now.seats r)) now.seats) → new ≡ all_so_far (i + 1)
  renewing_more now new i r h is e =
      e
      ∙ ap (λ (cs : List Conflict). with_seats now (at_place i (renewed (nodes_at txns r.number) now.items cs) now.seats)) (wanted-so_far now i r h)
      ∙ ap (λ (s : Seated). with_seats s (at_place i (renewed (nodes_at txns r.number) s.items (wanted_among start.most None start.seats r)) s.seats)) h
      ∙ ap (with_seats start) (so_far_more-at f (renewed (nodes_at txns r.number) start.items (wanted_among start.most None start.seats r)) i start.seats r is refl)

  -- one more, which has it already
  pub renewing_still : (now : Seated) (i : ℕ) (r : Seat) → now ≡ all_so_far i → slice_get start.seats i ≡ Some r → conflicts_of r ≡ wanted_among now.most None now.seats r → now ≡ all_so_far (i + 1)
  renewing_still now i r h is has =
      h
      ∙ ap (with_seats start)
      (so_far_more-still f i start.seats r is (renewed_same (nodes_at txns r.number) start.items (wanted_among start.most None start.seats r) r (has ∙ wanted-so_far now i r h)))

  -- the next is as it was
  pub renewing_next : (now : Seated) (i : ℕ) (r : Seat) → now ≡ all_so_far i → slice_get start.seats i ≡ Some r → slice_get now.seats i ≡ Some r
  renewing_next now i r h is = ap (λ (s : Seated). slice_get s.seats i) h ∙ slice_get-so_far f i start.seats ∙ is

  -- and its code is carried
  pub renewing_carried : (now : Seated) (i : ℕ) → now ≡ all_so_far i → AreCarried start.items txns start.seats → (r : Seat) → slice_get now.seats i ≡ Some r → IsCarried now.items txns r.number
  renewing_carried now i h all r there =
      let here : slice_get start.seats i ≡ Some r = sym (slice_get-so_far f i start.seats) ∙ ap (λ (s : Seated). slice_get s.seats i) (sym h) ∙ there in
      subst (λ (s : Seated). IsCarried s.items txns r.number) (sym h) (all-at (λ (x : Seat). IsCarried start.items txns x.number) start.seats i r here all)

  -- all of them
  pub renewing_all : (now : Seated) (i : ℕ) → now ≡ all_so_far i → length start.seats ≤ i → now ≡ with_seats start (all_renewed start.most start.items txns start.seats)
  renewing_all now i h le = h ∙ ap (with_seats start) (so_far-all f i start.seats le)

  each_wanted : (u : Seat) → conflicts_of (f u) ≡ wanted_among start.most None (map f start.seats) (f u)
  each_wanted u =
      renewed_conflicts (nodes_at txns u.number) start.items (wanted_among start.most None start.seats u) u
      ∙ ap (λ cs. wanted_of cs start.most)
      (sym (filter_map-map (conflict_between None (f u)) f start.seats
      ∙ filter_map-agree (λ x. conflict_between None (f u) (f x)) (conflict_between None u) start.seats
      (all-everywhere (λ x. conflict_between None (f u) (f x) ≡ conflict_between None u x)
      (λ x. same_conflict_with (f u) x ∙ renewed-own (nodes_at txns u.number) start.items (wanted_among start.most None start.seats u) u x) start.seats)))

  -- and then each has what it wants
  pub renewing_wanted : (now : Seated) (i : ℕ) → now ≡ all_so_far i → length start.seats ≤ i → AreWanted now
  renewing_wanted now i h le =
      subst AreWanted (sym (renewing_all now i h le))
      (all-map (λ (r : Seat). conflicts_of r ≡ wanted_among start.most None (map f start.seats) r) f start.seats
      (all-everywhere (λ (u : Seat). conflicts_of (f u) ≡ wanted_among start.most None (map f start.seats) (f u)) each_wanted start.seats))
