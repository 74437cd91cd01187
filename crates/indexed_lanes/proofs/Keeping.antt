-- What is kept of the transactions through a change of one.
use Rattle.std.specs.Prelude.{◌≡◌, ◌≢◌, ◌<◌, ◌==◌, ◌⊎◌, if◌then◌else◌, ℕ, zero, suc, false, List, [], ◌∷◌, length, map, filter, filter_map, replicate, slice_get, Option, None, Some}
use Rattle.std.specs.List.{cons_option}
use Rattle.std.proofs.Common.{refl, sym, ap, subst, ◌∙◌, inl, inr, eq-eqb, true≢false}
use Rattle.std.proofs.lemmas.Bool.{cases_Bool}
use Rattle.std.proofs.lemmas.List.{length-replicate}
use Rattle.std.proofs.lemmas.Option.{same_Some, slice_get_within}
use Rattle.block_rule.specs.declared.role.Origin.{Origin}
use Rattle.block_rule.specs.declared.role.Origin.TheVariants.{Keep, From, Fresh}
use Rattle.txn_code.specs.declared.node.Node.{Node}
use Rattle.forest_model.specs.Forest.{conflict_at}
use Rattle.forest_model.specs.Origin.{successor, placed_of}
use Rattle.forest_model.proofs.Lists.{either, map-map}
use Rattle.shadow_state.specs.Bank.{Slot, at_place, marked_slot}
use Rattle.shadow_state.proofs.Places.{all_get}
use Rattle.shadow_lanes.specs.Seats.{Waiter, Seat, Seated, conflict_of, conflicts_of, started_of, stays, seat_with, waiter_with, recalled_seat, promoted_by, promoted_seat}
use Rattle.conflict_index.specs.Index.{Lane, Index, is_marked, point_at, lanes_with}
use Rattle.indexed_lanes.specs.Noted.{noted_of, IsNoted}
use Rattle.indexed_lanes.specs.Placed.{AreUnmoved}
use Rattle.indexed_lanes.specs.Wanted.{conflict_between, wanted_among, AreWanted, IsKept, IsIndexed}
use Rattle.indexed_lanes.proofs.Notes.{noted_at, still_noted, all_noted, changed_noted, place_within, slot_alike}
use Rattle.indexed_lanes.proofs.Adding.{none_noted}
use Rattle.indexed_lanes.proofs.Marks.{none_moved}
use Rattle.indexed_lanes.proofs.Settled.{in_place, in_all, at_either, unmoved_settled, point_against, point_there}
use Rattle.indexed_lanes.proofs.Renewed.{nothing_of}

-- The index that there is.

pub some_kept : (s : Seated) (o : Option Index) (index : Index) → o ≡ Some index → IsIndexed s o → IsKept s index
some_kept s o index is h = subst (IsIndexed s) is h

pub some_noted : (s : Seated) (o : Option Index) (index : Index) → o ≡ Some index → IsIndexed s o → IsNoted s index
some_noted s o index is h = (some_kept s o index is h).noted

pub none_kept : (s : Seated) (o : Option Index) → o ≡ None → IsIndexed s o → s.most ≡ 1
none_kept s o is h = subst (IsIndexed s) is h

-- A change that leaves what is noted.

-- of the one at a place
pub still_kept : (s : Seated) (o : Option Index) (place : ℕ) (f : Seat → Seat)
    → ((r : Seat) → slice_get s.seats place ≡ Some r → ((f r).number ≡ r.number) × (noted_of (f r) ≡ noted_of r) × (conflicts_of (f r) ≡ conflicts_of r))
    → IsIndexed s o → IsIndexed (record s { seats = at_place place f s.seats }) o
still_kept s None place f same h = h
still_kept s (Some i) place f same h =
    let noted = still_noted s i place f (λ r at. (same r at).1) h.noted in
    record {
      noted = noted;
      marks = h.marks;
      settled =
          unmoved_settled s (record s { seats = at_place place f s.seats }) i i h.noted noted (in_place s place f (λ r at. (same r at).0)) (none_moved i i refl) h.settled
          (λ q u u' at at' none wants has.
          either (at_either place q f s.seats u u' at at')
          (λ e. inl (ap conflicts_of e.1 ∙ (same u (subst (λ n. slice_get s.seats n ≡ Some u) e.0 at)).2))
          (λ e. inl (ap conflicts_of e)));
    }

-- of all
pub all_kept : (s : Seated) (o : Option Index) (f : Seat → Seat) → ((r : Seat) → ((f r).number ≡ r.number) × (noted_of (f r) ≡ noted_of r) × (conflicts_of (f r) ≡ conflicts_of r))
    → IsIndexed s o → IsIndexed (record s { seats = map f s.seats }) o
all_kept s None f same h = h
all_kept s (Some i) f same h =
    let noted = all_noted s i f (λ r. (same r).1) h.noted in
    record {
      noted = noted;
      marks = h.marks;
      settled =
          unmoved_settled s (record s { seats = map f s.seats }) i i h.noted noted (in_all s f (λ r. (same r).0)) (none_moved i i refl) h.settled
          (λ q u u' at at' none wants has. inl (ap conflicts_of (same_Some u' (f u) (sym at' ∙ mapped s.seats q u at)) ∙ (same u).2));
    }
  where
    mapped : (xs : List Seat) (q : ℕ) (u : Seat) → slice_get xs q ≡ Some u → slice_get (map f xs) q ≡ Some (f u)
    mapped [] q u at = cc
    mapped (x ∷ xs) zero u at = let e : x ≡ u = cc in ap (λ y. Some (f y)) e
    mapped (x ∷ xs) (suc q) u at = mapped xs q u at

-- a slot that changes leaves the conflicts
slot_conflicts : (slot : ℕ) (f : Slot → Slot) (r : Seat) → conflicts_of (seat_with slot f r) ≡ conflicts_of r
slot_conflicts zero f r = refl
slot_conflicts (suc n) f r = go n r.waiters
  where
    go : (m : ℕ) (ws : List Waiter) → map conflict_of (at_place m (waiter_with f) ws) ≡ map conflict_of ws
    go m [] = refl
    go zero (w ∷ ws) = refl
    go (suc m) (w ∷ ws) = ap (λ cs. conflict_of w ∷ cs) (go m ws)

slot_number : (slot : ℕ) (f : Slot → Slot) (r : Seat) → (seat_with slot f r).number ≡ r.number
slot_number zero f r = refl
slot_number (suc n) f r = refl

pub recalled_conflicts : (r : Seat) → conflicts_of (recalled_seat r) ≡ conflicts_of r
recalled_conflicts r = map-map conflict_of (waiter_with (marked_slot false)) r.waiters

-- a change of a slot of the one at a place, which leaves what its optimistic one has read and written
pub slot_kept : (s : Seated) (o : Option Index) (place slot : ℕ) (f : Slot → Slot)
    → ((r : Seat) → slice_get s.seats place ≡ Some r → slot ≡ 0 → ((f r.optimistic).state.log.reads ≡ r.optimistic.state.log.reads) × ((f r.optimistic).state.writes ≡ r.optimistic.state.writes))
    → IsIndexed s o → IsIndexed (record s { seats = at_place place (seat_with slot f) s.seats }) o
slot_kept s o place slot f same h =
    still_kept s o place (seat_with slot f) (λ r at. (slot_number slot f r, slot_alike slot f r (same r at), slot_conflicts slot f r)) h

-- A change of what is noted of the one at a place.

-- where it isn't marked then, its shadows are those that it had, or those that it wants
pub changed_kept : (s : Seated) (i new : Index) (place : ℕ) (r : Seat) (f : Seat → Seat) (lane : Lane) → slice_get s.seats place ≡ Some r → (f r).number ≡ r.number → lane ≡ noted_of (f r)
    → new.items ≡ i.items → new.lanes ≡ lanes_with i place lane → length new.marks ≡ length i.marks → AreUnmoved i new
    → (is_marked new place ≡ false → conflicts_of r ≡ wanted_among s.most None s.seats r
    → (conflicts_of (f r) ≡ conflicts_of r) ⊎ (conflicts_of (f r) ≡ wanted_among s.most None (at_place place f s.seats) (f r)))
    → IsKept s i → IsKept (record s { seats = at_place place f s.seats }) new
changed_kept s i new place r f lane is number e items lanes long unmoved own h =
    let noted = changed_noted s i new place r f lane is e items lanes h.noted in
    record {
      noted = noted;
      marks = long ∙ h.marks;
      settled =
          unmoved_settled s (record s { seats = at_place place f s.seats }) i new h.noted noted
          (in_place s place f (λ x at. subst (λ y. (f y).number ≡ y.number) (same_Some r x (sym is ∙ at)) number))
          unmoved h.settled
          (λ q u u' at at' none wants has.
          either (at_either place q f s.seats u u' at at')
          (λ z.
          let same : u ≡ r = same_Some u r (sym (subst (λ n. slice_get s.seats n ≡ Some u) z.0 at) ∙ is) in
          let there : u' ≡ f r = z.1 ∙ ap f same in
          either (own (subst (λ n. is_marked new n ≡ false) z.0 none) (subst (λ x. conflicts_of x ≡ wanted_among s.most None s.seats x) same has))
          (λ kept. inl (ap conflicts_of there ∙ kept ∙ ap conflicts_of (sym same)))
          (λ given. inr (subst (λ x. conflicts_of x ≡ wanted_among s.most None (at_place place f s.seats) x) (sym there) given)))
          (λ z. inl (ap conflicts_of z)));
    }

-- a change that leaves it, of one that gets what it wants
pub given_kept : (s : Seated) (i : Index) (place : ℕ) (r : Seat) (f : Seat → Seat) → slice_get s.seats place ≡ Some r → (f r).number ≡ r.number → noted_of (f r) ≡ noted_of r
    → conflicts_of (f r) ≡ wanted_among s.most None s.seats r → IsKept s i → IsKept (record s { seats = at_place place f s.seats }) i
given_kept s i place r f is number same given h =
    changed_kept s i i place r f (noted_of (f r)) is number refl refl (none_noted i place (noted_of (f r)) (noted_at s i place r h.noted is ∙ sym same)) refl (none_moved i i refl)
    (λ none has. inl (given ∙ sym has)) h

-- where nobody is marked any more
pub clear_kept : (s : Seated) (i new : Index) → AreWanted s → new ≡ record i { marks = replicate (length i.marks) false } → IsKept s i → IsKept s new
clear_kept s i new wanted is h = subst (IsKept s) (sym is) (record {
  noted = record { items = h.noted.items; many = h.noted.many; lanes = h.noted.lanes };
  marks = length-replicate (length i.marks) false ∙ h.marks;
  settled = λ place r at none. all_get (λ (x : Seat). conflicts_of x ≡ wanted_among s.most None s.seats x) s.seats place r wanted at;
})

-- A promotion.

-- who has no point wants nothing
nothing_there : (s : Seated) (i : Index) (place : ℕ) (r : Seat) → IsNoted s i → slice_get s.seats place ≡ Some r → ((q : ℕ) → q < length i.lanes → q ≢ place → point_at i place q ≡ None)
    → wanted_among s.most None s.seats r ≡ []
nothing_there s i place r h is none = nothing_of s.most s.seats r (all s.seats (λ q u at. each q u at))
  where
    each : (q : ℕ) (u : Seat) → slice_get s.seats q ≡ Some u → conflict_between None r u ≡ None
    each q u at =
        either (cases_Bool (u.number == r.number))
        (λ e. rw e refl)
        (λ e.
        let apart : q ≢ place = λ z. true≢false (sym (eq-eqb u.number r.number (ap (λ (x : Seat). x.number) (same_Some u r (sym at ∙ ap (slice_get s.seats) z ∙ is)))) ∙ e) in
        let free : point_against r u ≡ None = sym (point_there s i place q r u h is at) ∙ none q (place_within s i q h (slice_get_within s.seats q u at)) apart in
        ap (λ o. if u.number == r.number then None else conflict_at u.number o) free ∙ rw e refl)

    all : (xs : List Seat) → ((q : ℕ) (u : Seat) → slice_get xs q ≡ Some u → conflict_between None r u ≡ None) → filter_map (conflict_between None r) xs ≡ []
    all [] h = refl
    all (x ∷ xs) h = ap (λ o. cons_option o (filter_map (conflict_between None r) xs)) (h 0 x refl) ∙ all xs (λ q u at. h (suc q) u at)

no_waiters : (ws : List Waiter) → map conflict_of ws ≡ [] → ws ≡ []
no_waiters [] h = refl
no_waiters (w ∷ ws) h = cc

promoted_none : (o : Origin) (nodes : List Node) (items cut : ℕ) (r : Seat) → r.waiters ≡ [] → (promoted_by o nodes items cut r).waiters ≡ []
promoted_none Keep nodes items cut r none = none
promoted_none (From heir) nodes items cut r none = ap (filter (stays cut heir)) none
promoted_none Fresh nodes items cut r none = refl

promoted_number : (o : Origin) (nodes : List Node) (items cut : ℕ) (r : Seat) → (promoted_by o nodes items cut r).number ≡ r.number
promoted_number Keep nodes items cut r = refl
promoted_number (From heir) nodes items cut r = refl
promoted_number Fresh nodes items cut r = refl

-- who is promoted without a mark had no shadow to lose
pub promoted_kept : (s : Seated) (i new : Index) (place cut : ℕ) (nodes : List Node) (r : Seat) (lane : Lane) → slice_get s.seats place ≡ Some r → lane ≡ noted_of (promoted_seat nodes s.items cut r)
    → new.items ≡ i.items → new.lanes ≡ lanes_with i place lane → length new.marks ≡ length i.marks → AreUnmoved i new
    → (is_marked new place ≡ false → (q : ℕ) → q < length i.lanes → q ≢ place → point_at i place q ≡ None)
    → IsKept s i → IsKept (record s { seats = at_place place (promoted_seat nodes s.items cut) s.seats }) new
promoted_kept s i new place cut nodes r lane is e items lanes long unmoved gone h =
    let by = successor (placed_of (started_of r)) cut in
    changed_kept s i new place r (promoted_seat nodes s.items cut) lane is (promoted_number by nodes s.items cut r) e items lanes long unmoved
    (λ none has.
    let bare : conflicts_of r ≡ [] = has ∙ nothing_there s i place r h.noted is (gone none) in
    inl (ap (map conflict_of) (promoted_none by nodes s.items cut r (no_waiters r.waiters bare)) ∙ sym bare))
    h
