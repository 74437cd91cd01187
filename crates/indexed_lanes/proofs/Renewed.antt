-- A transaction that gets the shadows that it wants.
use Rattle.std.specs.Prelude.{◌≡◌, ℕ, zero, suc, ◌≤◌, ◌-◌, ◌==◌, true, false, List, [], ◌∷◌, length, map, filter_map, replicate, slice_get, Option, None, Some, option_map}
use Rattle.std.proofs.Common.{refl, sym, ap, arith, ◌∙◌, eqb-true, eq-eqb}
use Rattle.std.proofs.Math.Seq.{take-nil}
use Rattle.std.proofs.lemmas.Bool.{cond_both, and_parts}
use Rattle.txn_runs.specs.Run.{Read}
use Rattle.txn_code.specs.declared.node.Node.{Node}
use Rattle.forest_model.specs.Point.{Conflict, point, wanted_of}
use Rattle.forest_model.specs.Forest.{conflict_at}
use Rattle.forest_model.proofs.StartedLaws.{filter_map-put}
use Rattle.forest_model.proofs.RunLaws.{own-none}
use Rattle.shadow_state.specs.Bank.{Slot, at_place}
use Rattle.shadow_state.proofs.Places.{at_alike}
use Rattle.shadow_lanes.specs.Seats.{Waiter, Seat, Seated, IsSeat, conflict_of, conflicts_of, comes_before, fresh_seat, seats_with, settled_seat}
use Rattle.shadow_lanes.proofs.Lists.{got_map}
use Rattle.index_laws.specs.Noted.{lane_of_run}
use Rattle.indexed_lanes.specs.Noted.{noted_of}
use Rattle.indexed_lanes.specs.Wanted.{conflict_between, wanted_among, same_conflict, same_conflicts, renewed}

-- The same conflicts.

same_pair : (x y : Conflict) → same_conflict x y ≡ true → x ≡ y
same_pair x y h =
    let both = and_parts (x.0 == y.0) (x.1 == y.1) h in
    rw (eqb-true _ _ both.0, eqb-true _ _ both.1) refl

pub same_lists : (xs ys : List Conflict) → same_conflicts xs ys ≡ true → xs ≡ ys
same_lists [] [] h = refl
same_lists [] (y ∷ ys) h = cc
same_lists (x ∷ xs) [] h = cc
same_lists (x ∷ xs) (y ∷ ys) h =
    let both = and_parts (same_conflict x y) (same_conflicts xs ys) h in
    rw (same_pair x y both.0, same_lists xs ys both.1) refl

same_self : (xs : List Conflict) → same_conflicts xs xs ≡ true
same_self [] = refl
same_self (x ∷ xs) = rw (eq-eqb x.0 x.0 refl, eq-eqb x.1 x.1 refl, same_self xs) refl

-- One transaction.

pub settled_conflicts : (nodes : List Node) (items : ℕ) (r : Seat) (ws : List Conflict) → conflicts_of (settled_seat nodes items ws r) ≡ ws
settled_conflicts nodes items r [] = refl
settled_conflicts nodes items r (w ∷ ws) = ap (λ xs. w ∷ xs) (settled_conflicts nodes items r ws)

pub renewed_conflicts : (nodes : List Node) (items : ℕ) (ws : List Conflict) (r : Seat) → conflicts_of (renewed nodes items ws r) ≡ ws
renewed_conflicts nodes items ws r =
    cond_both {A = Seat} (same_conflicts (conflicts_of r) ws) r (settled_seat nodes items ws r) (λ x. conflicts_of x ≡ ws)
    (λ e. same_lists _ _ e) (λ e. settled_conflicts nodes items r ws)

pub renewed_number : (nodes : List Node) (items : ℕ) (ws : List Conflict) (r : Seat) → (renewed nodes items ws r).number ≡ r.number
renewed_number nodes items ws r = cond_both {A = Seat} (same_conflicts (conflicts_of r) ws) r (settled_seat nodes items ws r) (λ x. x.number ≡ r.number) (λ e. refl) (λ e. refl)

pub renewed_optimistic : (nodes : List Node) (items : ℕ) (ws : List Conflict) (r : Seat) → (renewed nodes items ws r).optimistic ≡ r.optimistic
renewed_optimistic nodes items ws r = cond_both {A = Seat} (same_conflicts (conflicts_of r) ws) r (settled_seat nodes items ws r) (λ x. x.optimistic ≡ r.optimistic) (λ e. refl) (λ e. refl)

pub renewed_noted : (nodes : List Node) (items : ℕ) (ws : List Conflict) (r : Seat) → noted_of (renewed nodes items ws r) ≡ noted_of r
renewed_noted nodes items ws r = ap (λ (x : Slot). lane_of_run x.state.log.reads x.state.writes) (renewed_optimistic nodes items ws r)

-- who has the shadows already stays
pub renewed_same : (nodes : List Node) (items : ℕ) (ws : List Conflict) (r : Seat) → conflicts_of r ≡ ws → renewed nodes items ws r ≡ r
renewed_same nodes items ws r e =
    let same : same_conflicts (conflicts_of r) ws ≡ true = ap (same_conflicts (conflicts_of r)) (sym e) ∙ same_self (conflicts_of r) in
    rw same refl

-- The one at a place.

renewed-true : (nodes : List Node) (items : ℕ) (ws : List Conflict) (r : Seat) → same_conflicts (conflicts_of r) ws ≡ true → renewed nodes items ws r ≡ r
renewed-true nodes items ws r e = rw e refl

renewed-false : (nodes : List Node) (items : ℕ) (ws : List Conflict) (r : Seat) → same_conflicts (conflicts_of r) ws ≡ false → settled_seat nodes items ws r ≡ renewed nodes items ws r
renewed-false nodes items ws r e = rw e refl

pub at_still : (place : ℕ) (f : Seat → Seat) (seats : List Seat) (r : Seat) → slice_get seats place ≡ Some r → f r ≡ r → seats ≡ at_place place f seats
at_still place f seats r is e = sym (at_alike place f (λ x. x) seats r is e ∙ unchanged place seats)
  where
    unchanged : (n : ℕ) (xs : List Seat) → at_place n (λ x. x) xs ≡ xs
    unchanged n [] = refl
    unchanged zero (x ∷ xs) = refl
    unchanged (suc n) (x ∷ xs) = ap (λ rest. x ∷ rest) (unchanged n xs)

module _ (nodes : List Node) (items : ℕ) (ws shown : List Conflict) (seats : List Seat) (place : ℕ) (r : Seat) where
  pub renewed_kept : slice_get seats place ≡ Some r → option_map conflicts_of (slice_get seats place) ≡ Some shown → same_conflicts shown ws ≡ true
      → seats ≡ at_place place (renewed nodes items ws) seats
  renewed_kept is show same =
      at_still place (renewed nodes items ws) seats r is
      (renewed-true nodes items ws r (ap (λ cs. same_conflicts cs ws) (sym (got_map conflicts_of (slice_get seats place) r shown is show)) ∙ same))

  pub renewed_settled : slice_get seats place ≡ Some r → option_map conflicts_of (slice_get seats place) ≡ Some shown → same_conflicts shown ws ≡ false
      → at_place place (settled_seat nodes items ws) seats ≡ at_place place (renewed nodes items ws) seats
  renewed_settled is show same =
      at_alike place (settled_seat nodes items ws) (renewed nodes items ws) seats r is
      (renewed-false nodes items ws r (ap (λ cs. same_conflicts cs ws) (sym (got_map conflicts_of (slice_get seats place) r shown is show)) ∙ same))

-- With one shadow a transaction nobody wants another.

none_wait : (ws : List Waiter) → suc (length ws) ≤ 1 → ws ≡ []
none_wait [] h = refl
none_wait (w ∷ ws) h = absurd (omega (arith, h))

none_wanted : (k : ℕ) (next : Option ℕ) (seats : List Seat) (r : Seat) → k ≡ 1 → wanted_among k next seats r ≡ []
none_wanted k next seats r one = ap (wanted_of (filter_map (conflict_between next r) seats)) one

pub one_has : (k items : ℕ) (next : Option ℕ) (seats : List Seat) (r : Seat) → k ≡ 1 → IsSeat k items r → conflicts_of r ≡ wanted_among k next seats r
one_has k items next seats r one of_r =
    let few : suc (length r.waiters) ≤ k = of_r.few in
    ap (map conflict_of) (none_wait r.waiters (omega (arith, few, one))) ∙ sym (none_wanted k next seats r one)

pub one_still : (s : Seated) (place : ℕ) (nodes : List Node) (next : Option ℕ) (r : Seat) → s.most ≡ 1 → IsSeat s.most s.items r → slice_get s.seats place ≡ Some r
    → s.seats ≡ at_place place (renewed nodes s.items (wanted_among s.most next s.seats r)) s.seats
one_still s place nodes next r one of_r is =
    at_still place (renewed nodes s.items (wanted_among s.most next s.seats r)) s.seats r is
    (renewed_same nodes s.items (wanted_among s.most next s.seats r) r (one_has s.most s.items next s.seats r one of_r))

-- Who starts.

-- against one that has written nothing there is no conflict
unwritten : (n : ℕ) (rs : List Read) → point rs (replicate n None) ≡ None
unwritten n [] = refl
unwritten n (x ∷ rs) = rw (own-none n x.1) (unwritten n rs)

pub no_conflict : (t : ℕ) (nodes : List Node) (items : ℕ) (r : Seat) → conflict_between None r (fresh_seat t nodes items) ≡ None
no_conflict t nodes items r =
    cond_both (t == r.number) None (conflict_at t (point r.optimistic.state.log.reads (replicate items None))) (λ o. o ≡ None)
    (λ e. refl) (λ e. ap (conflict_at t) (unwritten items r.optimistic.state.log.reads))

-- nothing is wanted where there is no conflict
pub nothing_of : (k : ℕ) (seats : List Seat) (r : Seat) → filter_map (conflict_between None r) seats ≡ [] → wanted_among k None seats r ≡ []
nothing_of k seats r none = ap (λ pairs. wanted_of pairs k) none ∙ take-nil (k - 1)

pub nothing_wanted : (k t : ℕ) (nodes : List Node) (items : ℕ) (seats : List Seat) → wanted_among k None seats (fresh_seat t nodes items) ≡ []
nothing_wanted k t nodes items seats = nothing_of k seats (fresh_seat t nodes items) (none seats)
  where
    none : (us : List Seat) → filter_map (conflict_between None (fresh_seat t nodes items)) us ≡ []
    none [] = refl
    none (u ∷ us) =
        let here : conflict_between None (fresh_seat t nodes items) u ≡ None =
        cond_both (u.number == t) None None (λ o. o ≡ None) (λ e. refl) (λ e. refl)
        in
        rw here (none us)

-- so the others want the same as without it
pub wanted_with : (k t : ℕ) (nodes : List Node) (items : ℕ) (seats : List Seat) (r : Seat) → wanted_among k None (seats_with t nodes items seats) r ≡ wanted_among k None seats r
wanted_with k t nodes items seats r = ap (λ pairs. wanted_of pairs k) (filter_map-put (conflict_between None r) comes_before (fresh_seat t nodes items) seats (no_conflict t nodes items r))
