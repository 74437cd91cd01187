-- What the forest's code makes of the started transactions and their states.
use Rattle.std.specs.Prelude.{ℕ, zero, suc, ◌-◌, Bool, false, not, ◌&&◌, ◌||◌, ◌==◌, nat_lt, if◌then◌else◌, List, [], ◌∷◌, map, filter, flat_map, slice_get, is_some, Option, None, Some}
use Rattle.txn_runs.specs.Run.{logged}
use Rattle.txn_code.specs.declared.node.Node.{Node}
use Rattle.block_rule.specs.declared.role.Role.{Role}
use Rattle.block_rule.specs.declared.role.Role.TheVariants.{Optimistic, Guard}
use Rattle.block_rule.specs.declared.role.Row.{Row}
use Rattle.block_rule.specs.Standing.{standing}
use Rattle.forest_model.specs.Choose.{first_by}
use Rattle.forest_model.specs.Point.{Conflict, point}
use Rattle.shadow_lanes.specs.Seats.{Seat, Waiter, promoted_seat, seats_with}
use Rattle.indexed_lanes.specs.Wanted.{wanted_among, renewed}
use Rattle.shadow_forest.specs.declared.txn.Txn.{Txn}

-- Transactions that are kept.

-- the nodes of a transaction that is there
abbrev pub nodes_in : Option Txn → List Node
nodes_in None = []
nodes_in (Some x) = x.code.nodes

-- the nodes of t
abbrev pub nodes_at : List Txn → ℕ → List Node
nodes_at txns t = nodes_in (slice_get txns (t - 1))

-- a transaction of which no code is kept any more
abbrev pub without_code : Txn → Txn
without_code x = record x { code = record { nodes = []; room = 0 } }

-- the deadline of a transaction that is there
abbrev pub deadline_in : Option Txn → ℕ
deadline_in None = 0
deadline_in (Some x) = x.deadline

-- the deadline of t
abbrev pub deadline_at : List Txn → ℕ → ℕ
deadline_at txns t = deadline_in (slice_get txns (t - 1))

-- Settling.

-- r with the shadows that it wants among these
abbrev pub renewed_among : ℕ → ℕ → List Txn → List Seat → Seat → Seat
renewed_among k items txns seats r = renewed (nodes_at txns r.number) items (wanted_among k None seats r) r

-- each with the shadows that it wants among all
abbrev pub all_renewed : ℕ → ℕ → List Txn → List Seat → List Seat
all_renewed k items txns seats = map (renewed_among k items txns seats) seats

-- r has read the item of the tables
abbrev pub has_read : ℕ → Seat → Bool
has_read item r = is_some (logged r.optimistic.state.log.reads item)

-- After a commit.

-- r after a cut, if there is one
abbrev pub cut_seat : List Node → ℕ → Option ℕ → Seat → Seat
cut_seat nodes items None r = r
cut_seat nodes items (Some c) r = promoted_seat nodes items c r

-- the position of r's earliest read of an item that u has written
abbrev pub seat_cut : Seat → Seat → Option ℕ
seat_cut u r = point r.optimistic.state.log.reads u.optimistic.state.writes

-- r after the commit of u; u stays as it is
abbrev pub seat_after : ℕ → List Txn → Seat → Seat → Seat
seat_after items txns u r = if r.number == u.number then r else cut_seat (nodes_at txns r.number) items (seat_cut u r) r

-- where r is taken back to, if there is a cut
abbrev pub back_to : ℕ → Option ℕ → Seat → Option (ℕ × ℕ)
back_to t None r = None
back_to t (Some c) r = Some (t, r.optimistic.state.position)

-- the number of r and where u's commit takes it back to, if it does
abbrev pub taken_back : ℕ → List Txn → Seat → Seat → Option (ℕ × ℕ)
taken_back items txns u r = if r.number == u.number then None else back_to r.number (seat_cut u r) (seat_after items txns u r)

-- Who starts.

-- the smaller deadline comes first, and of equal ones the smaller number
abbrev pub is_prior_at : List Txn → ℕ → ℕ → Bool
is_prior_at txns t u = nat_lt (deadline_at txns t) (deadline_at txns u) || (deadline_at txns t == deadline_at txns u && nat_lt t u)

-- who starts of those that wait, where a lane is free
abbrev pub next_of : List Txn → ℕ → ℕ → List ℕ → Option ℕ
next_of txns started lanes waiting = if nat_lt started lanes then first_by (is_prior_at txns) waiting else None

-- the transactions with one more, if one starts
abbrev pub seats_with_some : List Txn → ℕ → Option ℕ → List Seat → List Seat
seats_with_some txns items None seats = seats
seats_with_some txns items (Some t) seats = seats_with t (nodes_at txns t) items seats

-- those that still wait, if one starts
abbrev pub still_waiting : Option ℕ → List ℕ → List ℕ
still_waiting None waiting = waiting
still_waiting (Some t) waiting = filter (λ (u : ℕ). not (u == t)) waiting

-- The pick.

-- the rows of the shadows that wait, from this place on
abbrev pub waiter_rows : ℕ → ℕ → ℕ → List Waiter → List Row
waiter_rows t deadline place [] = []
waiter_rows t deadline place (w ∷ ws) =
    record { txn = t; deadline = deadline; role = Guard w.guard; place = place; standing = standing (Guard w.guard) w.slot.state.position (Some w.point) false; out = w.slot.out }
    ∷ waiter_rows t deadline (suc place) ws

-- the rows of r's shadows, the optimistic one first
abbrev pub seat_rows : List Txn → Seat → List Row
seat_rows txns r =
    record {
      txn = r.number;
      deadline = deadline_at txns r.number;
      role = Optimistic;
      place = 0;
      standing = standing Optimistic r.optimistic.state.position None r.optimistic.state.done;
      out = r.optimistic.out;
    }
    ∷ waiter_rows r.number (deadline_at txns r.number) 1 r.waiters

-- the rows of all
abbrev pub all_rows : List Txn → List Seat → List Row
all_rows txns seats = flat_map (seat_rows txns) seats

-- this row comes before those of t, by deadline and number
abbrev pub row_comes_before : Option Row → ℕ → ℕ → Bool
row_comes_before None t deadline = false
row_comes_before (Some b) t deadline = nat_lt b.deadline deadline || (b.deadline == deadline && nat_lt b.txn t)

-- One more.

-- the earlier of the best so far and another, which comes behind it in the list
abbrev pub later_of : {X : Type 0} → (X → X → Bool) → Option X → X → X
later_of before None x = x
later_of before (Some old) x = if before x old then x else old

-- the role of the shadow that waits at this place
abbrev pub waiter_role : Option Waiter → Role × Option ℕ
waiter_role None = (Optimistic, None)
waiter_role (Some w) = (Guard w.guard, Some w.point)

-- the role and the point of the shadow in this slot
abbrev pub role_in : Seat → ℕ → Role × Option ℕ
role_in r zero = (Optimistic, None)
role_in r (suc n) = waiter_role (slice_get r.waiters n)

-- one slot further
abbrev pub further_slot : Option ℕ → Option ℕ
further_slot None = None
further_slot (Some n) = Some (suc n)

-- the slot of the first shadow for this guard, if there is one; slot 0 is the optimistic one
abbrev pub slot_of : List Conflict → ℕ → Option ℕ
slot_of [] u = None
slot_of (w ∷ ws) u = if w.0 == u then Some 1 else further_slot (slot_of ws u)

-- the place of the first element that passes the test, if there is one
abbrev pub first_place : {X : Type 0} → (X → Bool) → List X → Option ℕ
first_place test [] = None
first_place test (x ∷ xs) = if test x then Some 0 else further_slot (first_place test xs)
