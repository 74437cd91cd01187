-- The rows of a transaction's shadows.
use Rattle.std.proofs.Common.{◌≡◌, ℕ, zero, suc, ◌+◌, Bool, false, List, [], ◌∷◌, ◌++◌, length, map, flat_map, Option, Some, None, refl, ap, sym, ◌∙◌, arith, append-nil, append_assoc}
use Rattle.std.specs.Prelude.{slice_get}
use Rattle.std.specs.List.{AllByRecursion}
use Rattle.block_rule.specs.declared.role.Role.{Role}
use Rattle.block_rule.specs.declared.role.Role.TheVariants.{Optimistic, Guard}
use Rattle.block_rule.specs.declared.role.Row.{Row}
use Rattle.block_rule.specs.declared.standing.Standing.{Standing}
use Rattle.block_rule.specs.Standing.{standing}
use Rattle.forest_model.specs.Forest.{Forest}
use Rattle.forest_model.specs.Pick.{guard_rows, rows_of}
use Rattle.shadow_state.specs.Bank.{Slot}
use Rattle.shadow_lanes.specs.Seats.{Seat, Waiter, conflict_of, conflicts_of, shadow_of, started_of, slots_of}
use Rattle.shadow_forest.specs.declared.txn.Txn.{Txn}
use Rattle.shadow_forest.specs.Parts.{deadline_at, waiter_role, role_in, waiter_rows, seat_rows, all_rows}
use Rattle.shadow_forest.proofs.Seen.{IsSeen}

-- the row of a shadow with this role and point in this slot
abbrev pub row_by : ℕ → ℕ → Role × Option ℕ → ℕ → Slot → Row
row_by t deadline role place s = record { txn = t; deadline = deadline; role = role.0; place = place; standing = standing role.0 s.state.position role.1 s.state.done; out = s.out }

waiter-row : (t deadline place : ℕ) (ws : List Waiter) (n : ℕ) (s : Slot) → slice_get (map (λ (w : Waiter). w.slot) ws) n ≡ Some s
    → slice_get (waiter_rows t deadline place ws) n ≡ Some (row_by t deadline (waiter_role (slice_get ws n)) (place + n) s)
waiter-row t deadline place [] n s e = cc
waiter-row t deadline place (w ∷ ws) zero s e =
    let same : w.slot ≡ s = cc in
    let here : place + 0 ≡ place = omega arith in
    rw (← same, here) refl
waiter-row t deadline place (w ∷ ws) (suc n) s e =
    let next : place + suc n ≡ suc place + n = omega arith in
    rw next (waiter-row t deadline (suc place) ws n s e)

pub row-there : (txns : List Txn) (r : Seat) (slot : ℕ) (s : Slot) → slice_get (slots_of r) slot ≡ Some s
    → slice_get (seat_rows txns r) slot ≡ Some (row_by r.number (deadline_at txns r.number) (role_in r slot) slot s)
row-there txns r zero s e = let same : r.optimistic ≡ s = cc in rw (← same) refl
row-there txns r (suc n) s e =
    let next : suc n ≡ 1 + n = omega arith in
    waiter-row r.number (deadline_at txns r.number) 1 r.waiters n s e ∙ ap (λ place. Some (row_by r.number (deadline_at txns r.number) (role_in r (suc n)) place s)) (sym next)

-- what is told of this slot is its row
pub row-is : (t deadline t' deadline' : ℕ) (role is : Role × Option ℕ) (place position : ℕ) (stands : Standing) (ended out : Bool) (s : Slot)
    → t ≡ t' → deadline ≡ deadline' → role ≡ is → position ≡ s.state.position → ended ≡ s.state.done → stands ≡ standing role.0 position role.1 ended → out ≡ s.out
    → row_by t' deadline' is place s ≡ record { txn = t; deadline = deadline; role = role.0; place = place; standing = stands; out = out }
row-is t deadline t' deadline' role is place position stands ended out s n d r p e st o = rw (n, d, st, p, e, r, o) refl

-- there is one for each slot
waiter_rows-many : (t deadline place : ℕ) (ws : List Waiter) → length (waiter_rows t deadline place ws) ≡ length ws
waiter_rows-many t deadline place [] = refl
waiter_rows-many t deadline place (w ∷ ws) = ap suc (waiter_rows-many t deadline (suc place) ws)

conflicts-many : (ws : List Waiter) → length (map conflict_of ws) ≡ length ws
conflicts-many [] = refl
conflicts-many (w ∷ ws) = ap suc (conflicts-many ws)

pub rows-many : (txns : List Txn) (r : Seat) → length (seat_rows txns r) ≡ suc (length (conflicts_of r))
rows-many txns r = ap suc (waiter_rows-many r.number (deadline_at txns r.number) 1 r.waiters ∙ sym (conflicts-many r.waiters))

-- In numbers.

guard-rows : (t deadline place : ℕ) (ws : List Waiter) → guard_rows t deadline place (map shadow_of ws) (map conflict_of ws) ≡ waiter_rows t deadline place ws
guard-rows t deadline place [] = refl
guard-rows t deadline place (w ∷ ws) = ap (λ rows. record { txn = t; deadline = deadline; role = Guard w.guard; place = place; standing = standing (Guard w.guard) w.slot.state.position (Some w.point) false; out = w.slot.out } ∷ rows) (guard-rows t deadline (suc place) ws)

-- they are those that the forest in numbers has
pub rows-seen : (f : Forest) (txns : List Txn) (r : Seat) → IsSeen f txns r → rows_of f (started_of r) ≡ seat_rows txns r
rows-seen f txns r h =
    rw (← h.noted, ← h.ended, ← h.deadline)
    (ap (λ rows. record { txn = r.number; deadline = deadline_at txns r.number; role = Optimistic; place = 0; standing = standing Optimistic r.optimistic.state.position None r.optimistic.state.done; out = r.optimistic.out } ∷ rows)
    (guard-rows r.number (deadline_at txns r.number) 1 r.waiters))

pub all_rows-seen : (f : Forest) (txns : List Txn) (seats : List Seat) → AllByRecursion (IsSeen f txns) seats → flat_map (rows_of f) (map started_of seats) ≡ all_rows txns seats
all_rows-seen f txns [] h = refl
all_rows-seen f txns (r ∷ rs) h =
    ap (λ rows. rows ++ flat_map (rows_of f) (map started_of rs)) (rows-seen f txns r h.0) ∙ ap (λ rows. seat_rows txns r ++ rows) (all_rows-seen f txns rs h.1)

-- One transaction more.

pub all_rows-push : (txns : List Txn) (seats : List Seat) (r : Seat) → all_rows txns (seats ++ r ∷ []) ≡ all_rows txns seats ++ seat_rows txns r
all_rows-push txns [] r = append-nil (seat_rows txns r)
all_rows-push txns (x ∷ xs) r = ap (λ rows. seat_rows txns x ++ rows) (all_rows-push txns xs r) ∙ sym (append_assoc (seat_rows txns x) (all_rows txns xs) (seat_rows txns r))
