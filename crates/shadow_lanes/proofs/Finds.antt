-- What is found in lists, from a place on.
use Rattle.std.specs.Prelude.{◌≡◌, ◌≢◌, ◌<◌, ◌≤◌, ◌+◌, ℕ, zero, suc, Bool, true, false, nat_eq, List, [], ◌∷◌, ◌++◌, length, drop, slice_get, Option, Some, option_map}
use Rattle.std.proofs.Common.{refl, sym, ap, subst, arith, ◌∙◌, add-one, length-append}
use Rattle.std.proofs.Math.ListN.{drop_of_length-le}
use Rattle.std.specs.List.{AllByRecursion}
use Rattle.forest_model.specs.Point.{Conflict}
use Rattle.shadow_state.specs.Bank.{Slot}
use Rattle.shadow_state.proofs.Places.{all_more}
use Rattle.shadow_lanes.specs.Seats.{Seat, find_seat, guard_slot}
use Rattle.shadow_lanes.specs.Kept.{AreAll, one_if, times, waiters_of, first_slot}
use Rattle.shadow_lanes.proofs.Views.{one_other}
use Rattle.shadow_lanes.proofs.Order.{times_more}

-- The first shadow for a guard.

guard_at : (u : ℕ) (cs : List Conflict) (slots : List Slot) (s : Slot) (i : ℕ) (c : Conflict) → slice_get cs i ≡ Some c → c.0 ≡ u → length cs ≤ length slots → slice_get slots i ≡ Some (guard_slot u (waiters_of (drop i cs) (drop i slots)) s)
guard_at u [] slots s i c is e le = cc
guard_at u (d ∷ cs) [] s i c is e le = absurd (omega (arith, le))
guard_at u (d ∷ cs) (t ∷ slots) s zero c is e le =
    let same : d ≡ c = cc in
    let at : d.0 ≡ u = ap (λ (x : Conflict). x.0) same ∙ e in
    let b : nat_eq d.0 u ≡ true = grind (arith, at) in
    rw b refl
guard_at u (d ∷ cs) (t ∷ slots) s (suc i) c is e le = guard_at u cs slots s i c is e (omega (arith, le))

guard_next : (u : ℕ) (cs : List Conflict) (slots : List Slot) (s : Slot) (i : ℕ) (c : Conflict) → slice_get cs i ≡ Some c → c.0 ≢ u → length cs ≤ length slots → guard_slot u (waiters_of (drop i cs) (drop i slots)) s ≡ guard_slot u (waiters_of (drop (suc i) cs) (drop (suc i) slots)) s
guard_next u [] slots s i c is ne le = cc
guard_next u (d ∷ cs) [] s i c is ne le = absurd (omega (arith, le))
guard_next u (d ∷ cs) (t ∷ slots) s zero c is ne le =
    let same : d ≡ c = cc in
    let at : d.0 ≢ u = λ e. ne (ap (λ (x : Conflict). x.0) (sym same) ∙ e) in
    let b : nat_eq d.0 u ≡ false = grind (arith, at) in
    rw b refl
guard_next u (d ∷ cs) (t ∷ slots) s (suc i) c is ne le = guard_next u cs slots s i c is ne (omega (arith, le))

-- the slots from a place on have it
abbrev pub IsLeft : ℕ → List Conflict → List Slot → ℕ → Type 0
IsLeft u cs slots i = guard_slot u (waiters_of cs (drop 1 slots)) (first_slot slots) ≡ guard_slot u (waiters_of (drop i cs) (drop i (drop 1 slots))) (first_slot slots)

pub left_next : (u : ℕ) (cs : List Conflict) (slots : List Slot) (i : ℕ) (c : Conflict) → slice_get cs i ≡ Some c → c.0 ≢ u → length cs < length slots → IsLeft u cs slots i → IsLeft u cs slots (i + 1)
left_next u cs [] i c is ne lt h = absurd (omega (arith, lt))
left_next u cs (s ∷ slots) i c is ne lt h = rw add-one (h ∙ guard_next u cs slots s i c is ne (omega (arith, lt)))

pub left_at : (u : ℕ) (cs : List Conflict) (slots : List Slot) (i : ℕ) (c : Conflict) → slice_get cs i ≡ Some c → c.0 ≡ u → length cs < length slots → IsLeft u cs slots i → slice_get slots (i + 1) ≡ Some (guard_slot u (waiters_of cs (drop 1 slots)) (first_slot slots))
left_at u cs [] i c is e lt h = absurd (omega (arith, lt))
left_at u cs (s ∷ slots) i c is e lt h = rw add-one (guard_at u cs slots s i c is e (omega (arith, lt)) ∙ ap (λ x. Some x) (sym h))

pub left_none : (u : ℕ) (cs : List Conflict) (slots : List Slot) (i : ℕ) → length cs ≤ i → length cs < length slots → IsLeft u cs slots i → slice_get slots 0 ≡ Some (guard_slot u (waiters_of cs (drop 1 slots)) (first_slot slots))
left_none u cs [] i past lt h = absurd (omega (arith, lt))
left_none u cs (s ∷ slots) i past lt h =
    let none : drop i cs ≡ [] = drop_of_length-le cs past in
    ap (λ x. Some x) (sym (h ∙ ap (λ (ds : List Conflict). guard_slot u (waiters_of ds (drop i slots)) s) none))

-- The transaction of a number.

abbrev pub number_at : List Seat → ℕ → Option ℕ
number_at seats i = option_map (λ (r : Seat). r.number) (slice_get seats i)

pub find_at : (seats : List Seat) (t i n : ℕ) → number_at seats i ≡ Some n → n ≡ t → slice_get seats i ≡ find_seat (drop i seats) t
find_at [] t i n is e = cc
find_at (r ∷ seats) t zero n is e =
    let same : r.number ≡ n = cc in
    let b : nat_eq r.number t ≡ true = grind (arith, same, e) in
    rw b refl
find_at (r ∷ seats) t (suc i) n is e = find_at seats t i n is e

find_skip : (seats : List Seat) (t i n : ℕ) → number_at seats i ≡ Some n → n ≢ t → find_seat (drop i seats) t ≡ find_seat (drop (suc i) seats) t
find_skip [] t i n is ne = cc
find_skip (r ∷ seats) t zero n is ne =
    let same : r.number ≡ n = cc in
    let b : nat_eq r.number t ≡ false = grind (arith, same, ne) in
    rw b refl
find_skip (r ∷ seats) t (suc i) n is ne = find_skip seats t i n is ne

pub find_next : (seats : List Seat) (t i n : ℕ) → number_at seats i ≡ Some n → n ≢ t → find_seat (drop i seats) t ≡ find_seat (drop (i + 1) seats) t
find_next seats t i n is ne = rw add-one (find_skip seats t i n is ne)

-- All lanes.

times_above : (n : ℕ) (ms : List ℕ) → AllByRecursion (λ m. m < n) ms → times n ms ≡ 0
times_above n [] all = refl
times_above n (m ∷ ms) all =
    let ne : m ≢ n = λ e. absurd (omega (arith, all.0, e)) in
    omega (arith, one_other m n ne, times_above n ms all.1)

once_more : (n m : ℕ) (ms : List ℕ) (b : Bool) → nat_eq n m ≡ b → AllByRecursion (λ k. k < n) ms → times m ms ≤ 1 → times m ms + one_if b ≤ 1
once_more n m ms true is all once =
    let same : n ≡ m = grind (arith, is) in
    let none : times m ms ≡ 0 = subst (λ k. times k ms ≡ 0) same (times_above n ms all) in
    omega (arith, none)
once_more n m ms false is all once = omega (arith, once)

all_wider : (n : ℕ) (ms : List ℕ) → AllByRecursion (λ m. m < n) ms → AllByRecursion (λ m. m < n + 1) ms
all_wider n [] all = tt
all_wider n (m ∷ ms) all = (omega (arith, all.0), all_wider n ms all.1)

pub all_next : (n : ℕ) (ms : List ℕ) (room : ℕ) → n < room → AreAll n ms room → AreAll (n + 1) (ms ++ n ∷ []) room
all_next n ms room lt h = record {
  many = omega (arith, length-append ms (n ∷ []), h.many);
  within = all_more (λ m. m < n + 1) ms n (all_wider n ms h.within) (omega arith);
  once = λ m. omega (arith, times_more m ms n, once_more n m ms (nat_eq n m) refl h.within (h.once m));
  fits = omega (arith, lt);
}
