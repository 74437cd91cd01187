-- Transactions that come and go.
use Rattle.shadow_lanes.proofs.Lists.{none_left, get_map, all_insert, map_insert, all_remove}
use Rattle.std.proofs.lemmas.List.{length-map}
use Rattle.std.specs.Prelude.{◌≡◌, ◌≢◌, ◌<◌, ◌≤◌, ◌+◌, ℕ, zero, suc, Bool, true, false, nat_eq, nat_lt, if◌then◌else◌, List, [], ◌∷◌, ◌++◌, length, insert, remove, slice_get, None, Some}
use Rattle.std.proofs.Common.{refl, sym, ap, subst, arith, ◌∙◌}
use Rattle.std.specs.List.{AllByRecursion}
use Rattle.forest_model.specs.Choose.{put_in_order}
use Rattle.shadow_state.specs.Bank.{Sides}
use Rattle.shadow_lanes.specs.Seats.{Seat, find_seat, comes_before, seats_without}
use Rattle.forest_model.specs.Sound.{IsRising}
use Rattle.shadow_lanes.specs.Kept.{Kept, seat_in, seats_in, numbers_of, one_if, times, place_in}
use Rattle.shadow_state.proofs.Places.{all_get}

-- Coming.

order_by : (sides : List Sides) (k x : Kept) (kept : List Kept) (b : Bool) → seats_in sides (insert kept (place_in k.number kept) k) ≡ put_in_order comes_before (seat_in sides k) (seats_in sides kept) → seats_in sides (insert (x ∷ kept) (if b then suc (place_in k.number kept) else 0) k) ≡ (if b then seat_in sides x ∷ put_in_order comes_before (seat_in sides k) (seats_in sides kept) else seat_in sides k ∷ seat_in sides x ∷ seats_in sides kept)
order_by sides k x kept true rest = ap (λ r. seat_in sides x ∷ r) rest
order_by sides k x kept false rest = refl

pub order_is : (sides : List Sides) (k : Kept) (kept : List Kept) → seats_in sides (insert kept (place_in k.number kept) k) ≡ put_in_order comes_before (seat_in sides k) (seats_in sides kept)
order_is sides k [] = refl
order_is sides k (x ∷ kept) = order_by sides k x kept (nat_lt x.number k.number) (order_is sides k kept)

place_by : (n : ℕ) (kept : List Kept) (b : Bool) → place_in n kept ≤ length kept → (if b then suc (place_in n kept) else 0) ≤ suc (length kept)
place_by n kept true le = omega (arith, le)
place_by n kept false le = omega arith

pub place_within : (n : ℕ) (kept : List Kept) → place_in n kept ≤ length kept
place_within n [] = omega arith
place_within n (x ∷ kept) = place_by n kept (nat_lt x.number n) (place_within n kept)

pub times_insert : (n : ℕ) (ns : List ℕ) (i m : ℕ) → i ≤ length ns → times n (insert ns i m) ≡ one_if (nat_eq m n) + times n ns
times_insert n [] zero m le = refl
times_insert n [] (suc i) m le = absurd (omega (arith, le))
times_insert n (k ∷ ns) zero m le = refl
times_insert n (k ∷ ns) (suc i) m le = omega (arith, times_insert n ns i m (omega (arith, le)))

pub times_more : (n : ℕ) (ns : List ℕ) (m : ℕ) → times n (ns ++ m ∷ []) ≡ times n ns + one_if (nat_eq m n)
times_more n [] m = omega arith
times_more n (k ∷ ns) m = omega (arith, times_more n ns m)

-- numbers that are not there
none_by : (x : Seat) (seats : List Seat) (t : ℕ) (b : Bool) → nat_eq x.number t ≡ b → (if b then Some x else find_seat seats t) ≡ None → (x.number ≢ t) × (find_seat seats t ≡ None)
none_by x seats t true is h = cc
none_by x seats t false is h = (λ e. absurd (grind (arith, is, e)), h)

pub none_is : (sides : List Sides) (kept : List Kept) (t : ℕ) → find_seat (seats_in sides kept) t ≡ None → AllByRecursion (λ n. n ≢ t) (numbers_of kept)
none_is sides [] t h = tt
none_is sides (k ∷ kept) t h =
    let two = none_by (seat_in sides k) (seats_in sides kept) t (nat_eq k.number t) refl h in
    (two.0, none_is sides kept t two.1)

all_greater : (m n : ℕ) (ns : List ℕ) → m < n → AllByRecursion (λ k. n < k) ns → AllByRecursion (λ k. m < k) ns
all_greater m n [] lt all = tt
all_greater m n (k ∷ ns) lt all = (omega (arith, lt, all.0), all_greater m n ns lt all.1)

rising_by : (k x : Kept) (kept : List Kept) (b : Bool) → nat_lt x.number k.number ≡ b → x.number ≢ k.number → IsRising (numbers_of (x ∷ kept)) → IsRising (numbers_of (insert kept (place_in k.number kept) k)) → IsRising (numbers_of (insert (x ∷ kept) (if b then suc (place_in k.number kept) else 0) k))
rising_by k x kept true is ne h rest =
    let less : x.number < k.number = grind (arith, is) in
    let le = place_within k.number kept in
    let numbers = map_insert (λ (j : Kept). j.number) kept (place_in k.number kept) k le in
    let long : place_in k.number kept ≤ length (numbers_of kept) = omega (arith, le, length-map kept (λ (j : Kept). j.number)) in
    (subst (AllByRecursion (λ m. x.number < m)) (sym numbers) (all_insert (λ m. x.number < m) (numbers_of kept) (place_in k.number kept) k.number long h.0 less), rest)
rising_by k x kept false is ne h rest =
    let less : k.number < x.number = grind (arith, is, ne) in
    ((less, all_greater k.number x.number (numbers_of kept) less h.0), h)

pub rising_insert : (k : Kept) (kept : List Kept) → AllByRecursion (λ n. n ≢ k.number) (numbers_of kept) → IsRising (numbers_of kept) → IsRising (numbers_of (insert kept (place_in k.number kept) k))
rising_insert k [] new h = (tt, tt)
rising_insert k (x ∷ kept) new h = rising_by k x kept (nat_lt x.number k.number) refl new.0 h (rising_insert k kept new.1 h.1)

-- Going.

pub times_remove : (n : ℕ) (ns : List ℕ) (i m : ℕ) → slice_get ns i ≡ Some m → times n ns ≡ one_if (nat_eq m n) + times n (remove ns i)
times_remove n [] i m is = cc
times_remove n (k ∷ ns) zero m is = let same : k ≡ m = cc in ap (λ j. one_if (nat_eq j n) + times n ns) same
times_remove n (k ∷ ns) (suc i) m is = omega (arith, times_remove n ns i m is)

pub rising_remove : (ns : List ℕ) (i : ℕ) → IsRising ns → IsRising (remove ns i)
rising_remove [] i h = subst IsRising (sym (none_left i)) h
rising_remove (n ∷ ns) zero h = h.1
rising_remove (n ∷ ns) (suc i) h = (all_remove (λ m. n < m) ns i h.0, rising_remove ns i h.1)

-- the number of the transaction that was found
found_by : (r x : Seat) (seats : List Seat) (t : ℕ) (b : Bool) → nat_eq r.number t ≡ b → (if b then Some r else find_seat seats t) ≡ Some x → (find_seat seats t ≡ Some x → x.number ≡ t) → x.number ≡ t
found_by r x seats t true is h rest = let same : r ≡ x = cc in ap (λ (q : Seat). q.number) (sym same) ∙ (let e : r.number ≡ t = grind (arith, is) in e)
found_by r x seats t false is h rest = rest h

pub found_number : (seats : List Seat) (x : Seat) (t : ℕ) → find_seat seats t ≡ Some x → x.number ≡ t
found_number [] x t h = cc
found_number (r ∷ seats) x t h = found_by r x seats t (nat_eq r.number t) refl h (found_number seats x t)

-- those with other numbers stay
pub stay_all : (sides : List Sides) (kept : List Kept) (t : ℕ) → AllByRecursion (λ n. n ≢ t) (numbers_of kept) → seats_in sides kept ≡ seats_without t (seats_in sides kept)
stay_all sides [] t all = refl
stay_all sides (k ∷ kept) t all =
    let b : nat_eq k.number t ≡ false = grind (arith, all.0) in
    rw b (ap (λ rest. seat_in sides k ∷ rest) (stay_all sides kept t all.1))

all_other : (n t : ℕ) (ns : List ℕ) → n ≡ t → AllByRecursion (λ m. n < m) ns → AllByRecursion (λ m. m ≢ t) ns
all_other n t [] is all = tt
all_other n t (m ∷ ns) is all = (λ e. absurd (omega (arith, is, e, all.0)), all_other n t ns is all.1)

pub gone_is : (sides : List Sides) (kept : List Kept) (i t : ℕ) (k : Kept) → IsRising (numbers_of kept) → slice_get kept i ≡ Some k → k.number ≡ t → seats_in sides (remove kept i) ≡ seats_without t (seats_in sides kept)
gone_is sides [] i t k h is e = cc
gone_is sides (x ∷ kept) zero t k h is e =
    let same : x ≡ k = cc in
    let at : x.number ≡ t = ap (λ (j : Kept). j.number) same ∙ e in
    let b : nat_eq x.number t ≡ true = grind (arith, at) in
    rw b (stay_all sides kept t (all_other x.number t (numbers_of kept) at h.0))
gone_is sides (x ∷ kept) (suc i) t k h is e =
    let less : x.number < k.number = all_get (λ m. x.number < m) (numbers_of kept) i k.number h.0 (get_map (λ (j : Kept). j.number) kept i k is) in
    let b : nat_eq x.number t ≡ false = grind (arith, less, e) in
    rw b (ap (λ rest. seat_in sides x ∷ rest) (gone_is sides kept i t k h.1 is e))
