-- Transactions that come and go, and their lanes.
use Rattle.std.specs.Prelude.{◌≡◌, ◌≢◌, ◌<◌, ◌≤◌, ◌-◌, ℕ, zero, suc, Bool, true, false, nat_eq, nat_lt, if◌then◌else◌, List, [], ◌∷◌, ◌++◌, length, map, insert, remove, replicate, slice_get, slice_set, None, Some}
use Rattle.std.proofs.Common.{refl, sym, ap, subst, arith, ◌∙◌, length-append}
use Rattle.std.proofs.lemmas.Bool.{eq-eqb, ne_eqb}
use Rattle.std.proofs.lemmas.List.{length-map, length-replicate}
use Rattle.std.specs.List.{AllByRecursion}
use Rattle.forest_model.specs.Choose.{put_in_order}
use Rattle.forest_model.specs.Sound.{IsRising}
use Rattle.shadow_lanes.specs.Seats.{Seat, Seated, find_seat, comes_before, seats_without}
use Rattle.shadow_lanes.proofs.Lists.{map_insert, map_remove}
use Rattle.conflict_index.specs.Index.{Index, forgotten, lanes_with}
use Rattle.indexed_lanes.specs.Noted.{noted_of, IsNoted}
use Rattle.indexed_lanes.specs.Placed.{moved, put_at}
use Rattle.indexed_lanes.proofs.Orders.{length_remove, length_insert}

-- Lists.

get_middle : {A : Type 0} (xs ys : List A) (x : A) → slice_get (xs ++ x ∷ ys) (length xs) ≡ Some x
get_middle [] ys x = refl
get_middle (z ∷ xs) ys x = get_middle xs ys x

remove_middle : {A : Type 0} (xs ys : List A) (x : A) → remove (xs ++ x ∷ ys) (length xs) ≡ xs ++ ys
remove_middle [] ys x = refl
remove_middle (z ∷ xs) ys x = ap (λ rest. z ∷ rest) (remove_middle xs ys x)

insert_front : {A : Type 0} (xs ys : List A) (i : ℕ) (x : A) → i ≤ length xs → insert (xs ++ ys) i x ≡ insert xs i x ++ ys
insert_front [] ys zero x le = first ys
  where
    first : (zs : List _) → insert zs 0 x ≡ x ∷ zs
    first [] = refl
    first (z ∷ zs) = refl
insert_front [] ys (suc i) x le = absurd (omega (arith, le))
insert_front (z ∷ xs) ys zero x le = refl
insert_front (z ∷ xs) ys (suc i) x le = ap (λ rest. z ∷ rest) (insert_front xs ys i x (omega (arith, le)))

insert_behind : {A : Type 0} (xs ys : List A) (x : A) → insert (xs ++ ys) (length xs) x ≡ xs ++ x ∷ ys
insert_behind [] [] x = refl
insert_behind [] (y ∷ ys) x = refl
insert_behind (z ∷ xs) ys x = ap (λ rest. z ∷ rest) (insert_behind xs ys x)

get_set : {A : Type 0} (xs : List A) (i : ℕ) (x : A) → i < length xs → slice_get (slice_set xs i x) i ≡ Some x
get_set [] i x lt = absurd (omega (arith, lt))
get_set (z ∷ xs) zero x lt = refl
get_set (z ∷ xs) (suc i) x lt = get_set xs i x (omega (arith, lt))

remove_set : {A : Type 0} (xs : List A) (i : ℕ) (x : A) → remove (slice_set xs i x) i ≡ remove xs i
remove_set [] i x = refl
remove_set (z ∷ xs) zero x = refl
remove_set (z ∷ xs) (suc i) x = ap (λ rest. z ∷ rest) (remove_set xs i x)

remove_front : {A : Type 0} (xs ys : List A) (i : ℕ) → i < length xs → remove (xs ++ ys) i ≡ remove xs i ++ ys
remove_front [] ys i lt = absurd (omega (arith, lt))
remove_front (z ∷ xs) ys zero lt = refl
remove_front (z ∷ xs) ys (suc i) lt = ap (λ rest. z ∷ rest) (remove_front xs ys i (omega (arith, lt)))

longer : {A : Type 0} (xs ys : List A) (i : ℕ) → i < length xs → i < length (xs ++ ys)
longer [] ys i lt = absurd (omega (arith, lt))
longer (z ∷ xs) ys zero lt = omega arith
longer (z ∷ xs) ys (suc i) lt = omega (arith, longer xs ys i (omega (arith, lt)))

-- the first of those behind comes among those in front
pub moved_in : {A : Type 0} (xs ys : List A) (n to : ℕ) (x : A) → n ≡ length xs → to ≤ length xs → moved n to (xs ++ x ∷ ys) ≡ insert xs to x ++ ys
moved_in xs ys n to x is le =
    ap (λ k. moved k to (xs ++ x ∷ ys)) is
    ∙ ap (λ o. put_at o to (remove (xs ++ x ∷ ys) (length xs))) (get_middle xs ys x)
    ∙ ap (λ rest. insert rest to x) (remove_middle xs ys x)
    ∙ insert_front xs ys to x le

-- one of those in front, set anew, goes behind them
pub moved_out : {A : Type 0} (xs ys : List A) (from to : ℕ) (x : A) → from < length xs → suc to ≡ length xs → moved from to (slice_set (xs ++ ys) from x) ≡ remove xs from ++ x ∷ ys
moved_out xs ys from to x lt last =
    let long : to ≡ length (remove xs from) = omega (arith, length_remove xs from lt, last) in
    ap (λ o. put_at o to (remove (slice_set (xs ++ ys) from x) from)) (get_set (xs ++ ys) from x (longer xs ys from lt))
    ∙ ap (λ rest. insert rest to x) (remove_set (xs ++ ys) from x ∙ remove_front xs ys from lt)
    ∙ ap (λ k. insert (remove xs from ++ ys) k x) long
    ∙ insert_behind (remove xs from) ys x

-- Who comes.

none_head : (r : Seat) (seats : List Seat) (t : ℕ) → find_seat (r ∷ seats) t ≡ None → (r.number ≢ t) × (find_seat seats t ≡ None)
none_head r seats t h = go (nat_eq r.number t) refl h
  where
    go : (b : Bool) → nat_eq r.number t ≡ b → (if b then Some r else find_seat seats t) ≡ None → (r.number ≢ t) × (find_seat seats t ≡ None)
    go true is h = cc
    go false is h = (λ e. absurd (grind (arith, is, e)), h)

pub none_at : (seats : List Seat) (t place : ℕ) (r : Seat) → find_seat seats t ≡ None → slice_get seats place ≡ Some r → r.number ≢ t
none_at [] t place r none is = cc
none_at (x ∷ seats) t zero r none is = let same : x ≡ r = cc in subst (λ (y : Seat). y.number ≢ t) same (none_head x seats t none).0
none_at (x ∷ seats) t (suc place) r none is = none_at seats t place r (none_head x seats t none).1 is

comes_by : (x z : Seat) (seats : List Seat) (place : ℕ) (y : Seat) (b : Bool) → z.number ≢ x.number → find_seat (z ∷ seats) x.number ≡ None
    → slice_get (if b then z ∷ put_in_order comes_before x seats else x ∷ z ∷ seats) place ≡ Some y → y.number ≡ x.number
    → ((p : ℕ) → slice_get (put_in_order comes_before x seats) p ≡ Some y → (put_in_order comes_before x seats ≡ insert seats p x) × (p ≤ length seats))
    → ((if b then z ∷ put_in_order comes_before x seats else x ∷ z ∷ seats) ≡ insert (z ∷ seats) place x) × (place ≤ suc (length seats))
comes_by x z seats zero y true ne none is e rest = let same : z ≡ y = cc in absurd (ne (ap (λ (s : Seat). s.number) same ∙ e))
comes_by x z seats (suc p) y true ne none is e rest = let more = rest p is in (ap (λ ys. z ∷ ys) more.0, omega (arith, more.1))
comes_by x z seats zero y false ne none is e rest = (refl, omega arith)
comes_by x z seats (suc p) y false ne none is e rest = absurd (none_at (z ∷ seats) x.number p y none is e)

found_by : (x z : Seat) (seats : List Seat) (b : Bool) → find_seat (if b then z ∷ put_in_order comes_before x seats else x ∷ z ∷ seats) x.number ≡ None
    → (find_seat (put_in_order comes_before x seats) x.number ≡ None → ⊥) → ⊥
found_by x z seats true h rest = rest (none_head z (put_in_order comes_before x seats) x.number h).1
found_by x z seats false h rest = (none_head x (z ∷ seats) x.number h).0 refl

-- who comes stands where he is found
pub comes_at : (x : Seat) (seats : List Seat) (place : ℕ) (y : Seat) → find_seat seats x.number ≡ None → slice_get (put_in_order comes_before x seats) place ≡ Some y → y.number ≡ x.number
    → (put_in_order comes_before x seats ≡ insert seats place x) × (place ≤ length seats)
comes_at x [] zero y none is e = (refl, omega arith)
comes_at x [] (suc place) y none is e = cc
comes_at x (z ∷ seats) place y none is e =
    let two = none_head z seats x.number none in
    comes_by x z seats place y (nat_lt z.number x.number) two.0 none is e (λ p at. comes_at x seats p y two.1 at e)

-- and he is found
pub comes_found : (x : Seat) (seats : List Seat) → find_seat (put_in_order comes_before x seats) x.number ≡ None → ⊥
comes_found x [] h = (none_head x [] x.number h).0 refl
comes_found x (z ∷ seats) h = found_by x z seats (nat_lt z.number x.number) h (comes_found x seats)

-- Who goes.

pub none_goes : (seats : List Seat) (t : ℕ) → find_seat seats t ≡ None → seats_without t seats ≡ seats
none_goes [] t none = refl
none_goes (x ∷ seats) t none =
    let two = none_head x seats t none in
    rw (ne_eqb x.number t two.0) (ap (λ rest. x ∷ rest) (none_goes seats t two.1))

others_stay : (seats : List Seat) (n t : ℕ) → n ≡ t → AllByRecursion (λ m. n < m) (map (λ (r : Seat). r.number) seats) → seats_without t seats ≡ seats
others_stay [] n t e all = refl
others_stay (x ∷ seats) n t e all =
    let ne : x.number ≢ t = λ q. absurd (omega (arith, e, q, all.0)) in
    rw (ne_eqb x.number t ne) (ap (λ rest. x ∷ rest) (others_stay seats n t e all.1))

above : (n : ℕ) (seats : List Seat) (place : ℕ) (r : Seat) → AllByRecursion (λ m. n < m) (map (λ (r : Seat). r.number) seats) → slice_get seats place ≡ Some r → n < r.number
above n [] place r all is = cc
above n (x ∷ seats) zero r all is = let same : x ≡ r = cc in subst (λ (y : Seat). n < y.number) same all.0
above n (x ∷ seats) (suc place) r all is = above n seats place r all.1 is

pub goes_at : (seats : List Seat) (place t : ℕ) (r : Seat) → IsRising (map (λ (r : Seat). r.number) seats) → slice_get seats place ≡ Some r → r.number ≡ t → seats_without t seats ≡ remove seats place
goes_at [] place t r rising is e = cc
goes_at (x ∷ seats) zero t r rising is e =
    let same : x ≡ r = cc in
    let at : x.number ≡ t = ap (λ (y : Seat). y.number) same ∙ e in
    rw (eq-eqb x.number t at) (others_stay seats x.number t at rising.0)
goes_at (x ∷ seats) (suc place) t r rising is e =
    let less : x.number < r.number = above x.number seats place r rising.0 is in
    let ne : x.number ≢ t = λ q. absurd (omega (arith, e, q, less)) in
    rw (ne_eqb x.number t ne) (ap (λ rest. x ∷ rest) (goes_at seats place t r rising.1 is e))

-- Their lanes.

room_more : (lanes n : ℕ) → n < lanes → (more : ℕ) × (lanes - n ≡ suc more) × (lanes - suc n ≡ more)
room_more lanes n lt = (lanes - suc n, omega (arith, lt), refl)

-- the first lane of those behind becomes that of who comes
pub come_noted : (s : Seated) (index new : Index) (x : Seat) (free place : ℕ) → IsNoted s index → length s.seats < s.lanes → noted_of x ≡ forgotten → free ≡ length s.seats → place ≤ length s.seats
    → new.items ≡ index.items → new.lanes ≡ moved free place index.lanes → IsNoted (record s { seats = insert s.seats place x }) new
come_noted s index new x free place h room none is le items lanes =
    let more = room_more s.lanes (length s.seats) room in
    let all = map noted_of s.seats in
    let long : length all ≡ length s.seats = length-map s.seats noted_of in
    let place_is : place ≤ length all = omega (arith, long, le) in
    let split : index.lanes ≡ all ++ forgotten ∷ replicate more.0 forgotten = h.lanes ∙ ap (λ n. all ++ replicate n forgotten) more.1 in
    let now : new.lanes ≡ insert all place forgotten ++ replicate more.0 forgotten = lanes ∙ ap (moved free place) split ∙ moved_in all (replicate more.0 forgotten) free place forgotten (is ∙ sym long) place_is in
    let seats : insert all place forgotten ≡ map noted_of (insert s.seats place x) = ap (λ l. insert all place l) (sym none) ∙ sym (map_insert noted_of s.seats place x le) in
    record {
      items = items ∙ h.items;
      many =
          ap length now
          ∙ length-append (insert all place forgotten) (replicate more.0 forgotten)
          ∙ omega (arith, length_insert all place forgotten place_is, long, more.1, length-replicate more.0 forgotten, room);
      lanes =
          now
          ∙ ap (λ ls. ls ++ replicate more.0 forgotten) seats
          ∙ ap (λ n. map noted_of (insert s.seats place x) ++ replicate n forgotten) (sym (ap (λ n. s.lanes - n) (length_insert s.seats place x le) ∙ more.2));
    }

-- the lane of who goes, forgotten, becomes the first of those behind
pub go_noted : (s : Seated) (index mid new : Index) (place last : ℕ) → IsNoted s index → place < length s.seats → suc last ≡ length s.seats → length s.seats ≤ s.lanes
    → mid.items ≡ index.items → mid.lanes ≡ lanes_with index place forgotten → new.items ≡ mid.items → new.lanes ≡ moved place last mid.lanes → IsNoted (record s { seats = remove s.seats place }) new
go_noted s index mid new place last h lt is few items_mid lanes_mid items lanes =
    let all = map noted_of s.seats in
    let rest = replicate (s.lanes - length s.seats) forgotten in
    let long : length all ≡ length s.seats = length-map s.seats noted_of in
    let less : suc (length (remove s.seats place)) ≡ length s.seats = length_remove s.seats place lt in
    let more : suc (s.lanes - length s.seats) ≡ s.lanes - length (remove s.seats place) = omega (arith, less, few) in
    let now : new.lanes ≡ remove all place ++ forgotten ∷ rest =
    lanes ∙ ap (moved place last) (lanes_mid ∙ ap (λ ls. slice_set ls place forgotten) h.lanes) ∙ moved_out all rest place last forgotten (omega (arith, long, lt)) (is ∙ sym long)
    in
    record {
      items = items ∙ items_mid ∙ h.items;
      many =
          ap length now
          ∙ length-append (remove all place) (forgotten ∷ rest)
          ∙ omega (arith, length_remove all place (omega (arith, long, lt)), length-append all rest, ap length h.lanes, h.many);
      lanes =
          now
          ∙ ap (λ ls. ls ++ forgotten ∷ rest) (sym (map_remove noted_of s.seats place))
          ∙ ap (λ n. map noted_of (remove s.seats place) ++ replicate n forgotten) more;
    }
