-- Marks that go with the transactions, where one comes or goes.
use Rattle.std.specs.Prelude.{◌≡◌, ◌≢◌, ◌<◌, ◌≤◌, ◌==◌, ◌⊎◌, ℕ, zero, suc, Bool, false, if◌then◌else◌, List, [], ◌∷◌, length, filter_map, insert, remove, slice_get, slice_index_or, Option, None, Some}
use Rattle.std.specs.List.{cons_option}
use Rattle.std.proofs.Common.{refl, sym, ap, subst, arith, ◌∙◌, inl, inr}
use Rattle.std.proofs.lemmas.Bool.{cond_both}
use Rattle.std.proofs.lemmas.List.{get_or-set_same}
use Rattle.std.proofs.lemmas.Option.{slice_get_within}
use Rattle.txn_code.specs.declared.node.Node.{Node}
use Rattle.forest_model.specs.Point.{wanted_of}
use Rattle.forest_model.specs.Forest.{conflict_at}
use Rattle.forest_model.proofs.Lists.{either}
use Rattle.shadow_state.proofs.Places.{some_at}
use Rattle.shadow_lanes.specs.Seats.{Seat, Seated, conflicts_of, fresh_seat, seats_with}
use Rattle.conflict_index.specs.Index as index
use Rattle.conflict_index.specs.Index.{Lane, Index, forgotten, lane_at, is_marked, point_at, lanes_with}
use Rattle.indexed_lanes.specs.Noted.{IsNoted}
use Rattle.indexed_lanes.specs.Placed.{moved, put_at, AreUnmoved}
use Rattle.indexed_lanes.specs.Wanted.{conflict_between, wanted_among, AreSettled}
use Rattle.indexed_lanes.proofs.Notes.{place_within}
use Rattle.indexed_lanes.proofs.Orders.{length_remove, length_insert}
use Rattle.indexed_lanes.proofs.Settled.{point_against, point_there}
use Rattle.indexed_lanes.proofs.Renewed.{nothing_wanted, wanted_with}

-- One more, or one less.

put_first : (ms : List Bool) (m : Bool) (q : ℕ) → slice_index_or (insert ms 0 m) (suc q) false ≡ slice_index_or ms q false
put_first [] m q = refl
put_first (k ∷ ms) m q = refl

put_later : (ms : List Bool) (m : Bool) (place : ℕ) → suc place ≤ length ms → slice_index_or (insert ms (suc place) m) 0 false ≡ slice_index_or ms 0 false
put_later [] m place le = absurd (omega (arith, le))
put_later (k ∷ ms) m place le = refl

-- what stands at a place after one came in, and the marks with it
came : {X : Type 0} (xs : List X) (place q : ℕ) (x y : X) → place ≤ length xs → slice_get (insert xs place x) q ≡ Some y
    → (y ≡ x) ⊎ ((p : ℕ) × (slice_get xs p ≡ Some y) × ((ms : List Bool) (m : Bool) → place ≤ length ms → slice_index_or (insert ms place m) q false ≡ slice_index_or ms p false))
came [] zero zero x y le is = inl cc
came [] zero (suc q) x y le is = cc
came [] (suc place) q x y le is = absurd (omega (arith, le))
came (z ∷ xs) zero zero x y le is = inl cc
came (z ∷ xs) zero (suc q) x y le is = inr (q, is, λ ms m fits. put_first ms m q)
came (z ∷ xs) (suc place) zero x y le is = inr (zero, is, λ ms m fits. put_later ms m place fits)
came (z ∷ xs) (suc place) (suc q) x y le is =
    either (came xs place q x y (omega (arith, le)) is)
    (λ e. inl e)
    (λ w. inr (suc w.0, w.1, λ ms m fits. further ms m q w.0 fits w.2))
  where
    further : (ms : List Bool) (m : Bool) (q p : ℕ) → suc place ≤ length ms → ((ms : List Bool) (m : Bool) → place ≤ length ms → slice_index_or (insert ms place m) q false ≡ slice_index_or ms p false)
        → slice_index_or (insert ms (suc place) m) (suc q) false ≡ slice_index_or ms (suc p) false
    further [] m q p fits h = absurd (omega (arith, fits))
    further (k ∷ ms) m q p fits h = h ms m (omega (arith, fits))

left_first : (ms : List Bool) (q : ℕ) → slice_index_or (remove ms 0) q false ≡ slice_index_or ms (suc q) false
left_first [] zero = refl
left_first [] (suc q) = refl
left_first (k ∷ ms) q = refl

left_later : (ms : List Bool) (i : ℕ) → slice_index_or (remove ms (suc i)) 0 false ≡ slice_index_or ms 0 false
left_later [] i = refl
left_later (k ∷ ms) i = refl

-- what stands at a place after one went, and the marks with it
went : {X : Type 0} (xs : List X) (i q : ℕ) (y : X) → slice_get (remove xs i) q ≡ Some y → (p : ℕ) × (slice_get xs p ≡ Some y) × (p ≢ i) × ((ms : List Bool) → slice_index_or (remove ms i) q false ≡ slice_index_or ms p false)
went [] zero q y is = cc
went [] (suc i) q y is = cc
went (x ∷ xs) zero q y is = (suc q, is, (λ e. cc), λ ms. left_first ms q)
went (x ∷ xs) (suc i) zero y is = (zero, is, (λ e. cc), λ ms. left_later ms i)
went (x ∷ xs) (suc i) (suc q) y is =
    let w = went xs i q y is in
    (suc w.0, w.1, (λ e. w.2 (omega (arith, e))), λ ms. further ms w.3)
  where
    further : {p : ℕ} (ms : List Bool) → ((ms : List Bool) → slice_index_or (remove ms i) q false ≡ slice_index_or ms p false) → slice_index_or (remove ms (suc i)) (suc q) false ≡ slice_index_or ms (suc p) false
    further [] h = refl
    further (k ∷ ms) h = h ms

-- in front of what is put in or taken out
put_behind : (ms : List Bool) (place q : ℕ) (m : Bool) → q < place → place ≤ length ms → slice_index_or (insert ms place m) q false ≡ slice_index_or ms q false
put_behind ms zero q m lt le = absurd (omega (arith, lt))
put_behind [] (suc place) q m lt le = absurd (omega (arith, le))
put_behind (k ∷ ms) (suc place) zero m lt le = refl
put_behind (k ∷ ms) (suc place) (suc q) m lt le = put_behind ms place q m (omega (arith, lt)) (omega (arith, le))

taken_behind : (ms : List Bool) (i p : ℕ) → p < i → slice_index_or (remove ms i) p false ≡ slice_index_or ms p false
taken_behind ms zero p lt = absurd (omega (arith, lt))
taken_behind [] (suc i) p lt = refl
taken_behind (k ∷ ms) (suc i) zero lt = refl
taken_behind (k ∷ ms) (suc i) (suc p) lt = taken_behind ms i p (omega (arith, lt))

-- the marks where one was moved
moved_marks : (ms : List Bool) (from to : ℕ) → from < length ms → (m : Bool) × (moved from to ms ≡ insert (remove ms from) to m)
moved_marks ms from to lt = let m = some_at ms from lt in (m.0, ap (λ o. put_at o to (remove ms from)) m.1)

-- as many as there were
pub moved_long : (ms : List Bool) (from to : ℕ) → from < length ms → to < length ms → length (moved from to ms) ≡ length ms
moved_long ms from to lt le =
    let way = moved_marks ms from to lt in
    let shorter = length_remove ms from lt in
    ap length way.1 ∙ length_insert (remove ms from) to way.0 (omega (arith, shorter, le)) ∙ shorter

-- Who comes.

pub come_settled : (s : Seated) (i new : Index) (t : ℕ) (nodes : List Node) (free place : ℕ) → AreSettled s i → length i.marks ≡ s.lanes → length s.seats < s.lanes → free ≡ length s.seats → place ≤ length s.seats
    → seats_with t nodes s.items s.seats ≡ insert s.seats place (fresh_seat t nodes s.items) → new.marks ≡ moved free place i.marks → AreSettled (record s { seats = seats_with t nodes s.items s.seats }) new
come_settled s i new t nodes free place settled long room is le seats marks = λ q r at none.
    let all = seats_with t nodes s.items s.seats in
    let way = moved_marks i.marks free place (omega (arith, long, room, is)) in
    let shorter = length_remove i.marks free (omega (arith, long, room, is)) in
    either (came s.seats place q (fresh_seat t nodes s.items) r le (ap (λ xs. slice_get xs q) (sym seats) ∙ at))
    (λ e. ap conflicts_of e ∙ sym (ap (wanted_among s.most None all) e ∙ nothing_wanted s.most t nodes s.items all))
    (λ w.
    let lt : w.0 < free = subst (λ n. w.0 < n) (sym is) (slice_get_within s.seats w.0 r w.1) in
    let same : is_marked new q ≡ is_marked i w.0 =
    ap (λ ms. slice_index_or ms q false) (marks ∙ way.1) ∙ w.2 (remove i.marks free) way.0 (omega (arith, le, is, long, room, shorter)) ∙ taken_behind i.marks free w.0 lt
    in
    settled w.0 r w.1 (sym same ∙ none) ∙ sym (wanted_with s.most t nodes s.items s.seats r))

-- Who goes.

unwritten_point : (rs : List index.Read) → index.point rs [] ≡ None
unwritten_point [] = refl
unwritten_point (x ∷ rs) = unwritten_point rs

-- an element of which nothing is read
read_without : {X Y : Type 0} (h : X → Option Y) (xs : List X) (i : ℕ) (x : X) → slice_get xs i ≡ Some x → h x ≡ None → filter_map h (remove xs i) ≡ filter_map h xs
read_without h [] i x is none = cc
read_without h (y ∷ xs) zero x is none = let same : h y ≡ None = (let e : y ≡ x = cc in ap h e) ∙ none in rw same refl
read_without h (y ∷ xs) (suc i) x is none = ap (cons_option (h y)) (read_without h xs i x is none)

nothing_against : (n m : ℕ) (o : Option ℕ) → o ≡ None → (if n == m then None else conflict_at n o) ≡ None
nothing_against n m o none = cond_both (n == m) None (conflict_at n o) (λ x. x ≡ None) (λ e. refl) (λ e. ap (conflict_at n) none)

module _ (s : Seated) (i mid : Index) (place : ℕ) (h : IsNoted s i) (lt : place < length s.seats) (lanes : mid.lanes ≡ lanes_with i place forgotten) (unmoved : AreUnmoved i mid) where
  -- who isn't marked had no point against it
  gone_point : (p : ℕ) (r : Seat) → slice_get s.seats p ≡ Some r → p ≢ place → is_marked mid p ≡ false → (u : Seat) → slice_get s.seats place ≡ Some u → point_against r u ≡ None
  gone_point p r at ne none u at_u =
      let within = place_within s i place h lt in
      let before = unmoved p (place_within s i p h (slice_get_within s.seats p r at)) none in
      let empty : lane_at mid place ≡ forgotten = ap (λ ls. slice_index_or ls place forgotten) lanes ∙ get_or-set_same i.lanes place forgotten forgotten within in
      sym (point_there s i p place r u h at at_u)
      ∙ sym (before.1 place within (λ e. ne (sym e)))
      ∙ ap (λ (l : Lane). index.point (lane_at mid p).reads l.writes) empty
      ∙ unwritten_point (lane_at mid p).reads

  pub go_settled : (new : Index) (last : ℕ) → AreSettled s i → length mid.marks ≡ s.lanes → suc last ≡ length s.seats → length s.seats ≤ s.lanes → new.marks ≡ moved place last mid.marks
      → AreSettled (record s { seats = remove s.seats place }) new
  go_settled new last settled long is few marks = λ q r at none.
      let u = some_at s.seats place lt in
      let w = went s.seats place q r at in
      let way = moved_marks mid.marks place last (omega (arith, lt, long, few)) in
      let shorter = length_remove mid.marks place (omega (arith, lt, long, few)) in
      let less = length_remove s.seats place lt in
      let below : q < last = let b = slice_get_within (remove s.seats place) q r at in omega (arith, b, less, is) in
      let same : is_marked new q ≡ is_marked mid w.0 =
      ap (λ ms. slice_index_or ms q false) (marks ∙ way.1) ∙ put_behind (remove mid.marks place) last q way.0 below (omega (arith, is, few, long, shorter)) ∙ w.3 mid.marks
      in
      let unmarked : is_marked mid w.0 ≡ false = sym same ∙ none in
      let before = unmoved w.0 (place_within s i w.0 h (slice_get_within s.seats w.0 r w.1)) unmarked in
      settled w.0 r w.1 before.0
      ∙ sym (ap (λ pairs. wanted_of pairs s.most) (read_without (conflict_between None r) s.seats place u.0 u.1
      (nothing_against u.0.number r.number (point_against r u.0) (gone_point w.0 r w.1 w.2 unmarked u.0 u.1))))
