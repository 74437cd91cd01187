-- Lanes in an order: one of them changed, and one of them moved.
use Rattle.std.specs.Prelude.{◌≡◌, ◌≢◌, ◌<◌, ◌≤◌, ℕ, zero, suc, Bool, false, nat_eq, List, [], ◌∷◌, length, map, insert, remove, replicate, slice_get, slice_set, slice_index_or, Some}
use Rattle.std.proofs.Common.{refl, sym, ap, ap₂, subst, arith, ◌∙◌, length-set}
use Rattle.std.proofs.lemmas.Bool.{eq-eqb}
use Rattle.std.proofs.lemmas.List.{get_or-set_same, get_or-set_other, length-map}
use Rattle.std.proofs.lemmas.Option.{get_or_from_slice_get}
use Rattle.shadow_state.proofs.Places.{all_get}
use Rattle.shadow_lanes.specs.Kept.{AreAll, one_if, times}
use Rattle.shadow_lanes.proofs.Lists.{get_map, all_insert, map_insert, all_remove, map_remove}
use Rattle.shadow_lanes.proofs.Order.{times_insert, times_remove}
use Rattle.conflict_index.specs.Index.{Lane, Index, forgotten, lane_at, is_marked, lanes_with}
use Rattle.indexed_lanes.specs.Placed.{in_places, moved, put_at}

-- a number that is there is there at least once
there_once : (ns : List ℕ) (i n : ℕ) → slice_get ns i ≡ Some n → 1 ≤ times n ns
there_once [] i n is = cc
there_once (m ∷ ns) zero n is =
    let same : m ≡ n = cc in
    rw (eq-eqb m n same) (omega arith)
there_once (m ∷ ns) (suc i) n is = omega (arith, there_once ns i n is)

tail_once : (m : ℕ) (ns : List ℕ) → ((n : ℕ) → times n (m ∷ ns) ≤ 1) → (n : ℕ) → times n ns ≤ 1
tail_once m ns once n = omega (arith, once n)

head_once : (m : ℕ) (ns : List ℕ) (i n : ℕ) → ((n : ℕ) → times n (m ∷ ns) ≤ 1) → slice_get ns i ≡ Some n → m ≢ n
head_once m ns i n once is same =
    let two : one_if (nat_eq m n) ≡ 1 = rw (eq-eqb m n same) refl in
    absurd (omega (arith, once n, there_once ns i n is, two))

-- what stands at two places differs
pub apart : (ns : List ℕ) (i j n m : ℕ) → ((n : ℕ) → times n ns ≤ 1) → slice_get ns i ≡ Some n → slice_get ns j ≡ Some m → i ≢ j → n ≢ m
apart [] i j n m once is at ne = cc
apart (k ∷ ns) zero zero n m once is at ne = absurd (ne refl)
apart (k ∷ ns) zero (suc j) n m once is at ne = let same : k ≡ n = cc in subst (λ x. x ≢ m) same (head_once k ns j m once at)
apart (k ∷ ns) (suc i) zero n m once is at ne = let same : k ≡ m = cc in λ e. subst (λ x. x ≢ n) same (head_once k ns i n once is) (sym e)
apart (k ∷ ns) (suc i) (suc j) n m once is at ne = apart ns i j n m (tail_once k ns once) is at (λ e. ne (ap suc e))

-- One lane changed.

map_others : (ls : List Lane) (new : Lane) (n : ℕ) (order : List ℕ) → ((i m : ℕ) → slice_get order i ≡ Some m → m ≢ n)
    → map (λ m. slice_index_or (slice_set ls n new) m forgotten) order ≡ map (λ m. slice_index_or ls m forgotten) order
map_others ls new n [] ne = refl
map_others ls new n (m ∷ order) ne =
    rw (get_or-set_other ls n m new forgotten (ne 0 m refl)) (ap (λ rest. slice_index_or ls m forgotten ∷ rest) (map_others ls new n order (λ i k is. ne (suc i) k is)))

-- a lane changed is the one at its place changed
pub set_placed : (ls : List Lane) (new : Lane) (order : List ℕ) (i n : ℕ) → ((n : ℕ) → times n order ≤ 1) → slice_get order i ≡ Some n → n < length ls
    → map (λ m. slice_index_or (slice_set ls n new) m forgotten) order ≡ slice_set (map (λ m. slice_index_or ls m forgotten) order) i new
set_placed ls new [] i n once is lt = cc
set_placed ls new (k ∷ order) zero n once is lt =
    let same : k ≡ n = cc in
    let here : slice_index_or (slice_set ls n new) k forgotten ≡ new = ap (λ m. slice_index_or (slice_set ls n new) m forgotten) same ∙ get_or-set_same ls n new forgotten lt in
    rw here (ap (λ rest. new ∷ rest) (map_others ls new n order (λ j m at e. head_once k order j m once at (same ∙ sym e))))
set_placed ls new (k ∷ order) (suc i) n once is lt =
    rw (get_or-set_other ls n k new forgotten (head_once k order i n once is)) (ap (λ rest. slice_index_or ls k forgotten ∷ rest) (set_placed ls new order i n (tail_once k order once) is lt))

-- the lane at a place
pub placed_lane : (index : Index) (order : List ℕ) (i n : ℕ) → slice_get order i ≡ Some n → lane_at (in_places index order) i ≡ lane_at index n
placed_lane index order i n is = get_or_from_slice_get (map (lane_at index) order) i (lane_at index n) forgotten (get_map (lane_at index) order i n is)

-- One lane moved.

pub moved_map : {A B : Type 0} (g : A → B) (xs : List A) (from to : ℕ) (x : A) → slice_get xs from ≡ Some x → to ≤ length (remove xs from) → map g (insert (remove xs from) to x) ≡ moved from to (map g xs)
moved_map g xs from to x is le =
    map_insert g (remove xs from) to x le
    ∙ ap (λ rest. insert rest to (g x)) (map_remove g xs from)
    ∙ ap (λ o. put_at o to (remove (map g xs) from)) (sym (get_map g xs from x is))

pub length_remove : {A : Type 0} (xs : List A) (i : ℕ) → i < length xs → suc (length (remove xs i)) ≡ length xs
length_remove [] i lt = absurd (omega (arith, lt))
length_remove (x ∷ xs) zero lt = refl
length_remove (x ∷ xs) (suc i) lt = ap suc (length_remove xs i (omega (arith, lt)))

pub length_insert : {A : Type 0} (xs : List A) (i : ℕ) (x : A) → i ≤ length xs → length (insert xs i x) ≡ suc (length xs)
length_insert [] zero x le = refl
length_insert [] (suc i) x le = absurd (omega (arith, le))
length_insert (y ∷ xs) zero x le = refl
length_insert (y ∷ xs) (suc i) x le = ap suc (length_insert xs i x (omega (arith, le)))

pub moved_all : (n : ℕ) (order : List ℕ) (room after from to lane : ℕ) → room ≤ after → AreAll n order room → slice_get order from ≡ Some lane → from < length order → to < length order → AreAll n (insert (remove order from) to lane) after
moved_all n order room after from to lane more h is lt le =
    let less = length_remove order from lt in
    let within : to ≤ length (remove order from) = omega (arith, less, le) in
    record {
      many = length_insert (remove order from) to lane within ∙ less ∙ h.many;
      within = all_insert (λ m. m < n) (remove order from) to lane within (all_remove (λ m. m < n) order from h.within) (all_get (λ m. m < n) order from lane h.within is);
      once = λ m. omega (arith, times_insert m (remove order from) to lane within, times_remove m order from lane is, h.once m);
      fits = omega (arith, h.fits, more);
    }

-- Places of the order.

-- a place of what is seen is one of the order
pub below : (index view : Index) (order : List ℕ) (place : ℕ) → in_places index order ≡ view → place < length view.lanes → place < length order
below index view order place is lt = omega (arith, lt, ap (λ (v : Index). length v.lanes) is, length-map order (lane_at index))

-- what is seen where one lane of the index has changed
pub placed_done : (index new view : Index) (order : List ℕ) (room place n : ℕ) (g : Lane → Lane) → in_places index order ≡ view → AreAll (length index.lanes) order room → slice_get order place ≡ Some n
    → new.lanes ≡ lanes_with index n (g (lane_at index n)) → map (lane_at new) order ≡ lanes_with view place (g (lane_at view place))
placed_done index new view order room place n g is h at lanes =
    ap (λ ls. map (λ m. slice_index_or ls m forgotten) order) lanes
    ∙ set_placed index.lanes (g (lane_at index n)) order place n h.once at (all_get (λ m. m < length index.lanes) order place n h.within at)
    ∙ ap (λ l. slice_set (map (lane_at index) order) place (g l)) (sym (placed_lane index order place n at))
    ∙ ap (λ (v : Index). lanes_with v place (g (lane_at v place))) is

-- the order stays one where the index keeps its lanes
pub still_all : (index new : Index) (n : ℕ) (lane : Lane) (order : List ℕ) (room : ℕ) → new.lanes ≡ lanes_with index n lane → AreAll (length index.lanes) order room → AreAll (length new.lanes) order room
still_all index new n lane order room lanes h = subst (λ m. AreAll m order room) (sym (ap length lanes ∙ length-set index.lanes n lane)) h

-- what is seen before anything is noted
always : {A : Type 0} (d : A) (n m : ℕ) → slice_index_or (replicate n d) m d ≡ d
always d zero m = refl
always d (suc n) zero = refl
always d (suc n) (suc m) = always d n m

map_always : {A : Type 0} (d : A) (n : ℕ) (ms : List ℕ) → map (λ m. slice_index_or (replicate n d) m d) ms ≡ replicate (length ms) d
map_always d n [] = refl
map_always d n (m ∷ ms) = rw (always d n m) (ap (λ xs. d ∷ xs) (map_always d n ms))

pub opened : (index : Index) (items lanes room : ℕ) (order : List ℕ) → index ≡ record { items = items; lanes = replicate lanes forgotten; marks = replicate lanes false } → AreAll lanes order room
    → in_places index order ≡ record { items = items; lanes = replicate lanes forgotten; marks = replicate lanes false }
opened index items lanes room order is h =
    ap (λ (i : Index). in_places i order) is
    ∙ ap₂ (λ (ls : List Lane) (ms : List Bool). record { items = items; lanes = ls; marks = ms })
    (map_always forgotten lanes order ∙ ap (λ n. replicate n forgotten) h.many) (map_always false lanes order ∙ ap (λ n. replicate n false) h.many)

-- what is seen where no lane is marked any more
pub settled_places : (index new view : Index) (order : List ℕ) → in_places index order ≡ view → new ≡ record index { marks = replicate (length index.lanes) false } → in_places new order ≡ record view { marks = replicate (length view.marks) false }
settled_places index new view order is e =
    ap (λ (i : Index). in_places i order) e
    ∙ ap (λ (ms : List Bool). record { items = index.items; lanes = map (lane_at index) order; marks = ms })
    (map_always false (length index.lanes) order ∙ ap (λ n. replicate n false) (sym (length-map order (is_marked index))))
    ∙ ap (λ (v : Index). record v { marks = replicate (length v.marks) false }) is
