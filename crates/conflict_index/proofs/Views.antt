-- An index as its parts are seen, and what of it moves with the entries.
use Rattle.std.proofs.Common.{◌≡◌, ◌≢◌, ℕ, ◌+◌, ◌*◌, ◌<◌, ◌≤◌, Bool, true, false, cond, ◌==◌, ◌&&◌, List, map, length, get_or, set, length-set, Option, None, refl, sym, ap, ◌∙◌, arith, ◌⊎◌, inl, inr, ◌↔◌}
use Rattle.std.specs.List.{range_with_len}
use Rattle.std.proofs.lemmas.Bool.{cases_eq, cases_lt, both_ways}
use Rattle.std.proofs.lemmas.List.{get_or-set_same, get_or-set_other}
use Rattle.std.proofs.lemmas.List.FromFn.{get_or-map-range_with_len, length-map-range_with_len, fill_by_all}
use Rattle.conflict_index.specs.Masks.{has}
use Rattle.conflict_index.specs.Index.{Read, lanes_with, Lane, Index, forgotten, lane_at, is_marked, is_among, point, point_at, HasMoved, MarksMoved}
use Rattle.conflict_index.specs.Kept.{has_item, position_of, lane_of, index_of, writes_of, AreBelow, AreMet}
use Rattle.conflict_index.proofs.LaneLists.{least_hit, point-hit, hit-same}
use Rattle.conflict_index.proofs.ItemLists.{among-writes}

abbrev pub lane_made : List Read → List ℕ → Lane
lane_made reads writes = record { reads = reads; writes = writes }

pub view-lane : (lanes : ℕ) (readers writers positions : List ℕ) (marks lane : ℕ) → lane < lanes → lane_at (index_of lanes readers writers positions marks) lane ≡ lane_of readers writers positions lanes lane
view-lane lanes readers writers positions marks lane l = get_or-map-range_with_len (lane_of readers writers positions lanes) 0 lanes lane lane forgotten l (omega arith)

pub view-mark : (lanes : ℕ) (readers writers positions : List ℕ) (marks lane : ℕ) → lane < lanes → is_marked (index_of lanes readers writers positions marks) lane ≡ has marks lane
view-mark lanes readers writers positions marks lane l = get_or-map-range_with_len (has marks) 0 lanes lane lane false l (omega arith)

pub view-length : (lanes : ℕ) (readers writers positions : List ℕ) (marks : ℕ) → length (index_of lanes readers writers positions marks).lanes ≡ lanes
view-length lanes readers writers positions marks = length-map-range_with_len (lane_of readers writers positions lanes) 0 lanes

-- a lane of the view is below the number of lanes
pub lane-below : (lanes : ℕ) (readers writers positions : List ℕ) (marks lane : ℕ) (seen : Index) → index_of lanes readers writers positions marks ≡ seen → lane < length seen.lanes → lane < lanes
lane-below lanes readers writers positions marks lane seen e l =
    let w : length seen.lanes ≡ lanes = sym (ap (λ (i : Index). length i.lanes) e) ∙ view-length lanes readers writers positions marks in
    omega arith

-- the lists of all lanes, where one lane has others
pub view-lanes : (old new : ℕ → Lane) (lanes k : ℕ) → k < lanes → ((lane : ℕ) → lane < lanes → lane ≢ k → new lane ≡ old lane)
    → map new (range_with_len 0 lanes) ≡ set (map old (range_with_len 0 lanes)) k (new k)
view-lanes old new lanes k b same = sym (fill_by_all new (set (map old (range_with_len 0 lanes)) k (new k)) lanes forgotten (length-set (map old (range_with_len 0 lanes)) k (new k) ∙ long) (λ lane l. at lane l (cases_eq lane k)))
  where
    long : length (map old (range_with_len 0 lanes)) ≡ lanes
    long = length-map-range_with_len old 0 lanes

    at : (lane : ℕ) → lane < lanes → (lane ≡ k) ⊎ (lane ≢ k) → get_or (set (map old (range_with_len 0 lanes)) k (new k)) lane forgotten ≡ new lane
    at lane l (inl e) = rw e (get_or-set_same (map old (range_with_len 0 lanes)) k (new k) forgotten (omega (arith, long)))
    at lane l (inr n) =
        get_or-set_other (map old (range_with_len 0 lanes)) k lane (new k) forgotten n
        ∙ get_or-map-range_with_len old 0 lanes lane lane forgotten l (omega arith)
        ∙ sym (same lane l n)

-- one lane of an index that is replaced
pub lane-now : (old : Index) (now : List Lane) (k : ℕ) (lists : Lane) → now ≡ lanes_with old k lists → k < length old.lanes → get_or now k forgotten ≡ lists
lane-now old now k lists e l = ap (λ ls. get_or ls k forgotten) e ∙ get_or-set_same old.lanes k lists forgotten l

-- one item's set that is replaced
pub item-same : (masks : List ℕ) (item mask lane : ℕ) → item < length masks → has_item (set masks item mask) lane item ≡ has mask lane
item-same masks item mask lane l = ap (λ m. has m lane) (get_or-set_same masks item mask 0 l)

pub item-other : (masks : List ℕ) (item mask lane other : ℕ) → other ≢ item → has_item (set masks item mask) lane other ≡ has_item masks lane other
item-other masks item mask lane other n = ap (λ m. has m lane) (get_or-set_other masks item other mask 0 n)

-- whoever is in the set of an item is a lane
pub below-lanes : (lanes : ℕ) (masks : List ℕ) (there set_now item k : ℕ) → AreBelow lanes masks → there ≡ get_or masks item 0 → ((u : ℕ) → has set_now u ≡ cond (u == k) false (has there u))
    → (u : ℕ) → has set_now u ≡ true → u < lanes
below-lanes lanes masks there set_now item k below is now u e = go (cases_lt u lanes)
  where
    wrote : (t : Bool) → cond t false (has there u) ≡ true → has there u ≡ true
    wrote true q = absurd (both_ways false refl q)
    wrote false q = q

    go : (u < lanes) ⊎ (lanes ≤ u) → u < lanes
    go (inl l) = l
    go (inr g) = absurd (both_ways (has there u) (ap (λ m. has m u) is ∙ below item u g) (wrote (u == k) (sym (now u) ∙ e)))

-- an item that one lane has read and another one has written
abbrev pub is_hit : List ℕ → List ℕ → ℕ → ℕ → ℕ → Bool
is_hit readers writers reader writer item = has_item readers reader item && has_item writers writer item

abbrev pub entry_of : List ℕ → List ℕ → List ℕ → ℕ → ℕ → ℕ → Option ℕ
entry_of readers writers positions lanes reader writer = least_hit (is_hit readers writers reader writer) (position_of positions lanes reader) 0 (length readers)

-- the point of a lane against another, item by item
pub point-entry : (readers writers positions : List ℕ) (lanes reader writer : ℕ)
    → point (lane_of readers writers positions lanes reader).reads (lane_of readers writers positions lanes writer).writes ≡ entry_of readers writers positions lanes reader writer
point-entry readers writers positions lanes reader writer =
    point-hit (has_item readers reader) (position_of positions lanes reader) ws 0 (length readers)
    ∙ hit-same (is_hit readers writers reader writer) (λ i. has_item readers reader i && is_among ws i) (position_of positions lanes reader) (position_of positions lanes reader) 0 (length readers) (record {
      tests = λ i g l. ap (λ t. has_item readers reader i && t) (among-writes (has_item writers writer) i 0 (length readers) g l);
      positions = λ i g l e. refl;
    })
  where
    ws : List ℕ
    ws = writes_of (has_item writers writer) 0 (length readers)

-- the entries, in other words
pub record AreEntries (lanes : ℕ) (readers writers positions : List ℕ) (points : List (Option ℕ)) : Type 0 where
  pub entries : (reader writer : ℕ) → reader < lanes → writer < lanes → reader ≢ writer → get_or points (reader * lanes + writer) None ≡ entry_of readers writers positions lanes reader writer

pub met-entries : (lanes : ℕ) (readers writers positions : List ℕ) (points : List (Option ℕ)) → AreMet lanes (lane_of readers writers positions lanes) points → AreEntries lanes readers writers positions points
met-entries lanes readers writers positions points h = record { entries = λ r u p q n. h r u p q n ∙ point-entry readers writers positions lanes r u }

pub entries-met : (lanes : ℕ) (readers writers positions : List ℕ) (points : List (Option ℕ)) → AreEntries lanes readers writers positions points → AreMet lanes (lane_of readers writers positions lanes) points
entries-met lanes readers writers positions points h r u p q n = h.entries r u p q n ∙ sym (point-entry readers writers positions lanes r u)

-- between the two an entry of the lane against another has become another one
abbrev pub EntryMoved : ℕ → List (Option ℕ) → List (Option ℕ) → ℕ → Type 0
EntryMoved lanes old new lane = (writer : ℕ) × (writer < lanes) × (writer ≢ lane) × (get_or new (lane * lanes + writer) None ≢ get_or old (lane * lanes + writer) None)

abbrev pub Moves : ℕ → List (Option ℕ) → List (Option ℕ) → ℕ → ℕ → Type 0
Moves lanes old new before after = (lane : ℕ) → lane < lanes → (has after lane ≡ true) ↔ ((has before lane ≡ true) ⊎ EntryMoved lanes old new lane)

-- where the marks follow the entries, they follow the points
pub marks-moved : (lanes : ℕ) (readers writers positions : List ℕ) (points : List (Option ℕ)) (marks : ℕ) (readers_after writers_after positions_after : List ℕ) (points_after : List (Option ℕ)) (marks_after : ℕ)
    → AreMet lanes (lane_of readers writers positions lanes) points → AreMet lanes (lane_of readers_after writers_after positions_after lanes) points_after
    → Moves lanes points points_after marks marks_after
    → MarksMoved (index_of lanes readers writers positions marks) (index_of lanes readers_after writers_after positions_after marks_after)
marks-moved lanes readers writers positions points marks readers_after writers_after positions_after points_after marks_after met now moves lane l = (there, back)
  where
    old : Index
    old = index_of lanes readers writers positions marks

    new : Index
    new = index_of lanes readers_after writers_after positions_after marks_after

    long : length new.lanes ≡ lanes
    long = view-length lanes readers_after writers_after positions_after marks_after

    below : lane < lanes
    below = omega (arith, long)

    was : (writer : ℕ) → writer < lanes → writer ≢ lane → point_at old lane writer ≡ get_or points (lane * lanes + writer) None
    was writer w n =
        rw (view-lane lanes readers writers positions marks lane below, view-lane lanes readers writers positions marks writer w) (sym (met lane writer below w (λ e. n (sym e))))

    is : (writer : ℕ) → writer < lanes → writer ≢ lane → point_at new lane writer ≡ get_or points_after (lane * lanes + writer) None
    is writer w n =
        rw (view-lane lanes readers_after writers_after positions_after marks_after lane below, view-lane lanes readers_after writers_after positions_after marks_after writer w) (sym (now lane writer below w (λ e. n (sym e))))

    mark : is_marked old lane ≡ has marks lane
    mark = view-mark lanes readers writers positions marks lane below

    mark_after : is_marked new lane ≡ has marks_after lane
    mark_after = view-mark lanes readers_after writers_after positions_after marks_after lane below

    there : is_marked new lane ≡ true → (is_marked old lane ≡ true) ⊎ HasMoved old new lane
    there e = go ((moves lane below).0 (sym mark_after ∙ e))
      where
        go : (has marks lane ≡ true) ⊎ EntryMoved lanes points points_after lane → (is_marked old lane ≡ true) ⊎ HasMoved old new lane
        go (inl h) = inl (mark ∙ h)
        go (inr (u, w, n, d)) = inr (u, omega (arith, long), n, λ q. d (sym (is u w n) ∙ q ∙ was u w n))

    back : (is_marked old lane ≡ true) ⊎ HasMoved old new lane → is_marked new lane ≡ true
    back (inl h) = mark_after ∙ (moves lane below).1 (inl (sym mark ∙ h))
    back (inr (u, w, n, d)) =
        let v : u < lanes = omega (arith, long) in
        mark_after ∙ (moves lane below).1 (inr (u, v, n, λ q. d (is u v n ∙ q ∙ sym (was u v n))))
