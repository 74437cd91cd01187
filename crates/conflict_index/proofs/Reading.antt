-- A read more: the lists, the entries and the marks after it.
use Rattle.std.proofs.Common.{◌≡◌, ◌≢◌, ℕ, ◌+◌, ◌*◌, ◌^◌, ◌<◌, ◌≤◌, Bool, true, false, cond, ◌&&◌, ◌||◌, ◌==◌, List, [], ◌∷◌, ◌++◌, map, length, get_or, set, length-set, Option, Some, None, refl, sym, ap, ◌∙◌, arith, ◌⊎◌, inl, inr, ◌↔◌}
use Rattle.std.specs.List.{AllByRecursion, range_with_len}
use Rattle.std.proofs.Math.Bool.{or-true, and-false}
use Rattle.std.proofs.lemmas.Bool.{cases_eq, both_ways, eq-eqb, ne_eqb}
use Rattle.std.proofs.lemmas.List.{get_or-set_same, get_or-set_other}
use Rattle.std.proofs.lemmas.Nat.{same_from_place, mul-add-lt}
use Rattle.conflict_index.specs.Masks.{has}
use Rattle.conflict_index.specs.Index.{Read, Lane, Index, forgotten, less_or, with_read, lane_at, lanes_with, is_sooner, is_read, put_in_order, MarksMoved}
use Rattle.conflict_index.specs.Kept.{has_item, position_of, lane_of, reads_of, writes_of, index_of, IsKept, AreChanged}
use Rattle.conflict_index.proofs.LaneLists.{least_hit, hit-same, hit-more, reads-same, OneItem}
use Rattle.conflict_index.proofs.ItemLists.{reads-more, among-reads}
use Rattle.conflict_index.proofs.Orders.{read-last}
use Rattle.conflict_index.proofs.MaskLaws.{has-none, some-lane}
use Rattle.conflict_index.proofs.Views.{lane_made, lane-now, below-lanes, view-lane, view-lanes, marks-moved, item-same, item-other, is_hit, entry_of, AreEntries, met-entries, entries-met, EntryMoved, Moves}

-- a read of an item by a lane that hadn't read it, and the entries that this lowers
pub record ReadNoted (lanes : ℕ) (readers writers positions : List ℕ) (points after : List (Option ℕ)) (mask others moved k position item : ℕ) : Type 0 where
  pub lane : k < lanes
  pub within : item < length readers
  pub fresh : has_item readers k item ≡ false
  pub mask_is : (u : ℕ) → has mask u ≡ cond (u == k) true (has_item readers u item)
  pub others_are : (u : ℕ) → has others u ≡ cond (u == k) false (has_item writers u item)
  pub lowered : AreChanged (has others) (λ writer. (k * lanes + 0) + writer) (λ writer point. Some (less_or point position)) points after moved

-- a read of an item that was read already changes nothing
pub read-again : (lane : Lane) (read : Read) → is_read lane.reads read.1 ≡ true → with_read lane read ≡ lane
read-again lane read e = ap (λ t. lane_made (cond t lane.reads (put_in_order is_sooner read lane.reads)) lane.writes) e

-- after a read of a new item that comes after all others
pub last-now : (old : Index) (now : List Lane) (k : ℕ) (read : Read) → now ≡ lanes_with old k (with_read (lane_at old k) read) → k < length old.lanes
    → AllByRecursion (λ r. (r.1 ≢ read.1) × (is_sooner r read ≡ true)) (lane_at old k).reads → (get_or now k forgotten).reads ≡ (lane_at old k).reads ++ read ∷ []
last-now old now k read e l h = ap (λ (i : Lane). i.reads) (lane-now old now k (with_read (lane_at old k) read) e l) ∙ read-last (lane_at old k) read h

module _ (lanes : ℕ) (readers writers positions : List ℕ) (points after : List (Option ℕ)) (mask others moved k position item : ℕ)
    (kept : IsKept lanes readers writers positions points) (noted : ReadNoted lanes readers writers positions points after mask others moved k position item) where
  abbrev pub masks : List ℕ
  masks = set readers item mask

  abbrev pub places : List ℕ
  places = set positions (item * lanes + k) position

  test-other : (lane i : ℕ) → lane ≢ k → has_item masks lane i ≡ has_item readers lane i
  test-other lane i n = go (cases_eq i item)
    where
      go : (i ≡ item) ⊎ (i ≢ item) → has_item masks lane i ≡ has_item readers lane i
      go (inl e) = ap (has_item masks lane) e ∙ item-same readers item mask lane noted.within ∙ noted.mask_is lane ∙ ap (λ t. cond t true (has_item readers lane item)) (ne_eqb lane k n) ∙ ap (has_item readers lane) (sym e)
      go (inr m) = item-other readers item mask lane i m

  position-other : (lane i : ℕ) → lane < lanes → (lane ≢ k) ⊎ (i ≢ item) → position_of places lanes lane i ≡ position_of positions lanes lane i
  position-other lane i l o = get_or-set_other positions (item * lanes + k) (i * lanes + lane) position 0 (λ q. apart (same_from_place i lane item k lanes l noted.lane q) o)
    where
      apart : (i ≡ item) × (lane ≡ k) → (lane ≢ k) ⊎ (i ≢ item) → ⊥
      apart e (inl n) = n e.1
      apart e (inr n) = n e.0

  one-item : OneItem (has_item readers k) (has_item masks k) (position_of positions lanes k) (position_of places lanes k) item
  one-item = record {
    fresh = noted.fresh;
    here = item-same readers item mask k noted.within ∙ noted.mask_is k ∙ ap (λ t. cond t true (has_item readers k item)) (eq-eqb k k refl);
    others = λ i n. item-other readers item mask k i n;
    kept = λ i n. position-other k i noted.lane (inr n);
  }

  position-here : position_of places lanes k item ≡ position
  position-here =
      let w = mul-add-lt item lanes k (length readers) noted.within noted.lane in
      get_or-set_same positions (item * lanes + k) position 0 (omega (arith, w, kept.wide))

  pub read-others : (lane : ℕ) → lane < lanes → lane ≢ k → lane_of masks writers places lanes lane ≡ lane_of readers writers positions lanes lane
  read-others lane l n =
      ap (λ many. lane_made (reads_of (has_item masks lane) (position_of places lanes lane) 0 many) (writes_of (has_item writers lane) 0 many)) (length-set readers item mask)
      ∙ ap (λ rs. lane_made rs (writes_of (has_item writers lane) 0 (length readers))) (reads-same (has_item readers lane) (has_item masks lane) (position_of positions lanes lane) (position_of places lanes lane) 0 (length readers) (record {
        tests = λ i g b. test-other lane i n;
        positions = λ i g b e. position-other lane i l (inl n);
      }))

  pub read-own : lane_of masks writers places lanes k ≡ with_read (lane_of readers writers positions lanes k) (position, item)
  read-own =
      ap (λ many. lane_made (reads_of (has_item masks k) (position_of places lanes k) 0 many) (writes_of (has_item writers k) 0 many)) (length-set readers item mask)
      ∙ ap (λ rs. lane_made rs (writes_of (has_item writers k) 0 (length readers))) (rw position-here at (reads-more (has_item readers k) (has_item masks k) (position_of positions lanes k) (position_of places lanes k) item 0 (length readers) (omega arith) (omega (arith, noted.within)) one-item)
      ∙ sym (ap (λ t. cond t rs (put_in_order is_sooner (position, item) rs)) (among-reads (has_item readers k) (position_of positions lanes k) item 0 (length readers) (omega arith) (omega (arith, noted.within)) ∙ noted.fresh)))
    where
      rs : List Read
      rs = reads_of (has_item readers k) (position_of positions lanes k) 0 (length readers)

  -- whom a lowered place belongs to
  below-others : (u : ℕ) → has others u ≡ true → u < lanes
  below-others u e = below-lanes lanes writers (get_or writers item 0) others item k kept.writing refl noted.others_are u e

  not-itself : has others k ≡ false
  not-itself = noted.others_are k ∙ ap (λ t. cond t false (has_item writers k item)) (eq-eqb k k refl)

  others-of : (u : ℕ) → u ≢ k → has others u ≡ has_item writers u item
  others-of u n = noted.others_are u ∙ ap (λ t. cond t false (has_item writers u item)) (ne_eqb u k n)

  place-of : (w r u : ℕ) → w < lanes → u < lanes → (k * lanes + 0) + w ≡ r * lanes + u → (k ≡ r) × (w ≡ u)
  place-of w r u p q e = same_from_place k w r u lanes p q (omega (arith, e))

  -- the entries of other lanes stay
  stays : (r u : ℕ) → u < lanes → (r ≢ k) ⊎ (has others u ≡ false) → get_or after (r * lanes + u) None ≡ get_or points (r * lanes + u) None
  stays r u l o = noted.lowered.others (r * lanes + u) (λ w e q. apart w e (place-of w r u (below-others w e) l q) o)
    where
      apart : (w : ℕ) → has others w ≡ true → (k ≡ r) × (w ≡ u) → (r ≢ k) ⊎ (has others u ≡ false) → ⊥
      apart w e p (inl n) = n (sym p.0)
      apart w e p (inr f) = both_ways (has others u) f (sym (ap (has others) p.1) ∙ e)

  lowers : (u : ℕ) → has others u ≡ true → get_or after (k * lanes + u) None ≡ Some (less_or (get_or points (k * lanes + u) None) position)
  lowers u e =
      let q : (k * lanes + 0) + u ≡ k * lanes + u = omega arith in
      sym (ap (λ at. get_or after at None) q) ∙ noted.lowered.changed u e ∙ ap (λ at. Some (less_or (get_or points at None) position)) q

  entry-other : (r u : ℕ) → r < lanes → r ≢ k → entry_of masks writers places lanes r u ≡ entry_of readers writers positions lanes r u
  entry-other r u l n =
      ap (λ many. least_hit (is_hit masks writers r u) (position_of places lanes r) 0 many) (length-set readers item mask)
      ∙ hit-same (is_hit readers writers r u) (is_hit masks writers r u) (position_of positions lanes r) (position_of places lanes r) 0 (length readers) (record {
        tests = λ i g b. ap (λ t. t && has_item writers u i) (test-other r i n);
        positions = λ i g b e. position-other r i l (inl n);
      })

  entry-missed : (u : ℕ) → has_item writers u item ≡ false → entry_of masks writers places lanes k u ≡ entry_of readers writers positions lanes k u
  entry-missed u f =
      ap (λ many. least_hit (is_hit masks writers k u) (position_of places lanes k) 0 many) (length-set readers item mask)
      ∙ hit-same (is_hit readers writers k u) (is_hit masks writers k u) (position_of positions lanes k) (position_of places lanes k) 0 (length readers) (record {
        tests = λ i g b. test i (cases_eq i item);
        positions = λ i g b e. position-other k i noted.lane (inr (λ q. both_ways (has_item writers u item) f (ap (has_item writers u) (sym q) ∙ second (has_item readers k i) (has_item writers u i) e)));
      })
    where
      second : (s t : Bool) → (s && t) ≡ true → t ≡ true
      second true t e = e
      second false t e = absurd (both_ways false refl e)

      test : (i : ℕ) → (i ≡ item) ⊎ (i ≢ item) → is_hit masks writers k u i ≡ is_hit readers writers k u i
      test i (inl q) = rw (q, f) (and-false (has_item masks k item) ∙ sym (and-false (has_item readers k item)))
      test i (inr m) = ap (λ t. t && has_item writers u i) (item-other readers item mask k i m)

  entry-hit : (u : ℕ) → has_item writers u item ≡ true → entry_of masks writers places lanes k u ≡ Some (less_or (entry_of readers writers positions lanes k u) position)
  entry-hit u t =
      ap (λ many. least_hit (is_hit masks writers k u) (position_of places lanes k) 0 many) (length-set readers item mask)
      ∙ rw position-here at (hit-more (is_hit readers writers k u) (is_hit masks writers k u) (position_of positions lanes k) (position_of places lanes k) item 0 (length readers) (omega arith) (omega (arith, noted.within)) (record {
        fresh = ap (λ s. s && has_item writers u item) noted.fresh;
        here = rw (one-item.here, t) refl;
        others = λ i n. ap (λ s. s && has_item writers u i) (one-item.others i n);
        kept = one-item.kept;
      }))

  read-entries : AreEntries lanes masks writers places after
  read-entries = record { entries = λ r u p q n. go r u p q n (cases_eq r k) (has_item writers u item) refl }
    where
      was : AreEntries lanes readers writers positions points
      was = met-entries lanes readers writers positions points kept.met

      go : (r u : ℕ) → r < lanes → u < lanes → r ≢ u → (r ≡ k) ⊎ (r ≢ k) → (t : Bool) → has_item writers u item ≡ t → get_or after (r * lanes + u) None ≡ entry_of masks writers places lanes r u
      go r u p q n (inr m) t e = stays r u q (inl m) ∙ was.entries r u p q n ∙ sym (entry-other r u p m)
      go r u p q n (inl s) true e =
          rw s (lowers u (others-of u (λ z. n (s ∙ sym z)) ∙ e) ∙ ap (λ o. Some (less_or o position)) (was.entries k u noted.lane q (λ z. n (s ∙ z))) ∙ sym (entry-hit u e))
      go r u p q n (inl s) false e =
          rw s (stays k u q (inr (others-of u (λ z. n (s ∙ sym z)) ∙ e)) ∙ was.entries k u noted.lane q (λ z. n (s ∙ z)) ∙ sym (entry-missed u e))

  pub read-kept : IsKept lanes masks writers places after
  read-kept = record {
    few = kept.few;
    small = rw (length-set readers item mask) kept.small;
    same = kept.same ∙ sym (length-set readers item mask);
    wide = length-set positions (item * lanes + k) position ∙ kept.wide ∙ ap (λ n. n * lanes) (sym (length-set readers item mask));
    square = noted.lowered.long ∙ kept.square;
    reading = λ i lane g. below i lane g;
    writing = kept.writing;
    alone = λ lane l. alone lane l (cases_eq lane k);
    met = entries-met lanes masks writers places after read-entries;
  }
    where
      below : (i lane : ℕ) → lanes ≤ lane → has_item masks lane i ≡ false
      below i lane g = let l = noted.lane in test-other lane i (omega arith) ∙ kept.reading i lane g

      alone : (lane : ℕ) → lane < lanes → (lane ≡ k) ⊎ (lane ≢ k) → get_or after (lane * lanes + lane) None ≡ None
      alone lane l (inl e) = stays lane lane l (inr (ap (has others) e ∙ not-itself)) ∙ kept.alone lane l
      alone lane l (inr n) = stays lane lane l (inl n) ∙ kept.alone lane l

  pub read-moves : (before marks : ℕ) (flag : Bool) → moved < 2 ^ 64 → ((flag ≡ true) ↔ (moved ≢ 0)) → ((u : ℕ) → has marks u ≡ cond (u == k) (flag || has before k) (has before u)) → Moves lanes points after before marks
  read-moves before marks flag small told is lane l = at (cases_eq lane k)
    where
      here : has marks k ≡ (flag || has before k)
      here = is k ∙ ap (λ t. cond t (flag || has before k) (has before k)) (eq-eqb k k refl)

      there : lane ≢ k → has marks lane ≡ has before lane
      there n = is lane ∙ ap (λ t. cond t (flag || has before k) (has before lane)) (ne_eqb lane k n)

      same-place : (u : ℕ) → (k * lanes + 0) + u ≡ k * lanes + u
      same-place u = omega arith

      moved-to : has marks k ≡ true → (has before k ≡ true) ⊎ EntryMoved lanes points after k
      moved-to e = go flag refl
        where
          found : (u : ℕ) × (has moved u ≡ true) → EntryMoved lanes points after k
          found (u, h) =
              let p = (noted.lowered.moves u).0 h in
              (u, below-others u p.0, (λ q. both_ways (has others k) not-itself (ap (has others) (sym q) ∙ p.0)), λ q. p.1 (ap (λ at. get_or after at None) (same-place u) ∙ q ∙ sym (ap (λ at. get_or points at None) (same-place u))))

          go : (t : Bool) → flag ≡ t → (has before k ≡ true) ⊎ EntryMoved lanes points after k
          go true f = inr (found (some-lane moved (told.0 f) small))
          go false f = inl (sym (ap (λ t. t || has before k) f) ∙ sym here ∙ e)

      came : EntryMoved lanes points after k → flag ≡ true
      came (u, w, n, d) = go (has others u) refl
        where
          go : (t : Bool) → has others u ≡ t → flag ≡ true
          go false f = absurd (d (stays k u w (inr f)))
          go true t =
              let h = (noted.lowered.moves u).1 (t, λ q. d (sym (ap (λ at. get_or after at None) (same-place u)) ∙ q ∙ ap (λ at. get_or points at None) (same-place u))) in
              told.1 (λ z. both_ways (has moved u) (ap (λ m. has m u) z ∙ has-none u) h)

      at : (lane ≡ k) ⊎ (lane ≢ k) → (has marks lane ≡ true) ↔ ((has before lane ≡ true) ⊎ EntryMoved lanes points after lane)
      at (inl e) = rw e (moved-to, back)
        where
          back : (has before k ≡ true) ⊎ EntryMoved lanes points after k → has marks k ≡ true
          back (inl b) = here ∙ ap (λ t. flag || t) b ∙ or-true flag
          back (inr m) = here ∙ ap (λ t. t || has before k) (came m)
      at (inr n) = ((λ e. inl (sym (there n) ∙ e)), back)
        where
          back : (has before lane ≡ true) ⊎ EntryMoved lanes points after lane → has marks lane ≡ true
          back (inl b) = there n ∙ b
          back (inr (u, w, m, d)) = absurd (d (stays lane u w (inl n)))

-- how a call notes a read: the sets that it finds and makes, and the places that it writes
pub record ReadCalled (lanes : ℕ) (readers writers positions : List ℕ) (points given after : List (Option ℕ)) (readers_there writers_there mask others moved k position item place start : ℕ) : Type 0 where
  pub lane : k < lanes
  pub within : item < length readers
  pub fresh : has readers_there k ≡ false
  pub readers_are : readers_there ≡ get_or readers item 0
  pub writers_are : writers_there ≡ get_or writers item 0
  pub mask_is : (u : ℕ) → has mask u ≡ cond (u == k) true (has readers_there u)
  pub others_are : (u : ℕ) → has others u ≡ cond (u == k) false (has writers_there u)
  pub place_is : place ≡ item * lanes + k
  pub start_is : start ≡ k * lanes + 0
  pub given_are : given ≡ points
  pub lowered : AreChanged (has others) (λ writer. start + writer) (λ writer point. Some (less_or point position)) given after moved

-- what stands after it
pub record ReadDone (lanes : ℕ) (readers writers positions : List ℕ) (points : List (Option ℕ)) (marks : ℕ) (old : Index) (k position item : ℕ) : Type 0 where
  pub kept : IsKept lanes readers writers positions points
  pub lists : (index_of lanes readers writers positions marks).lanes ≡ lanes_with old k (with_read (lane_at old k) (position, item))
  pub moved : MarksMoved old (index_of lanes readers writers positions marks)

module _ (lanes : ℕ) (readers writers positions : List ℕ) (points given after : List (Option ℕ)) (readers_there writers_there mask others moved k position item place start : ℕ)
    (kept : IsKept lanes readers writers positions points) (called : ReadCalled lanes readers writers positions points given after readers_there writers_there mask others moved k position item place start) where
  noted : ReadNoted lanes readers writers positions points after mask others moved k position item
  noted = record {
    lane = called.lane;
    within = called.within;
    fresh = sym (ap (λ m. has m k) called.readers_are) ∙ called.fresh;
    mask_is = λ u. called.mask_is u ∙ ap (λ m. cond (u == k) true (has m u)) called.readers_are;
    others_are = λ u. called.others_are u ∙ ap (λ m. cond (u == k) false (has m u)) called.writers_are;
    lowered = rw (called.start_is, called.given_are) at called.lowered;
  }

  pub read-done : (before marks : ℕ) (flag : Bool) (old : Index) → moved < 2 ^ 64 → ((flag ≡ true) ↔ (moved ≢ 0)) → ((u : ℕ) → has marks u ≡ cond (u == k) (flag || has before k) (has before u))
      → index_of lanes readers writers positions before ≡ old → ReadDone lanes (set readers item mask) writers (set positions place position) after marks old k position item
  read-done before marks flag old small told is view = rw (called.place_is, ← view) (record {
    kept = done;
    lists =
        view-lanes (lane_of readers writers positions lanes) (lane_of masks_now writers places_now lanes) lanes k called.lane (read-others lanes readers writers positions points after mask others moved k position item kept noted)
        ∙ ap (λ l. set (map (lane_of readers writers positions lanes) (range_with_len 0 lanes)) k l) (own ∙ ap (λ l. with_read l (position, item)) (sym was));
    moved = marks-moved lanes readers writers positions points before masks_now writers places_now after marks kept.met done.met (read-moves lanes readers writers positions points after mask others moved k position item kept noted before marks flag small told is);
  })
    where
      masks_now : List ℕ
      masks_now = set readers item mask

      places_now : List ℕ
      places_now = set positions (item * lanes + k) position

      done : IsKept lanes (set readers item mask) writers (set positions (item * lanes + k) position) after
      done = read-kept lanes readers writers positions points after mask others moved k position item kept noted

      own : lane_of (set readers item mask) writers (set positions (item * lanes + k) position) lanes k ≡ with_read (lane_of readers writers positions lanes k) (position, item)
      own = read-own lanes readers writers positions points after mask others moved k position item kept noted

      was : lane_at (index_of lanes readers writers positions before) k ≡ lane_of readers writers positions lanes k
      was = view-lane lanes readers writers positions before k called.lane
