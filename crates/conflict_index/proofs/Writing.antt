-- A write more: the lists, the entries and the marks after it.
use Rattle.std.proofs.Common.{◌≡◌, ◌≢◌, ℕ, ◌+◌, ◌*◌, ◌<◌, ◌≤◌, Bool, true, false, cond, ◌&&◌, ◌||◌, ◌==◌, nat_lt, List, map, length, get_or, set, drop, ◌-◌, length-set, Option, Some, None, refl, sym, ap, ◌∙◌, arith, ◌⊎◌, inl, inr}
use Rattle.std.specs.List.{range_with_len, slice_range}
use Rattle.std.proofs.Math.Bool.{or-true}
use Rattle.std.proofs.lemmas.Bool.{cases_eq, both_ways, eq-eqb, ne_eqb}
use Rattle.std.proofs.lemmas.List.{get_or-take, get_or-drop}
use Rattle.std.proofs.lemmas.Nat.{same_from_place}
use Rattle.conflict_index.specs.Masks.{has}
use Rattle.conflict_index.specs.Index.{Lane, Index, less_or, is_among, put_in_order, with_write, lane_at, lanes_with, MarksMoved}
use Rattle.conflict_index.specs.Kept.{has_item, position_of, lane_of, reads_of, writes_of, index_of, IsKept, AreChanged}
use Rattle.conflict_index.proofs.LaneLists.{hit-same, hit-more, writes-same}
use Rattle.conflict_index.proofs.ItemLists.{writes-more, among-writes}
use Rattle.conflict_index.proofs.Views.{lane_made, below-lanes, view-lane, view-lanes, marks-moved, item-same, item-other, is_hit, entry_of, AreEntries, met-entries, entries-met, EntryMoved, Moves}

-- a write of an item by a lane that hadn't written it, and the entries that this lowers
pub record WriteNoted (lanes : ℕ) (readers writers positions : List ℕ) (points after : List (Option ℕ)) (row : List ℕ) (mask others moved k item : ℕ) : Type 0 where
  pub lane : k < lanes
  pub within : item < length readers
  pub fresh : has_item writers k item ≡ false
  pub mask_is : (u : ℕ) → has mask u ≡ cond (u == k) true (has_item writers u item)
  pub others_are : (u : ℕ) → has others u ≡ cond (u == k) false (has_item readers u item)
  pub row_is : (u : ℕ) → u < lanes → get_or row u 0 ≡ position_of positions lanes u item
  pub lowered : AreChanged (has others) (λ reader. reader * lanes + k) (λ reader point. Some (less_or point (get_or row reader 0))) points after moved

-- the positions of an item stand in a row
pub row-places : (positions given : List ℕ) (lanes item start u : ℕ) → given ≡ positions → start ≡ item * lanes + 0 → u < lanes → get_or (slice_range given start (start + lanes)) u 0 ≡ position_of positions lanes u item
row-places positions given lanes item start u e s l =
    get_or-take (start + lanes - start) (drop start given) u 0 (omega arith)
    ∙ get_or-drop start given u 0
    ∙ ap (λ xs. get_or xs (start + u) 0) e
    ∙ ap (λ at. get_or positions at 0) (omega arith)

-- an item that is there already changes nothing
pub write-again : (lane : Lane) (item : ℕ) → is_among lane.writes item ≡ true → with_write lane item ≡ lane
write-again lane item e = ap (λ t. lane_made lane.reads (cond t lane.writes (put_in_order nat_lt item lane.writes))) e

module _ (lanes : ℕ) (readers writers positions : List ℕ) (points after : List (Option ℕ)) (row : List ℕ) (mask others moved k item : ℕ)
    (kept : IsKept lanes readers writers positions points) (noted : WriteNoted lanes readers writers positions points after row mask others moved k item) where
  abbrev pub masks : List ℕ
  masks = set writers item mask

  there : item < length writers
  there = omega (arith, noted.within, kept.same)

  test-other : (lane i : ℕ) → lane ≢ k → has_item masks lane i ≡ has_item writers lane i
  test-other lane i n = go (cases_eq i item)
    where
      go : (i ≡ item) ⊎ (i ≢ item) → has_item masks lane i ≡ has_item writers lane i
      go (inl e) = ap (has_item masks lane) e ∙ item-same writers item mask lane there ∙ noted.mask_is lane ∙ ap (λ t. cond t true (has_item writers lane item)) (ne_eqb lane k n) ∙ ap (has_item writers lane) (sym e)
      go (inr m) = item-other writers item mask lane i m

  written : has_item masks k item ≡ true
  written = item-same writers item mask k there ∙ noted.mask_is k ∙ ap (λ t. cond t true (has_item writers k item)) (eq-eqb k k refl)

  pub write-others : (lane : ℕ) → lane ≢ k → lane_of readers masks positions lanes lane ≡ lane_of readers writers positions lanes lane
  write-others lane n = ap (lane_made (reads_of (has_item readers lane) (position_of positions lanes lane) 0 (length readers))) (writes-same (has_item writers lane) (has_item masks lane) 0 (length readers) (λ i g b. test-other lane i n))

  pub write-own : lane_of readers masks positions lanes k ≡ with_write (lane_of readers writers positions lanes k) item
  write-own =
      ap (lane_made (reads_of (has_item readers k) (position_of positions lanes k) 0 (length readers)))
      (writes-more (has_item writers k) (has_item masks k) item 0 (length readers) (omega arith) (omega (arith, noted.within)) (record {
        fresh = noted.fresh;
        here = written;
        others = λ i n. item-other writers item mask k i n;
      })
      ∙ sym (ap (λ t. cond t ws (put_in_order nat_lt item ws)) (among-writes (has_item writers k) item 0 (length readers) (omega arith) (omega (arith, noted.within)) ∙ noted.fresh)))
    where
      ws : List ℕ
      ws = writes_of (has_item writers k) 0 (length readers)

  -- whom a lowered place belongs to
  below-others : (u : ℕ) → has others u ≡ true → u < lanes
  below-others u e = below-lanes lanes readers (get_or readers item 0) others item k kept.reading refl noted.others_are u e

  not-itself : has others k ≡ false
  not-itself = noted.others_are k ∙ ap (λ t. cond t false (has_item readers k item)) (eq-eqb k k refl)

  others-of : (u : ℕ) → u ≢ k → has others u ≡ has_item readers u item
  others-of u n = noted.others_are u ∙ ap (λ t. cond t false (has_item readers u item)) (ne_eqb u k n)

  -- the entries against other lanes stay
  stays : (r u : ℕ) → u < lanes → (u ≢ k) ⊎ (has others r ≡ false) → get_or after (r * lanes + u) None ≡ get_or points (r * lanes + u) None
  stays r u l o = noted.lowered.others (r * lanes + u) (λ w e q. apart w e (same_from_place w k r u lanes noted.lane l q) o)
    where
      apart : (w : ℕ) → has others w ≡ true → (w ≡ r) × (k ≡ u) → (u ≢ k) ⊎ (has others r ≡ false) → ⊥
      apart w e p (inl n) = n (sym p.1)
      apart w e p (inr f) = both_ways (has others r) f (sym (ap (has others) p.0) ∙ e)

  entry-other : (r u : ℕ) → u ≢ k → entry_of readers masks positions lanes r u ≡ entry_of readers writers positions lanes r u
  entry-other r u n = hit-same (is_hit readers writers r u) (is_hit readers masks r u) (position_of positions lanes r) (position_of positions lanes r) 0 (length readers) (record {
    tests = λ i g b. ap (λ t. has_item readers r i && t) (test-other u i n);
    positions = λ i g b e. refl;
  })

  entry-missed : (r : ℕ) → has_item readers r item ≡ false → entry_of readers masks positions lanes r k ≡ entry_of readers writers positions lanes r k
  entry-missed r f = hit-same (is_hit readers writers r k) (is_hit readers masks r k) (position_of positions lanes r) (position_of positions lanes r) 0 (length readers) (record {
    tests = λ i g b. test i (cases_eq i item);
    positions = λ i g b e. refl;
  })
    where
      test : (i : ℕ) → (i ≡ item) ⊎ (i ≢ item) → is_hit readers masks r k i ≡ is_hit readers writers r k i
      test i (inl q) = rw (q, f) refl
      test i (inr m) = ap (λ t. has_item readers r i && t) (item-other writers item mask k i m)

  entry-hit : (r : ℕ) → has_item readers r item ≡ true → entry_of readers masks positions lanes r k ≡ Some (less_or (entry_of readers writers positions lanes r k) (position_of positions lanes r item))
  entry-hit r t = hit-more (is_hit readers writers r k) (is_hit readers masks r k) (position_of positions lanes r) (position_of positions lanes r) item 0 (length readers) (omega arith) (omega (arith, noted.within)) (record {
    fresh = rw (t, noted.fresh) refl;
    here = rw (t, written) refl;
    others = λ i n. ap (λ s. has_item readers r i && s) (item-other writers item mask k i n);
    kept = λ i n. refl;
  })

  write-entries : AreEntries lanes readers masks positions after
  write-entries = record { entries = λ r u p q n. go r u p q n (cases_eq u k) (has_item readers r item) refl }
    where
      was : AreEntries lanes readers writers positions points
      was = met-entries lanes readers writers positions points kept.met

      go : (r u : ℕ) → r < lanes → u < lanes → r ≢ u → (u ≡ k) ⊎ (u ≢ k) → (t : Bool) → has_item readers r item ≡ t → get_or after (r * lanes + u) None ≡ entry_of readers masks positions lanes r u
      go r u p q n (inr m) t e = stays r u q (inl m) ∙ was.entries r u p q n ∙ sym (entry-other r u m)
      go r u p q n (inl s) true e =
          rw s (noted.lowered.changed r (others-of r (λ z. n (z ∙ sym s)) ∙ e)
          ∙ ap (λ o. Some (less_or (get_or points (r * lanes + k) None) o)) (noted.row_is r p)
          ∙ ap (λ o. Some (less_or o (position_of positions lanes r item))) (was.entries r k p noted.lane (λ z. n (z ∙ sym s)))
          ∙ sym (entry-hit r e))
      go r u p q n (inl s) false e =
          rw s (stays r k noted.lane (inr (others-of r (λ z. n (z ∙ sym s)) ∙ e)) ∙ was.entries r k p noted.lane (λ z. n (z ∙ sym s)) ∙ sym (entry-missed r e))

  pub write-kept : IsKept lanes readers masks positions after
  write-kept = record {
    few = kept.few;
    small = kept.small;
    same = length-set writers item mask ∙ kept.same;
    wide = kept.wide;
    square = noted.lowered.long ∙ kept.square;
    reading = kept.reading;
    writing = λ i lane g. below i lane g;
    alone = λ lane l. alone lane l (cases_eq lane k);
    met = entries-met lanes readers masks positions after write-entries;
  }
    where
      below : (i lane : ℕ) → lanes ≤ lane → has_item masks lane i ≡ false
      below i lane g = let l = noted.lane in test-other lane i (omega arith) ∙ kept.writing i lane g

      alone : (lane : ℕ) → lane < lanes → (lane ≡ k) ⊎ (lane ≢ k) → get_or after (lane * lanes + lane) None ≡ None
      alone lane l (inl e) = stays lane lane l (inr (ap (has others) e ∙ not-itself)) ∙ kept.alone lane l
      alone lane l (inr n) = stays lane lane l (inl n) ∙ kept.alone lane l

  pub write-moves : (before marks : ℕ) → ((u : ℕ) → has marks u ≡ (has before u || has moved u)) → Moves lanes points after before marks
  write-moves before marks is lane l = (there-is, back)
    where
      there-is : has marks lane ≡ true → (has before lane ≡ true) ⊎ EntryMoved lanes points after lane
      there-is e = go (has before lane) refl (sym (is lane) ∙ e)
        where
          go : (t : Bool) → has before lane ≡ t → (t || has moved lane) ≡ true → (has before lane ≡ true) ⊎ EntryMoved lanes points after lane
          go true b h = inl b
          go false b h = let p = (noted.lowered.moves lane).0 h in inr (k, noted.lane, (λ q. both_ways (has others k) not-itself (ap (has others) q ∙ p.0)), p.1)

      came : EntryMoved lanes points after lane → has moved lane ≡ true
      came (u, w, n, d) = go (cases_eq u k) (has others lane) refl
        where
          go : (u ≡ k) ⊎ (u ≢ k) → (t : Bool) → has others lane ≡ t → has moved lane ≡ true
          go (inr m) t e = absurd (d (stays lane u w (inl m)))
          go (inl m) false e = absurd (d (stays lane u w (inr e)))
          go (inl m) true e = (noted.lowered.moves lane).1 (e, λ q. d (ap (λ at. get_or after (lane * lanes + at) None) m ∙ q ∙ sym (ap (λ at. get_or points (lane * lanes + at) None) m)))

      back : (has before lane ≡ true) ⊎ EntryMoved lanes points after lane → has marks lane ≡ true
      back (inl b) = is lane ∙ ap (λ t. t || has moved lane) b
      back (inr m) = is lane ∙ ap (λ t. has before lane || t) (came m) ∙ or-true (has before lane)

-- what stands after a write was noted
pub record WriteDone (lanes : ℕ) (readers writers positions : List ℕ) (points : List (Option ℕ)) (marks : ℕ) (old : Index) (k item : ℕ) : Type 0 where
  pub kept : IsKept lanes readers writers positions points
  pub lists : (index_of lanes readers writers positions marks).lanes ≡ lanes_with old k (with_write (lane_at old k) item)
  pub moved : MarksMoved old (index_of lanes readers writers positions marks)

pub write-done : (lanes : ℕ) (readers writers positions : List ℕ) (points after : List (Option ℕ)) (row : List ℕ) (mask others moved k item : ℕ)
    → IsKept lanes readers writers positions points → WriteNoted lanes readers writers positions points after row mask others moved k item
    → (before marks : ℕ) (old : Index) → ((u : ℕ) → has marks u ≡ (has before u || has moved u)) → index_of lanes readers writers positions before ≡ old
    → WriteDone lanes readers (set writers item mask) positions after marks old k item
write-done lanes readers writers positions points after row mask others moved k item kept noted before marks old is view = rw (← view) (record {
  kept = done;
  lists =
      view-lanes (lane_of readers writers positions lanes) (lane_of readers (set writers item mask) positions lanes) lanes k noted.lane (λ lane l n. write-others lanes readers writers positions points after row mask others moved k item kept noted lane n)
      ∙ ap (λ l. set (map (lane_of readers writers positions lanes) (range_with_len 0 lanes)) k l) (own ∙ ap (λ l. with_write l item) (sym was));
  moved = marks-moved lanes readers writers positions points before readers (set writers item mask) positions after marks kept.met done.met (write-moves lanes readers writers positions points after row mask others moved k item kept noted before marks is);
})
  where
    done : IsKept lanes readers (set writers item mask) positions after
    done = write-kept lanes readers writers positions points after row mask others moved k item kept noted

    own : lane_of readers (set writers item mask) positions lanes k ≡ with_write (lane_of readers writers positions lanes k) item
    own = write-own lanes readers writers positions points after row mask others moved k item kept noted

    was : lane_at (index_of lanes readers writers positions before) k ≡ lane_of readers writers positions lanes k
    was = view-lane lanes readers writers positions before k noted.lane
