-- A lane that is forgotten: the lists, the entries and the marks after it.
use Rattle.std.proofs.Common.{◌≡◌, ◌≢◌, ℕ, ◌+◌, ◌*◌, ◌^◌, ◌<◌, Bool, true, false, cond, ◌&&◌, ◌||◌, ◌==◌, nat_lt, List, [], map, length, get_or, set, Option, None, refl, sym, ap, ◌∙◌, arith, ◌⊎◌, inl, inr, ◌↔◌}
use Rattle.std.specs.List.{range_with_len}
use Rattle.std.proofs.Math.Bool.{or-true, or-false, and-false}
use Rattle.std.proofs.lemmas.Bool.{cases_eq, both_ways, eq-eqb, ne_eqb, lt-ltb, ltb-true}
use Rattle.std.proofs.lemmas.Nat.{same_from_place}
use Rattle.conflict_index.specs.Masks.{has}
use Rattle.conflict_index.specs.Index.{Index, forgotten, lanes_with, MarksMoved}
use Rattle.conflict_index.specs.Kept.{has_item, position_of, lane_of, reads_of, writes_of, index_of, IsKept, AreChanged, AreWithout}
use Rattle.conflict_index.proofs.LaneLists.{least_hit, hit-same, reads-same, writes-same}
use Rattle.conflict_index.proofs.ItemLists.{reads-none, writes-none, least-none}
use Rattle.conflict_index.proofs.MaskLaws.{has-none, some-lane}
use Rattle.conflict_index.proofs.Views.{lane_made, view-lanes, marks-moved, is_hit, entry_of, AreEntries, met-entries, entries-met, EntryMoved, Moves}

-- the lane is taken from each set, and its row and its column are emptied
pub record Forgot (lanes : ℕ) (readers writers masks_r masks_w : List ℕ) (points middle after : List (Option ℕ)) (own others k : ℕ) : Type 0 where
  pub lane : k < lanes
  pub readers_are : AreWithout k readers masks_r
  pub writers_are : AreWithout k writers masks_w
  pub row : AreChanged (λ writer. nat_lt writer lanes) (λ writer. k * lanes + writer) (λ writer point. None) points middle own
  pub column : AreChanged (λ reader. nat_lt reader lanes) (λ reader. reader * lanes + k) (λ reader point. None) middle after others

module _ (lanes : ℕ) (readers writers positions masks_r masks_w : List ℕ) (points middle after : List (Option ℕ)) (own others k : ℕ)
    (kept : IsKept lanes readers writers positions points) (forgot : Forgot lanes readers writers masks_r masks_w points middle after own others k) where
  read-gone : (i : ℕ) → has_item masks_r k i ≡ false
  read-gone i = forgot.readers_are.without i k ∙ ap (λ t. cond t false (has_item readers k i)) (eq-eqb k k refl)

  write-gone : (i : ℕ) → has_item masks_w k i ≡ false
  write-gone i = forgot.writers_are.without i k ∙ ap (λ t. cond t false (has_item writers k i)) (eq-eqb k k refl)

  read-stays : (lane i : ℕ) → lane ≢ k → has_item masks_r lane i ≡ has_item readers lane i
  read-stays lane i n = forgot.readers_are.without i lane ∙ ap (λ t. cond t false (has_item readers lane i)) (ne_eqb lane k n)

  write-stays : (lane i : ℕ) → lane ≢ k → has_item masks_w lane i ≡ has_item writers lane i
  write-stays lane i n = forgot.writers_are.without i lane ∙ ap (λ t. cond t false (has_item writers lane i)) (ne_eqb lane k n)

  pub forget-own : lane_of masks_r masks_w positions lanes k ≡ forgotten
  forget-own =
      ap (λ rs. lane_made rs (writes_of (has_item masks_w k) 0 (length masks_r))) (reads-none (has_item masks_r k) (position_of positions lanes k) 0 (length masks_r) (record { none = λ i g l. read-gone i }))
      ∙ ap (lane_made []) (writes-none (has_item masks_w k) 0 (length masks_r) (record { none = λ i g l. write-gone i }))

  pub forget-others : (lane : ℕ) → lane ≢ k → lane_of masks_r masks_w positions lanes lane ≡ lane_of readers writers positions lanes lane
  forget-others lane n =
      ap (λ many. lane_made (reads_of (has_item masks_r lane) (position_of positions lanes lane) 0 many) (writes_of (has_item masks_w lane) 0 many)) forgot.readers_are.long
      ∙ ap (λ rs. lane_made rs (writes_of (has_item masks_w lane) 0 (length readers))) (reads-same (has_item readers lane) (has_item masks_r lane) (position_of positions lanes lane) (position_of positions lanes lane) 0 (length readers) (record {
        tests = λ i g b. read-stays lane i n;
        positions = λ i g b e. refl;
      }))
      ∙ ap (lane_made (reads_of (has_item readers lane) (position_of positions lanes lane) 0 (length readers))) (writes-same (has_item writers lane) (has_item masks_w lane) 0 (length readers) (λ i g b. write-stays lane i n))

  -- the entries of other lanes against others stay
  row-stays : (r u : ℕ) → u < lanes → r ≢ k → get_or middle (r * lanes + u) None ≡ get_or points (r * lanes + u) None
  row-stays r u l n = forgot.row.others (r * lanes + u) (λ w e q. n (sym (same_from_place k w r u lanes (ltb-true w lanes e) l q).0))

  column-stays : (r u : ℕ) → u < lanes → u ≢ k → get_or after (r * lanes + u) None ≡ get_or middle (r * lanes + u) None
  column-stays r u l n = forgot.column.others (r * lanes + u) (λ w e q. n (sym (same_from_place w k r u lanes forgot.lane l q).1))

  row-emptied : (u : ℕ) → u < lanes → get_or middle (k * lanes + u) None ≡ None
  row-emptied u l = forgot.row.changed u (lt-ltb u lanes l)

  column-emptied : (r : ℕ) → r < lanes → get_or after (r * lanes + k) None ≡ None
  column-emptied r l = forgot.column.changed r (lt-ltb r lanes l)

  forget-entries : AreEntries lanes masks_r masks_w positions after
  forget-entries = record { entries = λ r u p q n. go r u p q n (cases_eq r k) (cases_eq u k) }
    where
      was : AreEntries lanes readers writers positions points
      was = met-entries lanes readers writers positions points kept.met

      no-reader : (u : ℕ) → entry_of masks_r masks_w positions lanes k u ≡ None
      no-reader u = least-none (is_hit masks_r masks_w k u) (position_of positions lanes k) 0 (length masks_r) (record { none = λ i g l. ap (λ t. t && has_item masks_w u i) (read-gone i) })

      no-writer : (r : ℕ) → entry_of masks_r masks_w positions lanes r k ≡ None
      no-writer r = least-none (is_hit masks_r masks_w r k) (position_of positions lanes r) 0 (length masks_r) (record { none = λ i g l. ap (λ t. has_item masks_r r i && t) (write-gone i) ∙ and-false (has_item masks_r r i) })

      same : (r u : ℕ) → r ≢ k → u ≢ k → entry_of masks_r masks_w positions lanes r u ≡ entry_of readers writers positions lanes r u
      same r u m n =
          ap (λ many. least_hit (is_hit masks_r masks_w r u) (position_of positions lanes r) 0 many) forgot.readers_are.long
          ∙ hit-same (is_hit readers writers r u) (is_hit masks_r masks_w r u) (position_of positions lanes r) (position_of positions lanes r) 0 (length readers) (record {
            tests = λ i g b. ap (λ t. t && has_item masks_w u i) (read-stays r i m) ∙ ap (λ t. has_item readers r i && t) (write-stays u i n);
            positions = λ i g b e. refl;
          })

      go : (r u : ℕ) → r < lanes → u < lanes → r ≢ u → (r ≡ k) ⊎ (r ≢ k) → (u ≡ k) ⊎ (u ≢ k) → get_or after (r * lanes + u) None ≡ entry_of masks_r masks_w positions lanes r u
      go r u p q n _ (inl e) = rw e (column-emptied r p ∙ sym (no-writer r))
      go r u p q n (inl s) (inr m) = rw s (column-stays k u q m ∙ row-emptied u q ∙ sym (no-reader u))
      go r u p q n (inr s) (inr m) = column-stays r u q m ∙ row-stays r u q s ∙ was.entries r u p q n ∙ sym (same r u s m)

  pub forget-kept : IsKept lanes masks_r masks_w positions after
  forget-kept = record {
    few = kept.few;
    small = rw forgot.readers_are.long kept.small;
    same = forgot.writers_are.long ∙ kept.same ∙ sym forgot.readers_are.long;
    wide = kept.wide ∙ ap (λ n. n * lanes) (sym forgot.readers_are.long);
    square = forgot.column.long ∙ forgot.row.long ∙ kept.square;
    reading = λ i lane g. (let l = forgot.lane in read-stays lane i (omega arith)) ∙ kept.reading i lane g;
    writing = λ i lane g. (let l = forgot.lane in write-stays lane i (omega arith)) ∙ kept.writing i lane g;
    alone = λ lane l. alone lane l (cases_eq lane k);
    met = entries-met lanes masks_r masks_w positions after forget-entries;
  }
    where
      alone : (lane : ℕ) → lane < lanes → (lane ≡ k) ⊎ (lane ≢ k) → get_or after (lane * lanes + lane) None ≡ None
      alone lane l (inl e) = rw e (column-emptied k forgot.lane)
      alone lane l (inr n) = column-stays lane lane l n ∙ row-stays lane lane l n ∙ kept.alone lane l

  pub forget-moves : (before marks : ℕ) (flag : Bool) → own < 2 ^ 64 → ((flag ≡ true) ↔ (own ≢ 0)) → ((u : ℕ) → has marks u ≡ cond (u == k) (flag || (has before k || has others k)) (has before u || has others u)) → Moves lanes points after before marks
  forget-moves before marks flag small told is lane l = at (cases_eq lane k)
    where
      -- its own entry was empty, so its mark in the column stays out
      unmoved : has others k ≡ false
      unmoved = go (has others k) refl
        where
          go : (t : Bool) → has others k ≡ t → has others k ≡ false
          go false e = e
          go true e = absurd (((forgot.column.moves k).0 e).1 (column-emptied k forgot.lane ∙ sym (row-emptied k forgot.lane)))

      here : has marks k ≡ (flag || has before k)
      here = is k ∙ ap (λ t. cond t (flag || (has before k || has others k)) (has before k || has others k)) (eq-eqb k k refl) ∙ ap (λ t. flag || t) (ap (λ t. has before k || t) unmoved ∙ or-false (has before k))

      there : lane ≢ k → has marks lane ≡ (has before lane || has others lane)
      there n = is lane ∙ ap (λ t. cond t (flag || (has before k || has others k)) (has before lane || has others lane)) (ne_eqb lane k n)

      moved-to : has marks k ≡ true → (has before k ≡ true) ⊎ EntryMoved lanes points after k
      moved-to e = go flag refl
        where
          found : (u : ℕ) × (has own u ≡ true) → EntryMoved lanes points after k
          found (u, h) = not-own (cases_eq u k)
            where
              p : (nat_lt u lanes ≡ true) × (get_or middle (k * lanes + u) None ≢ get_or points (k * lanes + u) None)
              p = (forgot.row.moves u).0 h

              b : u < lanes
              b = ltb-true u lanes p.0

              not-own : (u ≡ k) ⊎ (u ≢ k) → EntryMoved lanes points after k
              not-own (inl q) = absurd (p.1 (row-emptied u b ∙ sym (ap (λ at. get_or points (k * lanes + at) None) q ∙ kept.alone k forgot.lane)))
              not-own (inr n) = (u, b, n, λ q. p.1 (sym (column-stays k u b n) ∙ q))

          go : (t : Bool) → flag ≡ t → (has before k ≡ true) ⊎ EntryMoved lanes points after k
          go true f = inr (found (some-lane own (told.0 f) small))
          go false f = inl (sym (ap (λ t. t || has before k) f) ∙ sym here ∙ e)

      came-own : EntryMoved lanes points after k → flag ≡ true
      came-own (u, w, n, d) =
          let h = (forgot.row.moves u).1 (lt-ltb u lanes w, λ q. d (column-stays k u w n ∙ q)) in
          told.1 (λ z. both_ways (has own u) (ap (λ m. has m u) z ∙ has-none u) h)

      came : lane ≢ k → EntryMoved lanes points after lane → has others lane ≡ true
      came m (u, w, n, d) = go (cases_eq u k)
        where
          go : (u ≡ k) ⊎ (u ≢ k) → has others lane ≡ true
          go (inl e) = (forgot.column.moves lane).1 (lt-ltb lane lanes l, λ q. d (ap (λ at. get_or after (lane * lanes + at) None) e ∙ q ∙ row-stays lane k forgot.lane m ∙ sym (ap (λ at. get_or points (lane * lanes + at) None) e)))
          go (inr s) = absurd (d (column-stays lane u w s ∙ row-stays lane u w m))

      at : (lane ≡ k) ⊎ (lane ≢ k) → (has marks lane ≡ true) ↔ ((has before lane ≡ true) ⊎ EntryMoved lanes points after lane)
      at (inl e) = rw e (moved-to, back)
        where
          back : (has before k ≡ true) ⊎ EntryMoved lanes points after k → has marks k ≡ true
          back (inl b) = here ∙ ap (λ t. flag || t) b ∙ or-true flag
          back (inr m) = here ∙ ap (λ t. t || has before k) (came-own m)
      at (inr n) = (forth, back)
        where
          forth : has marks lane ≡ true → (has before lane ≡ true) ⊎ EntryMoved lanes points after lane
          forth e = go (has before lane) refl (sym (there n) ∙ e)
            where
              go : (t : Bool) → has before lane ≡ t → (t || has others lane) ≡ true → (has before lane ≡ true) ⊎ EntryMoved lanes points after lane
              go true b h = inl b
              go false b h = let p = (forgot.column.moves lane).0 h in inr (k, forgot.lane, (λ q. n (sym q)), λ q. p.1 (q ∙ sym (row-stays lane k forgot.lane n)))

          back : (has before lane ≡ true) ⊎ EntryMoved lanes points after lane → has marks lane ≡ true
          back (inl b) = there n ∙ ap (λ t. t || has others lane) b
          back (inr m) = there n ∙ ap (λ t. has before lane || t) (came n m) ∙ or-true (has before lane)

-- what stands after a lane was forgotten
pub record ForgetDone (lanes : ℕ) (readers writers positions : List ℕ) (points : List (Option ℕ)) (marks : ℕ) (old : Index) (k : ℕ) : Type 0 where
  pub kept : IsKept lanes readers writers positions points
  pub lists : (index_of lanes readers writers positions marks).lanes ≡ lanes_with old k forgotten
  pub moved : MarksMoved old (index_of lanes readers writers positions marks)

pub forget-done : (lanes : ℕ) (readers writers positions masks_r masks_w : List ℕ) (points middle after : List (Option ℕ)) (own others k : ℕ)
    → IsKept lanes readers writers positions points → Forgot lanes readers writers masks_r masks_w points middle after own others k
    → (before marks : ℕ) (flag : Bool) (old : Index) → own < 2 ^ 64 → ((flag ≡ true) ↔ (own ≢ 0)) → ((u : ℕ) → has marks u ≡ cond (u == k) (flag || (has before k || has others k)) (has before u || has others u))
    → index_of lanes readers writers positions before ≡ old
    → ForgetDone lanes masks_r masks_w positions after marks old k
forget-done lanes readers writers positions masks_r masks_w points middle after own others k kept forgot before marks flag old small told is view = rw (← view) (record {
  kept = done;
  lists =
      view-lanes (lane_of readers writers positions lanes) (lane_of masks_r masks_w positions lanes) lanes k forgot.lane (λ lane l n. forget-others lanes readers writers positions masks_r masks_w points middle after own others k kept forgot lane n)
      ∙ ap (λ l. set (map (lane_of readers writers positions lanes) (range_with_len 0 lanes)) k l) (forget-own lanes readers writers positions masks_r masks_w points middle after own others k kept forgot);
  moved = marks-moved lanes readers writers positions points before masks_r masks_w positions after marks kept.met done.met (forget-moves lanes readers writers positions masks_r masks_w points middle after own others k kept forgot before marks flag small told is);
})
  where
    done : IsKept lanes masks_r masks_w positions after
    done = forget-kept lanes readers writers positions masks_r masks_w points middle after own others k kept forgot
