-- An index that nothing was noted in, and one without marks.
use Rattle.std.proofs.Common.{◌≡◌, ℕ, ◌*◌, ◌<◌, ◌≤◌, Bool, false, ◌&&◌, List, [], map, length, get_or, replicate, Option, None, refl, sym, ap, ◌∙◌, arith, ◌⊎◌, inl, inr}
use Rattle.std.specs.List.{range_with_len}
use Rattle.std.proofs.lemmas.Bool.{cases_lt}
use Rattle.std.proofs.lemmas.List.{get_or_past, get_or-replicate, length-replicate}
use Rattle.std.proofs.lemmas.List.FromFn.{fill_by_all}
use Rattle.conflict_index.specs.Masks.{has}
use Rattle.conflict_index.specs.Index.{Lane, Index, forgotten}
use Rattle.conflict_index.specs.Kept.{has_item, position_of, lane_of, writes_of, index_of, IsKept}
use Rattle.conflict_index.proofs.ItemLists.{reads-none, writes-none, least-none}
use Rattle.conflict_index.proofs.MaskLaws.{has-none}
use Rattle.conflict_index.proofs.Views.{lane_made, view-length, is_hit, entries-met}

all-alike : {X : Type 0} (f : ℕ → X) (x : X) (n : ℕ) → ((k : ℕ) → k < n → f k ≡ x) → map f (range_with_len 0 n) ≡ replicate n x
all-alike f x n h = sym (fill_by_all f (replicate n x) n x (length-replicate n x) (λ k l. get_or-replicate n k x x l ∙ sym (h k l)))

-- a number within and past the end
repeated : {X : Type 0} (n i : ℕ) (x : X) → get_or (replicate n x) i x ≡ x
repeated n i x = go (cases_lt i n)
  where
    go : (i < n) ⊎ (n ≤ i) → get_or (replicate n x) i x ≡ x
    go (inl l) = get_or-replicate n i x x l
    go (inr g) = get_or_past (replicate n x) i x (omega (arith, length-replicate n x))

-- nobody is in a set
no-lane-has : (items lane i : ℕ) → has_item (replicate items 0) lane i ≡ false
no-lane-has items lane i = ap (λ m. has m lane) (repeated items i 0) ∙ has-none lane

abbrev index_made : ℕ → List Lane → List Bool → Index
index_made many lists marks = record { items = many; lanes = lists; marks = marks }

module _ (items lanes : ℕ) where
  abbrev masks : List ℕ
  masks = replicate items 0

  abbrev places : List ℕ
  places = replicate (items * lanes) 0

  abbrev points : List (Option ℕ)
  points = replicate (lanes * lanes) None

  blank : (lane : ℕ) → lane_of (replicate items 0) (replicate items 0) (replicate (items * lanes) 0) lanes lane ≡ forgotten
  blank lane =
      ap (λ rs. lane_made rs (writes_of (has_item masks lane) 0 (length masks))) (reads-none (has_item masks lane) (position_of places lanes lane) 0 (length masks) (record { none = λ i g l. no-lane-has items lane i }))
      ∙ ap (lane_made []) (writes-none (has_item masks lane) 0 (length masks) (record { none = λ i g l. no-lane-has items lane i }))

  pub opened-view : index_of lanes (replicate items 0) (replicate items 0) (replicate (items * lanes) 0) 0 ≡ record { items = items; lanes = replicate lanes forgotten; marks = replicate lanes false }
  opened-view =
      ap (λ n. index_made n (map (lane_of masks masks places lanes) (range_with_len 0 lanes)) (map (has 0) (range_with_len 0 lanes))) (length-replicate items 0)
      ∙ ap (λ ls. index_made items ls (map (has 0) (range_with_len 0 lanes))) (all-alike (lane_of masks masks places lanes) forgotten lanes (λ k l. blank k))
      ∙ ap (index_made items (replicate lanes forgotten)) (all-alike (has 0) false lanes (λ k l. has-none k))

  pub opened-kept : items ≤ 1024 → lanes ≤ 64 → IsKept lanes (replicate items 0) (replicate items 0) (replicate (items * lanes) 0) (replicate (lanes * lanes) None)
  opened-kept small few = record {
    few = few;
    small = rw (length-replicate {A = ℕ} items 0) small;
    same = refl;
    wide = length-replicate (items * lanes) 0 ∙ ap (λ n. n * lanes) (sym (length-replicate items 0));
    square = length-replicate (lanes * lanes) None;
    reading = λ i lane g. no-lane-has items lane i;
    writing = λ i lane g. no-lane-has items lane i;
    alone = λ lane l. repeated (lanes * lanes) _ None;
    met = entries-met lanes masks masks places points (record { entries = λ r u p q n. repeated (lanes * lanes) _ None ∙ sym (least-none (is_hit masks masks r u) (position_of places lanes r) 0 (length masks) (record { none = λ i g l. ap (λ t. t && has_item masks u i) (no-lane-has items r i) })) });
  }

-- without its marks
pub settled-view : (lanes : ℕ) (readers writers positions : List ℕ) (marks : ℕ) (old : Index) → index_of lanes readers writers positions marks ≡ old
    → index_of lanes readers writers positions 0 ≡ record { items = old.items; lanes = old.lanes; marks = replicate (length old.lanes) false }
settled-view lanes readers writers positions marks old view = rw (← view) (ap (index_made (length readers) (map (lane_of readers writers positions lanes) (range_with_len 0 lanes))) (all-alike (has 0) false lanes (λ k l. has-none k) ∙ ap (λ n. replicate n false) (sym (view-length lanes readers writers positions marks))))
