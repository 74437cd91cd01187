use Rattle.std.proofs.Common.{◌≡◌, ℕ, ◌+◌, ◌*◌, ◌<◌, get_or, length, sym, ap, subst, ◌∙◌, arith, set, true, false, cond, ◌==◌, List, Option, Some}
use Rattle.std.specs.List.{slice_range}
use Rattle.std.proofs.lemmas.List.{get_or_read, with_items_is, set-get_or}
use Rattle.conflict_index.specs.Index.{Lane, Index, lane_at, less_or, is_among, forgotten}
use Rattle.conflict_index.specs.Masks.{has}
use Rattle.conflict_index.specs.Kept.{AreChanged, has_item, lane_of}
use Rattle.conflict_index.proofs.ItemLists.{among-writes}
use Rattle.conflict_index.proofs.Views.{view-lane, lane-below, below-lanes}
use Rattle.conflict_index.proofs.Writing.{WriteNoted, WriteDone, write-done, write-again, row-places}
use Rattle.conflict_index.proofs.index.Index.note_write.Goals as goal

pub contains-requires : goal.contains-requires
contains-requires c = (let b = lane-below _ _ _ _ _ _ _ c.self.view_is c.requires.lane in omega (arith, b, c.self.invariant.few))

pub with-requires : goal.with-requires
with-requires c = (let b = lane-below _ _ _ _ _ _ _ c.self.view_is c.requires.lane in omega (arith, b, c.self.invariant.few))

pub without-readers-requires : goal.without-readers-requires
without-readers-requires c = (let b = lane-below _ _ _ _ _ _ _ c.self.view_is c.requires.lane in omega (arith, b, c.self.invariant.few))

pub lower_column-moved-requires-clause-writer : goal.lower_column-moved-requires-clause-writer
lower_column-moved-requires-clause-writer c = lane-below _ _ _ _ _ _ _ c.self.view_is c.requires.lane

pub lower_column-moved-requires-clause-readers : goal.lower_column-moved-requires-clause-readers
lower_column-moved-requires-clause-readers c u e =
    let i : c.args.item < length c.self.inside.readers.items = omega (arith, ap (λ (v : Index). v.items) c.self.view_is) in
    below-lanes c.self.inside.lanes c.self.inside.readers.items c.index-then-not-contains-2.result.now c.without-readers.result c.args.item c.args.lane c.self.invariant.reading (get_or_read c.self.inside.readers.items c.args.item c.index-then-not-contains-2.result.now i c.index-then-not-contains-2.ensures 0) c.without-readers.ensures.lanes u e

below : (c : goal.After-self-then-not-contains-2-1) → c.args.lane < c.self.inside.lanes
below c = lane-below _ _ _ _ _ _ _ c.self.view_is c.requires.lane

within : (c : goal.After-self-then-not-contains-2-1) → c.args.item < length c.self.inside.readers.items
within c = omega (arith, ap (λ (v : Index). v.items) c.self.view_is)

noted : (c : goal.After-self-then-not-contains-2-1) → WriteNoted c.self.inside.lanes c.self.inside.readers.items c.self.inside.writers.items c.self.inside.positions.items c.self.inside.points.items c.lower_column-moved.new.points
    (slice_range c.deref.result.now c.cell-start.result (c.cell-start.result + c.self.inside.lanes)) c.with.result c.without-readers.result c.lower_column-moved.result c.args.lane c.args.item
noted c =
    let i = within c in
    let w : c.args.item < length c.self.inside.writers.items = omega (arith, i, c.self.invariant.same) in
    record {
      lane = below c;
      within = i;
      fresh = sym (ap (λ m. has m c.args.lane) (get_or_read c.self.inside.writers.items c.args.item c.index.result.now w c.index.ensures 0)) ∙ sym c.contains.ensures ∙ c.if-not-contains.true;
      mask_is = λ u. c.with.ensures u ∙ ap (λ m. cond (u == c.args.lane) true (has m u)) (get_or_read c.self.inside.writers.items c.args.item c.index-then-not-contains.result.now w c.index-then-not-contains.ensures 0);
      others_are = λ u. c.without-readers.ensures.lanes u ∙ ap (λ m. cond (u == c.args.lane) false (has m u)) (get_or_read c.self.inside.readers.items c.args.item c.index-then-not-contains-2.result.now i c.index-then-not-contains-2.ensures 0);
      row_is = λ u l. row-places c.self.inside.positions.items c.deref.result.now c.self.inside.lanes c.args.item c.cell-start.result u c.deref.ensures.value c.cell-start.ensures l;
      lowered = subst (λ ps. AreChanged (has c.without-readers.result) (λ reader. reader * c.self.inside.lanes + c.args.lane) (λ reader point. Some (less_or point (get_or (slice_range c.deref.result.now c.cell-start.result (c.cell-start.result + c.self.inside.lanes)) reader 0))) ps c.lower_column-moved.new.points c.lower_column-moved.result) c.deref_mut.ensures.value c.lower_column-moved.ensures;
    }

done : (c : goal.After-self-then-not-contains-2-1) → WriteDone c.self.inside.lanes c.self.inside.readers.items (set c.self.inside.writers.items c.args.item c.with.result) c.self.inside.positions.items c.lower_column-moved.new.points c.union-self-inside.result c.args.self.now c.args.lane c.args.item
done c = write-done c.self.inside.lanes c.self.inside.readers.items c.self.inside.writers.items c.self.inside.positions.items c.self.inside.points.items c.lower_column-moved.new.points
    (slice_range c.deref.result.now c.cell-start.result (c.cell-start.result + c.self.inside.lanes)) c.with.result c.without-readers.result c.lower_column-moved.result c.args.lane c.args.item
    c.self.invariant (noted c) c.self.inside.marks c.union-self-inside.result c.args.self.now c.union-self-inside.ensures c.self.view_is

pub returns-then-not-contains-clause-lanes : goal.returns-then-not-contains-clause-lanes
returns-then-not-contains-clause-lanes c = (done c).lists

pub returns-then-not-contains-clause-marks : goal.returns-then-not-contains-clause-marks
returns-then-not-contains-clause-marks c = (done c).moved

pub invariant_of-self : goal.invariant_of-self
invariant_of-self c = rw (with_items_is c.self.inside.points c.lower_column-moved.new.points (omega (arith, c.lower_column-moved.ensures.long, ap (λ (ps : List (Option ℕ)). length ps) c.deref_mut.ensures.value, c.self.inside.points.ok.0))) (done c).kept

pub returns-else-not-contains-clause-lanes : goal.returns-else-not-contains-clause-lanes
returns-else-not-contains-clause-lanes c =
    let v = c.self.inside in
    let b = lane-below _ _ _ _ _ _ _ c.self.view_is c.requires.lane in
    let i : c.args.item < length v.readers.items = omega (arith, ap (λ (s : Index). s.items) c.self.view_is) in
    let w : c.args.item < length v.writers.items = omega (arith, i, c.self.invariant.same) in
    let there : has_item v.writers.items c.args.lane c.args.item ≡ true = sym (ap (λ m. has m c.args.lane) (get_or_read v.writers.items c.args.item c.index.result.now w c.index.ensures 0)) ∙ sym c.contains.ensures ∙ c.if-not-contains.false in
    let lists : lane_at c.args.self.now c.args.lane ≡ lane_of v.readers.items v.writers.items v.positions.items v.lanes c.args.lane = ap (λ (s : Index). lane_at s c.args.lane) (sym c.self.view_is) ∙ view-lane v.lanes v.readers.items v.writers.items v.positions.items v.marks c.args.lane b in
    let among : is_among (lane_at c.args.self.now c.args.lane).writes c.args.item ≡ true = ap (λ (l : Lane). is_among l.writes c.args.item) lists ∙ among-writes (has_item v.writers.items c.args.lane) c.args.item 0 (length v.readers.items) (omega arith) (omega (arith, i)) ∙ there in
    sym (ap (λ l. set c.args.self.now.lanes c.args.lane l) (write-again (lane_at c.args.self.now c.args.lane) c.args.item among) ∙ set-get_or c.args.self.now.lanes c.args.lane forgotten)
