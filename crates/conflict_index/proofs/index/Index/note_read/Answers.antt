use Rattle.std.proofs.Common.{◌<◌, length, sym, ap, ◌≡◌, ◌∙◌, arith, set, not, true, ◌==◌}
use Rattle.std.proofs.lemmas.Nat.{mul-add-lt}
use Rattle.std.proofs.lemmas.List.{get_or_read, with_items_is, set-get_or}
use Rattle.conflict_index.specs.Index.{Lane, Index, lane_at, lanes_with, with_read, is_read, forgotten}
use Rattle.conflict_index.specs.Masks.{has}
use Rattle.conflict_index.specs.Kept.{has_item, position_of, lane_of}
use Rattle.conflict_index.proofs.ItemLists.{among-reads}
use Rattle.conflict_index.proofs.MaskLaws.{is-some}
use Rattle.conflict_index.proofs.Views.{view-lane, lane-below, below-lanes}
use Rattle.conflict_index.proofs.Reading.{ReadCalled, ReadDone, read-done, read-again, last-now}
use Rattle.conflict_index.proofs.index.Index.note_read.Goals as goal

pub with-requires : goal.with-requires
with-requires c = (let b = lane-below _ _ _ _ _ _ _ c.self.view_is c.requires.lane in omega (arith, b, c.self.invariant.few))

pub contains-requires : goal.contains-requires
contains-requires c = (let b = lane-below _ _ _ _ _ _ _ c.self.view_is c.requires.lane in omega (arith, b, c.self.invariant.few))

pub cell-requires-clause-column : goal.cell-requires-clause-column
cell-requires-clause-column c = lane-below _ _ _ _ _ _ _ c.self.view_is c.requires.lane

pub without-writers-requires : goal.without-writers-requires
without-writers-requires c = (let b = lane-below _ _ _ _ _ _ _ c.self.view_is c.requires.lane in omega (arith, b, c.self.invariant.few))

pub with_where-self-inside-requires : goal.with_where-self-inside-requires
with_where-self-inside-requires c = (let b = lane-below _ _ _ _ _ _ _ c.self.view_is c.requires.lane in omega (arith, b, c.self.invariant.few))

pub index_mut-requires-then-not-contains : goal.index_mut-requires-then-not-contains
index_mut-requires-then-not-contains c =
    let b = lane-below _ _ _ _ _ _ _ c.self.view_is c.requires.lane in
    let i : c.args.item < length c.self.inside.readers.items = omega (arith, ap (λ (v : Index). v.items) c.self.view_is) in
    let w = mul-add-lt c.args.item c.self.inside.lanes c.args.lane (length c.self.inside.readers.items) i b in
    omega (arith, w, c.self.invariant.wide, c.self.inside.positions.ok.0, c.cell.ensures)

pub lower_row-moved-requires : goal.lower_row-moved-requires
lower_row-moved-requires c u e =
    let b = lane-below _ _ _ _ _ _ _ c.self.view_is c.requires.lane in
    let i : c.args.item < length c.self.inside.writers.items = omega (arith, ap (λ (v : Index). v.items) c.self.view_is, c.self.invariant.same) in
    let l = below-lanes c.self.inside.lanes c.self.inside.writers.items c.index-then-not-contains-2.result.now c.without-writers.result c.args.item c.args.lane c.self.invariant.writing (get_or_read c.self.inside.writers.items c.args.item c.index-then-not-contains-2.result.now i c.index-then-not-contains-2.ensures 0) c.without-writers.ensures.lanes u e in
    let w = mul-add-lt c.args.lane c.self.inside.lanes u c.self.inside.lanes b l in
    omega (arith, w, c.cell-then-not-contains.ensures, c.self.invariant.square)

called : (c : goal.After-self-then-not-contains-3-1) → ReadCalled c.self.inside.lanes c.self.inside.readers.items c.self.inside.writers.items c.self.inside.positions.items c.self.inside.points.items c.deref_mut.result.now c.lower_row-moved.new.points c.index-then-not-contains.result.now c.index-then-not-contains-2.result.now c.with.result c.without-writers.result c.lower_row-moved.result c.args.lane c.args.position c.args.item c.cell.result c.cell-then-not-contains.result
called c =
    let i : c.args.item < length c.self.inside.readers.items = omega (arith, ap (λ (v : Index). v.items) c.self.view_is) in
    let b : c.args.lane < c.self.inside.lanes = lane-below _ _ _ _ _ _ _ c.self.view_is c.requires.lane in
    record {
      lane = b;
      within = i;
      fresh = sym (ap (λ m. has m c.args.lane) (get_or_read c.self.inside.readers.items c.args.item c.index.result.now i c.index.ensures 0 ∙ sym (get_or_read c.self.inside.readers.items c.args.item c.index-then-not-contains.result.now i c.index-then-not-contains.ensures 0))) ∙ sym c.contains.ensures ∙ c.if-not-contains.true;
      readers_are = get_or_read c.self.inside.readers.items c.args.item c.index-then-not-contains.result.now i c.index-then-not-contains.ensures 0;
      writers_are = get_or_read c.self.inside.writers.items c.args.item c.index-then-not-contains-2.result.now (omega (arith, i, c.self.invariant.same)) c.index-then-not-contains-2.ensures 0;
      mask_is = c.with.ensures;
      others_are = c.without-writers.ensures.lanes;
      place_is = c.cell.ensures;
      start_is = c.cell-then-not-contains.ensures;
      given_are = c.deref_mut.ensures.value;
      lowered = c.lower_row-moved.ensures;
    }

done : (c : goal.After-self-then-not-contains-3-1) → ReadDone c.self.inside.lanes (set c.self.inside.readers.items c.args.item c.with.result) c.self.inside.writers.items (set c.self.inside.positions.items c.cell.result c.args.position) c.lower_row-moved.new.points c.with_where-self-inside.result c.args.self.now c.args.lane c.args.position c.args.item
done c = read-done c.self.inside.lanes c.self.inside.readers.items c.self.inside.writers.items c.self.inside.positions.items c.self.inside.points.items c.deref_mut.result.now c.lower_row-moved.new.points c.index-then-not-contains.result.now c.index-then-not-contains-2.result.now c.with.result c.without-writers.result c.lower_row-moved.result c.args.lane c.args.position c.args.item c.cell.result c.cell-then-not-contains.result
    c.self.invariant (called c) c.self.inside.marks c.with_where-self-inside.result (not (c.lower_row-moved.result == 0)) c.args.self.now
    c.lower_row-moved.type_inv (is-some c.lower_row-moved.result) c.with_where-self-inside.ensures c.self.view_is

pub returns-then-not-contains-clause-lanes : goal.returns-then-not-contains-clause-lanes
returns-then-not-contains-clause-lanes c = (done c).lists

pub returns-then-not-contains-clause-marks : goal.returns-then-not-contains-clause-marks
returns-then-not-contains-clause-marks c = (done c).moved

pub returns-then-not-contains-clause-last : goal.returns-then-not-contains-clause-last
returns-then-not-contains-clause-last c = last-now c.args.self.now _ c.args.lane (c.args.position, c.args.item) (done c).lists c.requires.lane

pub invariant_of-self : goal.invariant_of-self
invariant_of-self c = rw (with_items_is c.self.inside.points c.lower_row-moved.new.points (omega (arith, c.lower_row-moved.ensures.long, c.self.inside.points.ok.0))) (done c).kept

again : (c : goal.Else-not-contains) → c.args.self.now.lanes ≡ lanes_with c.args.self.now c.args.lane (with_read (lane_at c.args.self.now c.args.lane) (c.args.position, c.args.item))
again c =
    let v = c.self.inside in
    let b = lane-below _ _ _ _ _ _ _ c.self.view_is c.requires.lane in
    let i : c.args.item < length v.readers.items = omega (arith, ap (λ (s : Index). s.items) c.self.view_is) in
    let there : has_item v.readers.items c.args.lane c.args.item ≡ true = sym (ap (λ m. has m c.args.lane) (get_or_read v.readers.items c.args.item c.index.result.now i c.index.ensures 0)) ∙ sym c.contains.ensures ∙ c.if-not-contains.false in
    let lists : lane_at c.args.self.now c.args.lane ≡ lane_of v.readers.items v.writers.items v.positions.items v.lanes c.args.lane = ap (λ (s : Index). lane_at s c.args.lane) (sym c.self.view_is) ∙ view-lane v.lanes v.readers.items v.writers.items v.positions.items v.marks c.args.lane b in
    let among : is_read (lane_at c.args.self.now c.args.lane).reads c.args.item ≡ true = ap (λ (l : Lane). is_read l.reads c.args.item) lists ∙ among-reads (has_item v.readers.items c.args.lane) (position_of v.positions.items v.lanes c.args.lane) c.args.item 0 (length v.readers.items) (omega arith) (omega (arith, i)) ∙ there in
    sym (ap (λ l. set c.args.self.now.lanes c.args.lane l) (read-again (lane_at c.args.self.now c.args.lane) (c.args.position, c.args.item) among) ∙ set-get_or c.args.self.now.lanes c.args.lane forgotten)

pub returns-else-not-contains-clause-lanes : goal.returns-else-not-contains-clause-lanes
returns-else-not-contains-clause-lanes c = again c

pub returns-else-not-contains-clause-last : goal.returns-else-not-contains-clause-last
returns-else-not-contains-clause-last c = last-now c.args.self.now c.args.self.now.lanes c.args.lane (c.args.position, c.args.item) (again c) c.requires.lane
