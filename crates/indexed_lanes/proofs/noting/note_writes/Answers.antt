use Rattle.std.proofs.Common.{ap, length-set, ◌∙◌, ◌≤◌, length, arith}
use Rattle.access_sets.specs.Entries.{entries}
use Rattle.conflict_index.specs.Index.{lane_at}
use Rattle.indexed_lanes.proofs.Adding.{write_below, writes_more, writes_all}
use Rattle.indexed_lanes.proofs.Marks.{both_unmoved}
use Rattle.indexed_lanes.proofs.noting.note_writes.Goals as goal

pub note_write-requires-clause-item : goal.note_write-requires-clause-item
note_write-requires-clause-item c =
    let lt = write_below c.args.writes.now c.loop-i.i c.nth-item.result c.nth-item.ensures in
    rw (c.loop-i.invariant.items, ← c.requires.room) lt

pub loop-i-preserved : goal.loop-i-preserved
loop-i-preserved c = record {
  items = c.note_write.ensures.items ∙ c.loop-i.invariant.items;
  marks = c.note_write.ensures.marks ∙ c.loop-i.invariant.marks;
  unmoved = both_unmoved c.args.index.now c.loop-i.index c.note_write.new.self (ap length c.loop-i.invariant.lanes ∙ length-set _ c.args.place _) c.loop-i.invariant.unmoved c.note_write.ensures.unmoved;
  lanes = c.note_write.ensures.lanes ∙ writes_more c.args.index.now c.loop-i.index c.args.place (lane_at c.args.index.now c.args.place).reads c.args.writes.now c.loop-i.i c.nth-item.result c.requires.place c.nth-item.ensures c.loop-i.invariant.lanes;
}

pub returns-clause-lanes : goal.returns-clause-lanes
returns-clause-lanes c =
    let past : length (entries 0 c.args.writes.now) ≤ c.loop-i.i = omega (arith, c.loop-i-test.false, c.len-i-end.ensures.len) in
    writes_all c.args.index.now c.loop-i.index c.args.place (lane_at c.args.index.now c.args.place).reads c.args.writes.now c.loop-i.i past c.loop-i.invariant.lanes
