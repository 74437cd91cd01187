use Rattle.std.proofs.Common.{ap, length, length-set, ◌∙◌}
use Rattle.indexed_lanes.proofs.Adding.{read_below, reads_more}
use Rattle.indexed_lanes.proofs.Marks.{both_unmoved}
use Rattle.indexed_lanes.proofs.noting.note_reads.Goals as goal

pub note_read-requires-clause-item : goal.note_read-requires-clause-item
note_read-requires-clause-item c =
    let lt = read_below c.args.log.now.room c.args.log.now.reads c.loop-i.i c.nth-position.result c.len-i-end.ensures.below c.nth-position.ensures in
    rw (c.loop-i.invariant.items, ← c.requires.room) lt

pub loop-i-preserved : goal.loop-i-preserved
loop-i-preserved c = record {
  items = c.note_read.ensures.items ∙ c.loop-i.invariant.items;
  marks = c.note_read.ensures.marks ∙ c.loop-i.invariant.marks;
  unmoved = both_unmoved c.args.index.now c.loop-i.index c.note_read.new.self (ap length c.loop-i.invariant.lanes ∙ length-set _ c.args.place _) c.loop-i.invariant.unmoved c.note_read.ensures.unmoved;
  lanes = c.note_read.ensures.lanes ∙ reads_more c.args.index.now c.loop-i.index c.args.place c.args.log.now.reads c.loop-i.i c.nth-position.result c.requires.place c.len-i-end.ensures.in_order c.nth-position.ensures c.loop-i.invariant.lanes;
}
