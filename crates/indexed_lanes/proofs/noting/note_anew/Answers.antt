use Rattle.std.proofs.Common.{ap, length, length-set, ◌∙◌}
use Rattle.indexed_lanes.specs.Placed.{AreUnmoved}
use Rattle.indexed_lanes.proofs.Adding.{noted_anew}
use Rattle.indexed_lanes.proofs.Marks.{both_unmoved, anew_gone}
use Rattle.indexed_lanes.proofs.noting.note_anew.Goals as goal

pub returns-clause-lanes : goal.returns-clause-lanes
returns-clause-lanes c =
    let reads = rw c.reads.ensures at c.note_reads.ensures.lanes in
    let writes = rw c.writes.ensures.set at c.note_writes.ensures.lanes in
    noted_anew c.args.index.now c.forget.new.self c.note_reads.new.index c.note_writes.new.index c.args.place c.args.state.now.log.reads c.args.state.now.writes c.requires.place c.forget.ensures.lanes reads writes

-- what was noted since it was forgotten
since : (c : goal.After-note_writes) → AreUnmoved c.forget.new.self c.note_writes.new.index
since c = both_unmoved c.forget.new.self c.note_reads.new.index c.note_writes.new.index (ap length c.note_reads.ensures.lanes ∙ length-set _ c.args.place _) c.note_reads.ensures.unmoved c.note_writes.ensures.unmoved

pub returns-clause-unmoved : goal.returns-clause-unmoved
returns-clause-unmoved c = both_unmoved c.args.index.now c.forget.new.self c.note_writes.new.index (ap length c.forget.ensures.lanes ∙ length-set _ c.args.place _) c.forget.ensures.unmoved (since c)

pub returns-clause-gone : goal.returns-clause-gone
returns-clause-gone c = anew_gone c.args.index.now c.forget.new.self c.note_writes.new.index c.args.place c.requires.place c.forget.ensures.lanes c.forget.ensures.unmoved (since c)
