use Rattle.shadow_forest.proofs.Slots.{slot-here, slot-later}
use Rattle.std.proofs.Common.{sym}
use Rattle.shadow_forest.proofs.forest.slot_for.Goals as goal

pub returns-then-conflicts-i : goal.returns-then-conflicts-i
returns-then-conflicts-i c = sym (slot-here c.args.conflicts.now c.loop-i.i c.args.guard c.loop-i.invariant c.loop-i-test.true c.if-conflicts-i.true)

pub loop-i-preserved : goal.loop-i-preserved
loop-i-preserved c = slot-later c.args.conflicts.now c.loop-i.i c.args.guard c.loop-i.invariant c.loop-i-test.true c.if-conflicts-i.false
