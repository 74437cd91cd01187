use Rattle.std.proofs.lemmas.Option.{slice_get-get_or}
use Rattle.shadow_lanes.proofs.Finds.{left_next, left_at, left_none}
use Rattle.shadow_lanes.proofs.seat.KeptSeat.guard_slot.Goals as goal

pub returns-then-conflicts-i-clause-slot : goal.returns-then-conflicts-i-clause-slot
returns-then-conflicts-i-clause-slot c =
    rw (← c.conflicts-conflicts.ensures.conflicts) (λ slots lt. left_at _ _ slots _ _ (slice_get-get_or _ c.loop-i.i (0, 0) c.loop-i-test.true) c.if-conflicts-i.true lt (c.loop-i.invariant slots lt))

pub loop-i-preserved : goal.loop-i-preserved
loop-i-preserved c = λ slots lt. left_next _ _ slots _ _ (slice_get-get_or _ c.loop-i.i (0, 0) c.loop-i-test.true) c.if-conflicts-i.false lt (c.loop-i.invariant slots lt)

pub returns-clause-slot : goal.returns-clause-slot
returns-clause-slot c = rw (← c.conflicts-conflicts.ensures.conflicts) (λ slots lt. left_none _ _ slots c.loop-i.i c.loop-i-test.false lt (c.loop-i.invariant slots lt))
