use Rattle.std.proofs.Common.{◌≡◌, length, ap, sym, ◌∙◌, arith}
use Rattle.shadow_lanes.specs.Seats.{conflicts_of, slots_of}
use Rattle.shadow_forest.specs.Bench.{takes}
use Rattle.shadow_forest.proofs.Elements.{placed, mapped-is}
use Rattle.shadow_forest.proofs.Slots.{slot-found, slots-many}
use Rattle.shadow_forest.proofs.FirstPlaces.{first-here, first-later}
use Rattle.shadow_forest.proofs.giving.slot_out.Goals as goal

pub returns-then-takes : goal.returns-then-takes
returns-then-takes c = λ r there.
    let many : length c.conflicts.result.now ≡ length (conflicts_of r) = ap length (mapped-is conflicts_of _ r _ c.conflicts.ensures there) in
    let x = placed (slots_of r) c.loop-slot.slot (omega (arith, slots-many r, many)) in
    let found = slot-found c.args.lanes.now.seats c.args.place c.loop-slot.slot r x.0 there x.1 in
    first-here (takes c.args.from c.args.state.now.log.reads) (slots_of r) c.loop-slot.slot x.0 (c.loop-slot.invariant r there) x.1 (sym (c.takes.ensures x.0 found) ∙ c.if-takes.true)

pub loop-slot-preserved : goal.loop-slot-preserved
loop-slot-preserved c = λ r there.
    let many : length c.conflicts.result.now ≡ length (conflicts_of r) = ap length (mapped-is conflicts_of _ r _ c.conflicts.ensures there) in
    let x = placed (slots_of r) c.loop-slot.slot (omega (arith, slots-many r, many)) in
    let found = slot-found c.args.lanes.now.seats c.args.place c.loop-slot.slot r x.0 there x.1 in
    first-later (takes c.args.from c.args.state.now.log.reads) (slots_of r) c.loop-slot.slot x.0 (c.loop-slot.invariant r there) x.1 (sym (c.takes.ensures x.0 found) ∙ c.if-takes.false)
