use Rattle.std.proofs.Common.{ℕ, ℤ, pos, arith, ◌∙◌, length, length-set}
use Rattle.access_sets.proofs.ReadPlaces.{placed_more, item_below}
use Rattle.access_sets.proofs.read_log.place_reads.Goals as goal

pub bounds-places-reads : goal.bounds-places-reads
bounds-places-reads c =
    let below = item_below (length c.args.places.now) c.args.reads.now c.loop-i.i (0, 0, pos 0) c.requires.below c.loop-i-test.true in
    omega (arith, below, c.loop-i.invariant.0)

pub loop-i-preserved : goal.loop-i-preserved
loop-i-preserved c =
    let d : ℕ × ℕ × ℤ = (0, 0, pos 0) in
    let below = item_below (length c.args.places.now) c.args.reads.now c.loop-i.i d c.requires.below c.loop-i-test.true in
    (length-set c.loop-i.places _ _ ∙ c.loop-i.invariant.0, placed_more c.loop-i.places c.args.reads.now c.loop-i.i d c.requires.in_order c.loop-i-test.true (omega (arith, below, c.loop-i.invariant.0)) c.loop-i.invariant.1)
