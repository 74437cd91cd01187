use Rattle.std.proofs.Common.{◌+◌, ◌*◌, None, arith}
use Rattle.std.proofs.lemmas.Nat.{same_from_place}
use Rattle.conflict_index.proofs.Sweeps.{no-lane, next-lane, cell-within}
use Rattle.conflict_index.proofs.points.empty_row.Goals as goal

pub loop-writer-init : goal.loop-writer-init
loop-writer-init c = no-lane _ _ c.args.points.now

pub empty-changed-requires : goal.empty-changed-requires
empty-changed-requires c =
    let w = cell-within c.args.reader c.loop-writer.writer c.args.lanes c.requires.reader c.loop-writer-test.true in
    omega (arith, w, c.cell.ensures, c.requires.square, c.loop-writer.invariant.long)

pub loop-writer-preserved : goal.loop-writer-preserved
loop-writer-preserved c =
    next-lane c.loop-writer.writer (λ lane. c.args.reader * c.args.lanes + lane) (λ lane point. None) c.args.points.now c.loop-writer.points c.empty-changed.new.points c.loop-writer.moved c.with_where-moved.result c.empty-changed.result c.loop-writer.invariant (record {
      apart = λ u e q. (let n = (same_from_place c.args.reader u c.args.reader c.loop-writer.writer c.args.lanes (omega (arith, e)) c.loop-writer-test.true q).1 in omega (arith, n, e));
      within = (let w = cell-within c.args.reader c.loop-writer.writer c.args.lanes c.requires.reader c.loop-writer-test.true in omega (arith, w, c.requires.square, c.loop-writer.invariant.long));
      is = rw (← c.cell.ensures) c.empty-changed.ensures.emptied;
      told = rw (← c.cell.ensures) c.empty-changed.ensures.moved;
      after_is = c.with_where-moved.ensures;
    })
