use Rattle.std.proofs.Common.{◌+◌, ◌*◌, None, arith}
use Rattle.std.proofs.lemmas.Nat.{same_from_place}
use Rattle.conflict_index.proofs.Sweeps.{no-lane, next-lane, cell-within}
use Rattle.conflict_index.proofs.points.empty_column.Goals as goal

pub loop-reader-init : goal.loop-reader-init
loop-reader-init c = no-lane _ _ c.args.points.now

pub empty-changed-requires : goal.empty-changed-requires
empty-changed-requires c =
    let w = cell-within c.loop-reader.reader c.args.writer c.args.lanes c.loop-reader-test.true c.requires.writer in
    omega (arith, w, c.cell.ensures, c.requires.square, c.loop-reader.invariant.long)

pub loop-reader-preserved : goal.loop-reader-preserved
loop-reader-preserved c =
    next-lane c.loop-reader.reader (λ lane. lane * c.args.lanes + c.args.writer) (λ lane point. None) c.args.points.now c.loop-reader.points c.empty-changed.new.points c.loop-reader.moved c.with_where-moved.result c.empty-changed.result c.loop-reader.invariant (record {
      apart = λ u e q. (let n = (same_from_place u c.args.writer c.loop-reader.reader c.args.writer c.args.lanes c.requires.writer c.requires.writer q).0 in omega (arith, n, e));
      within = (let w = cell-within c.loop-reader.reader c.args.writer c.args.lanes c.loop-reader-test.true c.requires.writer in omega (arith, w, c.requires.square, c.loop-reader.invariant.long));
      is = rw (← c.cell.ensures) c.empty-changed.ensures.emptied;
      told = rw (← c.cell.ensures) c.empty-changed.ensures.moved;
      after_is = c.with_where-moved.ensures;
    })
