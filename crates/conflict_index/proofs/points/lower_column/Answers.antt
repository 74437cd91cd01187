use Rattle.std.proofs.Common.{◌+◌, ◌*◌, Some, slice_index_or, arith}
use Rattle.std.proofs.lemmas.Nat.{same_from_place}
use Rattle.conflict_index.specs.Index.{less_or}
use Rattle.conflict_index.proofs.Sweeps.{sweep-none, sweep-all, sweep-more, still-waits, cell-within}
use Rattle.conflict_index.proofs.points.lower_column.Goals as goal

pub loop-left-init : goal.loop-left-init
loop-left-init c = record { part = λ reader e. e; done = sweep-none c.args.readers _ _ c.args.points.now }

pub loop-left-preserved : goal.loop-left-preserved
loop-left-preserved c =
    let k = c.first-reader.result in
    let waits = c.first-reader.ensures.member in
    let member = c.loop-left.invariant.part k waits in
    let below = c.requires.readers in
    let l = c.loop-left.invariant.done.long in
    record {
      part = λ reader e. c.loop-left.invariant.part reader (still-waits c.loop-left.left c.without-left.result k c.without-left.ensures.lanes reader e);
      done = sweep-more c.args.readers c.loop-left.left c.without-left.result (λ reader. reader * c.args.lanes + c.args.writer) (λ reader point. Some (less_or point (slice_index_or c.args.positions.now reader 0))) c.args.points.now c.loop-left.points c.lower-changed.new.points c.loop-left.moved c.with_where-moved.result k c.lower-changed.result
          c.loop-left.invariant.done (record {
            waits = waits;
            member = member;
            rest_is = c.without-left.ensures.lanes;
            apart = λ u e n q. n (same_from_place u c.args.writer k c.args.writer c.args.lanes c.requires.writer c.requires.writer q).0;
            within = (let w = cell-within k c.args.writer c.args.lanes (below k member) c.requires.writer in omega (arith, w, l, c.requires.square));
            is = rw (← c.cell.ensures) c.lower-changed.ensures.lowered;
            told = rw (← c.cell.ensures) c.lower-changed.ensures.moved;
            after_is = c.with_where-moved.ensures;
          });
    }

pub returns : goal.returns
returns c = sweep-all c.args.readers c.loop-left.left _ _ c.args.points.now c.loop-left.points c.loop-left.moved c.loop-left-test.false c.loop-left.invariant.done

pub lower-changed-requires : goal.lower-changed-requires
lower-changed-requires c =
    let r = c.requires.readers c.first-reader.result (c.loop-left.invariant.part c.first-reader.result c.first-reader.ensures.member) in
    let w = cell-within c.first-reader.result c.args.writer c.args.lanes r c.requires.writer in
    let l = c.loop-left.invariant.done.long in
    omega (arith, w, l, c.cell.ensures, c.requires.square)
