use Rattle.std.proofs.Common.{◌+◌, Some, arith}
use Rattle.conflict_index.specs.Index.{less_or}
use Rattle.conflict_index.proofs.Sweeps.{sweep-none, sweep-all, sweep-more, still-waits}
use Rattle.conflict_index.proofs.points.lower_row.Goals as goal

pub loop-left-init : goal.loop-left-init
loop-left-init c = record { part = λ writer e. e; done = sweep-none c.args.writers _ _ c.args.points.now }

pub loop-left-preserved : goal.loop-left-preserved
loop-left-preserved c =
    let k = c.first-writer.result in
    let waits = c.first-writer.ensures.member in
    let member = c.loop-left.invariant.part k waits in
    record {
      part = λ writer e. c.loop-left.invariant.part writer (still-waits c.loop-left.left c.without-left.result k c.without-left.ensures.lanes writer e);
      done = sweep-more c.args.writers c.loop-left.left c.without-left.result (λ writer. c.args.start + writer) (λ writer point. Some (less_or point c.args.position)) c.args.points.now c.loop-left.points c.lower-changed.new.points c.loop-left.moved c.with_where-moved.result k c.lower-changed.result
          c.loop-left.invariant.done (record {
            waits = waits;
            member = member;
            rest_is = c.without-left.ensures.lanes;
            apart = λ u e n q. n (omega arith);
            within = (let w = c.requires k member in let l = c.loop-left.invariant.done.long in omega arith);
            is = c.lower-changed.ensures.lowered;
            told = c.lower-changed.ensures.moved;
            after_is = c.with_where-moved.ensures;
          });
    }

pub returns : goal.returns
returns c = sweep-all c.args.writers c.loop-left.left _ _ c.args.points.now c.loop-left.points c.loop-left.moved c.loop-left-test.false c.loop-left.invariant.done
