use Rattle.conflict_table.proofs.Hits.{least-point, none-written}
use Rattle.conflict_table.proofs.point.Goals as goal

pub returns-clause-point : goal.returns-clause-point
returns-clause-point c = least-point c.args.reads.now.reads c.args.writes.now c.first_in.result c.first_in.ensures.least

pub returns-clause-none : goal.returns-clause-none
returns-clause-none c =
    let is = least-point c.args.reads.now.reads c.args.writes.now c.first_in.result c.first_in.ensures.least in
    rw is (none-written c.args.reads.now.reads c.args.writes.now)
