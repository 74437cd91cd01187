use Rattle.std.proofs.Common.{◌≡◌, true}
use Rattle.std.specs.Prelude.{is_some}
use Rattle.worker_tests.proofs.Fitting.{fits-told}
use Rattle.worker_tests.proofs.workers.give.Goals as goal

pub give-requires-clause-job : goal.give-requires-clause-job
give-requires-clause-job c =
    let some : is_some c.job.result ≡ true = cc (c.is_some.ensures, c.if-is_some.true) in
    fits-told c.args.forest.now c.args.bench.now c.job.result c.requires c.job.ensures.job some
