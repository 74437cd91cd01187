use Rattle.std.proofs.Common.{length, ap, ◌∙◌}
use Rattle.worker_tests.proofs.Fitting.{fits-opened}
use Rattle.worker_tests.proofs.workers.bench_for.Goals as goal

pub returns : goal.returns
returns c = fits-opened c.args.forest.now c.len.result c.open-bench.result (c.len.ensures.len ∙ ap length c.table.ensures) c.journal.ensures.items c.open-bench.ensures
