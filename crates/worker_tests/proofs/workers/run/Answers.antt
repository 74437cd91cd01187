use Rattle.shadow_worker.proofs.Listing.{fits-same}
use Rattle.worker_tests.proofs.workers.run.Goals as goal

pub returns : goal.returns
returns c = λ seen h. fits-same seen c.args.bench.now c.counted_run.new.bench c.counted_run.ensures.items c.counted_run.ensures.job h
