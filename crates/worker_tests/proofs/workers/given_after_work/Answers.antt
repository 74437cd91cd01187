use Rattle.shadow_forest.specs.Listed.{listed}
use Rattle.shadow_worker.proofs.Listing.{fits-longer}
use Rattle.worker_tests.proofs.workers.given_after_work.Goals as goal

pub give-given-requires : goal.give-given-requires
give-given-requires g c = fits-longer (listed c.args.forest) (listed c.in_ok-forest.forest) c.args.bench.now c.in_ok-forest.ensures c.requires
