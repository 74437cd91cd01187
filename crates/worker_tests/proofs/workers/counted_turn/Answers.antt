use Rattle.shadow_worker.proofs.Fitting.{fits-job, fits-after}
use Rattle.worker_tests.proofs.workers.counted_turn.Goals as goal

pub one_turn-requires-clause-job : goal.one_turn-requires-clause-job
one_turn-requires-clause-job g c = fits-job c.args.forest.now c.args.bench.now c.requires.fits

pub returns : goal.returns
returns g c =
    let e = c.one_turn.ensures in
    fits-after c.args.forest.now c.one_turn.new.forest c.args.bench.now c.one_turn.new.bench c.requires.fits e.grown e.room e.runs e.live
