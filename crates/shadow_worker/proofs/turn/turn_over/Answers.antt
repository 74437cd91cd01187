use Rattle.shadow_worker.proofs.Fitting.{fits-job, fits-after, nobody-taken}
use Rattle.shadow_worker.proofs.turn.turn_over.Goals as goal

pub one_turn-job-requires-clause-job : goal.one_turn-job-requires-clause-job
one_turn-job-requires-clause-job g c = fits-job c.args.forest.now c.args.bench.now c.requires.fits

pub returns-then-has_ended-clause-fits : goal.returns-then-has_ended-clause-fits
returns-then-has_ended-clause-fits g c =
    let e = c.one_turn-job.ensures in
    fits-after c.args.forest.now c.one_turn-job.new.forest c.args.bench.now c.one_turn-job.new.bench c.requires.fits e.grown e.room e.runs e.live

pub returns-then-has_ended-clause-ended : goal.returns-then-has_ended-clause-ended
returns-then-has_ended-clause-ended g c = λ e.
    let h = c.has_ended.ensures.0 c.if-has_ended.true in
    (h, nobody-taken c.one_turn-job.new.forest.numbers.journal c.one_turn-job.new.bench.outside c.one_turn-job.ensures.live h)

pub returns-then-is_some-clause-fits : goal.returns-then-is_some-clause-fits
returns-then-is_some-clause-fits g c =
    let e = c.one_turn-job.ensures in
    fits-after c.args.forest.now c.one_turn-job.new.forest c.args.bench.now c.one_turn-job.new.bench c.requires.fits e.grown e.room e.runs e.live
