use Rattle.turn_cell.specs.Passes.{seen_by}
use Rattle.shadow_worker.proofs.Listing.{items-longer}
use Rattle.session_tests.proofs.served.counted_session.Goals as goal

pub returns-clause-items : goal.returns-clause-items
returns-clause-items g c = items-longer (seen_by c.args.pass) (seen_by c.session.result.0) c.args.bench.now.items c.session.ensures.ran.seen_longer c.requires.items
