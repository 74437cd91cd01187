use Rattle.shadow_forest.specs.Listed.{listed}
use Rattle.worker_tests.proofs.tests.a_turn_takes_the_pick_and_the_next_gives_it_back_and_commits.Goals as goal

pub turn-none-requires : goal.turn-none-requires
turn-none-requires g c = c.run.ensures (listed c.turn-job.new.forest) c.turn-job.ensures
