use Rattle.forest_model.proofs.WorldLaws.{happens-fit, all_happen-fit, opened-fit}
use Rattle.forest_model.proofs.StoreLaws.{stored-lands, stored-lists}
use Rattle.forest_model.specs.World.{opened}
use Rattle.forest_model.proofs.laws.jobs.Goals as goal

pub returns : goal.returns
returns c = record {
  event = happens-fit;
  events = λ w events h. all_happen-fit events w h;
  from_start = λ tables k lanes events. all_happen-fit events (opened tables k lanes) (opened-fit tables k lanes);
  lands = stored-lands;
  leaves = stored-lists;
}
