use Rattle.forest_model.specs.Jobs.{recall}
use Rattle.forest_model.specs.Drain.{left}
use Rattle.forest_model.proofs.StepLaws.{recall-sound}
use Rattle.forest_model.proofs.DrainLaws.{drain_within-is, drain-empty, drain-unrolled}
use Rattle.forest_model.proofs.UntilLaws.{until-unrolled, until-stops, until-rest}
use Rattle.forest_model.proofs.RunEvents.{drain-events}
use Rattle.forest_model.proofs.laws.draining.Goals as goal

pub returns : goal.returns
returns c = record {
  unrolled = drain-unrolled;
  sound = λ f h. (drain_within-is (left (recall f)) (recall f) (recall-sound f h)).sound;
  events = drain-events;
  empty = drain-empty;
  until = until-unrolled;
  stops = until-stops;
  goes_on = until-rest;
}
