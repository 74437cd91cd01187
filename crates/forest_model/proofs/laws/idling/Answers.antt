use Rattle.forest_model.proofs.PickLaws.{pick-accepted}
use Rattle.forest_model.proofs.WorkLaws.{step-lowers}
use Rattle.forest_model.proofs.HomeLaws.{step-home, recall-home}
use Rattle.forest_model.proofs.IdleLaws.{run_idle-is, run_idle-idle, run_idle-unrolled, run_idle-fits}
use Rattle.forest_model.proofs.RunEvents.{idle-events}
use Rattle.forest_model.proofs.laws.idling.Goals as goal

pub returns : goal.returns
returns c = record {
  accepted = pick-accepted;
  lowers = step-lowers;
  home = step-home;
  recalled = recall-home;
  unrolled = run_idle-unrolled;
  sound = λ f h. (run_idle-is f h).sound;
  idle = run_idle-idle;
  bounded = λ f h. (run_idle-is f h).few;
  events = idle-events;
  fits = run_idle-fits;
}
