use Rattle.forest_model.proofs.GateLaws.{gate-commits, gate-steps, gate-leaves, gate-without_pick, gate-sound, first-accepted, pick-acts}
use Rattle.forest_model.proofs.laws.gating.Goals as goal

pub returns : goal.returns
returns c = record {
  commits = gate-commits;
  accepted = first-accepted;
  steps = gate-steps;
  acts = pick-acts;
  leaves_local = gate-leaves;
  without_pick = gate-without_pick;
  sound = gate-sound;
}
