use Rattle.forest_model.proofs.LongerLaws.{begin-grown, seal-grown, step-grown, commit-grown, withdraw-grown, take-grown, give-grown, recall-grown, event-longer, events-longer, run-grown, gate_step-longer, drain_step-longer, drain-longer}
use Rattle.forest_model.proofs.laws.growing.Goals as goal

pub returns : goal.returns
returns c = record {
  begins = begin-grown;
  seals = seal-grown;
  steps = step-grown;
  commits = commit-grown;
  withdraws = withdraw-grown;
  takes = take-grown;
  gives = give-grown;
  recalls = recall-grown;
  event = event-longer;
  events = events-longer;
  runs = run-grown;
  gates = gate_step-longer;
  drain_steps = drain_step-longer;
  drains = drain-longer;
}
