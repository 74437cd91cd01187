use Rattle.txn_runs.specs.Serial.{effect_of}
use Rattle.forest_model.specs.Forest.{program}
use Rattle.forest_model.proofs.PointLaws.{after-survives}
use Rattle.forest_model.proofs.ResetLaws.{cut-done, cut-undone}
use Rattle.forest_model.proofs.laws.survival.Goals as goal

pub returns : goal.returns
returns c = record {
  survivors = λ f u r q le h. after-survives (program f r) f.tables r.position q (effect_of (program f u) f.tables) le h;
  cut = cut-done;
  no_cut = cut-undone;
}
