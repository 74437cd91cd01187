use Rattle.forest_model.proofs.AfterLaws.{resumed-stands, others-stand}
use Rattle.forest_model.proofs.KeepLaws.{withdraw-stands}
use Rattle.forest_model.proofs.laws.resuming.Goals as goal

pub returns : goal.returns
returns c = record { back = resumed-stands; on = others-stand; withdraws = withdraw-stands }
