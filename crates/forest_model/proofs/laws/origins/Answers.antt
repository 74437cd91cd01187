use Rattle.forest_model.proofs.OriginLaws.{kept-found, copy-position, heir-furthest_survivor, sound-apart, apart-cut, all-settled-from, resumed-from}
use Rattle.forest_model.proofs.laws.origins.Goals as goal

pub returns : goal.returns
returns c = record { kept = kept-found; copies = copy-position; heirs = heir-furthest_survivor; apart = sound-apart; cut_apart = apart-cut; settles = all-settled-from; resumes = resumed-from }
