use Rattle.forest_model.proofs.AfterLaws.{goes_to_point, goes_to_last, goes_on_free, goes_on_undone}
use Rattle.forest_model.proofs.laws.reset.Goals as goal

pub returns : goal.returns
returns c = record {
  wanted = λ f g t v u r p h. goes_to_point f t u v r g h p;
  others = λ f g t v u r p h. goes_to_last f t u v r g h p;
  no_point = λ f g t v u r h. goes_on_free f t u v r g h;
  not_done = λ f g t v u r h. goes_on_undone f t u v r g h;
}
