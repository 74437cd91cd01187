use Rattle.std.proofs.Common.{[], ◌∷◌, ◌++◌, option_to_list, ap, sym, ◌∙◌}
use Rattle.forest_model.specs.Choose.{first_by}
use Rattle.forest_model.specs.Pick.{is_earlier}
use Rattle.ready_order.proofs.Picks.{picks-ready}
use Rattle.shadow_forest.proofs.picking.better.Goals as goal

pub returns-then-is_ready : goal.returns-then-is_ready
returns-then-is_ready c = λ before e.
    c.earlier.ensures
    ∙ ap (λ o. first_by is_earlier (option_to_list o ++ c.args.row ∷ [])) e
    ∙ sym (picks-ready before c.args.row (sym c.is_ready.ensures ∙ c.if-is_ready.true))
