use Rattle.std.proofs.Common.{◌+◌, ap, ◌∙◌}
use Rattle.shadow_forest.proofs.Idling.{pick-ticks}
use Rattle.shadow_forest.proofs.forest.Forest.step_gated.Goals as goal

pub returns-clause-ticks : goal.returns-clause-ticks
returns-clause-ticks g c = c.step.ensures.ticks ∙ ap (λ n. c.args.steps.now + n) (pick-ticks c.args.self.now.numbers c.args.row c.requires.sound c.requires.pick)
