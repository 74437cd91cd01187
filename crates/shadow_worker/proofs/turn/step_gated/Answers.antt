use Rattle.std.proofs.Common.{length, ap, sym, ◌∙◌, subst}
use Rattle.shadow_forest.specs.View.{View}
use Rattle.shadow_forest.specs.Listed.{listed}
use Rattle.shadow_worker.specs.Worked.{IsAtMostCommitted}
use Rattle.shadow_worker.proofs.Turning.{gate-list, gate-size}
use Rattle.shadow_worker.proofs.turn.step_gated.Goals as goal

pub returns-clause-grown : goal.returns-clause-grown
returns-clause-grown g c =
    subst (λ (w : View). IsAtMostCommitted (listed c.args.forest.now) (listed w)) (sym c.gate_step.ensures.next) (gate-list c.args.forest.now c.journal.ensures.sound)

pub returns-clause-size : goal.returns-clause-size
returns-clause-size g c = ap (λ (w : View). length w.numbers.tables) c.gate_step.ensures.next ∙ gate-size c.args.forest.now c.journal.ensures.sound
