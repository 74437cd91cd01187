use Rattle.std.proofs.Common.{◌≡◌, ◌∙◌, sym, ap, length, false}
use Rattle.txn_runs.specs.Serial.{over}
use Rattle.txn_runs.proofs.Ending.{over_nothing}
use Rattle.serial_run.specs.Ran.{Ran, effect_if}
use Rattle.serial_run.proofs.runner.Runner.lay_over.Goals as goal

pub returns-else-self : goal.returns-else-self
returns-else-self c =
    let is : c.args.self.now.effect ≡ effect_if false c.self.inside.state.writes = sym (ap (λ (r : Ran). r.effect) c.self.view_is) ∙ ap (λ b. effect_if b c.self.inside.state.writes) c.if-self.false in
    sym (ap (λ e. over e c.args.tables.now) is ∙ over_nothing (length c.self.inside.state.writes) c.args.tables.now)
