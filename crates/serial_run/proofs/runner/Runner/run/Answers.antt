use Rattle.std.proofs.Common.{◌≡◌, ◌∙◌, sym, ap, length, arith}
use Rattle.serial_run.specs.Ran.{Ran, effect_if, is_done}
use Rattle.serial_run.proofs.Steps.{at-length, effect-kept, few-emits}
use Rattle.serial_run.proofs.runner.Runner.run.Goals as goal

pub outcome-outcome-requires-clause-room : goal.outcome-outcome-requires-clause-room
outcome-outcome-requires-clause-room g c =
    let body = c.args.program.now in
    let tables = c.args.tables.now in
    let items : length tables ≡ c.self.inside.state.log.room = sym c.requires.items ∙ sym (ap (λ (r : Ran). r.items) c.self.view_is) in
    let fresh = c.reset.ensures.over body tables c.in_ok-code.ensures.nodes c.body.ensures.limits items in
    let over = c.run_out.ensures.out.same body fresh in
    let few = few-emits c.in_ok-code.code.nodes body tables c.run_out.new.state over in
    let most = c.emits_max.ensures.exact in
    let room = c.in_ok-room.ensures in
    omega (arith, few, most, room)

pub returns-clause-effect : goal.returns-clause-effect
returns-clause-effect g c =
    let body = c.args.program.now in
    let tables = c.args.tables.now in
    let items : length tables ≡ c.self.inside.state.log.room = sym c.requires.items ∙ sym (ap (λ (r : Ran). r.items) c.self.view_is) in
    let fresh = c.reset.ensures.over body tables c.in_ok-code.ensures.nodes c.body.ensures.limits items in
    let over = c.run_out.ensures.out.same body fresh in
    let kept = effect-kept c.in_ok-code.code.nodes body tables c.run_out.new.state over c.run_out.ensures.out.done in
    let is = c.outcome-outcome.ensures c.in_ok-code.code.nodes body tables over in
    ap (λ b. effect_if b c.run_out.new.state.writes) (c.is_done-self-inside.ensures ∙ ap is_done is) ∙ kept

pub returns-clause-steps : goal.returns-clause-steps
returns-clause-steps g c =
    let body = c.args.program.now in
    let tables = c.args.tables.now in
    let items : length tables ≡ c.self.inside.state.log.room = sym c.requires.items ∙ sym (ap (λ (r : Ran). r.items) c.self.view_is) in
    let fresh = c.reset.ensures.over body tables c.in_ok-code.ensures.nodes c.body.ensures.limits items in
    let over = c.run_out.ensures.out.same body fresh in
    let short = c.run_out.ensures.out.short body fresh (let at = c.reset.ensures.position in omega (arith, at)) in
    let at = at-length c.in_ok-code.code.nodes body tables c.run_out.new.state over c.run_out.ensures.out.done short in
    let from = c.reset.ensures.position in
    let ticks = c.run_out.ensures.ticks in
    omega (arith, at, from, ticks)
