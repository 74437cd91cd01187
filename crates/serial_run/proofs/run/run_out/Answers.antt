use Rattle.std.proofs.Common.{◌≡◌, ◌∙◌, sym, ap, false, arith}
use Rattle.serial_run.proofs.Steps.{few-steps, goes-below, locals-below}
use Rattle.serial_run.proofs.run.run_out.Goals as goal

pub turns-smaller : goal.turns-smaller
turns-smaller g c =
    let goes : c.run_local.new.self.done ≡ false = sym c.ended.ensures.done ∙ c.if-ended.false in
    let few = few-steps c.args.code.now.nodes c.run_local.new.self c.run_local.ensures.runs goes in
    let made = c.run_local.ensures.made in
    let step = c.step.ensures.step.position in
    omega (arith, few, made, step)

pub turns-preserved : goal.turns-preserved
turns-preserved g c =
    let goes : c.run_local.new.self.done ≡ false = sym c.ended.ensures.done ∙ c.if-ended.false in
    let made = c.run_local.ensures.made in
    let step = c.step.ensures.step.position in
    let ran = c.run_local.ensures.ticks in
    let ticked = c.step.ensures.tick in
    let kept = c.turns.invariant.ticks in
    let room = ap (λ l. l.room) c.run_local.ensures.log in
    record {
      runs = c.step.ensures.runs;
      room = c.step.ensures.step.room ∙ room ∙ c.turns.invariant.room;
      same = λ body over. c.step.ensures.step.same body (c.run_local.ensures.same body c.args.tables.now (c.turns.invariant.same body over));
      short = λ body over within.
          let here = c.turns.invariant.same body over in
          let now = c.run_local.ensures.same body c.args.tables.now here in
          let below = goes-below body c.args.tables.now c.run_local.new.self.position (sym now.done ∙ goes) in
          omega (arith, below, step);
      ticks = omega (arith, made, step, ran, ticked, kept);
    }

pub returns-then-ended-clause-out : goal.returns-then-ended-clause-out
returns-then-ended-clause-out g c =
    let made = c.run_local.ensures.made in
    let room = ap (λ l. l.room) c.run_local.ensures.log in
    record {
      done = sym c.ended.ensures.done ∙ c.if-ended.true;
      room = room ∙ c.turns.invariant.room;
      same = λ body over. c.run_local.ensures.same body c.args.tables.now (c.turns.invariant.same body over);
      short = λ body over within.
          let here = c.turns.invariant.same body over in
          let to = locals-below body c.args.tables.now c.turns.state.position c.run_local.result (c.turns.invariant.short body over within) (λ n lt. c.run_local.ensures.local body c.args.tables.now n here lt) in
          omega (arith, made, to);
    }
