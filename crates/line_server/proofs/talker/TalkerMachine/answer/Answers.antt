use Rattle.std.proofs.Common.{◌∙◌, ◌++◌, refl, sym, ap, subst}
use Rattle.line_loop.specs.declared.flow.Flow.TheVariants.{GoOn}
use Rattle.line_server.specs.Stands.{Stand, stand, Answers}
use Rattle.line_server.specs.Wishes.{wish_at}
use Rattle.line_server.proofs.Talking.{same-session}
use Rattle.line_server.proofs.Answered.{command-short, spoke, passed, failed, same-pass, on_err}
use Rattle.line_server.proofs.talker.TalkerMachine.answer.Goals as goal

pub returns-then-is_blank-clause-answers : goal.returns-then-is_blank-clause-answers
returns-then-is_blank-clause-answers g c =
    let old : Stand = stand c.args.self.now.names.now c.args.self.now.help c.args.self.now.pass in
    let read = command-short c.args.line.now c.requires.short ∙ sym c.read_command-command.ensures.command in (
      subst (λ out. Answers old c.args.line.now GoOn out old) (sym c.requires.empty)
          (passed old c.args.line.now c.read_command-command.result read (sym c.is_blank.ensures ∙ c.if-is_blank.true)),
      same-session old,
      (refl, refl),
    )

pub returns-in_err-take_turn-clause-fails : goal.returns-in_err-take_turn-clause-fails
returns-in_err-take_turn-clause-fails g c =
    let read = command-short c.args.line.now c.requires.short ∙ sym c.read_command-command.ensures.command in
    let part = c.take_turn.ensures.part in
    on_err c.from_residual-in_err-take_turn.result (
      failed (stand c.args.self.now.names.now c.args.self.now.help c.args.self.now.pass) (stand c.args.self.now.names.now c.args.self.now.help c.take_turn.new.place) c.args.line.now
          c.read_command-command.result c.in_ok-wish.wish part.0 read (sym c.is_blank.ensures ∙ c.if-is_blank.false) c.in_ok-wish.ensures.wish part.1,
      same-pass c.args.self.now.names.now c.args.self.now.help c.args.self.now.pass c.take_turn.new.place c.take_turn.ensures.cell,
      (refl, refl),
    )

pub returns-clause-answers : goal.returns-clause-answers
returns-clause-answers g c =
    let read = command-short c.args.line.now c.requires.short ∙ sym c.read_command-command.ensures.command in
    let turned = c.in_ok-take_turn.ensures.turned in (
      spoke (stand c.args.self.now.names.now c.args.self.now.help c.args.self.now.pass) (stand c.args.self.now.names.now c.args.self.now.help c.take_turn.new.place) c.args.line.now
          c.read_command-command.result c.in_ok-wish.wish c.flow_of-flow.result turned.0 c.take_turn.new.out.items read (sym c.is_blank.ensures ∙ c.if-is_blank.false) c.in_ok-wish.ensures.wish
          c.in_ok-wish.ensures.quit c.flow_of-flow.ensures turned.1 (turned.2 ∙ ap (λ out. out ++ (wish_at turned.0 c.args.line.now c.in_ok-wish.wish).reply) c.requires.empty),
      same-pass c.args.self.now.names.now c.args.self.now.help c.args.self.now.pass c.take_turn.new.place c.take_turn.ensures.cell,
      (refl, refl),
    )
