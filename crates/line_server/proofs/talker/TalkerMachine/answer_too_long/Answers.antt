use Rattle.std.proofs.Common.{◌∙◌, ◌++◌, [], refl, ap}
use Rattle.line_server.specs.Stands.{stand}
use Rattle.line_server.specs.Wishes.{wish_at}
use Rattle.line_server.specs.declared.wish.Wish.TheVariants as wish
use Rattle.line_server.proofs.Answered.{spoke-long, failed-long, same-pass, on_err}
use Rattle.line_server.proofs.talker.TalkerMachine.answer_too_long.Goals as goal

pub returns-in_err-take_turn-clause-fails : goal.returns-in_err-take_turn-clause-fails
returns-in_err-take_turn-clause-fails g c =
    let part = c.take_turn.ensures.part in
    on_err c.from_residual.result (λ line long. (
      failed-long (stand c.args.self.now.names.now c.args.self.now.help c.args.self.now.pass) (stand c.args.self.now.names.now c.args.self.now.help c.take_turn.new.place) line [] part.0 long part.1,
      same-pass c.args.self.now.names.now c.args.self.now.help c.args.self.now.pass c.take_turn.new.place c.take_turn.ensures.cell,
      (refl, refl),
    ))

pub returns-clause-answers : goal.returns-clause-answers
returns-clause-answers g c = λ line long.
    let turned = c.in_ok-take_turn.ensures.turned in (
      spoke-long (stand c.args.self.now.names.now c.args.self.now.help c.args.self.now.pass) (stand c.args.self.now.names.now c.args.self.now.help c.take_turn.new.place) line [] turned.0 c.take_turn.new.out.items long
          turned.1 (turned.2 ∙ ap (λ out. out ++ (wish_at turned.0 line (wish.Refusal 11)).reply) c.requires),
      same-pass c.args.self.now.names.now c.args.self.now.help c.args.self.now.pass c.take_turn.new.place c.take_turn.ensures.cell,
      (refl, refl),
    )
