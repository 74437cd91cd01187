use Rattle.std.proofs.Common.{◌≡◌, ◌∙◌, ◌++◌, ◌∷◌, [], length, sym, ap, subst}
use mathlib.Core.List.{IsPrefix}
use Rattle.turn_cell.specs.Passes.{seen_by, turns_of}
use Rattle.shadow_forest.specs.Listed.{listed}
use Rattle.line_server.specs.Answers.{Answer}
use Rattle.line_server.proofs.Answered.{fits-found, added-begins, answer-listed, turned-by, turned-or, on_ok}
use Rattle.line_server.proofs.talker.turn_at.Goals as goal

pub answer_wish-answered-requires : goal.answer_wish-answered-requires
answer_wish-answered-requires g c =
    let f = c.requires.fits in
    fits-found (seen_by c.args.pass) c.take_turn-held.result.value f.0 (length c.args.line.now) c.args.wish c.take_turn-held.ensures.seen f.1 f.2

pub give_turn-requires-clause-grown : goal.give_turn-requires-clause-grown
give_turn-requires-clause-grown g c =
    subst (λ l. IsPrefix l (listed c.answer_wish-answered.new.forest)) (sym c.take_turn-held.ensures.value) (added-begins _ _ _ c.answer_wish-answered.ensures.added)

pub returns-clause-turned : goal.returns-clause-turned
returns-clause-turned g c =
    let f = c.take_turn-held.result.value in
    let f' = c.answer_wish-answered.new.forest in
    let took = c.take_turn-held.ensures in
    let gave = c.give_turn.ensures in
    let answered = c.answer_wish-answered.ensures in
    let turns : turns_of c.give_turn.result ≡ turns_of c.args.pass ++ (length (listed f), length (listed f')) ∷ [] = gave.turns ∙ (λ i. took.pass.2 i ++ (length (took.value i), length (listed f')) ∷ []) in
    on_ok c.answer_wish-answered.result answered.reply answered.list (λ reply list. (
      listed f,
      turned-by (seen_by c.args.pass) (turns_of c.args.pass) f f' c.args.line.now c.args.wish (seen_by c.give_turn.result) (turns_of c.give_turn.result) took.seen list gave.seen turns,
      reply ∙ ap (λ (a : Answer). c.args.out.now.items ++ a.reply) (sym (answer-listed f c.args.line.now c.args.wish)),
    ))

pub returns-clause-part : goal.returns-clause-part
returns-clause-part g c =
    let f = c.take_turn-held.result.value in
    let f' = c.answer_wish-answered.new.forest in
    let took = c.take_turn-held.ensures in
    let gave = c.give_turn.ensures in
    let turns : turns_of c.give_turn.result ≡ turns_of c.args.pass ++ (length (listed f), length (listed f')) ∷ [] = gave.turns ∙ (λ i. took.pass.2 i ++ (length (took.value i), length (listed f')) ∷ []) in
    (listed f, turned-or (seen_by c.args.pass) (turns_of c.args.pass) f f' c.args.line.now c.args.wish (seen_by c.give_turn.result) (turns_of c.give_turn.result) took.seen c.answer_wish-answered.ensures.added gave.seen turns)
