use Rattle.std.proofs.Common.{◌≡◌, true, length, ap, ◌∙◌}
use Rattle.std.specs.Prelude.{is_some}
use Rattle.shadow_forest.specs.View.{View}
use Rattle.shadow_forest.specs.Listed.{listed}
use Rattle.shadow_worker.specs.Turn.{given_view}
use Rattle.shadow_worker.proofs.Turning.{given-by, given-list, given-size}
use Rattle.shadow_worker.proofs.turn.give_back.Goals as goal

given : (c : goal.After-give-given) → c.give-given.new.self ≡ given_view c.args.forest.now c.args.bench.now.outside
given c =
    let some : is_some c.job.result ≡ true = cc (c.is_some.ensures, c.if-is_some.true) in
    given-by c.args.forest.now c.give-given.new.self c.args.bench.now.outside c.job.result c.job.ensures.job some c.give-given.ensures.next

pub returns-then-is_some-clause-list : goal.returns-then-is_some-clause-list
returns-then-is_some-clause-list c = ap listed (given c) ∙ given-list c.args.forest.now c.args.bench.now.outside

pub returns-then-is_some-clause-size : goal.returns-then-is_some-clause-size
returns-then-is_some-clause-size c = ap (λ (w : View). length w.numbers.tables) (given c) ∙ given-size c.args.forest.now c.args.bench.now.outside
