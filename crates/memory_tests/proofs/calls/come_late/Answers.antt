use Rattle.std.proofs.Common.{ap, sym, ◌∙◌, length}
use Rattle.shadow_forest.specs.View.{View}
use Rattle.memory_tests.proofs.Jobs.{has-job, pick-same, of-program}
use Rattle.memory_tests.proofs.calls.come_late.Goals as goal

pub give-given-requires-clause-job : goal.give-given-requires-clause-job
give-given-requires-clause-job c =
    let x = has-job c.take.new.bench.outside c.take.result c.in-Some.job c.take.ensures.answer c.in-Some.is in
    let same = pick-same c.args.forest.now.numbers c.take.new.self.numbers (ap (λ (v : View). v.numbers) c.take.ensures.next) in
    (x.0, x.1, of-program c.args.forest.now.numbers c.recall.new.self.numbers c.take.new.bench.outside x.0 x.1 c.take.ensures.runs (ap (λ (v : View). v.numbers.journal) c.recall.ensures ∙ same.0))

pub give-given-requires-clause-items : goal.give-given-requires-clause-items
give-given-requires-clause-items c =
    let same = pick-same c.args.forest.now.numbers c.take.new.self.numbers (ap (λ (v : View). v.numbers) c.take.ensures.next) in
    c.take.ensures.room ∙ (c.requires.items ∙ ap length (sym (ap (λ (v : View). v.numbers.tables) c.recall.ensures ∙ same.1)))
