use Rattle.std.proofs.Common.{ap, sym, ◌∙◌, length}
use Rattle.shadow_forest.specs.View.{View}
use Rattle.shadow_forest.specs.Bench.{Benched}
use Rattle.memory_tests.proofs.Jobs.{has-job, pick-same, of-program}
use Rattle.memory_tests.proofs.calls.work.Goals as goal

pub run_local-made-requires : goal.run_local-made-requires
run_local-made-requires g c = has-job c.take.new.bench.outside c.take.result c.in-Some.job c.take.ensures.answer c.in-Some.is

pub give-given-requires-clause-job : goal.give-given-requires-clause-job
give-given-requires-clause-job g c =
    let x = has-job c.take.new.bench.outside c.take.result c.in-Some.job c.take.ensures.answer c.in-Some.is in
    let on = c.run_local-made.ensures.further x.0 x.1 in
    let same = pick-same c.args.forest.now.numbers c.take.new.self.numbers (ap (λ (v : View). v.numbers) c.take.ensures.next) in
    (record x.0 { state = on.0 }, ap (λ (b : Benched). b.outside) on.1, of-program c.args.forest.now.numbers c.take.new.self.numbers c.take.new.bench.outside x.0 x.1 c.take.ensures.runs same.0)

pub give-given-requires-clause-items : goal.give-given-requires-clause-items
give-given-requires-clause-items g c =
    let x = has-job c.take.new.bench.outside c.take.result c.in-Some.job c.take.ensures.answer c.in-Some.is in
    let on = c.run_local-made.ensures.further x.0 x.1 in
    let same = pick-same c.args.forest.now.numbers c.take.new.self.numbers (ap (λ (v : View). v.numbers) c.take.ensures.next) in
    ap (λ (b : Benched). b.items) on.1 ∙ (c.take.ensures.room ∙ (c.requires.items ∙ ap length (sym same.1)))

pub returns : goal.returns
returns g c =
    let x = has-job c.take.new.bench.outside c.take.result c.in-Some.job c.take.ensures.answer c.in-Some.is in
    let on = c.run_local-made.ensures.further x.0 x.1 in
    ap (λ (b : Benched). b.items) c.give-given.ensures.bench ∙ (ap (λ (b : Benched). b.items) on.1 ∙ c.take.ensures.room)
