use Rattle.std.proofs.Common.{◌<◌, length, not, Option, ap, sym, subst, ◌∙◌, arith}
use Rattle.std.specs.Prelude.{IfSome}
use Rattle.shadow_forest.specs.Bench.{Outside, Benched}
use Rattle.forest_tests.specs.Stage.{IsHere, Fits}
use Rattle.forest_tests.proofs.Lasting.{bench-at, same-bench, has-job, fit-set}
use Rattle.forest_tests.proofs.stage.Stage.run_local.Goals as goal

pub invariant_of-self : goal.invariant_of-self
invariant_of-self g c =
    let f = c.self.inside.forest.numbers in
    let bs = c.self.inside.benches.items in
    let less : c.args.bench < length bs = omega (arith, c.len.ensures, c.if-bench-len.false) in
    let one = same-bench bs c.args.bench c.index.result.now c.index_mut.result.now less c.index.ensures c.index_mut.ensures.value in
    let x = has-job c.index.result.now.outside c.job.result c.job.ensures.job (c.is_none.ensures ∙ ap not c.if-is_none.false) in
    let had = ap (λ (b : Benched). b.outside) (sym one) ∙ x.1 in
    let old = bench-at f bs c.args.bench c.index_mut.result.now c.self.invariant less c.index_mut.ensures.value in
    let on = c.run_local.ensures.further x.0 had in
    let here : IsHere f x.0 = subst (λ (o : Option Outside). IfSome o (IsHere f)) had old.job in
    let new : Fits f c.run_local.new.self = subst (Fits f) (sym on.1) (record { items = old.items; job = record { begun = here.begun; nodes = here.nodes } }) in
    fit-set f bs c.args.bench c.run_local.new.self new c.self.invariant
