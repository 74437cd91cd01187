use Rattle.std.proofs.Common.{◌<◌, length, not, ap, sym, subst, ◌∙◌, arith}
use Rattle.std.specs.Prelude.{slice_set}
use Rattle.forest_model.specs.Forest.{Forest}
use Rattle.forest_model.specs.Jobs.{give}
use Rattle.shadow_forest.specs.View.{View}
use Rattle.shadow_forest.specs.Bench.{Benched, job_in, after_give}
use Rattle.forest_tests.specs.Stage.{Fits, AllFit}
use Rattle.forest_tests.proofs.Lasting.{fit-lasts, given-lasts, bench-at, same-bench, has-job, fit-set}
use Rattle.forest_tests.proofs.stage.Stage.give.Goals as goal

pub invariant_of-self : goal.invariant_of-self
invariant_of-self c =
    let v = c.self.inside.forest in
    let bs = c.self.inside.benches.items in
    let less : c.args.bench < length bs = omega (arith, c.len.ensures, c.if-bench-len.false) in
    let one = same-bench bs c.args.bench c.index.result.now c.index_mut.result.now less c.index.ensures c.index_mut.ensures.value in
    let x = has-job c.index.result.now.outside c.job.result c.job.ensures.job (c.is_none.ensures ∙ ap not c.if-is_none.false) in
    let had = ap (λ (b : Benched). b.outside) (sym one) ∙ x.1 in
    let old = bench-at v.numbers bs c.args.bench c.index_mut.result.now c.self.invariant less c.index_mut.ensures.value in
    let g = after_give v.numbers (give v.numbers (job_in v.numbers x.0)) in
    let empty : Fits v.numbers c.give.new.bench = subst (Fits v.numbers) (sym c.give.ensures.bench) (record { items = old.items; job = tt }) in
    let all : AllFit g (slice_set bs c.args.bench c.give.new.bench) = fit-lasts v.numbers g (given-lasts v.numbers (job_in v.numbers x.0)) _ (fit-set v.numbers bs c.args.bench c.give.new.bench empty c.self.invariant) in
    subst (λ (f : Forest). AllFit f (slice_set bs c.args.bench c.give.new.bench)) (sym (ap (λ (w : View). w.numbers) (c.give.ensures.next x.0 had))) all
