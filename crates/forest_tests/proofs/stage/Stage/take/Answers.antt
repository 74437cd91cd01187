use Rattle.std.proofs.Common.{◌<◌, length, ap, sym, subst, ◌∙◌, arith}
use Rattle.std.specs.Prelude.{slice_set}
use Rattle.forest_model.specs.Forest.{Forest}
use Rattle.forest_model.specs.Jobs.{take_pick}
use Rattle.forest_model.specs.Pick.{pick}
use Rattle.shadow_forest.specs.View.{View}
use Rattle.forest_tests.specs.Stage.{Fits, AllFit}
use Rattle.forest_tests.proofs.Lasting.{Lasts, fit-lasts, taken-lasts, bench-at, taken-here, fit-set}
use Rattle.forest_tests.proofs.stage.Stage.take.Goals as goal

pub invariant_of-self : goal.invariant_of-self
invariant_of-self c =
    let v = c.self.inside.forest in
    let bs = c.self.inside.benches.items in
    let less : c.args.bench < length bs = omega (arith, c.len.ensures, c.if-bench-len.false) in
    let old = bench-at v.numbers bs c.args.bench _ c.self.invariant less c.index_mut.ensures.value in
    let lasts : Lasts v.numbers (take_pick v.numbers) = taken-lasts v.numbers (pick v.numbers) in
    let here : Fits v.numbers c.take.new.bench = record { items = c.take.ensures.room ∙ old.items; job = taken-here v.numbers c.journal.ensures.sound c.take.new.bench.outside c.take.ensures.taken c.take.ensures.runs } in
    let all : AllFit (take_pick v.numbers) (slice_set bs c.args.bench c.take.new.bench) = fit-lasts v.numbers (take_pick v.numbers) lasts _ (fit-set v.numbers bs c.args.bench c.take.new.bench here c.self.invariant) in
    subst (λ (f : Forest). AllFit f (slice_set bs c.args.bench c.take.new.bench)) (sym (ap (λ (w : View). w.numbers) c.take.ensures.next)) all
