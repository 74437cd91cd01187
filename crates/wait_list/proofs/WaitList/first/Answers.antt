use Rattle.std.proofs.Common.{◌≡◌, ◌<◌, None, Some, IsSome, length, option_map, ap, subst, sym, true≢false, ◌∙◌}
use Rattle.forest_model.specs.Choose.{first_by}
use Rattle.wait_list.specs.Waiting.{Waiting, comes_first}
use Rattle.wait_list.proofs.InLine.{empty-nobody, front-first, none-nobody}
use Rattle.wait_list.proofs.WaitList.first.Goals as goal

pub returns-in-Some-clause-value : goal.returns-in-Some-clause-value
returns-in-Some-clause-value c = sym (ap (λ ws. option_map (λ (w : Waiting). w.1) (first_by comes_first ws)) (sym c.self.view_is) ∙ front-first c.in-Some.first.now c.self.inside.line.keys c.in-Some.ensures.first c.self.invariant)

pub returns-in-Some-clause-none : goal.returns-in-Some-clause-none
returns-in-Some-clause-none c = none-nobody (Some c.in-Some.first.now.1) c.args.self.now (returns-in-Some-clause-value c)

pub returns-in-None-clause-none : goal.returns-in-None-clause-none
returns-in-None-clause-none c =
    let none : 0 < length c.self.inside.line.keys → ⊥ = λ some. let is = subst IsSome c.in-None.is (c.first.ensures.variant.1 some) in true≢false (sym is) in
    let value : None ≡ option_map (λ (w : Waiting). w.1) (first_by comes_first c.args.self.now) =
    empty-nobody c.self.inside.line.keys none ∙ ap (λ ws. option_map (λ (w : Waiting). w.1) (first_by comes_first ws)) c.self.view_is
    in
    none-nobody None c.args.self.now value
