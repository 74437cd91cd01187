use Rattle.std.proofs.Common.{◌≡◌, Some, None, ap, sym, ◌∙◌, subst}
use Rattle.std.specs.Prelude.{option_map}
use Rattle.forest_model.specs.Jobs.{taken, job_of}
use Rattle.forest_model.specs.Pick.{pick}
use Rattle.shadow_forest.specs.Bench.{Benched, job_in}
use Rattle.shadow_forest.specs.Ready.{AreCarried}
use Rattle.shadow_forest.specs.View.{View, with_numbers}
use Rattle.shadow_forest.specs.Kept.{numbers_waiting}
use Rattle.shadow_forest.proofs.Carrying.{carried}
use Rattle.shadow_forest.proofs.Idling.{picked}
use Rattle.shadow_forest.proofs.forest.Forest.take.Goals as goal

pub pick-requires : goal.pick-requires
pick-requires c =
    let i = c.self.inside in
    subst (λ ts. AreCarried i.lanes.items ts i.lanes.seats) (sym c.deref.ensures.value) (carried i.journal i.tables i.txns.items (numbers_waiting i.waiting) i.lanes c.self.invariant.0)

-- There is no pick.

no-row : (c : goal.In-None) → pick c.args.self.now.numbers ≡ None
no-row c =
    let i = c.self.inside in
    picked i.journal i.tables i.txns.items (numbers_waiting i.waiting) i.lanes c.self.invariant.0 c.args.self.now c.deref.result.now c.pick.result (ap (λ (v : View). v.numbers) c.self.view_is) c.deref.ensures.value c.pick.ensures
    ∙ c.in-None.is

pub returns-in-None-clause-next : goal.returns-in-None-clause-next
returns-in-None-clause-next c = sym (ap (λ o. with_numbers (taken c.args.self.now.numbers o) c.args.self.now) (no-row c))

pub returns-in-None-clause-taken : goal.returns-in-None-clause-taken
returns-in-None-clause-taken c = ap (option_map (job_in c.args.self.now.numbers)) c.requires.empty ∙ sym (ap (option_map (job_of c.args.self.now.numbers)) (no-row c))

-- It is handed out.

pub hand_out-requires-clause-pick : goal.hand_out-requires-clause-pick
hand_out-requires-clause-pick c =
    let i = c.self.inside in
    picked i.journal i.tables i.txns.items (numbers_waiting i.waiting) i.lanes c.self.invariant.0 c.args.self.now c.deref.result.now c.pick.result (ap (λ (v : View). v.numbers) c.self.view_is) c.deref.ensures.value c.pick.ensures
    ∙ c.in-Some.is

row : (c : goal.After-hand_out) → pick c.args.self.now.numbers ≡ Some c.in-Some.row
row c =
    let i = c.self.inside in
    picked i.journal i.tables i.txns.items (numbers_waiting i.waiting) i.lanes c.self.invariant.0 c.args.self.now c.deref.result.now c.pick.result (ap (λ (v : View). v.numbers) c.self.view_is) c.deref.ensures.value c.pick.ensures
    ∙ c.in-Some.is

pub returns-in-Some-clause-next : goal.returns-in-Some-clause-next
returns-in-Some-clause-next c = c.hand_out.ensures.next ∙ sym (ap (λ o. with_numbers (taken c.args.self.now.numbers o) c.args.self.now) (row c))

pub returns-in-Some-clause-taken : goal.returns-in-Some-clause-taken
returns-in-Some-clause-taken c =
    let e = c.hand_out.ensures.job in
    ap (λ (b : Benched). option_map (job_in c.args.self.now.numbers) b.outside) e.1 ∙ (ap (λ j. Some j) e.3 ∙ sym (ap (option_map (job_of c.args.self.now.numbers)) (row c)))
