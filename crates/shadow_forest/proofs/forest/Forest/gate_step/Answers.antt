use Rattle.std.proofs.Common.{◌≡◌, Some, None, ap, sym, ◌∙◌, subst}
use Rattle.forest_model.specs.Forest.{Forest}
use Rattle.forest_model.specs.Pick.{pick}
use Rattle.forest_model.specs.Sound.{IsSound}
use Rattle.forest_model.specs.Drain.{first_ended}
use Rattle.forest_model.specs.declared.did.Did.{Did}
use Rattle.forest_model.proofs.GateLaws.{gate-commits, gate-without_pick}
use Rattle.shadow_forest.specs.Ready.{AreCarried}
use Rattle.shadow_forest.specs.View.{View}
use Rattle.shadow_forest.specs.Kept.{numbers_waiting}
use Rattle.shadow_forest.proofs.Carrying.{carried}
use Rattle.shadow_forest.proofs.Idling.{picked, ended-first}
use Rattle.shadow_forest.proofs.Gates.{gate-commits-view, gate-unended, row-view, still-view}
use Rattle.shadow_forest.proofs.forest.Forest.gate_step.Given.{Over}
use Rattle.shadow_forest.proofs.forest.Forest.gate_step.Goals as goal

pub first_ended-requires : goal.first_ended-requires
first_ended-requires g c =
    let i = c.self.inside in
    subst (λ ts. AreCarried i.lanes.items ts i.lanes.seats) (sym c.deref.ensures.value) (carried i.journal i.tables i.txns.items (numbers_waiting i.waiting) i.lanes c.self.invariant.0)

pub pick-requires : goal.pick-requires
pick-requires g c =
    let i = c.self.inside in
    subst (λ ts. AreCarried i.lanes.items ts i.lanes.seats) (sym c.deref-in-None.ensures.value) (carried i.journal i.tables i.txns.items (numbers_waiting i.waiting) i.lanes c.self.invariant.0)

-- A commit.

ended : (g : Over) (c : goal.After-commit-accepted g) → first_ended c.args.self.now.numbers ≡ Some c.in-Some.txn
ended g c =
    let i = c.self.inside in
    ended-first i.journal i.tables i.txns.items (numbers_waiting i.waiting) i.lanes c.self.invariant.0 c.args.self.now c.deref.result.now c.first_ended.result (ap (λ (v : View). v.numbers) c.self.view_is) c.deref.ensures.value c.first_ended.ensures
    ∙ c.in-Some.is

pub returns-in-Some-clause-did : goal.returns-in-Some-clause-did
returns-in-Some-clause-did g c = sym (ap (λ (x : Did × Forest). x.0) (gate-commits c.args.self.now.numbers c.in-Some.txn (ended g c)))

pub returns-in-Some-clause-next : goal.returns-in-Some-clause-next
returns-in-Some-clause-next g c =
    c.commit-accepted.ensures.next
    ∙ gate-commits-view c.args.self.now c.in-Some.txn (subst (λ (v : View). IsSound v.numbers) c.self.view_is c.self.invariant.0.sound) (ended g c)

-- What the pick does.

pub step_gated-requires-clause-pick : goal.step_gated-requires-clause-pick
step_gated-requires-clause-pick g c =
    let i = c.self.inside in
    picked i.journal i.tables i.txns.items (numbers_waiting i.waiting) i.lanes c.self.invariant.0 c.args.self.now c.deref-in-None.result.now c.pick.result (ap (λ (v : View). v.numbers) c.self.view_is) c.deref-in-None.ensures.value c.pick.ensures
    ∙ c.in-Some-pick.is

none : (g : Over) (c : goal.After-step_gated g) → first_ended c.args.self.now.numbers ≡ None
none g c =
    let i = c.self.inside in
    ended-first i.journal i.tables i.txns.items (numbers_waiting i.waiting) i.lanes c.self.invariant.0 c.args.self.now c.deref.result.now c.first_ended.result (ap (λ (v : View). v.numbers) c.self.view_is) c.deref.ensures.value c.first_ended.ensures
    ∙ c.in-None.is

row : (g : Over) (c : goal.After-step_gated g) → pick c.args.self.now.numbers ≡ Some c.in-Some-pick.row
row g c =
    let i = c.self.inside in
    picked i.journal i.tables i.txns.items (numbers_waiting i.waiting) i.lanes c.self.invariant.0 c.args.self.now c.deref-in-None.result.now c.pick.result (ap (λ (v : View). v.numbers) c.self.view_is) c.deref-in-None.ensures.value c.pick.ensures
    ∙ c.in-Some-pick.is

pub returns-in-Some-pick-clause-did : goal.returns-in-Some-pick-clause-did
returns-in-Some-pick-clause-did g c = c.step_gated.ensures.did ∙ sym (ap (λ (x : Did × Forest). x.0) (gate-unended c.args.self.now.numbers (Some c.in-Some-pick.row) (none g c) (row g c)))

pub returns-in-Some-pick-clause-next : goal.returns-in-Some-pick-clause-next
returns-in-Some-pick-clause-next g c = c.step_gated.ensures.next ∙ row-view c.args.self.now c.in-Some-pick.row (none g c) (row g c)

-- Nothing.

no-ended : (g : Over) (c : goal.In-None-pick g) → first_ended c.args.self.now.numbers ≡ None
no-ended g c =
    let i = c.self.inside in
    ended-first i.journal i.tables i.txns.items (numbers_waiting i.waiting) i.lanes c.self.invariant.0 c.args.self.now c.deref.result.now c.first_ended.result (ap (λ (v : View). v.numbers) c.self.view_is) c.deref.ensures.value c.first_ended.ensures
    ∙ c.in-None.is

no-row : (g : Over) (c : goal.In-None-pick g) → pick c.args.self.now.numbers ≡ None
no-row g c =
    let i = c.self.inside in
    picked i.journal i.tables i.txns.items (numbers_waiting i.waiting) i.lanes c.self.invariant.0 c.args.self.now c.deref-in-None.result.now c.pick.result (ap (λ (v : View). v.numbers) c.self.view_is) c.deref-in-None.ensures.value c.pick.ensures
    ∙ c.in-None-pick.is

pub returns-in-None-pick-clause-did : goal.returns-in-None-pick-clause-did
returns-in-None-pick-clause-did g c = sym (ap (λ (x : Did × Forest). x.0) (gate-without_pick c.args.self.now.numbers (no-ended g c) (no-row g c)))

pub returns-in-None-pick-clause-next : goal.returns-in-None-pick-clause-next
returns-in-None-pick-clause-next g c = still-view c.args.self.now (no-ended g c) (no-row g c)
