use Rattle.std.proofs.Common.{◌≡◌, ℕ, ◌+◌, ◌<◌, ◌≤◌, ◌^◌, Some, None, ap, sym, ◌∙◌, subst, arith, refl}
use Rattle.forest_model.specs.Forest.{Forest}
use Rattle.forest_model.specs.Pick.{pick}
use Rattle.forest_model.specs.Sound.{IsSound}
use Rattle.forest_model.specs.Drain.{run_idle, first_ended, until_commit}
use Rattle.forest_model.specs.Stays.{Leads}
use Rattle.forest_model.proofs.UntilLaws.{until-ended, until-over}
use Rattle.shadow_forest.specs.Ready.{AreCarried}
use Rattle.shadow_forest.specs.View.{View, with_numbers, drain_step_view}
use Rattle.shadow_forest.specs.Kept.{numbers_waiting, forest_of}
use Rattle.shadow_forest.proofs.Carrying.{carried}
use Rattle.shadow_forest.proofs.Idling.{idle-fits, picked, ended-first}
use Rattle.shadow_forest.proofs.Drains.{commits-view, view-nothing, until_view}
use Rattle.shadow_forest.proofs.forest.Forest.next_commit.Given.{Over}
use Rattle.shadow_forest.proofs.forest.Forest.next_commit.Goals as goal

pub loop-txn-init : goal.loop-txn-init
loop-txn-init g c = record { last = refl; told = refl; ticks = refl }

pub first_ended-requires : goal.first_ended-requires
first_ended-requires g c =
    let i = c.self.inside in
    subst (λ ts. AreCarried i.lanes.items ts i.lanes.seats) (sym c.deref.ensures.value)
    (carried i.journal i.tables i.txns.items (numbers_waiting i.waiting) i.lanes c.self.invariant.0)

pub pick-requires : goal.pick-requires
pick-requires g c =
    let i = c.self.inside in
    subst (λ ts. AreCarried i.lanes.items ts i.lanes.seats) (sym c.deref-in-None.ensures.value)
    (carried i.journal i.tables i.txns.items (numbers_waiting i.waiting) i.lanes c.self.invariant.0)

-- where the loop ends the forest is that before the next commit
at-last : (old now : View) (x : ℕ) → (until_commit now.numbers).1 ≡ (until_commit old.numbers).1 → now ≡ with_numbers now.numbers old → until_commit now.numbers ≡ (x, now.numbers) → now ≡ until_view old
at-last old now x last told over = told ∙ ap (λ f. with_numbers f old) (sym (ap (λ (y : ℕ × Forest). y.1) over) ∙ last)

-- A commit.

sound-some : (g : Over) (c : goal.After-commit-accepted g) → IsSound c.loop-txn.self.numbers
sound-some g c = subst (λ (v : View). IsSound v.numbers) c.self.view_is c.self.invariant.0.sound

ended : (g : Over) (c : goal.After-commit-accepted g) → first_ended c.loop-txn.self.numbers ≡ Some c.in-Some.txn
ended g c =
    let i = c.self.inside in
    ended-first i.journal i.tables i.txns.items (numbers_waiting i.waiting) i.lanes c.self.invariant.0 c.loop-txn.self c.deref.result.now c.first_ended.result (ap (λ (v : View). v.numbers) c.self.view_is) c.deref.ensures.value c.first_ended.ensures
    ∙ c.in-Some.is

over-some : (g : Over) (c : goal.After-commit-accepted g) → until_commit c.loop-txn.self.numbers ≡ (0, c.loop-txn.self.numbers)
over-some g c = until-ended c.loop-txn.self.numbers c.in-Some.txn (sound-some g c) (ended g c)

last-some : (g : Over) (c : goal.After-commit-accepted g) → c.loop-txn.self ≡ until_view c.args.self.now
last-some g c = at-last c.args.self.now c.loop-txn.self 0 c.loop-txn.invariant.last c.loop-txn.invariant.told (over-some g c)

pub returns-in-Some-clause-commit : goal.returns-in-Some-clause-commit
returns-in-Some-clause-commit g c = sym (ended g c) ∙ ap (λ (v : View). first_ended v.numbers) (last-some g c)

pub returns-in-Some-clause-next : goal.returns-in-Some-clause-next
returns-in-Some-clause-next g c = c.commit-accepted.ensures.next ∙ commits-view c.loop-txn.self c.in-Some.txn (sound-some g c) (ended g c) ∙ ap drain_step_view (last-some g c)

pub returns-in-Some-clause-ticks : goal.returns-in-Some-clause-ticks
returns-in-Some-clause-ticks g c =
    let none : (until_commit c.loop-txn.self.numbers).0 ≡ 0 = ap (λ (x : ℕ × Forest). x.0) (over-some g c) in
    let ticks : c.loop-txn.steps + (until_commit c.loop-txn.self.numbers).0 ≡ c.args.steps.now + (until_commit c.args.self.now.numbers).0 = c.loop-txn.invariant.ticks in
    omega (arith, none, ticks)

-- Nothing is left.

sound-none : (g : Over) (c : goal.In-None-pick g) → IsSound c.loop-txn.self.numbers
sound-none g c = subst (λ (v : View). IsSound v.numbers) c.self.view_is c.self.invariant.0.sound

no-ended : (g : Over) (c : goal.In-None-pick g) → first_ended c.loop-txn.self.numbers ≡ None
no-ended g c =
    let i = c.self.inside in
    ended-first i.journal i.tables i.txns.items (numbers_waiting i.waiting) i.lanes c.self.invariant.0 c.loop-txn.self c.deref.result.now c.first_ended.result (ap (λ (v : View). v.numbers) c.self.view_is) c.deref.ensures.value c.first_ended.ensures
    ∙ c.in-None.is

no-row : (g : Over) (c : goal.In-None-pick g) → pick c.loop-txn.self.numbers ≡ None
no-row g c =
    let i = c.self.inside in
    picked i.journal i.tables i.txns.items (numbers_waiting i.waiting) i.lanes c.self.invariant.0 c.loop-txn.self c.deref-in-None.result.now c.pick.result (ap (λ (v : View). v.numbers) c.self.view_is) c.deref-in-None.ensures.value c.pick.ensures
    ∙ c.in-None-pick.is

over-none : (g : Over) (c : goal.In-None-pick g) → until_commit c.loop-txn.self.numbers ≡ (0, c.loop-txn.self.numbers)
over-none g c = until-over c.loop-txn.self.numbers (sound-none g c) (no-ended g c) (no-row g c)

last-none : (g : Over) (c : goal.In-None-pick g) → c.loop-txn.self ≡ until_view c.args.self.now
last-none g c = at-last c.args.self.now c.loop-txn.self 0 c.loop-txn.invariant.last c.loop-txn.invariant.told (over-none g c)

pub returns-in-None-pick-clause-commit : goal.returns-in-None-pick-clause-commit
returns-in-None-pick-clause-commit g c = sym (no-ended g c) ∙ ap (λ (v : View). first_ended v.numbers) (last-none g c)

pub returns-in-None-pick-clause-next : goal.returns-in-None-pick-clause-next
returns-in-None-pick-clause-next g c = view-nothing c.loop-txn.self (no-ended g c, no-row g c) ∙ ap drain_step_view (last-none g c)

pub returns-in-None-pick-clause-ticks : goal.returns-in-None-pick-clause-ticks
returns-in-None-pick-clause-ticks g c =
    let none : (until_commit c.loop-txn.self.numbers).0 ≡ 0 = ap (λ (x : ℕ × Forest). x.0) (over-none g c) in
    let ticks : c.loop-txn.steps + (until_commit c.loop-txn.self.numbers).0 ≡ c.args.steps.now + (until_commit c.args.self.now.numbers).0 = c.loop-txn.invariant.ticks in
    omega (arith, none, ticks)

-- More steps.

pub run_pick-requires-clause-sound : goal.run_pick-requires-clause-sound
run_pick-requires-clause-sound g c = subst (λ (v : View). IsSound v.numbers) c.self.view_is c.self.invariant.0.sound

pub run_pick-requires-clause-pick : goal.run_pick-requires-clause-pick
run_pick-requires-clause-pick g c =
    let i = c.self.inside in
    picked i.journal i.tables i.txns.items (numbers_waiting i.waiting) i.lanes c.self.invariant.0 c.loop-txn.self c.deref-in-None.result.now c.pick.result (ap (λ (v : View). v.numbers) c.self.view_is) c.deref-in-None.ensures.value c.pick.ensures
    ∙ c.in-Some-pick.is

pub run_pick-requires-clause-fits : goal.run_pick-requires-clause-fits
run_pick-requires-clause-fits g c =
    let i = c.self.inside in
    let numbers : forest_of i.journal i.tables i.lanes ≡ c.loop-txn.self.numbers = ap (λ (v : View). v.numbers) c.self.view_is in
    let most : i.lanes.most ≤ 8 = subst (λ (f : Forest). f.k ≤ 8) (sym numbers) (subst (λ k. k ≤ 8) c.k.ensures.k c.k.ensures.most) in
    let lanes : i.lanes.lanes ≤ 64 = subst (λ (f : Forest). f.lanes ≤ 64) (sym numbers) (subst (λ k. k ≤ 64) c.lanes.ensures.lanes c.lanes.ensures.many) in
    subst (λ (f : Forest). (run_idle f).0 < 2 ^ 64) numbers (idle-fits i.journal i.tables i.txns.items (numbers_waiting i.waiting) i.lanes c.self.invariant.0 most lanes)

leads : (g : Over) (c : goal.After-run_pick g) → Leads until_commit c.loop-txn.self.numbers c.run_pick.new.self.numbers c.run_pick.result
leads g c =
    let i = c.self.inside in
    c.run_pick.ensures.runs.drains
    (ended-first i.journal i.tables i.txns.items (numbers_waiting i.waiting) i.lanes c.self.invariant.0 c.loop-txn.self c.deref.result.now c.first_ended.result (ap (λ (v : View). v.numbers) c.self.view_is) c.deref.ensures.value c.first_ended.ensures
    ∙ c.in-None.is)

pub loop-txn-smaller : goal.loop-txn-smaller
loop-txn-smaller g c =
    let more = (leads g c).made in
    let some = c.run_pick.ensures.some in
    omega (arith, more, some)

pub loop-txn-preserved : goal.loop-txn-preserved
loop-txn-preserved g c =
    let more = (leads g c).made in
    let ticks : c.loop-txn.steps + (until_commit c.loop-txn.self.numbers).0 ≡ c.args.steps.now + (until_commit c.args.self.now.numbers).0 = c.loop-txn.invariant.ticks in
    let ticked = c.run_pick.ensures.ticks in
    record {
      last = sym (leads g c).last ∙ c.loop-txn.invariant.last;
      told = c.run_pick.ensures.told ∙ ap (λ v. with_numbers c.run_pick.new.self.numbers v) c.loop-txn.invariant.told;
      ticks = omega (arith, more, ticks, ticked);
    }
