use Rattle.std.proofs.Common.{◌≡◌, ℕ, ◌+◌, ◌<◌, ◌≤◌, false, ap, sym, ◌∙◌, arith, refl, subst}
use Rattle.journal_core.specs.Journal.{is_live}
use Rattle.forest_model.specs.Forest.{Forest}
use Rattle.forest_model.specs.Sound.{IsSound}
use Rattle.forest_model.specs.Drain.{left, until_commit, drain_step, drain as drain_of}
use Rattle.forest_model.specs.declared.did.Did.TheVariants.{Nothing}
use Rattle.forest_model.proofs.StepLaws.{recall-sound}
use Rattle.forest_model.proofs.DrainLaws.{drain-empty}
use Rattle.forest_model.proofs.UntilLaws.{until-sound}
use Rattle.shadow_forest.specs.View.{View, drain_step_view, drain_view}
use Rattle.shadow_forest.proofs.Drains.{rest_view, rest-nothing, rest-last, step-done, next-sound, next-lower, drain-numbers, drain-count, until_view, rest-until, until-left, until-nothing, until-some, until-ticks}
use Rattle.shadow_forest.proofs.forest.Forest.drain.Given.{Over}
use Rattle.shadow_forest.proofs.forest.Forest.drain.Goals as goal

pub loop-init : goal.loop-init
loop-init g c =
    let before : IsSound c.args.self.now.numbers = subst (λ (v : View). IsSound v.numbers) c.self.view_is c.self.invariant.0.sound in
    record {
      sound = subst (λ (v : View). IsSound v.numbers) (sym c.recall.ensures) (recall-sound c.args.self.now.numbers before);
      last = refl {a = (rest_view c.recall.new.self).1};
      ticks = refl {a = c.args.steps.now + (rest_view c.recall.new.self).0};
    }

-- The last steps.

rest : (g : Over) (c : goal.In-None g) → rest_view (until_view c.loop.self) ≡ (0, drain_step_view (until_view c.loop.self))
rest g c = rest-nothing (until_view c.loop.self) (until-sound c.loop.self.numbers c.loop.invariant.sound) (until-nothing c.loop.self c.loop.invariant.sound (sym c.in-None.is ∙ c.next_commit.ensures.commit))

called : (g : Over) (c : goal.In-None g) → rest_view c.recall.new.self ≡ drain_view c.args.self.now
called g c = ap rest_view c.recall.ensures

pub returns-in-None-clause-next : goal.returns-in-None-clause-next
returns-in-None-clause-next g c =
    c.next_commit.ensures.next
    ∙ sym (ap (λ (x : ℕ × View). x.1) (rest g c))
    ∙ sym (rest-until c.loop.self c.loop.invariant.sound).last
    ∙ c.loop.invariant.last
    ∙ ap (λ (x : ℕ × View). x.1) (called g c)

pub returns-in-None-clause-numbers : goal.returns-in-None-clause-numbers
returns-in-None-clause-numbers g c = ap (λ (v : View). v.numbers) (returns-in-None-clause-next g c) ∙ drain-numbers c.args.self.now

pub returns-in-None-clause-empty : goal.returns-in-None-clause-empty
returns-in-None-clause-empty g c = λ t.
    let before : IsSound c.args.self.now.numbers = subst (λ (v : View). IsSound v.numbers) c.self.view_is c.self.invariant.0.sound in
    let lane : 1 ≤ c.args.self.now.numbers.lanes = subst (λ (v : View). 1 ≤ v.numbers.lanes) c.self.view_is c.len.ensures.seats.some in
    subst (λ (f : Forest). is_live f.journal t ≡ false)
    (sym (returns-in-None-clause-numbers g c))
    (drain-empty c.args.self.now.numbers t before lane)

pub returns-in-None-clause-ticks : goal.returns-in-None-clause-ticks
returns-in-None-clause-ticks g c =
    let none : (rest_view (until_view c.loop.self)).0 ≡ 0 = ap (λ (x : ℕ × View). x.0) (rest g c) in
    let run = (rest-until c.loop.self c.loop.invariant.sound).steps in
    let ticks : c.loop.steps + (rest_view c.loop.self).0 ≡ c.args.steps.now + (rest_view c.recall.new.self).0 = c.loop.invariant.ticks in
    let all : (rest_view c.recall.new.self).0 ≡ (drain_of c.args.self.now.numbers).0 = ap (λ (x : ℕ × View). x.0) (called g c) ∙ drain-count c.args.self.now in
    let ticked : c.next_commit.new.steps ≡ c.loop.steps + (until_commit c.loop.self.numbers).0 = c.next_commit.ensures.ticks in
    omega (arith, none, run, ticks, all, ticked)

-- Another commit.

some : (g : Over) (c : goal.In-Some g) → (drain_step (until_view c.loop.self).numbers).0 ≡ Nothing → ⊥
some g c = until-some c.loop.self _ (sym c.in-Some.is ∙ c.next_commit.ensures.commit)

pub loop-smaller : goal.loop-smaller
loop-smaller g c =
    let w : View = until_view c.loop.self in
    let lower : left (drain_step_view w).numbers < left w.numbers = next-lower w (step-done w.numbers (until-sound c.loop.self.numbers c.loop.invariant.sound) (some g c)) in
    let less : left w.numbers ≤ left c.loop.self.numbers = until-left c.loop.self.numbers c.loop.invariant.sound in
    subst (λ (v : View). left v.numbers < left c.loop.self.numbers) (sym c.next_commit.ensures.next) (omega (arith, lower, less))

pub loop-preserved : goal.loop-preserved
loop-preserved g c =
    let w : View = until_view c.loop.self in
    let sound : IsSound w.numbers = until-sound c.loop.self.numbers c.loop.invariant.sound in
    let now : c.next_commit.new.self ≡ drain_step_view w = c.next_commit.ensures.next in
    let ticks : c.loop.steps + (rest_view c.loop.self).0 ≡ c.args.steps.now + (rest_view c.recall.new.self).0 = c.loop.invariant.ticks in
    let run = rest-until c.loop.self c.loop.invariant.sound in
    let count = run.steps in
    let more : (rest_view w).0 ≡ (rest_view (drain_step_view w)).0 = until-ticks c.loop.self _ sound (sym c.in-Some.is ∙ c.next_commit.ensures.commit) in
    let ticked : c.next_commit.new.steps ≡ c.loop.steps + (until_commit c.loop.self.numbers).0 = c.next_commit.ensures.ticks in
    let rest : (rest_view c.next_commit.new.self).0 ≡ (rest_view (drain_step_view w)).0 = ap (λ (v : View). (rest_view v).0) now in
    record {
      sound = subst (λ (v : View). IsSound v.numbers) (sym now) (next-sound w (step-done w.numbers sound (some g c)));
      last = ap (λ (v : View). (rest_view v).1) now ∙ sym (rest-last w sound (some g c)) ∙ sym run.last ∙ c.loop.invariant.last;
      ticks = omega (arith, ticks, count, more, ticked, rest);
    }
