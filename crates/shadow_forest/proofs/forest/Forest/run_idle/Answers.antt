use Rattle.std.proofs.Common.{◌≡◌, ℕ, ◌+◌, ◌<◌, ◌≤◌, ◌^◌, ap, sym, ◌∙◌, arith, refl, subst, zero-add, add-zero}
use Rattle.forest_model.specs.Forest.{Forest}
use Rattle.forest_model.specs.Sound.{IsSound, IsIdle}
use Rattle.forest_model.specs.Drain.{run_idle}
use Rattle.forest_model.proofs.IdleLaws.{run_idle-idle}
use Rattle.shadow_forest.specs.Kept.{numbers_waiting, forest_of}
use Rattle.shadow_forest.specs.Ready.{AreCarried}
use Rattle.shadow_forest.specs.View.{View}
use Rattle.shadow_forest.proofs.Carrying.{carried}
use Rattle.shadow_forest.proofs.Idling.{view-is, idle-none, idle-fits, picked}
use Rattle.shadow_forest.proofs.forest.Forest.run_idle.Given.{Over}
use Rattle.shadow_forest.proofs.forest.Forest.run_idle.Goals as goal

pub loop-row-init : goal.loop-row-init
loop-row-init g c =
    let numbers : forest_of c.self.inside.journal c.self.inside.tables c.self.inside.lanes ≡ c.args.self.now.numbers = ap (λ (v : View). v.numbers) c.self.view_is in
    let most : c.self.inside.lanes.most ≤ 8 = subst (λ (f : Forest). f.k ≤ 8) (sym numbers) (subst (λ k. k ≤ 8) c.k.ensures.k c.k.ensures.most) in
    let lanes : c.self.inside.lanes.lanes ≤ 64 = subst (λ (f : Forest). f.lanes ≤ 64) (sym numbers) (subst (λ k. k ≤ 64) c.lanes.ensures.lanes c.lanes.ensures.many) in
    record {
      made = zero-add _;
      last = refl;
      resumed = refl;
      starts = refl;
      ticks = sym (add-zero _);
      fits =
          subst (λ (f : Forest). (run_idle f).0 < 2 ^ 64) numbers
          (idle-fits c.self.inside.journal c.self.inside.tables c.self.inside.txns.items (numbers_waiting c.self.inside.waiting) c.self.inside.lanes c.self.invariant.0 most lanes);
    }

pub pick-requires : goal.pick-requires
pick-requires g c =
    let i = c.self-in-loop-row.inside in
    subst (λ ts. AreCarried i.lanes.items ts i.lanes.seats) (sym c.deref.ensures.value)
    (carried i.journal i.tables i.txns.items (numbers_waiting i.waiting) i.lanes c.self-in-loop-row.invariant.0)

-- The last time.

sound-none : (g : Over) (c : goal.In-None g) → IsSound c.loop-row.self.numbers
sound-none g c = subst (λ (v : View). IsSound v.numbers) c.self-in-loop-row.view_is c.self-in-loop-row.invariant.0.sound

still : (g : Over) (c : goal.In-None g) → run_idle c.loop-row.self.numbers ≡ (0, c.loop-row.self.numbers)
still g c =
    let i = c.self-in-loop-row.inside in
    idle-none c.loop-row.self.numbers (sound-none g c)
    (picked i.journal i.tables i.txns.items (numbers_waiting i.waiting) i.lanes c.self-in-loop-row.invariant.0 c.loop-row.self c.deref.result.now c.pick.result (ap (λ (v : View). v.numbers) c.self-in-loop-row.view_is) c.deref.ensures.value c.pick.ensures
    ∙ c.in-None.is)

pub returns-in-None-clause-made : goal.returns-in-None-clause-made
returns-in-None-clause-made g c =
    let none : (run_idle c.loop-row.self.numbers).0 ≡ 0 = ap (λ (x : ℕ × Forest). x.0) (still g c) in
    let made : c.loop-row.made + (run_idle c.loop-row.self.numbers).0 ≡ (run_idle c.args.self.now.numbers).0 = c.loop-row.invariant.made in
    sym (add-zero c.loop-row.made) ∙ (ap (λ n. c.loop-row.made + n) (sym none) ∙ made)

pub returns-in-None-clause-next : goal.returns-in-None-clause-next
returns-in-None-clause-next g c =
    view-is c.loop-row.self c.args.self.now (run_idle c.args.self.now.numbers).1
    (sym (ap (λ (x : ℕ × Forest). x.1) (still g c)) ∙ c.loop-row.invariant.last) c.loop-row.invariant.resumed c.loop-row.invariant.starts

pub returns-in-None-clause-idle : goal.returns-in-None-clause-idle
returns-in-None-clause-idle g c = λ home.
    let before : IsSound c.args.self.now.numbers = subst (λ (v : View). IsSound v.numbers) c.self.view_is c.self.invariant.0.sound in
    subst (λ (v : View). IsIdle v.numbers) (sym (returns-in-None-clause-next g c)) (run_idle-idle c.args.self.now.numbers before home)

pub returns-in-None-clause-ticks : goal.returns-in-None-clause-ticks
returns-in-None-clause-ticks g c = c.loop-row.invariant.ticks

-- Steps more.

pub run_pick-made-requires-clause-sound : goal.run_pick-made-requires-clause-sound
run_pick-made-requires-clause-sound g c = subst (λ (v : View). IsSound v.numbers) c.self-in-loop-row.view_is c.self-in-loop-row.invariant.0.sound

pub run_pick-made-requires-clause-pick : goal.run_pick-made-requires-clause-pick
run_pick-made-requires-clause-pick g c =
    let i = c.self-in-loop-row.inside in
    picked i.journal i.tables i.txns.items (numbers_waiting i.waiting) i.lanes c.self-in-loop-row.invariant.0 c.loop-row.self c.deref.result.now c.pick.result (ap (λ (v : View). v.numbers) c.self-in-loop-row.view_is) c.deref.ensures.value c.pick.ensures
    ∙ c.in-Some.is

pub run_pick-made-requires-clause-fits : goal.run_pick-made-requires-clause-fits
run_pick-made-requires-clause-fits g c =
    let made : c.loop-row.made + (run_idle c.loop-row.self.numbers).0 ≡ (run_idle c.args.self.now.numbers).0 = c.loop-row.invariant.made in
    let fits : (run_idle c.args.self.now.numbers).0 < 2 ^ 64 = c.loop-row.invariant.fits in
    omega (arith, made, fits)

pub overflow_add-made : goal.overflow_add-made
overflow_add-made g c =
    let made : c.loop-row.made + (run_idle c.loop-row.self.numbers).0 ≡ (run_idle c.args.self.now.numbers).0 = c.loop-row.invariant.made in
    let fits : (run_idle c.args.self.now.numbers).0 < 2 ^ 64 = c.loop-row.invariant.fits in
    let more = c.run_pick-made.ensures.runs.idles.made in
    omega (arith, made, fits, more)

pub loop-row-smaller : goal.loop-row-smaller
loop-row-smaller g c =
    let more = c.run_pick-made.ensures.runs.idles.made in
    let some = c.run_pick-made.ensures.some in
    omega (arith, more, some)

pub loop-row-preserved : goal.loop-row-preserved
loop-row-preserved g c =
    let made : c.loop-row.made + (run_idle c.loop-row.self.numbers).0 ≡ (run_idle c.args.self.now.numbers).0 = c.loop-row.invariant.made in
    let more = c.run_pick-made.ensures.runs.idles.made in
    let ticks : c.loop-row.steps ≡ c.args.steps.now + c.loop-row.made = c.loop-row.invariant.ticks in
    let ticked = c.run_pick-made.ensures.ticks in
    record {
      made = omega (arith, made, more);
      last = sym c.run_pick-made.ensures.runs.idles.last ∙ c.loop-row.invariant.last;
      resumed = ap (λ (v : View). v.resumed) c.run_pick-made.ensures.told ∙ c.loop-row.invariant.resumed;
      starts = ap (λ (v : View). v.starts) c.run_pick-made.ensures.told ∙ c.loop-row.invariant.starts;
      ticks = omega (arith, ticks, ticked);
      fits = c.loop-row.invariant.fits;
    }
