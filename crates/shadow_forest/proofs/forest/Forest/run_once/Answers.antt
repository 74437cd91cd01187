use Rattle.std.proofs.Common.{◌≡◌, ◌+◌, ◌≤◌, ℕ, zero, suc, Result, Ok, Err, true, false, is_ok, refl, ap, sym, subst, ◌∙◌, arith, true≢false}
use Rattle.block_rule.specs.declared.role.Row.{Row}
use Rattle.forest_model.specs.Forest.{Forest}
use Rattle.forest_model.specs.Events.{Refusal, IsSealed, TooMany, Unknown, NotStarted, NoShadow, HasEnded, IsBlocked, NotEnded, step}
use Rattle.forest_model.specs.Drain.{step_row, after_step}
use Rattle.forest_model.specs.Stays.{RunsOn, IsStillPicked}
use Rattle.forest_model.proofs.PickLaws.{pick-accepted}
use Rattle.forest_model.proofs.StayLaws.{one-on, more-on}
use Rattle.shadow_forest.specs.View.{View, with_numbers}
use Rattle.shadow_forest.specs.Answers.{step_refusal, step_answer, step_ticks}
use Rattle.shadow_forest.specs.declared.answers.Stepped.TheVariants.{Stepped}
use Rattle.shadow_forest.proofs.Idling.{accepted-ticks}
use Rattle.shadow_forest.proofs.StillFirst.{IsStep, stays-below, stays-on}
use Rattle.shadow_forest.proofs.forest.Forest.run_once.Goals as goal

-- the answer tells whether a step was made

refused : (refusal : Refusal) (position : ℕ) → step_refusal refusal ≡ Stepped position → ⊥
refused IsSealed position e = cc
refused TooMany position e = cc
refused Unknown position e = cc
refused NotStarted position e = cc
refused NoShadow position e = cc
refused HasEnded position e = cc
refused IsBlocked position e = cc
refused NotEnded position e = cc

made-is : (o : Result (ℕ × Forest) Refusal) (position : ℕ) → step_answer o ≡ Stepped position → is_ok o ≡ true
made-is (Ok answer) position e = refl
made-is (Err refusal) position e = absurd (refused refusal position e)

not-made : (o : Result (ℕ × Forest) Refusal) → ((position : ℕ) → step_answer o ≡ Stepped position → ⊥) → is_ok o ≡ false
not-made (Ok answer) none = absurd (none answer.0 refl)
not-made (Err refusal) none = refl

still-there : (f : Forest) (o : Result (ℕ × Forest) Refusal) → is_ok o ≡ false → (after_step f o ≡ f) × (step_ticks o ≡ 0)
still-there f (Ok answer) e = cc
still-there f (Err refusal) e = (refl, refl)

positive : (n : ℕ) → (n ≡ 0 → ⊥) → 1 ≤ n
positive zero some = absurd (some refl)
positive (suc n) some = omega arith

-- what a view tells stays through two changes of its numbers
told-on : (u v w : View) (f : Forest) → w ≡ with_numbers f v → v ≡ with_numbers v.numbers u → w ≡ with_numbers w.numbers u
told-on u v w f next told = next ∙ ap (with_numbers f) told ∙ ap (λ n. with_numbers n u) (sym (ap (λ (x : View). x.numbers) next))

pub overflow_add-result : goal.overflow_add-result
overflow_add-result g c = let few = c.run_ahead-made.ensures.few in omega (arith, few)

pub overflow_add-result-else-leaves : goal.overflow_add-result-else-leaves
overflow_add-result-else-leaves g c = let few = c.run_ahead-made.ensures.few in omega (arith, few)

-- A step more.

step_runs : (f g h : Forest) (row : Row) (n : ℕ) → IsStillPicked f g row → RunsOn f g n → h ≡ step_row g row → RunsOn f h (n + 1)
step_runs f g h row n still runs next = subst (λ x. RunsOn f x (n + 1)) (sym next) (more-on f g (step_row g row) n 1 (n + 1) refl still.nobody runs (one-on g row still.sound still.picked))

step_ticked : (a b c n : ℕ) (o : Result (ℕ × Forest) Refusal) → is_ok o ≡ true → b ≡ a + n → c ≡ b + step_ticks o → c ≡ a + (n + 1)
step_ticked a b c n o ok ahead more = let one = accepted-ticks o ok in omega (arith, one, ahead, more)

pub goes_on-requires : goal.goes_on-requires
goes_on-requires g c =
    let f : Forest = c.run_ahead-made.new.self.numbers in
    let ok : is_ok (step f c.args.row.now.txn c.args.row.now.role) ≡ true = made-is (step f c.args.row.now.txn c.args.row.now.role) c.in-Stepped.position (sym c.step_at.ensures.answer ∙ c.in-Stepped.is) in
    let still : IsStillPicked c.args.self.now.numbers f c.args.row.now = c.run_ahead-made.ensures.stays ok in
    let next : c.step_at.new.self.numbers ≡ step_row f c.args.row.now = ap (λ (v : View). v.numbers) c.step_at.ensures.next in
    let there = c.run_ahead-made.ensures.place in
    let step_is : IsStep c.args.self.now.numbers f c.step_at.new.self.numbers c.args.row.now c.args.place there.0 =
    record { still = still; ok = ok; role = c.leaves_others-leaves.ensures.optimistic c.if-leaves.true; there = there.1; found = there.2; next = next }
    in
    stays-below c.args.self.now.numbers f c.step_at.new.self.numbers c.args.row.now c.args.place there.0 step_is

pub returns-then-leaves : goal.returns-then-leaves
returns-then-leaves g c =
    let f : Forest = c.run_ahead-made.new.self.numbers in
    let ok : is_ok (step f c.args.row.now.txn c.args.row.now.role) ≡ true = made-is (step f c.args.row.now.txn c.args.row.now.role) c.in-Stepped.position (sym c.step_at.ensures.answer ∙ c.in-Stepped.is) in
    let still : IsStillPicked c.args.self.now.numbers f c.args.row.now = c.run_ahead-made.ensures.stays ok in
    let next : c.step_at.new.self.numbers ≡ step_row f c.args.row.now = ap (λ (v : View). v.numbers) c.step_at.ensures.next in
    let there = c.run_ahead-made.ensures.place in
    let step_is : IsStep c.args.self.now.numbers f c.step_at.new.self.numbers c.args.row.now c.args.place there.0 =
    record { still = still; ok = ok; role = c.leaves_others-leaves.ensures.optimistic c.if-leaves.true; there = there.1; found = there.2; next = next }
    in
    record {
      some = omega arith;
      runs = step_runs c.args.self.now.numbers f c.step_at.new.self.numbers c.args.row.now c.run_ahead-made.result still c.run_ahead-made.ensures.runs next;
      stays = λ goes. stays-on c.args.self.now.numbers f c.step_at.new.self.numbers c.args.row.now c.args.place there.0 step_is c.goes_on.result (c.leaves_others-leaves.ensures.leaves c.if-leaves.true there.0 there.2) goes c.goes_on.ensures;
      told = told-on c.args.self.now c.run_ahead-made.new.self c.step_at.new.self _ c.step_at.ensures.next c.run_ahead-made.ensures.told;
      ticks = step_ticked c.args.steps.now c.run_ahead-made.new.steps c.step_at.new.steps c.run_ahead-made.result (step f c.args.row.now.txn c.args.row.now.role) ok c.run_ahead-made.ensures.ticks c.step_at.ensures.ticks;
    }

pub returns-else-leaves : goal.returns-else-leaves
returns-else-leaves g c =
    let f : Forest = c.run_ahead-made.new.self.numbers in
    let ok : is_ok (step f c.args.row.now.txn c.args.row.now.role) ≡ true = made-is (step f c.args.row.now.txn c.args.row.now.role) c.in-Stepped.position (sym c.step_at.ensures.answer ∙ c.in-Stepped.is) in
    let still : IsStillPicked c.args.self.now.numbers f c.args.row.now = c.run_ahead-made.ensures.stays ok in
    let next : c.step_at.new.self.numbers ≡ step_row f c.args.row.now = ap (λ (v : View). v.numbers) c.step_at.ensures.next in
    record {
      some = omega arith;
      runs = step_runs c.args.self.now.numbers f c.step_at.new.self.numbers c.args.row.now c.run_ahead-made.result still c.run_ahead-made.ensures.runs next;
      stays = λ e. absurd (true≢false (sym e));
      told = told-on c.args.self.now c.run_ahead-made.new.self c.step_at.new.self _ c.step_at.ensures.next c.run_ahead-made.ensures.told;
      ticks = step_ticked c.args.steps.now c.run_ahead-made.new.steps c.step_at.new.steps c.run_ahead-made.result (step f c.args.row.now.txn c.args.row.now.role) ok c.run_ahead-made.ensures.ticks c.step_at.ensures.ticks;
    }

-- None more.

pub returns-in_default : goal.returns-in_default
returns-in_default g c =
    let f : Forest = c.run_ahead-made.new.self.numbers in
    let o : Result (ℕ × Forest) Refusal = step f c.args.row.now.txn c.args.row.now.role in
    let refused_it : is_ok o ≡ false = not-made o (λ position e. c.in_default.not-Stepped position (c.step_at.ensures.answer ∙ e)) in
    let same : c.step_at.new.self.numbers ≡ f = ap (λ (v : View). v.numbers) c.step_at.ensures.next ∙ (still-there f o refused_it).0 in
    record {
      some =
          positive c.run_ahead-made.result
          (λ none.
          let accepted : is_ok o ≡ true = ap (λ (v : View). is_ok (step v.numbers c.args.row.now.txn c.args.row.now.role)) (c.run_ahead-made.ensures.none none) ∙ pick-accepted c.args.self.now.numbers c.args.row.now c.requires.sound c.requires.pick in
          true≢false (sym accepted ∙ refused_it));
      runs = subst (λ h. RunsOn c.args.self.now.numbers h c.run_ahead-made.result) (sym same) c.run_ahead-made.ensures.runs;
      stays = λ e. absurd (true≢false (sym e));
      told = told-on c.args.self.now c.run_ahead-made.new.self c.step_at.new.self _ c.step_at.ensures.next c.run_ahead-made.ensures.told;
      ticks =
          let none = (still-there f o refused_it).1 in
          let ahead = c.run_ahead-made.ensures.ticks in
          let ticked = c.step_at.ensures.ticks in
          omega (arith, none, ahead, ticked);
    }
