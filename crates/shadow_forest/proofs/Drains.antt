-- A drain as a forest's user sees it, a step at a time.
use Rattle.std.proofs.Common.{◌≡◌, ◌⊎◌, inl, inr, ℕ, zero, suc, ◌+◌, ◌<◌, ◌≤◌, true, Option, Some, None, Result, Ok, Err, is_ok, refl, ap, sym, ◌∙◌, subst, arith}
use Rattle.block_rule.specs.declared.role.Row.{Row}
use Rattle.forest_model.specs.Forest.{Forest}
use Rattle.forest_model.specs.Pick.{pick}
use Rattle.forest_model.specs.Sound.{IsSound}
use Rattle.forest_model.specs.Events.{Refusal, commit}
use Rattle.forest_model.specs.Jobs.{recall}
use Rattle.forest_model.specs.Work.{work}
use Rattle.forest_model.specs.Drain.{step_row, first_ended, after_commit, drain_by, drain_step, until_from, until_within, until_commit, drain_from, drain_within, left, drain}
use Rattle.forest_model.specs.declared.did.Did.{Did}
use Rattle.forest_model.specs.declared.did.Did.TheVariants.{Committed, Stepped, Nothing}
use Rattle.forest_model.proofs.Lists.{either}
use Rattle.forest_model.proofs.DrainLaws.{IsDrainStep, HasNothing, commit-step, row-step}
use Rattle.forest_model.proofs.UntilLaws.{until-stops}
use Rattle.forest_model.proofs.GateLaws.{first-accepted}
use Rattle.shadow_forest.specs.Answers.{did_ticks}
use Rattle.shadow_forest.specs.View.{View, with_numbers, told_commit, commit_view, commit_told, drain_told, drain_step_view, drain_view_from, drain_view_within, drain_view}

-- What a step does.

-- an accepted commit is told so
pub told-accepted : (v : View) (t : ℕ) (o : Result Forest Refusal) → is_ok o ≡ true → commit_told v t o ≡ told_commit v t (after_commit v.numbers o)
told-accepted v t (Ok g) e = refl
told-accepted v t (Err refusal) e = cc

pub told-numbers : (v : View) (did : Did) (g : Forest) → (drain_told v did g).numbers ≡ g
told-numbers v (Committed t) g = refl
told-numbers v (Stepped t role) g = refl
told-numbers v Nothing g = refl

-- a commit of the first that has ended
pub drain-commits : (v : View) (t : ℕ) → first_ended v.numbers ≡ Some t → drain_step v.numbers ≡ (Committed t, after_commit v.numbers (commit v.numbers t))
drain-commits v t e = ap (λ o. drain_by v.numbers o (pick v.numbers)) e

pub commits-view : (v : View) (t : ℕ) → IsSound v.numbers → first_ended v.numbers ≡ Some t → commit_view v t ≡ drain_step_view v
commits-view v t h e =
    told-accepted v t (commit v.numbers t) (first-accepted v.numbers t h e)
    ∙ sym (ap (λ (x : Did × Forest). drain_told v x.0 x.1) (drain-commits v t e))

-- else a step of the pick
pub drain-steps : (v : View) (row : Row) → first_ended v.numbers ≡ None → pick v.numbers ≡ Some row → drain_step v.numbers ≡ (Stepped row.txn row.role, step_row v.numbers row)
drain-steps v row e q = ap (λ o. drain_by v.numbers o (pick v.numbers)) e ∙ ap (drain_by v.numbers None) q

pub steps-view : (v : View) (row : Row) → first_ended v.numbers ≡ None → pick v.numbers ≡ Some row → with_numbers (step_row v.numbers row) v ≡ drain_step_view v
steps-view v row e q = sym (ap (λ (x : Did × Forest). drain_told v x.0 x.1) (drain-steps v row e q))

-- there is nothing to do, or what is left gets less
cases-by : (f : Forest) (o : Option ℕ) (p : Option Row) → first_ended f ≡ o → pick f ≡ p → IsSound f → HasNothing f ⊎ IsDrainStep f (drain_by f o p).1
cases-by f (Some t) p e q h = inr (commit-step f t h e)
cases-by f None (Some row) e q h = inr (row-step f row h q)
cases-by f None None e q h = inl (e, q)

pub step-cases : (f : Forest) → IsSound f → HasNothing f ⊎ IsDrainStep f (drain_step f).1
step-cases f h = cases-by f (first_ended f) (pick f) refl refl h

pub nothing-done : (f : Forest) → HasNothing f → drain_step f ≡ (Nothing, f)
nothing-done f h = ap (λ o. drain_by f o (pick f)) (h.0) ∙ ap (drain_by f None) (h.1)

-- where something was done, something was left
done-by : (f : Forest) (o : Option ℕ) (p : Option Row) → first_ended f ≡ o → pick f ≡ p → IsSound f → ((drain_by f o p).0 ≡ Nothing → ⊥) → IsDrainStep f (drain_by f o p).1
done-by f (Some t) p e q h ne = commit-step f t h e
done-by f None (Some row) e q h ne = row-step f row h q
done-by f None None e q h ne = absurd (ne refl)

pub step-done : (f : Forest) → IsSound f → ((drain_step f).0 ≡ Nothing → ⊥) → IsDrainStep f (drain_step f).1
step-done f h ne = done-by f (first_ended f) (pick f) refl refl h ne

-- A whole drain.

from-still : (v : View) (more : View → ℕ × View) → HasNothing v.numbers → drain_view_from (drain_step v.numbers).0 (drain_step_view v) more ≡ (0, v)
from-still v more h = ap (λ (x : Did × Forest). drain_view_from x.0 (drain_told v x.0 x.1) more) (nothing-done v.numbers h)

pub view-nothing : (v : View) → HasNothing v.numbers → v ≡ drain_step_view v
view-nothing v h = sym (ap (λ (x : Did × Forest). drain_told v x.0 x.1) (nothing-done v.numbers h))

view-still : (n : ℕ) (v : View) → HasNothing v.numbers → drain_view_within n v ≡ (0, v)
view-still zero v h = refl
view-still (suc n) v h = from-still v (drain_view_within n) h

from-same : (did : Did) (v : View) (a b : View → ℕ × View) → a v ≡ b v → drain_view_from did v a ≡ drain_view_from did v b
from-same (Committed t) v a b e = e
from-same (Stepped t role) v a b e = ap (λ (x : ℕ × View). (suc x.0, x.1)) e
from-same Nothing v a b e = refl

module _ (v : View) (one : IsDrainStep v.numbers (drain_step v.numbers).1) where
  pub next-sound : IsSound (drain_step_view v).numbers
  next-sound = subst IsSound (sym (told-numbers v (drain_step v.numbers).0 (drain_step v.numbers).1)) one.sound

  pub next-lower : left (drain_step_view v).numbers < left v.numbers
  next-lower = subst (λ g. left g < left v.numbers) (sym (told-numbers v (drain_step v.numbers).0 (drain_step v.numbers).1)) one.lower

-- it is what it is whatever the bound, if that is enough
view-same : (n m : ℕ) (v : View) → IsSound v.numbers → left v.numbers ≤ n → left v.numbers ≤ m → drain_view_within n v ≡ drain_view_within m v
view-same zero m v h le le' =
    either (step-cases v.numbers h)
    (λ nothing. sym (view-still m v nothing))
    (λ one. absurd (omega (arith, one.lower)))
view-same (suc n) zero v h le le' =
    either (step-cases v.numbers h)
    (λ nothing. view-still (suc n) v nothing)
    (λ one. absurd (omega (arith, one.lower)))
view-same (suc n) (suc m) v h le le' =
    either (step-cases v.numbers h)
    (λ nothing. view-still (suc n) v nothing ∙ sym (view-still (suc m) v nothing))
    (λ one.
    let lower : left (drain_step_view v).numbers < left v.numbers = next-lower v one in
    from-same (drain_step v.numbers).0 (drain_step_view v) (drain_view_within n) (drain_view_within m)
    (view-same n m (drain_step_view v) (next-sound v one) (omega arith) (omega arith)))

-- what is left of a drain
abbrev pub rest_view : View → ℕ × View
rest_view v = drain_view_within (left v.numbers) v

-- it is one step, and then what is left of it
pub rest-unrolled : (v : View) → IsSound v.numbers → rest_view v ≡ drain_view_from (drain_step v.numbers).0 (drain_step_view v) rest_view
rest-unrolled v h =
    either (step-cases v.numbers h)
    (λ nothing. view-still (left v.numbers) v nothing ∙ sym (from-still v rest_view nothing))
    (λ one.
    let lower : left (drain_step_view v).numbers < left v.numbers = next-lower v one in
    view-same (left v.numbers) (suc (left v.numbers)) v h (omega arith) (omega arith)
    ∙ from-same (drain_step v.numbers).0 (drain_step_view v) (drain_view_within (left v.numbers)) rest_view
    (view-same (left v.numbers) (left (drain_step_view v).numbers) (drain_step_view v) (next-sound v one) (omega arith) (omega arith)))

-- Up to the next commit.

-- what is left of a drain is so many steps and what is left after them
pub record HasRest (v : View) (x : ℕ × Forest) : Type 0 where
  pub steps : (rest_view v).0 ≡ x.0 + (rest_view (with_numbers x.1 v)).0
  pub last : (rest_view v).1 ≡ (rest_view (with_numbers x.1 v)).1

rest-here : (v : View) → HasRest v (0, v.numbers)
rest-here v = record { steps = omega arith; last = refl }

rest-by : (v : View) (o : Option ℕ) (p : Option Row) (more : Forest → ℕ × Forest) → first_ended v.numbers ≡ o → pick v.numbers ≡ p → IsSound v.numbers
    → ((w : View) → IsSound w.numbers → HasRest w (more w.numbers)) → HasRest v (until_from (drain_by v.numbers o p).0 v.numbers (drain_by v.numbers o p).1 more)
rest-by v (Some t) p more e q h each = rest-here v
rest-by v None (Some row) more e q h each =
    let w : View = with_numbers (step_row v.numbers row) v in
    let one : rest_view v ≡ (suc (rest_view w).0, (rest_view w).1) =
    rest-unrolled v h ∙ ap (λ (x : Did × Forest). drain_view_from x.0 (drain_told v x.0 x.1) rest_view) (drain-steps v row e q)
    in
    let rest : HasRest w (more w.numbers) = each w (row-step v.numbers row h q).sound in
    record {
      steps = let count = ap (λ (x : ℕ × View). x.0) one in omega (arith, count, rest.steps);
      last = ap (λ (x : ℕ × View). x.1) one ∙ rest.last;
    }
rest-by v None None more e q h each = rest-here v

rest-within : (n : ℕ) (v : View) → IsSound v.numbers → HasRest v (until_within n v.numbers)
rest-within zero v h = rest-here v
rest-within (suc n) v h = rest-by v (first_ended v.numbers) (pick v.numbers) (until_within n) refl refl h (rest-within n)

-- the forest before the next commit
abbrev pub until_view : View → View
until_view v = with_numbers (until_commit v.numbers).1 v

pub rest-until : (v : View) → IsSound v.numbers → HasRest v (until_commit v.numbers)
rest-until v h = rest-within (work v.numbers) v h

-- where nobody has ended then there is nothing left to do
pub until-nothing : (v : View) → IsSound v.numbers → None ≡ first_ended (until_view v).numbers → (drain_step (until_view v).numbers).0 ≡ Nothing
until-nothing v h none = ap (λ (x : Did × Forest). x.0) (nothing-done (until_view v).numbers (sym none, until-stops v.numbers h (sym none)))

-- less is left then
left-by : (f : Forest) (o : Option ℕ) (p : Option Row) (more : Forest → ℕ × Forest) → pick f ≡ p → IsSound f → ((g : Forest) → IsSound g → left (more g).1 ≤ left g)
    → left (until_from (drain_by f o p).0 f (drain_by f o p).1 more).1 ≤ left f
left-by f (Some t) p more q h each = omega arith
left-by f None (Some row) more q h each =
    let one = row-step f row h q in
    let rest = each (step_row f row) one.sound in
    let lower = one.lower in
    omega (arith, rest, lower)
left-by f None None more q h each = omega arith

left-within : (n : ℕ) (f : Forest) → IsSound f → left (until_within n f).1 ≤ left f
left-within zero f h = omega arith
left-within (suc n) f h = left-by f (first_ended f) (pick f) (until_within n) refl h (left-within n)

pub until-left : (f : Forest) → IsSound f → left (until_commit f).1 ≤ left f
until-left f h = left-within (work f) f h

-- else something is
pub until-some : (v : View) (t : ℕ) → Some t ≡ first_ended (until_view v).numbers → (drain_step (until_view v).numbers).0 ≡ Nothing → ⊥
until-some v t some e =
    let did : Committed t ≡ Nothing = sym (ap (λ (x : Did × Forest). x.0) (drain-commits (until_view v) t (sym some))) ∙ e in
    cc

-- In numbers.

from-numbers : (did : Did) (v : View) (g : Forest) (a : View → ℕ × View) (b : Forest → ℕ × Forest) → v.numbers ≡ g → ((w : View) → (a w).1.numbers ≡ (b w.numbers).1) → (drain_view_from did v a).1.numbers ≡ (drain_from did g b).1
from-numbers (Committed t) v g a b e each = each v ∙ ap (λ f. (b f).1) e
from-numbers (Stepped t role) v g a b e each = each v ∙ ap (λ f. (b f).1) e
from-numbers Nothing v g a b e each = e

within-numbers : (n : ℕ) (v : View) → (drain_view_within n v).1.numbers ≡ (drain_within n v.numbers).1
within-numbers zero v = refl
within-numbers (suc n) v =
    from-numbers (drain_step v.numbers).0 (drain_step_view v) (drain_step v.numbers).1 (drain_view_within n) (drain_within n)
    (told-numbers v (drain_step v.numbers).0 (drain_step v.numbers).1) (within-numbers n)

-- the forest after a drain is that of the drain in numbers
pub drain-numbers : (v : View) → (drain_view v).1.numbers ≡ (drain v.numbers).1
drain-numbers v = within-numbers (left (recall v.numbers)) (with_numbers (recall v.numbers) v)

from-steps : (did : Did) (v : View) (g : Forest) (a : View → ℕ × View) (b : Forest → ℕ × Forest) → v.numbers ≡ g → ((w : View) → (a w).0 ≡ (b w.numbers).0) → (drain_view_from did v a).0 ≡ (drain_from did g b).0
from-steps (Committed t) v g a b e each = each v ∙ ap (λ f. (b f).0) e
from-steps (Stepped t role) v g a b e each = ap suc (each v ∙ ap (λ f. (b f).0) e)
from-steps Nothing v g a b e each = refl

within-steps : (n : ℕ) (v : View) → (drain_view_within n v).0 ≡ (drain_within n v.numbers).0
within-steps zero v = refl
within-steps (suc n) v =
    from-steps (drain_step v.numbers).0 (drain_step_view v) (drain_step v.numbers).1 (drain_view_within n) (drain_within n)
    (told-numbers v (drain_step v.numbers).0 (drain_step v.numbers).1) (within-steps n)

-- and it has as many steps
pub drain-count : (v : View) → (drain_view v).0 ≡ (drain v.numbers).0
drain-count v = within-steps (left (recall v.numbers)) (with_numbers (recall v.numbers) v)

-- The step that did this, of what is left.

pub rest-nothing : (v : View) → IsSound v.numbers → (drain_step v.numbers).0 ≡ Nothing → rest_view v ≡ (0, drain_step_view v)
rest-nothing v h e = rest-unrolled v h ∙ ap (λ did. drain_view_from did (drain_step_view v) rest_view) e

from-last : (did : Did) (v : View) (more : View → ℕ × View) → (did ≡ Nothing → ⊥) → (drain_view_from did v more).1 ≡ (more v).1
from-last (Committed t) v more ne = refl
from-last (Stepped t role) v more ne = refl
from-last Nothing v more ne = absurd (ne refl)

from-ticks : (did : Did) (v : View) (more : View → ℕ × View) → (did ≡ Nothing → ⊥) → (drain_view_from did v more).0 ≡ did_ticks did + (more v).0
from-ticks (Committed t) v more ne = omega arith
from-ticks (Stepped t role) v more ne = omega arith
from-ticks Nothing v more ne = absurd (ne refl)

pub rest-last : (v : View) → IsSound v.numbers → ((drain_step v.numbers).0 ≡ Nothing → ⊥) → (rest_view v).1 ≡ (rest_view (drain_step_view v)).1
rest-last v h ne = ap (λ (x : ℕ × View). x.1) (rest-unrolled v h) ∙ from-last (drain_step v.numbers).0 (drain_step_view v) rest_view ne

pub rest-ticks : (v : View) → IsSound v.numbers → ((drain_step v.numbers).0 ≡ Nothing → ⊥) → (rest_view v).0 ≡ did_ticks (drain_step v.numbers).0 + (rest_view (drain_step_view v)).0
rest-ticks v h ne = ap (λ (x : ℕ × View). x.0) (rest-unrolled v h) ∙ from-ticks (drain_step v.numbers).0 (drain_step_view v) rest_view ne

-- the next commit takes no step
pub until-ticks : (v : View) (t : ℕ) → IsSound (until_view v).numbers → Some t ≡ first_ended (until_view v).numbers → (rest_view (until_view v)).0 ≡ (rest_view (drain_step_view (until_view v))).0
until-ticks v t h e =
    let did : did_ticks (drain_step (until_view v).numbers).0 ≡ 0 = ap (λ (x : Did × Forest). did_ticks x.0) (drain-commits (until_view v) t (sym e)) in
    let count = rest-ticks (until_view v) h (until-some v t e) in
    omega (arith, did, count)
