-- Steps of the pick as long as there is one: they come to an end, the forest is idle then, and their number is bounded.
use Rattle.std.proofs.Common.{◌≡◌, ℕ, zero, suc, ◌+◌, ◌-◌, ◌*◌, ◌^◌, ◌<◌, ◌≤◌, true, List, [], ◌∷◌, length, Option, Some, None, Result, Ok, Err, IfOk, is_ok, refl, ap, sym, ◌∙◌, arith, mul-le-mul, suc-mul}
use Rattle.std.proofs.Math.Nat.{mul-le-mul_left}
use Rattle.std.specs.List.{AllByRecursion}
use Rattle.std.proofs.lemmas.Bool.{cond_both}
use Rattle.txn_runs.specs.Bounds.{steps_max}
use Rattle.block_rule.specs.Standing.{unless_ended}
use Rattle.block_rule.specs.declared.role.Role.{Role}
use Rattle.block_rule.specs.declared.role.Role.TheVariants.{Optimistic, Guard}
use Rattle.block_rule.specs.declared.role.Row.{Row}
use Rattle.journal_core.specs.Journal.{is_live}
use Rattle.forest_model.specs.Forest.{Shadow, Started, Forest, program, length_of, is_ended, wanted, find_started}
use Rattle.forest_model.specs.Pick.{pick}
use Rattle.forest_model.specs.Sound.{IsSound, IsIdle, IsHome}
use Rattle.forest_model.specs.Events.{Refusal, step_role, step_guard, with_shadows, step}
use Rattle.forest_model.specs.Work.{total, ahead, waiting, most, work}
use Rattle.forest_model.specs.Drain.{after_step, step_row, counted, run_from, run_within, run_idle}
use Rattle.forest_model.proofs.Lists.{all-weaken}
use Rattle.txn_runs.proofs.Ending.{length_within}
use Rattle.forest_model.proofs.StepLaws.{if_runnable-all, if_started-all, step-sound}
use Rattle.forest_model.proofs.RestLaws.{idle-without_pick}
use Rattle.forest_model.proofs.WorkLaws.{step-lowers, waiting-le}
use Rattle.forest_model.proofs.PickLaws.{pick-accepted}
use Rattle.forest_model.proofs.HomeLaws.{step-home}

-- What a step keeps.

-- g has the same journal, tables and bounds as f
pub record IsAlike (f g : Forest) : Type 0 where
  pub k : g.k ≡ f.k
  pub lanes : g.lanes ≡ f.lanes
  pub journal : g.journal ≡ f.journal

with_shadows-alike : (f : Forest) (r : Started) (new : Result (ℕ × List Shadow) Refusal) → IfOk (with_shadows f r new) (λ a. IsAlike f a.1)
with_shadows-alike f r (Ok new) = record { k = refl; lanes = refl; journal = refl }
with_shadows-alike f r (Err refusal) = tt

step_role-alike : (f : Forest) (role : Role) (r : Started) → IfOk (step_role f role r) (λ a. IsAlike f a.1)
step_role-alike f Optimistic r = if_runnable-all (unless_ended (is_ended f r)) _ (λ a. IsAlike f a.1) (λ run. record { k = refl; lanes = refl; journal = refl })
step_role-alike f (Guard u) r = with_shadows-alike f r (step_guard u r.shadows (wanted f r))

step-alike : (f : Forest) (t : ℕ) (role : Role) → IfOk (step f t role) (λ a. IsAlike f a.1)
step-alike f t role =
    cond_both {A = Result (ℕ × Forest) Refusal} (is_live f.journal t) _ _ (λ x. IfOk x (λ a. IsAlike f a.1))
    (λ e. if_started-all (λ a. IsAlike f a.1) (find_started f.started t) (step_role f role) (λ r found. step_role-alike f role r)) (λ e. tt)

-- The step of the pick.

accepted-after : (f : Forest) (o : Result (ℕ × Forest) Refusal) (P : Forest → Type 0) → is_ok o ≡ true → IfOk o (λ a. P a.1) → P (after_step f o)
accepted-after f (Ok answer) P ok h = h
accepted-after f (Err refusal) P ok h = cc

pub record IsPickStep (f g : Forest) : Type 0 where
  pub sound : IsSound g
  pub lower : work g < work f
  pub alike : IsAlike f g
  pub home : IsHome f → IsHome g

home-after : (f : Forest) (o : Result (ℕ × Forest) Refusal) → is_ok o ≡ true → (IsHome f → IfOk o (λ a. IsHome a.1)) → IsHome f → IsHome (after_step f o)
home-after f (Ok answer) ok h home = h home
home-after f (Err refusal) ok h home = home

pub pick-step : (f : Forest) (row : Row) → IsSound f → pick f ≡ Some row → IsPickStep f (step_row f row)
pick-step f row h e =
    let ok : is_ok (step f row.txn row.role) ≡ true = pick-accepted f row h e in
    record {
      sound = accepted-after f (step f row.txn row.role) IsSound ok (step-sound f row.txn row.role h);
      lower = accepted-after f (step f row.txn row.role) (λ g. work g < work f) ok (step-lowers f row.txn row.role h);
      alike = accepted-after f (step f row.txn row.role) (IsAlike f) ok (step-alike f row.txn row.role);
      home = home-after f (step f row.txn row.role) ok (step-home f row.txn row.role);
    }

-- Steps until there is no pick.

pub record IsRunOf (f : Forest) (n : ℕ) (x : ℕ × Forest) : Type 0 where
  pub sound : IsSound x.1
  pub home : IsHome f → IsHome x.1
  pub few : x.0 + work x.1 ≤ work f
  pub ends : work f ≤ n → pick x.1 ≡ None

run-of : (f : Forest) (n : ℕ) (o : Option Row) (more : Forest → ℕ × Forest) → pick f ≡ o → IsSound f
    → ((g : Forest) → IsSound g → IsRunOf g n (more g)) → IsRunOf f (suc n) (run_from o f more)
run-of f n None more e h each = record { sound = h; home = λ q. q; few = omega arith; ends = λ le. e }
run-of f n (Some row) more e h each =
    let one : IsPickStep f (step_row f row) = pick-step f row h e in
    let rest : IsRunOf (step_row f row) n (more (step_row f row)) = each (step_row f row) one.sound in
    record {
      sound = rest.sound;
      home = λ q. rest.home (one.home q);
      few = omega (arith, one.lower, rest.few);
      ends = λ le. rest.ends (omega (arith, one.lower));
    }

pub no_pick : (f : Forest) (o : Option Row) → pick f ≡ o → IsSound f → work f ≤ 0 → pick f ≡ None
no_pick f None e h le = e
no_pick f (Some row) e h le = absurd (omega (arith, (pick-step f row h e).lower))

pub run_within-is : (n : ℕ) (f : Forest) → IsSound f → IsRunOf f n (run_within n f)
run_within-is zero f h = record { sound = h; home = λ q. q; few = omega arith; ends = no_pick f (pick f) refl h }
run_within-is (suc n) f h = run-of f n (pick f) (run_within n) refl h (run_within-is n)

pub run_idle-is : (f : Forest) → IsSound f → IsRunOf f (work f) (run_idle f)
run_idle-is f h = run_within-is (work f) f h

-- after them a forest with nothing out is idle
pub run_idle-idle : (f : Forest) → IsSound f → IsHome f → IsIdle (run_idle f).1
run_idle-idle f h home =
    let r : IsRunOf f (work f) (run_idle f) = run_idle-is f h in
    idle-without_pick (run_idle f).1 r.sound (r.home home) (r.ends (omega arith))

-- The steps are what they are whatever the bound, if that is enough.

still : (n : ℕ) (f : Forest) → pick f ≡ None → run_within n f ≡ (0, f)
still zero f h = refl
still (suc n) f h = rw h refl

on_same : (f : Forest) (a b : Forest → ℕ × Forest) (o : Option Row) → pick f ≡ o → IsSound f → ((g : Forest) → IsPickStep f g → a g ≡ b g) → run_from o f a ≡ run_from o f b
on_same f a b None e h each = refl
on_same f a b (Some row) e h each = ap counted (each (step_row f row) (pick-step f row h e))

run-same : (n m : ℕ) (f : Forest) → IsSound f → work f ≤ n → work f ≤ m → run_within n f ≡ run_within m f
run-same zero m f h le le' = sym (still m f (no_pick f (pick f) refl h le))
run-same (suc n) zero f h le le' = still (suc n) f (no_pick f (pick f) refl h le')
run-same (suc n) (suc m) f h le le' =
    on_same f (run_within n) (run_within m) (pick f) refl h
    (λ g one. run-same n m g one.sound (omega (arith, one.lower)) (omega (arith, one.lower)))

-- they are one step of the pick, and then those of the forest after it
pub run_idle-unrolled : (f : Forest) → IsSound f → run_idle f ≡ run_from (pick f) f run_idle
run_idle-unrolled f h =
    run-same (work f) (suc (work f)) f h (omega arith) (omega arith)
    ∙ on_same f (run_within (work f)) run_idle (pick f) refl h
    (λ g one. run-same (work f) (work g) g one.sound (omega (arith, one.lower)) (omega arith))

-- How much work there can be.

total-bound : (g : Started → ℕ) (b : ℕ) (xs : List Started) → AllByRecursion (λ x. g x ≤ b) xs → total g xs ≤ length xs * b
total-bound g b [] all = omega arith
total-bound g b (x ∷ xs) all = rw suc-mul (omega (arith, all.0, total-bound g b xs all.1))

pub work-bound : (f : Forest) (longest : ℕ) → IsSound f → AllByRecursion (λ r. length_of f r ≤ longest) f.started
    → work f ≤ f.lanes * longest * suc (f.lanes * (f.k * longest)) + f.lanes * (f.k * longest)
work-bound f longest h all =
    let lanes : length f.started ≤ f.lanes = h.right.at_most in
    let few : length f.started * longest ≤ f.lanes * longest = mul-le-mul lanes (omega arith) in
    let ahead_le : ahead f ≤ length f.started * longest =
    total-bound (λ r. length_of f r - r.position) longest f.started
    (all-weaken (λ r. length_of f r ≤ longest) (λ r. length_of f r - r.position ≤ longest) (λ r le. omega arith) f.started all)
    in
    let most_le : most f ≤ length f.started * (f.k * longest) =
    total-bound (λ r. f.k * length_of f r) (f.k * longest) f.started
    (all-weaken (λ r. length_of f r ≤ longest) (λ r. f.k * length_of f r ≤ f.k * longest) (λ r le. mul-le-mul_left f.k le) f.started all)
    in
    let spread : length f.started * (f.k * longest) ≤ f.lanes * (f.k * longest) = mul-le-mul lanes (omega arith) in
    let low : suc (most f) ≤ suc (f.lanes * (f.k * longest)) = omega arith in
    let near : ahead f ≤ f.lanes * longest = omega arith in
    let product : ahead f * suc (most f) ≤ f.lanes * longest * suc (f.lanes * (f.k * longest)) = mul-le-mul near low in
    let wait : waiting f ≤ most f = waiting-le f h in
    omega arith

-- within the limits of forests and programs the steps can be counted in 64 bits
pub run_idle-fits : (f : Forest) → IsSound f → f.k ≤ 8 → f.lanes ≤ 64 → AllByRecursion (λ r. steps_max (program f r) ≤ 100000) f.started → (run_idle f).0 < 2 ^ 64
run_idle-fits f h k lanes all =
    let short : AllByRecursion (λ r. length_of f r ≤ 100000) f.started =
    all-weaken (λ r. steps_max (program f r) ≤ 100000) (λ r. length_of f r ≤ 100000) (λ r le. omega (arith, length_within (program f r) f.tables)) f.started all
    in
    let bound : work f ≤ f.lanes * 100000 * suc (f.lanes * (f.k * 100000)) + f.lanes * (f.k * 100000) = work-bound f 100000 h short in
    let by_k : f.k * 100000 ≤ 800000 = omega arith in
    let by_lanes : f.lanes * 100000 ≤ 6400000 = omega arith in
    let points : f.lanes * (f.k * 100000) ≤ 64 * 800000 = mul-le-mul lanes by_k in
    let low : suc (f.lanes * (f.k * 100000)) ≤ 51200001 = omega arith in
    let product : f.lanes * 100000 * suc (f.lanes * (f.k * 100000)) ≤ 6400000 * 51200001 = mul-le-mul by_lanes low in
    let few : (run_idle f).0 + work (run_idle f).1 ≤ work f = (run_idle-is f h).few in
    let small : (run_idle f).0 ≤ 6400000 * 51200001 + 64 * 800000 = omega arith in
    omega arith
