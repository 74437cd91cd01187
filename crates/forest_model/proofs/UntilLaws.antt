-- The steps of a drain up to its next commit: they come to an end, and the drain goes on from there.
use Rattle.std.proofs.Common.{◌≡◌, ℕ, zero, suc, ◌+◌, ◌≤◌, Option, Some, None, refl, ap, sym, ◌∙◌, arith}
use Rattle.block_rule.specs.declared.role.Row.{Row}
use Rattle.forest_model.specs.Forest.{Forest}
use Rattle.forest_model.specs.Pick.{pick}
use Rattle.forest_model.specs.Sound.{IsSound}
use Rattle.forest_model.specs.Work.{work}
use Rattle.forest_model.specs.Drain.{step_row, counted, first_ended, drain_by, drain_step, drain_from, until_from, until_within, until_commit, drain_rest}
use Rattle.forest_model.specs.Stays.{Leads}
use Rattle.forest_model.proofs.IdleLaws.{IsPickStep, pick-step, no_pick}
use Rattle.forest_model.proofs.DrainLaws.{drain-unrolled}

-- One step.

abbrev by : Forest → Option ℕ → Option Row → (Forest → ℕ × Forest) → ℕ × Forest
by f o p more = until_from (drain_by f o p).0 f (drain_by f o p).1 more

by-same : (f : Forest) (o : Option ℕ) (p : Option Row) (a b : Forest → ℕ × Forest) → pick f ≡ p → IsSound f → ((g : Forest) → IsPickStep f g → a g ≡ b g) → by f o p a ≡ by f o p b
by-same f (Some t) p a b q h each = refl
by-same f None (Some row) a b q h each = ap counted (each (step_row f row) (pick-step f row h q))
by-same f None None a b q h each = refl

by-still : (f : Forest) (o : Option ℕ) (p : Option Row) (more : Forest → ℕ × Forest) → p ≡ None → by f o p more ≡ (0, f)
by-still f (Some t) p more none = refl
by-still f None (Some row) more none = cc
by-still f None None more none = refl

-- The steps are what they are whatever the bound, if that is enough.

still : (n : ℕ) (f : Forest) → pick f ≡ None → until_within n f ≡ (0, f)
still zero f none = refl
still (suc n) f none = by-still f (first_ended f) (pick f) (until_within n) none

until-same : (n m : ℕ) (f : Forest) → IsSound f → work f ≤ n → work f ≤ m → until_within n f ≡ until_within m f
until-same zero m f h le le' = sym (still m f (no_pick f (pick f) refl h le))
until-same (suc n) zero f h le le' = still (suc n) f (no_pick f (pick f) refl h le')
until-same (suc n) (suc m) f h le le' =
    by-same f (first_ended f) (pick f) (until_within n) (until_within m) refl h
    (λ g one. until-same n m g one.sound (omega (arith, one.lower)) (omega (arith, one.lower)))

pub until-unrolled : (f : Forest) → IsSound f → until_commit f ≡ until_from (drain_step f).0 f (drain_step f).1 until_commit
until-unrolled f h =
    until-same (work f) (suc (work f)) f h (omega arith) (omega arith)
    ∙ by-same f (first_ended f) (pick f) (until_within (work f)) until_commit refl h
    (λ g one. until-same (work f) (work g) g one.sound (omega (arith, one.lower)) (omega arith))

until-is : (f : Forest) (o : Option ℕ) (p : Option Row) → IsSound f → first_ended f ≡ o → pick f ≡ p → until_commit f ≡ by f o p until_commit
until-is f o p h e q = until-unrolled f h ∙ ap (λ x. by f x (pick f) until_commit) e ∙ ap (λ x. by f o x until_commit) q

-- where somebody has ended there are none
pub until-ended : (f : Forest) (t : ℕ) → IsSound f → first_ended f ≡ Some t → until_commit f ≡ (0, f)
until-ended f t h e = until-is f (Some t) (pick f) h e refl

-- nor where there is no pick
pub until-over : (f : Forest) → IsSound f → first_ended f ≡ None → pick f ≡ None → until_commit f ≡ (0, f)
until-over f h e q = until-is f None None h e q

-- else they begin with the pick's
pub until-step : (f : Forest) (row : Row) → IsSound f → first_ended f ≡ None → pick f ≡ Some row → Leads until_commit f (step_row f row) 1
until-step f row h e q =
    let is : until_commit f ≡ counted (until_commit (step_row f row)) = until-is f None (Some row) h e q in
    record { made = let m = ap (λ (x : ℕ × Forest). x.0) is in omega (arith, m); last = ap (λ (x : ℕ × Forest). x.1) is }

-- After them somebody has ended, or there is no pick.

pub record IsUntil (f : Forest) (n : ℕ) (x : ℕ × Forest) : Type 0 where
  pub sound : IsSound x.1
  pub stops : work f ≤ n → first_ended x.1 ≡ None → pick x.1 ≡ None

by-of : (f : Forest) (n : ℕ) (o : Option ℕ) (p : Option Row) (more : Forest → ℕ × Forest) → first_ended f ≡ o → pick f ≡ p → IsSound f
    → ((g : Forest) → IsSound g → IsUntil g n (more g)) → IsUntil f (suc n) (by f o p more)
by-of f n (Some t) p more e q h each = record { sound = h; stops = λ le none. let no : Some t ≡ None = sym e ∙ none in cc }
by-of f n None (Some row) more e q h each =
    let one : IsPickStep f (step_row f row) = pick-step f row h q in
    let rest : IsUntil (step_row f row) n (more (step_row f row)) = each (step_row f row) one.sound in
    record { sound = rest.sound; stops = λ le none. rest.stops (omega (arith, one.lower)) none }
by-of f n None None more e q h each = record { sound = h; stops = λ le none. q }

until_within-is : (n : ℕ) (f : Forest) → IsSound f → IsUntil f n (until_within n f)
until_within-is zero f h = record { sound = h; stops = λ le none. no_pick f (pick f) refl h le }
until_within-is (suc n) f h = by-of f n (first_ended f) (pick f) (until_within n) refl refl h (until_within-is n)

pub until-sound : (f : Forest) → IsSound f → IsSound (until_commit f).1
until-sound f h = (until_within-is (work f) f h).sound

pub until-stops : (f : Forest) → IsSound f → first_ended (until_commit f).1 ≡ None → pick (until_commit f).1 ≡ None
until-stops f h none = (until_within-is (work f) f h).stops (omega arith) none

-- The drain goes on from there.

none-before : (x : ℕ × Forest) → x ≡ (0 + x.0, x.1)
none-before x = let same : x.0 ≡ 0 + x.0 = omega arith in ap (λ n. (n, x.1)) same

one-before : (a b : ℕ) (g : Forest) → counted (a + b, g) ≡ (suc a + b, g)
one-before a b g = let same : suc (a + b) ≡ suc a + b = omega arith in ap (λ n. (n, g)) same

rest-from : (f : Forest) (o : Option ℕ) (p : Option Row) (more : Forest → ℕ × Forest) → first_ended f ≡ o → pick f ≡ p → IsSound f
    → ((g : Forest) → IsSound g → drain_rest g ≡ ((more g).0 + (drain_rest (more g).1).0, (drain_rest (more g).1).1))
    → drain_rest f ≡ ((by f o p more).0 + (drain_rest (by f o p more).1).0, (drain_rest (by f o p more).1).1)
rest-from f (Some t) p more e q h each = none-before (drain_rest f)
rest-from f None (Some row) more e q h each =
    drain-unrolled f h
    ∙ ap (λ x. drain_from (drain_by f x (pick f)).0 (drain_by f x (pick f)).1 drain_rest) e
    ∙ ap (λ x. drain_from (drain_by f None x).0 (drain_by f None x).1 drain_rest) q
    ∙ ap counted (each (step_row f row) (pick-step f row h q).sound)
    ∙ one-before (more (step_row f row)).0 (drain_rest (more (step_row f row)).1).0 (drain_rest (more (step_row f row)).1).1
rest-from f None None more e q h each = none-before (drain_rest f)

rest-within : (n : ℕ) (f : Forest) → IsSound f → drain_rest f ≡ ((until_within n f).0 + (drain_rest (until_within n f).1).0, (drain_rest (until_within n f).1).1)
rest-within zero f h = none-before (drain_rest f)
rest-within (suc n) f h = rest-from f (first_ended f) (pick f) (until_within n) refl refl h (rest-within n)

pub until-rest : (f : Forest) → IsSound f → drain_rest f ≡ ((until_commit f).0 + (drain_rest (until_commit f).1).0, (drain_rest (until_commit f).1).1)
until-rest f h = rest-within (work f) f h
