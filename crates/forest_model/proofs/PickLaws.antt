-- The step of the pick is accepted.
use Rattle.std.proofs.Common.{◌≡◌, ◌≢◌, ℕ, suc, ◌<◌, true, List, [], ◌∷◌, map, filter, flat_map, Some, Result, Ok, Err, is_ok, refl, sym, ◌∙◌, subst, arith, eq-eqb}
use Rattle.std.specs.List.{AllByRecursion, AllZip}
use Rattle.std.proofs.lemmas.Bool.{ne_eqb, and_parts}
use Rattle.block_rule.specs.declared.standing.Standing.{Standing}
use Rattle.block_rule.specs.declared.standing.Standing.TheVariants.{Runnable, Blocked, Ended}
use Rattle.block_rule.specs.Standing.{unless_ended, up_to_point, is_runnable}
use Rattle.journal_core.specs.Journal.{is_live, deadline_of}
use Rattle.block_rule.specs.declared.role.Role.{Role}
use Rattle.block_rule.specs.declared.role.Role.TheVariants.{Optimistic, Guard}
use Rattle.block_rule.specs.declared.role.Row.{Row}
use Rattle.forest_model.specs.Point.{Conflict}
use Rattle.forest_model.specs.Forest.{is_ended, Shadow, Started, Forest, wanted, find_started}
use Rattle.forest_model.specs.Pick.{is_ready, is_earlier, guard_rows, rows_of, pick}
use Rattle.forest_model.specs.Sound.{IsRising, StandsFor, IsSound}
use Rattle.forest_model.specs.Events.{if_runnable, Refusal, put_first, step_guard, with_shadows, step_role, step}
use Rattle.forest_model.proofs.Lists.{all-append, all-both, all-filter, filter-passes}
use Rattle.forest_model.proofs.StartedLaws.{number, all-first}
use Rattle.forest_model.proofs.RestLaws.{IsApart, wanted-apart}

-- each started transaction is found by its number
pub found-self : (xs : List Started) → IsRising (map number xs) → AllByRecursion (λ r. find_started xs r.number ≡ Some r) xs
found-self [] h = tt
found-self (x ∷ xs) h = (rw (eq-eqb x.number x.number refl) refl, later xs h.0 (found-self xs h.1))
  where
    later : (ys : List Started) → AllByRecursion (λ m. x.number < m) (map number ys) → AllByRecursion (λ r. find_started xs r.number ≡ Some r) ys
        → AllByRecursion (λ r. find_started (x ∷ xs) r.number ≡ Some r) ys
    later [] above all = tt
    later (y ∷ ys) above all = (rw (ne_eqb x.number y.number (omega (arith, above.0))) all.0, later ys above.1 all.1)

-- a row of these shadows may step, if it is runnable
abbrev MayStep : Role → Standing → List Shadow → List Conflict → Type 0
MayStep Optimistic standing ss ws = Unit {0}
MayStep (Guard u) standing ss ws = is_runnable standing ≡ true → is_ok (step_guard u ss ws) ≡ true

abbrev pub IsNot : ℕ → Role → Type 0
IsNot u Optimistic = Unit {0}
IsNot u (Guard v) = u ≢ v

put_first-ok : (s : Shadow) (r : Result (ℕ × List Shadow) Refusal) → is_ok r ≡ true → is_ok (put_first s r) ≡ true
put_first-ok s (Ok new) h = refl
put_first-ok s (Err refusal) h = cc

later_row : (s : Shadow) (w : Conflict) (role : Role) (standing : Standing) (ss : List Shadow) (ws : List Conflict) → IsNot s.guard role → MayStep role standing ss ws → MayStep role standing (s ∷ ss) (w ∷ ws)
later_row s w Optimistic standing ss ws ne h = tt
later_row s w (Guard u) standing ss ws ne h = λ e. rw (ne_eqb s.guard u ne) (put_first-ok s (step_guard u ss ws) (h e))

if_runnable-ok : {A : Type 0} (s : Standing) (a : A) → is_runnable s ≡ true → is_ok (if_runnable s a) ≡ true
if_runnable-ok Runnable a h = refl
if_runnable-ok Blocked a h = cc
if_runnable-ok Ended a h = cc

pub guards-not : (u t deadline place : ℕ) (ss : List Shadow) (ws : List Conflict) → AllZip StandsFor ss ws → AllByRecursion (λ x. u ≢ x.0) ws → AllByRecursion (λ (row : Row). IsNot u row.role) (guard_rows t deadline place ss ws)
guards-not u t deadline place [] ws fits apart = tt
guards-not u t deadline place (s ∷ ss) [] fits apart = tt
guards-not u t deadline place (s ∷ ss) (w ∷ ws) fits apart = ((λ e. apart.0 (e ∙ fits.0.0)), guards-not u t deadline (suc place) ss ws fits.1 apart.1)

guard_rows-step : (t deadline place : ℕ) (ss : List Shadow) (ws : List Conflict) → AllZip StandsFor ss ws → IsApart ws
    → AllByRecursion (λ (row : Row). MayStep row.role row.standing ss ws) (guard_rows t deadline place ss ws)
guard_rows-step t deadline place [] ws fits apart = tt
guard_rows-step t deadline place (s ∷ ss) [] fits apart = tt
guard_rows-step t deadline place (s ∷ ss) (w ∷ ws) fits apart = (
  (λ e. rw (eq-eqb s.guard s.guard refl) (if_runnable-ok (up_to_point s.position w.1) _ e)),
  all-both (λ (row : Row). IsNot s.guard row.role) (λ (row : Row). MayStep row.role row.standing ss ws) (λ (row : Row). MayStep row.role row.standing (s ∷ ss) (w ∷ ws))
      (λ row ne may. later_row s w row.role row.standing ss ws ne may) (guard_rows t deadline (suc place) ss ws)
      (guards-not s.guard t deadline (suc place) ss ws fits.1 (subst (λ u. AllByRecursion (λ x. u ≢ x.0) ws) (sym fits.0.0) apart.0))
      (guard_rows-step t deadline (suc place) ss ws fits.1 apart.1),
)

-- the rows of r's other shadows are of r, and of no optimistic shadow
abbrev pub IsOf : ℕ → Row → Type 0
IsOf t row = (row.txn ≡ t) × ((u : ℕ) × (row.role ≡ Guard u))

pub guard_rows-of : (t deadline place : ℕ) (ss : List Shadow) (ws : List Conflict) → AllByRecursion (IsOf t) (guard_rows t deadline place ss ws)
guard_rows-of t deadline place [] ws = tt
guard_rows-of t deadline place (s ∷ ss) [] = tt
guard_rows-of t deadline place (s ∷ ss) (w ∷ ws) = ((refl, (s.guard, refl)), guard_rows-of t deadline (suc place) ss ws)

with_shadows-ok : (f : Forest) (r : Started) (o : Result (ℕ × List Shadow) Refusal) → is_ok o ≡ true → is_ok (with_shadows f r o) ≡ true
with_shadows-ok f r (Ok ss) h = refl
with_shadows-ok f r (Err refusal) h = cc

guard-accepted : (f : Forest) (r : Started) (role : Role) (standing : Standing) (u : ℕ) → role ≡ Guard u → MayStep role standing r.shadows (wanted f r) → is_runnable standing ≡ true → is_ok (step_role f role r) ≡ true
guard-accepted f r Optimistic standing u e may run = cc
guard-accepted f r (Guard v) standing u e may run = with_shadows-ok f r (step_guard v r.shadows (wanted f r)) (may run)

abbrev Accepted : Forest → Row → Type 0
Accepted f row = is_runnable row.standing ≡ true → is_ok (step f row.txn row.role) ≡ true

reach : (f : Forest) (r : Started) (role : Role) → is_live f.journal r.number ≡ true → find_started f.started r.number ≡ Some r → is_ok (step_role f role r) ≡ true → is_ok (step f r.number role) ≡ true
reach f r role live found ok = rw (live, found) ok

rows-accepted : (f : Forest) (r : Started) → is_live f.journal r.number ≡ true → find_started f.started r.number ≡ Some r → AllZip StandsFor r.shadows (wanted f r) → IsApart (wanted f r)
    → AllByRecursion (Accepted f) (rows_of f r)
rows-accepted f r live found fits apart = (
  (λ run. reach f r Optimistic live found (if_runnable-ok (unless_ended (is_ended f r)) _ run)),
  all-both (IsOf r.number) (λ (row : Row). MayStep row.role row.standing r.shadows (wanted f r)) (Accepted f)
      (λ row of may run. rw of.0 (reach f r row.role live found (guard-accepted f r row.role row.standing of.1.0 of.1.1 may run)))
      (guard_rows r.number (deadline_of f.journal r.number) 1 r.shadows (wanted f r))
      (guard_rows-of r.number (deadline_of f.journal r.number) 1 r.shadows (wanted f r))
      (guard_rows-step r.number (deadline_of f.journal r.number) 1 r.shadows (wanted f r) fits apart),
)

pub all-flat_map : {X Y : Type 0} (P : Y → Type 0) (g : X → List Y) (xs : List X) → AllByRecursion (λ x. AllByRecursion P (g x)) xs → AllByRecursion P (flat_map g xs)
all-flat_map P g [] h = tt
all-flat_map P g (x ∷ xs) h = all-append P (g x) (flat_map g xs) h.0 (all-flat_map P g xs h.1)

pub pick-accepted : (f : Forest) (row : Row) → IsSound f → pick f ≡ Some row → is_ok (step f row.txn row.role) ≡ true
pick-accepted f row h e =
    let facts : AllByRecursion (λ r. (is_live f.journal r.number ≡ true) × (find_started f.started r.number ≡ Some r)) f.started =
    all-both (λ r. is_live f.journal r.number ≡ true) (λ r. find_started f.started r.number ≡ Some r) _ (λ r a b. (a, b)) f.started h.right.live (found-self f.started h.right.rising)
    in
    let each : AllByRecursion (λ r. AllByRecursion (Accepted f) (rows_of f r)) f.started =
    all-both (λ r. (is_live f.journal r.number ≡ true) × (find_started f.started r.number ≡ Some r)) (λ r. AllZip StandsFor r.shadows (wanted f r)) (λ r. AllByRecursion (Accepted f) (rows_of f r))
    (λ r a fits. rows-accepted f r a.0 a.1 fits (wanted-apart f r h.right.rising)) f.started facts h.settled
    in
    all-first (λ (x : Row). is_ok (step f x.txn x.role) ≡ true) is_earlier (filter is_ready (flat_map (rows_of f) f.started)) row e
    (all-both (λ (x : Row). is_ready x ≡ true) (Accepted f) (λ (x : Row). is_ok (step f x.txn x.role) ≡ true)
    (λ x ready may. may (and_parts _ _ ready).0) (filter is_ready (flat_map (rows_of f) f.started))
    (filter-passes is_ready (flat_map (rows_of f) f.started))
    (all-filter (Accepted f) is_ready (flat_map (rows_of f) f.started) (all-flat_map (Accepted f) (rows_of f) f.started each)))
