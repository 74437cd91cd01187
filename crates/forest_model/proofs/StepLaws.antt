-- A step, a take and a recall keep soundness.
use Rattle.std.proofs.Common.{◌≡◌, ℕ, zero, suc, ◌≤◌, ◌<◌, ◌==◌, Bool, true, false, not, ltb, List, [], ◌∷◌, map, Option, Some, None, Result, Ok, Err, IfOk, refl, eqb-true, ltb-true}
use Rattle.std.specs.List.{AllZip}
use Rattle.std.proofs.lemmas.Bool.{cond_both, cases_Bool}
use Rattle.block_rule.specs.declared.standing.Standing.{Standing}
use Rattle.block_rule.specs.declared.standing.Standing.TheVariants.{Runnable, Blocked, Ended}
use Rattle.block_rule.specs.Standing.{unless_ended, up_to_point, is_runnable}
use Rattle.journal_core.specs.Journal.{is_live}
use Rattle.block_rule.specs.declared.role.Role.{Role}
use Rattle.block_rule.specs.declared.role.Role.TheVariants.{Optimistic, Guard}
use Rattle.block_rule.specs.declared.role.Row.{Row}
use Rattle.forest_model.specs.Point.{Conflict}
use Rattle.forest_model.specs.Forest.{is_ended, Shadow, Started, Forest, length_of, wanted, find_started}
use Rattle.forest_model.specs.Settle.{settle}
use Rattle.forest_model.specs.Pick.{pick}
use Rattle.forest_model.specs.Sound.{StandsFor, IsSound}
use Rattle.forest_model.specs.Events.{Refusal, if_runnable, moved_to, move_to, given_shadows, give_shadows, put_first, step_guard, with_shadows, step_role, if_started, step}
use Rattle.forest_model.specs.Jobs.{set_out, mark_place, marked, marked_at, recalled, recall, taken, take_pick}
use Rattle.forest_model.proofs.Lists.{either, all-weaken, all-map, all-both, all-found}
use Rattle.forest_model.proofs.SettleLaws.{right-mapped, wanted-mapped, settle-sound}
use Rattle.forest_model.proofs.StartedLaws.{found-alone}

-- A change of one transaction's position.

pub moved_to-number : (t position : ℕ) (x : Started) → (moved_to t position x).number ≡ x.number
moved_to-number t position x = cond_both (x.number == t) _ x (λ y. y.number ≡ x.number) (λ e. refl) (λ e. refl)

-- the optimistic shadow may go to any position that is not past the end
pub move_to-sound : (f : Forest) (r : Started) (position : ℕ) → position ≤ length_of f r → IsSound f → IsSound (settle f.started (move_to r.number position f))
move_to-sound f r position le h =
    settle-sound f.started (move_to r.number position f)
    (right-mapped f (moved_to r.number position) (moved_to-number r.number position)
    (all-weaken _ (λ x. (moved_to r.number position x).position ≤ length_of f x)
    (λ x old.
    cond_both (x.number == r.number) _ x (λ y. y.position ≤ length_of f x)
    (λ e. let same : x.number ≡ r.number = eqb-true _ _ e in rw same le)
    (λ e. old))
    f.started h.right.within)
    h.right)

-- A change of one transaction's other shadows.

given_shadows-number : (t : ℕ) (ss : List Shadow) (x : Started) → (given_shadows t ss x).number ≡ x.number
given_shadows-number t ss x = cond_both (x.number == t) _ x (λ y. y.number ≡ x.number) (λ e. refl) (λ e. refl)

given_shadows-position : (t : ℕ) (ss : List Shadow) (x : Started) → (given_shadows t ss x).position ≡ x.position
given_shadows-position t ss x = cond_both (x.number == t) _ x (λ y. y.position ≡ x.position) (λ e. refl) (λ e. refl)

-- it may have any shadows that stand for what it wants
pub give_shadows-sound : (f : Forest) (t : ℕ) (r : Started) (ss : List Shadow) → find_started f.started t ≡ Some r → AllZip StandsFor ss (wanted f r) → IsSound f
    → IsSound (give_shadows r.number ss f)
give_shadows-sound f t r ss found fits h =
    let g : Started → Started = given_shadows r.number ss in
    record {
      right =
          right-mapped f g (given_shadows-number r.number ss)
          (all-weaken _ (λ x. (g x).position ≤ length_of f x) (λ x old. rw (given_shadows-position r.number ss x) old) f.started h.right.within)
          h.right;
      settled =
          all-map (λ x. AllZip StandsFor x.shadows (wanted (give_shadows r.number ss f) x)) g f.started
          (all-both (λ x. x.number ≡ r.number → x ≡ r) (λ x. AllZip StandsFor x.shadows (wanted f x))
          (λ x. AllZip StandsFor (g x).shadows (wanted (give_shadows r.number ss f) (g x)))
          (λ x alone old.
          rw (wanted-mapped f g (given_shadows-number r.number ss) (given_shadows-position r.number ss) x)
          (cond_both (x.number == r.number) _ x (λ y. AllZip StandsFor y.shadows (wanted f x))
          (λ e. let same : x ≡ r = alone (eqb-true _ _ e) in rw same fits)
          (λ e. old)))
          f.started (found-alone f.started t r h.right.rising found) h.settled);
    }

-- Step.

-- a step is made only where it may be made
pub if_runnable-all : {A : Type 0} (s : Standing) (a : A) (P : A → Type 0) → (is_runnable s ≡ true → P a) → IfOk (if_runnable s a) P
if_runnable-all Runnable a P h = h refl
if_runnable-all Blocked a P h = tt
if_runnable-all Ended a P h = tt

pub runnable-going : (position length : ℕ) → is_runnable (unless_ended (not (ltb position length))) ≡ true → position < length
runnable-going position length h =
    either (cases_Bool (ltb position length)) (λ e. ltb-true _ _ e) (λ e. let hit : false ≡ true = rw e at h in cc)

pub runnable-below : (position point : ℕ) → is_runnable (up_to_point position point) ≡ true → position < point
runnable-below position point h =
    either (cases_Bool (ltb position point)) (λ e. ltb-true _ _ e) (λ e. let hit : false ≡ true = rw e at h in cc)

put_first-fits : (s : Shadow) (w : Conflict) (ws : List Conflict) (r : Result (ℕ × List Shadow) Refusal) → StandsFor s w
    → IfOk r (λ new. AllZip StandsFor new.1 ws) → IfOk (put_first s r) (λ new. AllZip StandsFor new.1 (w ∷ ws))
put_first-fits s w ws (Ok new) h all = (h, all)
put_first-fits s w ws (Err refusal) h all = tt

step_guard-fits : (u : ℕ) (ss : List Shadow) (ws : List Conflict) → AllZip StandsFor ss ws → IfOk (step_guard u ss ws) (λ new. AllZip StandsFor new.1 ws)
step_guard-fits u [] [] h = tt
step_guard-fits u [] (w ∷ ws) h = tt
step_guard-fits u (s ∷ ss) [] h = tt
step_guard-fits u (s ∷ ss) (w ∷ ws) h =
    cond_both {A = Result (ℕ × List Shadow) Refusal} (s.guard == u) _ _ (λ r. IfOk r (λ new. AllZip StandsFor new.1 (w ∷ ws)))
    (λ e. if_runnable-all (up_to_point s.position w.1) _ (λ new. AllZip StandsFor new.1 (w ∷ ws)) (λ run. ((h.0.0, runnable-below s.position w.1 run), h.1)))
    (λ e. put_first-fits s w ws (step_guard u ss ws) h.0 (step_guard-fits u ss ws h.1))

with_shadows-sound : (f : Forest) (t : ℕ) (r : Started) (new : Result (ℕ × List Shadow) Refusal) → find_started f.started t ≡ Some r → IsSound f
    → IfOk new (λ ss. AllZip StandsFor ss.1 (wanted f r)) → IfOk (with_shadows f r new) (λ a. IsSound a.1)
with_shadows-sound f t r (Ok new) found h fits = give_shadows-sound f t r new.1 found fits h
with_shadows-sound f t r (Err refusal) found h fits = tt

step_role-sound : (f : Forest) (t : ℕ) (role : Role) (r : Started) → find_started f.started t ≡ Some r → IsSound f → IfOk (step_role f role r) (λ a. IsSound a.1)
step_role-sound f t Optimistic r found h =
    if_runnable-all (unless_ended (is_ended f r)) _ (λ a. IsSound a.1)
    (λ run. move_to-sound f r (suc r.position) (runnable-going r.position (length_of f r) run) h)
step_role-sound f t (Guard u) r found h =
    with_shadows-sound f t r (step_guard u r.shadows (wanted f r)) found h
    (step_guard-fits u r.shadows (wanted f r) (all-found _ (λ x. x.number == t) f.started r found h.settled))

-- what holds of an event of the one that was found holds of the event
pub if_started-all : {A : Type 0} (P : A → Type 0) (o : Option Started) (event : Started → Result A Refusal) → ((r : Started) → o ≡ Some r → IfOk (event r) P)
    → IfOk (if_started o event) P
if_started-all P None event h = tt
if_started-all P (Some r) event h = h r refl

pub step-sound : (f : Forest) (t : ℕ) (role : Role) → IsSound f → IfOk (step f t role) (λ a. IsSound a.1)
step-sound f t role h =
    cond_both {A = Result (ℕ × Forest) Refusal} (is_live f.journal t) _ _ (λ x. IfOk x (λ a. IsSound a.1))
    (λ live. if_started-all (λ a. IsSound a.1) (find_started f.started t) (step_role f role) (λ r found. step_role-sound f t role r found h))
    (λ e. tt)

-- Marks.

-- a change that keeps the numbers, the positions, and each shadow's guard and position
marks-sound : (f : Forest) (g : Started → Started) → ((x : Started) → (g x).number ≡ x.number) → ((x : Started) → (g x).position ≡ x.position)
    → ((x : Started) (ws : List Conflict) → AllZip StandsFor x.shadows ws → AllZip StandsFor (g x).shadows ws)
    → IsSound f → IsSound (record f { started = map g f.started })
marks-sound f g number position shadows h = record {
  right = right-mapped f g number (all-weaken _ (λ x. (g x).position ≤ length_of f x) (λ x old. rw (position x) old) f.started h.right.within) h.right;
  settled =
      all-map (λ x. AllZip StandsFor x.shadows (wanted (record f { started = map g f.started }) x)) g f.started
      (all-weaken _ (λ x. AllZip StandsFor (g x).shadows (wanted (record f { started = map g f.started }) (g x)))
      (λ x old. rw (wanted-mapped f g number position x) (shadows x (wanted f x) old)) f.started h.settled);
}

set_out-fits : (b : Bool) (ss : List Shadow) (ws : List Conflict) → AllZip StandsFor ss ws → AllZip StandsFor (map (set_out b) ss) ws
set_out-fits b [] [] h = tt
set_out-fits b [] (w ∷ ws) h = h
set_out-fits b (s ∷ ss) [] h = h
set_out-fits b (s ∷ ss) (w ∷ ws) h = (h.0, set_out-fits b ss ws h.1)

pub recall-sound : (f : Forest) → IsSound f → IsSound (recall f)
recall-sound f h = marks-sound f recalled (λ x. refl) (λ x. refl) (λ x ws. set_out-fits false x.shadows ws) h

mark_place-fits : (n : ℕ) (ss : List Shadow) (ws : List Conflict) → AllZip StandsFor ss ws → AllZip StandsFor (mark_place n ss) ws
mark_place-fits n [] ws h = h
mark_place-fits n (s ∷ ss) [] h = absurd h
mark_place-fits zero (s ∷ ss) (w ∷ ws) h = h
mark_place-fits (suc n) (s ∷ ss) (w ∷ ws) h = (h.0, mark_place-fits n ss ws h.1)

marked-keeps : (n : ℕ) (x : Started) → ((marked n x).number ≡ x.number) × ((marked n x).position ≡ x.position)
marked-keeps zero x = (refl, refl)
marked-keeps (suc n) x = (refl, refl)

marked-fits : (n : ℕ) (x : Started) (ws : List Conflict) → AllZip StandsFor x.shadows ws → AllZip StandsFor (marked n x).shadows ws
marked-fits zero x ws h = h
marked-fits (suc n) x ws h = mark_place-fits n x.shadows ws h

pub taken-sound : (f : Forest) (o : Option Row) → IsSound f → IsSound (taken f o)
taken-sound f None h = h
taken-sound f (Some row) h =
    marks-sound f (marked_at row)
    (λ x. cond_both (x.number == row.txn) _ x (λ y. y.number ≡ x.number) (λ e. (marked-keeps row.place x).0) (λ e. refl))
    (λ x. cond_both (x.number == row.txn) _ x (λ y. y.position ≡ x.position) (λ e. (marked-keeps row.place x).1) (λ e. refl))
    (λ x ws fits. cond_both (x.number == row.txn) _ x (λ y. AllZip StandsFor y.shadows ws) (λ e. marked-fits row.place x ws fits) (λ e. fits))
    h

pub take-sound : (f : Forest) → IsSound f → IsSound (take_pick f)
take-sound f h = taken-sound f (pick f) h
