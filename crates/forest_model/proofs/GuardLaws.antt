-- A shadow that waits goes on for many steps, up to its point: it stays the pick.
use Rattle.std.proofs.Common.{◌≡◌, ℕ, zero, suc, ◌+◌, ◌<◌, ◌≤◌, ◌==◌, true, false, ltb, List, [], ◌∷◌, map, Result, Some, Ok, Err, is_ok, refl, ap, sym, ◌∙◌, subst, arith, eqb-true, eq-eqb, ltb-true, true≢false}
use Rattle.std.specs.List.{AllByRecursion, AllZip}
use Rattle.std.proofs.lemmas.Bool.{cond_both, cases_Bool}
use Rattle.block_rule.specs.Standing.{up_to_point}
use Rattle.block_rule.specs.declared.role.Role.TheVariants.{Guard}
use Rattle.block_rule.specs.declared.role.Row.{Row}
use Rattle.journal_core.specs.Journal.{is_live, deadline_of}
use Rattle.forest_model.specs.Point.{Conflict}
use Rattle.forest_model.specs.Forest.{Shadow, Started, Forest, wanted, find_started}
use Rattle.forest_model.specs.Pick.{guard_rows, pick}
use Rattle.forest_model.specs.Sound.{StandsFor, IsSound}
use Rattle.forest_model.specs.Events.{Refusal, put_first, step_guard, given_shadows, give_shadows, with_shadows, step}
use Rattle.forest_model.specs.Drain.{after_step, step_row, first_ended}
use Rattle.forest_model.specs.Stays.{out_on, stays_on, position_on, point_on, placed_on, RunsOn, IsStillPicked, GuardRan}
use Rattle.forest_model.proofs.Lists.{either, all-weaken, all-everywhere, map-map, map-agree, find-passes, all-found}
use Rattle.forest_model.proofs.StartedLaws.{found-alone}
use Rattle.forest_model.proofs.SettleLaws.{wanted-mapped}
use Rattle.forest_model.proofs.StepLaws.{give_shadows-sound}
use Rattle.forest_model.proofs.AfterLaws.{find-mapped}
use Rattle.forest_model.proofs.StayLaws.{given-ended, given-pick, pick-home, guard-stays, one-on, none-on, more-on}

-- The shadow for a guard in the list.

on-stays : (u : ℕ) (ss : List Shadow) (ws : List Conflict) (p q : ℕ) → position_on u ss ws ≡ Some p → point_on u ss ws ≡ Some q → suc p < q → stays_on u ss ws ≡ true
on-stays u [] ws p q at to lt = cc
on-stays u (s ∷ ss) [] p q at to lt = cc
on-stays u (s ∷ ss) (w ∷ ws) p q at to lt =
    either (cases_Bool (s.guard == u))
    (λ e.
    let here : Some s.position ≡ Some p = rw e at at in
    let there : Some w.1 ≡ Some q = rw e at to in
    let p_is : s.position ≡ p = cc in
    let q_is : w.1 ≡ q = cc in
    let less : ltb (suc s.position) w.1 ≡ true = grind (arith, lt, p_is, q_is) in
    rw (e, less) refl)
    (λ e. rw e (on-stays u ss ws p q (rw e at at) (rw e at to) lt))

on-steps : (u : ℕ) (ss : List Shadow) (ws : List Conflict) (p q : ℕ) → position_on u ss ws ≡ Some p → point_on u ss ws ≡ Some q → p < q → step_guard u ss ws ≡ Ok (suc p, placed_on u (suc p) ss ws)
on-steps u [] ws p q at to lt = cc
on-steps u (s ∷ ss) [] p q at to lt = cc
on-steps u (s ∷ ss) (w ∷ ws) p q at to lt =
    either (cases_Bool (s.guard == u))
    (λ e.
    let here : Some s.position ≡ Some p = rw e at at in
    let there : Some w.1 ≡ Some q = rw e at to in
    let p_is : s.position ≡ p = cc in
    let q_is : w.1 ≡ q = cc in
    let less : ltb s.position w.1 ≡ true = grind (arith, lt, p_is, q_is) in
    rw (e, less, sym p_is) refl)
    (λ e. rw (e, on-steps u ss ws p q (rw e at at) (rw e at to) lt) refl)

placed-position : (u n : ℕ) (ss : List Shadow) (ws : List Conflict) (p : ℕ) → position_on u ss ws ≡ Some p → position_on u (placed_on u n ss ws) ws ≡ Some n
placed-position u n [] ws p at = cc
placed-position u n (s ∷ ss) [] p at = cc
placed-position u n (s ∷ ss) (w ∷ ws) p at =
    either (cases_Bool (s.guard == u)) (λ e. rw (e, e) refl) (λ e. rw (e, e) (placed-position u n ss ws p (rw e at at)))

placed-point : (u n : ℕ) (ss : List Shadow) (ws : List Conflict) → point_on u (placed_on u n ss ws) ws ≡ point_on u ss ws
placed-point u n [] ws = refl
placed-point u n (s ∷ ss) [] = refl
placed-point u n (s ∷ ss) (w ∷ ws) = either (cases_Bool (s.guard == u)) (λ e. rw (e, e) refl) (λ e. rw (e, e) (placed-point u n ss ws))

placed-twice : (u n m : ℕ) (ss : List Shadow) (ws : List Conflict) → placed_on u n (placed_on u m ss ws) ws ≡ placed_on u n ss ws
placed-twice u n m [] ws = refl
placed-twice u n m (s ∷ ss) [] = refl
placed-twice u n m (s ∷ ss) (w ∷ ws) = either (cases_Bool (s.guard == u)) (λ e. rw (e, e) refl) (λ e. rw (e, e) (ap (λ xs. s ∷ xs) (placed-twice u n m ss ws)))

placed-still : (u p : ℕ) (ss : List Shadow) (ws : List Conflict) → position_on u ss ws ≡ Some p → out_on u ss ws ≡ false → placed_on u p ss ws ≡ ss
placed-still u p [] ws at home = refl
placed-still u p (s ∷ ss) [] at home = refl
placed-still u p (s ∷ ss) (w ∷ ws) at home =
    either (cases_Bool (s.guard == u))
    (λ e.
    let here : Some s.position ≡ Some p = rw e at at in
    let p_is : p ≡ s.position = cc in
    let out : s.out ≡ false = rw e at home in
    rw e (ap (λ x. x ∷ ss) (same s p p_is out)))
    (λ e. rw e (ap (λ xs. s ∷ xs) (placed-still u p ss ws (rw e at at) (rw e at home))))
  where
    same : (s : Shadow) (p : ℕ) → p ≡ s.position → s.out ≡ false → record s { position = p; out = false } ≡ s
    same s p e out = λ i. record { guard = s.guard; position = e i; out = sym out i }

pub placed-fits : (u n q : ℕ) (ss : List Shadow) (ws : List Conflict) → AllZip StandsFor ss ws → point_on u ss ws ≡ Some q → n ≤ q → AllZip StandsFor (placed_on u n ss ws) ws
placed-fits u n q [] ws fits to le = fits
placed-fits u n q (s ∷ ss) [] fits to le = fits
placed-fits u n q (s ∷ ss) (w ∷ ws) fits to le =
    either (cases_Bool (s.guard == u))
    (λ e.
    let there : Some w.1 ≡ Some q = rw e at to in
    let q_is : w.1 ≡ q = cc in
    rw e ((fits.0.0, omega (arith, le, q_is)), fits.1))
    (λ e. rw e (fits.0, placed-fits u n q ss ws fits.1 (rw e at to) le))

-- In the forest.

given-number : (t : ℕ) (ss : List Shadow) (x : Started) → (given_shadows t ss x).number ≡ x.number
given-number t ss x = cond_both (x.number == t) (record x { shadows = ss }) x (λ y. y.number ≡ x.number) (λ e. refl) (λ e. refl)

given-position : (t : ℕ) (ss : List Shadow) (x : Started) → (given_shadows t ss x).position ≡ x.position
given-position t ss x = cond_both (x.number == t) (record x { shadows = ss }) x (λ y. y.position ≡ x.position) (λ e. refl) (λ e. refl)

given-twice : (t : ℕ) (a b : List Shadow) (f : Forest) → give_shadows t a (give_shadows t b f) ≡ give_shadows t a f
given-twice t a b f =
    ap (λ xs. record f { started = xs })
    (map-map (given_shadows t a) (given_shadows t b) f.started
    ∙ map-agree (λ x. given_shadows t a (given_shadows t b x)) (given_shadows t a) f.started (all-everywhere (λ x. given_shadows t a (given_shadows t b x) ≡ given_shadows t a x) twice f.started))
  where
    twice : (x : Started) → given_shadows t a (given_shadows t b x) ≡ given_shadows t a x
    twice x = either (cases_Bool (x.number == t)) (λ e. rw (e, e) refl) (λ e. rw (e, e) refl)

given-still : (f : Forest) (t : ℕ) (r : Started) → IsSound f → find_started f.started t ≡ Some r → give_shadows r.number r.shadows f ≡ f
given-still f t r h found =
    ap (λ xs. record f { started = xs })
    (all-still f.started
    (all-weaken (λ x. x.number ≡ r.number → x ≡ r) (λ x. given_shadows r.number r.shadows x ≡ x)
    (λ x is.
    cond_both (x.number == r.number) (record x { shadows = r.shadows }) x (λ y. y ≡ x)
    (λ e. let same : x ≡ r = is (eqb-true _ _ e) in rw same refl)
    (λ e. refl))
    f.started (found-alone f.started t r h.right.rising found)))
  where
    all-still : (xs : List Started) → AllByRecursion (λ x. given_shadows r.number r.shadows x ≡ x) xs → map (given_shadows r.number r.shadows) xs ≡ xs
    all-still [] all = refl
    all-still (x ∷ xs) all = rw (all.0, all-still xs all.1) refl

guard-next : (f : Forest) (row : Row) (u : ℕ) (r : Started) (p q : ℕ) → IsSound f → row.role ≡ Guard u → find_started f.started row.txn ≡ Some r
    → position_on u r.shadows (wanted f r) ≡ Some p → point_on u r.shadows (wanted f r) ≡ Some q → p < q → step_row f row ≡ give_shadows r.number (placed_on u (suc p) r.shadows (wanted f r)) f
guard-next f row u r p q h role found at to lt =
    let live : is_live f.journal row.txn ≡ true =
    subst (λ n. is_live f.journal n ≡ true) (eqb-true _ _ (find-passes (λ (x : Started). x.number == row.txn) f.started r found))
    (all-found (λ x. is_live f.journal x.number ≡ true) (λ x. x.number == row.txn) f.started r found h.right.live)
    in
    let is : step f row.txn row.role ≡ with_shadows f r (step_guard u r.shadows (wanted f r)) = ap (step f row.txn) role ∙ rw (live, found) refl in
    ap (after_step f) (is ∙ ap (with_shadows f r) (on-steps u r.shadows (wanted f r) p q at to lt))

pub placed-sound : (f : Forest) (t u : ℕ) (r : Started) (n q : ℕ) → IsSound f → find_started f.started t ≡ Some r → point_on u r.shadows (wanted f r) ≡ Some q → n ≤ q
    → IsSound (give_shadows r.number (placed_on u n r.shadows (wanted f r)) f)
placed-sound f t u r n q h found to le =
    let fits : AllZip StandsFor r.shadows (wanted f r) = all-found (λ x. AllZip StandsFor x.shadows (wanted f x)) (λ x. x.number == t) f.started r found h.settled in
    give_shadows-sound f t r (placed_on u n r.shadows (wanted f r)) found (placed-fits u n q r.shadows (wanted f r) fits to le) h

many-guard : (n : ℕ) (f : Forest) (row : Row) (u : ℕ) (r : Started) (p q : ℕ) → IsSound f → pick f ≡ Some row → row.role ≡ Guard u → find_started f.started row.txn ≡ Some r
    → position_on u r.shadows (wanted f r) ≡ Some p → point_on u r.shadows (wanted f r) ≡ Some q → p + suc n ≤ q
    → RunsOn f (give_shadows r.number (placed_on u (p + suc n) r.shadows (wanted f r)) f) (suc n)
many-guard zero f row u r p q h e role found at to le =
    let one : suc p ≡ p + 1 = omega arith in
    subst (λ m. RunsOn f (give_shadows r.number (placed_on u m r.shadows (wanted f r)) f) 1) one
    (subst (λ g. RunsOn f g 1) (guard-next f row u r p q h role found at to (omega (arith, le))) (one-on f row h e))
many-guard (suc n) f row u r p q h e role found at to le =
    let ws : List Conflict = wanted f r in
    let ss : List Shadow = placed_on u (suc p) r.shadows ws in
    let f' : Forest = give_shadows r.number ss f in
    let r' : Started = record r { shadows = ss } in
    let next : step_row f row ≡ f' = guard-next f row u r p q h role found at to (omega (arith, le)) in
    let first : RunsOn f f' 1 = subst (λ g. RunsOn f g 1) next (one-on f row h e) in
    let picked : pick f' ≡ Some row = ap pick (sym next) ∙ guard-stays f row u r h e role found (on-stays u r.shadows ws p q at to (omega (arith, le))) in
    let sound : IsSound f' = placed-sound f row.txn u r (suc p) q h found to (omega (arith, le)) in
    let there : given_shadows r.number ss r ≡ r' = rw (eq-eqb r.number r.number refl) refl in
    let found' : find_started f'.started row.txn ≡ Some r' = find-mapped (given_shadows r.number ss) (given-number r.number ss) f.started row.txn r found ∙ ap Some there in
    let wants : wanted f' r' ≡ ws = ap (wanted f') (sym there) ∙ wanted-mapped f (given_shadows r.number ss) (given-number r.number ss) (given-position r.number ss) r in
    let at' : position_on u ss (wanted f' r') ≡ Some (suc p) = ap (position_on u ss) wants ∙ placed-position u (suc p) r.shadows ws p at in
    let to' : point_on u ss (wanted f' r') ≡ Some q = ap (point_on u ss) wants ∙ placed-point u (suc p) r.shadows ws ∙ to in
    let rest : RunsOn f' (give_shadows r.number (placed_on u (suc p + suc n) ss (wanted f' r')) f') (suc n) = many-guard n f' row u r' (suc p) q sound picked role found' at' to' (omega (arith, le)) in
    let count : suc p + suc n ≡ p + suc (suc n) = omega arith in
    let end : give_shadows r.number (placed_on u (suc p + suc n) ss (wanted f' r')) f' ≡ give_shadows r.number (placed_on u (p + suc (suc n)) r.shadows ws) f =
    given-twice r.number (placed_on u (suc p + suc n) ss (wanted f' r')) ss f
    ∙ ap (λ xs. give_shadows r.number xs f) (ap (placed_on u (suc p + suc n) ss) wants ∙ placed-twice u (suc p + suc n) (suc p) r.shadows ws ∙ ap (λ m. placed_on u m r.shadows ws) count)
    in
    let rest' : RunsOn f' (give_shadows r.number (placed_on u (p + suc (suc n)) r.shadows ws) f) (suc n) = subst (λ g. RunsOn f' g (suc n)) end rest in
    more-on f f' (give_shadows r.number (placed_on u (p + suc (suc n)) r.shadows ws) f) 1 (suc n) (suc (suc n)) (omega arith) (given-ended f r.number ss) first rest'

pub guard-still : (f g : Forest) (row : Row) (u : ℕ) (r : Started) (n : ℕ) → IsSound f → pick f ≡ Some row → row.role ≡ Guard u → find_started f.started row.txn ≡ Some r → GuardRan f u r g n → n ≡ 0 → g ≡ f
guard-still f g row u r n h e role found ran none =
    let at : ran.position + n ≡ ran.position = omega (arith, none) in
    ran.next
    ∙ ap (λ m. give_shadows r.number (placed_on u m r.shadows (wanted f r)) f) at
    ∙ ap (λ xs. give_shadows r.number xs f) (placed-still u ran.position r.shadows (wanted f r) ran.at ((pick-home f row r h e found).guard u role))
    ∙ given-still f row.txn r h found

-- steps of the pick, however many, up to its point
pub guard-runs : (n : ℕ) (f g : Forest) (row : Row) (u : ℕ) (r : Started) → IsSound f → pick f ≡ Some row → row.role ≡ Guard u → find_started f.started row.txn ≡ Some r → GuardRan f u r g n → RunsOn f g n
guard-runs zero f g row u r h e role found ran = subst (λ x. RunsOn f x 0) (sym (guard-still f g row u r 0 h e role found ran refl)) (none-on f)
guard-runs (suc n) f g row u r h e role found ran =
    subst (λ x. RunsOn f x (suc n)) (sym ran.next) (many-guard n f row u r ran.position ran.point h e role found ran.at ran.to ran.within)

-- Where it stands before its point it is the pick still.

placed-rows : (u n t deadline place : ℕ) (ss : List Shadow) (ws : List Conflict) (p q : ℕ) → position_on u ss ws ≡ Some p → point_on u ss ws ≡ Some q → out_on u ss ws ≡ false → p < q → n < q
    → guard_rows t deadline place (placed_on u n ss ws) ws ≡ guard_rows t deadline place ss ws
placed-rows u n t deadline place [] ws p q at to home lt on = refl
placed-rows u n t deadline place (s ∷ ss) [] p q at to home lt on = refl
placed-rows u n t deadline place (s ∷ ss) (w ∷ ws) p q at to home lt on =
    either (cases_Bool (s.guard == u))
    (λ e.
    let here : Some s.position ≡ Some p = rw e at at in
    let there : Some w.1 ≡ Some q = rw e at to in
    let p_is : s.position ≡ p = cc in
    let q_is : w.1 ≡ q = cc in
    let before : ltb s.position w.1 ≡ true = grind (arith, lt, p_is, q_is) in
    let after : ltb n w.1 ≡ true = grind (arith, on, q_is) in
    let out : s.out ≡ false = rw e at home in
    rw e (rw (before, after, out) refl))
    (λ e.
    rw e
    (ap (λ rows. record { txn = t; deadline = deadline; role = Guard s.guard; place = place; standing = up_to_point s.position w.1; out = s.out } ∷ rows)
    (placed-rows u n t deadline (suc place) ss ws p q (rw e at at) (rw e at to) (rw e at home) lt on)))

on-going : (u : ℕ) (ss : List Shadow) (ws : List Conflict) (p q : ℕ) → position_on u ss ws ≡ Some p → point_on u ss ws ≡ Some q → is_ok (step_guard u ss ws) ≡ true → p < q
on-going u [] ws p q at to ok = cc
on-going u (s ∷ ss) [] p q at to ok = cc
on-going u (s ∷ ss) (w ∷ ws) p q at to ok =
    either (cases_Bool (s.guard == u))
    (λ e.
    let here : Some s.position ≡ Some p = rw e at at in
    let there : Some w.1 ≡ Some q = rw e at to in
    let p_is : s.position ≡ p = cc in
    let q_is : w.1 ≡ q = cc in
    either (cases_Bool (ltb s.position w.1))
    (λ lt. let less : s.position < w.1 = ltb-true s.position w.1 lt in omega (arith, less, p_is, q_is))
    (λ ge. let no : false ≡ true = rw (e, ge) at ok in absurd (true≢false (sym no))))
    (λ e. on-going u ss ws p q (rw e at at) (rw e at to) (put-ok s (step_guard u ss ws) (rw e at ok)))
  where
    put-ok : (s : Shadow) (o : Result (ℕ × List Shadow) Refusal) → is_ok (put_first s o) ≡ true → is_ok o ≡ true
    put-ok s (Ok more) e = refl
    put-ok s (Err refusal) e = e

step-on : (f : Forest) (t u : ℕ) (r : Started) → find_started f.started t ≡ Some r → is_ok (step f t (Guard u)) ≡ true → is_ok (step_guard u r.shadows (wanted f r)) ≡ true
step-on f t u r found ok =
    either (cases_Bool (is_live f.journal t))
    (λ live. given-ok (step_guard u r.shadows (wanted f r)) (rw (live, found) at ok))
    (λ gone. let no : false ≡ true = rw gone at ok in absurd (true≢false (sym no)))
  where
    given-ok : (o : Result (ℕ × List Shadow) Refusal) → is_ok (with_shadows f r o) ≡ true → is_ok o ≡ true
    given-ok (Ok new) e = refl
    given-ok (Err refusal) e = e

-- the shadow that was picked, after steps of it
pub guard-picked : (f g : Forest) (row : Row) (u : ℕ) (r : Started) (n : ℕ) → IsSound f → pick f ≡ Some row → row.role ≡ Guard u → find_started f.started row.txn ≡ Some r → GuardRan f u r g n
    → is_ok (step g row.txn row.role) ≡ true → IsStillPicked f g row
guard-picked f g row u r n h e role found ran ok =
    let ws : List Conflict = wanted f r in
    let m : ℕ = ran.position + n in
    let ss : List Shadow = placed_on u m r.shadows ws in
    let f' : Forest = give_shadows r.number ss f in
    let r' : Started = record r { shadows = ss } in
    let there : given_shadows r.number ss r ≡ r' = rw (eq-eqb r.number r.number refl) refl in
    let found' : find_started f'.started row.txn ≡ Some r' = find-mapped (given_shadows r.number ss) (given-number r.number ss) f.started row.txn r found ∙ ap Some there in
    let wants : wanted f' r' ≡ ws = ap (wanted f') (sym there) ∙ wanted-mapped f (given_shadows r.number ss) (given-number r.number ss) (given-position r.number ss) r in
    let accepted : is_ok (step f' row.txn (Guard u)) ≡ true = ap (λ x. is_ok (step x row.txn (Guard u))) (sym ran.next) ∙ ap (λ o. is_ok (step g row.txn o)) (sym role) ∙ ok in
    let stepped : is_ok (step_guard u ss ws) ≡ true = subst (λ xs. is_ok (step_guard u ss xs) ≡ true) wants (step-on f' row.txn u r' found' accepted) in
    let on : m < ran.point = on-going u ss ws m ran.point (placed-position u m r.shadows ws ran.position ran.at) (placed-point u m r.shadows ws ∙ ran.to) stepped in
    let before : ran.position < ran.point = omega (arith, on) in
    let home : out_on u r.shadows ws ≡ false = (pick-home f row r h e found).guard u role in
    let rows = placed-rows u m r.number (deadline_of f.journal r.number) 1 r.shadows ws ran.position ran.point ran.at ran.to home before on in
    record {
      sound = subst IsSound (sym ran.next) (placed-sound f row.txn u r m ran.point h found ran.to ran.within);
      picked = ap pick ran.next ∙ given-pick f row.txn u r (m, ss) h found rows ∙ e;
      nobody = ap first_ended ran.next ∙ given-ended f r.number ss;
    }
