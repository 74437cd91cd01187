-- Each accepted step lowers the work that is left.
use Rattle.std.proofs.Common.{◌≡◌, ℕ, zero, suc, ◌+◌, ◌-◌, ◌*◌, ◌<◌, ◌≤◌, ◌==◌, List, [], ◌∷◌, length, map, filter_map, take, Some, Result, Ok, Err, IfOk, refl, ap, sym, ◌∙◌, subst, arith, true≢false, eqb-true, eq-eqb, mul-le-mul, suc-mul}
use Rattle.std.specs.List.{AllByRecursion}
use Rattle.std.proofs.lemmas.Bool.{cases_Bool, cond_both}
use Rattle.block_rule.specs.Standing.{unless_ended, up_to_point}
use Rattle.journal_core.specs.Journal.{is_live}
use Rattle.block_rule.specs.declared.role.Role.{Role}
use Rattle.block_rule.specs.declared.role.Role.TheVariants.{Optimistic, Guard}
use Rattle.forest_model.specs.Choose.{in_order}
use Rattle.forest_model.specs.Point.{Conflict, is_sooner}
use Rattle.forest_model.specs.Forest.{is_ended, Shadow, Started, Forest, length_of, against, wanted, find_started}
use Rattle.forest_model.specs.Settle.{settle, resettled}
use Rattle.forest_model.specs.Sound.{IsSound}
use Rattle.forest_model.specs.Events.{Refusal, moved_to, move_to, given_shadows, give_shadows, put_first, step_guard, with_shadows, step_role, step}
use Rattle.forest_model.specs.Work.{total, ahead, gap, waiting, most, work}
use Rattle.forest_model.proofs.Lists.{either, all-weaken, all-everywhere}
use Rattle.forest_model.proofs.StartedLaws.{found-alone}
use Rattle.forest_model.proofs.SettleLaws.{wanted-mapped}
use Rattle.forest_model.proofs.StepLaws.{if_runnable-all, runnable-going, runnable-below, if_started-all, moved_to-number, move_to-sound}
use Rattle.forest_model.proofs.PointLaws.{wanted-below}

total-map : (h : Started → ℕ) (g : Started → Started) (xs : List Started) → total h (map g xs) ≡ total (λ x. h (g x)) xs
total-map h g [] = refl
total-map h g (x ∷ xs) = ap (λ n. h (g x) + n) (total-map h g xs)

total-agree : (g h : Started → ℕ) (xs : List Started) → AllByRecursion (λ x. g x ≡ h x) xs → total g xs ≡ total h xs
total-agree g h [] all = refl
total-agree g h (x ∷ xs) all = rw (all.0, total-agree g h xs all.1) refl

total-le : (g h : Started → ℕ) (xs : List Started) → AllByRecursion (λ x. g x ≤ h x) xs → total g xs ≤ total h xs
total-le g h [] all = omega arith
total-le g h (x ∷ xs) all = omega (arith, all.0, total-le g h xs all.1)

-- one less, and none more
total-lt : (g h : Started → ℕ) (t : ℕ) (xs : List Started) (r : Started) → find_started xs t ≡ Some r → AllByRecursion (λ x. g x ≤ h x) xs → g r < h r → total g xs < total h xs
total-lt g h t [] r found all lt = cc
total-lt g h t (x ∷ xs) r found all lt =
    either (cases_Bool (x.number == t))
    (λ e.
    let hit : Some x ≡ Some r = rw e at found in
    let same : x ≡ r = cc in
    let here : g x < h x = subst (λ y. g y < h y) (sym same) lt in
    omega (arith, total-le g h xs all.1))
    (λ e. omega (arith, all.0, total-lt g h t xs r (rw e at found) all.1 lt))

-- Gaps.

pub length-take-le : {X : Type 0} (n : ℕ) (xs : List X) → length (take n xs) ≤ n
length-take-le zero xs = omega arith
length-take-le (suc n) [] = omega arith
length-take-le (suc n) (x ∷ xs) = omega (arith, length-take-le n xs)

gap-le : (n : ℕ) (ss : List Shadow) (ws : List Conflict) → AllByRecursion (λ w. w.1 ≤ n) ws → gap ss ws ≤ length ws * n
gap-le n [] ws all = omega arith
gap-le n (s ∷ ss) [] all = omega arith
gap-le n (s ∷ ss) (w ∷ ws) all = rw suc-mul (omega (arith, all.0, gap-le n ss ws all.1))

pub waiting-le : (f : Forest) → IsSound f → waiting f ≤ most f
waiting-le f h =
    total-le (λ r. gap r.shadows (wanted f r)) (λ r. f.k * length_of f r) f.started
    (all-weaken (λ r. r.position ≤ length_of f r) (λ r. gap r.shadows (wanted f r) ≤ f.k * length_of f r)
    (λ r within.
    let low : AllByRecursion (λ w. w.1 ≤ length_of f r) (wanted f r) = all-weaken (λ w. w.1 < r.position) (λ w. w.1 ≤ length_of f r) (λ w lt. omega arith) (wanted f r) (wanted-below f r) in
    let few : length (wanted f r) ≤ f.k = omega (arith, length-take-le (f.k - 1) (in_order is_sooner (filter_map (against f r) f.started))) in
    let some : gap r.shadows (wanted f r) ≤ length (wanted f r) * length_of f r = gap-le (length_of f r) r.shadows (wanted f r) low in
    let all : length (wanted f r) * length_of f r ≤ f.k * length_of f r = mul-le-mul few (omega arith) in
    omega arith)
    f.started h.right.within)

-- An optimistic step.

module _ (f : Forest) (h : IsSound f) (t : ℕ) (r : Started) (found : find_started f.started t ≡ Some r) where
  optimistic-lowers : r.position < length_of f r → work (settle f.started (move_to r.number (suc r.position) f)) < work f
  optimistic-lowers lt =
      let g : Forest = settle f.started (move_to r.number (suc r.position) f) in
      let sound : IsSound g = move_to-sound f r (suc r.position) lt h in
      let wait : waiting g ≤ most g = waiting-le g sound in
      let move : Started → Started = moved_to r.number (suc r.position) in
      let same_most : most g ≡ most f =
      total-map (λ x. f.k * length_of f x) (resettled f.started (move_to r.number (suc r.position) f)) (map move f.started)
      ∙ total-map (λ x. f.k * length_of f x) move f.started
      ∙ total-agree _ (λ x. f.k * length_of f x) f.started
      (all-everywhere (λ x. f.k * length_of f (move x) ≡ f.k * length_of f x) (λ x. rw (moved_to-number r.number (suc r.position) x) refl) f.started)
      in
      let same_ahead : ahead g ≡ total (λ x. length_of f (move x) - (move x).position) f.started =
      total-map (λ x. length_of f x - x.position) (resettled f.started (move_to r.number (suc r.position) f)) (map move f.started)
      ∙ total-map (λ x. length_of f x - x.position) move f.started
      in
      let less : total (λ x. length_of f (move x) - (move x).position) f.started < ahead f =
      total-lt (λ x. length_of f (move x) - (move x).position) (λ x. length_of f x - x.position) t f.started r found
      (all-weaken (λ x. x.number ≡ r.number → x ≡ r) (λ x. length_of f (move x) - (move x).position ≤ length_of f x - x.position)
      (λ x alone.
      cond_both {A = Started} (x.number == r.number) _ x (λ y. length_of f y - y.position ≤ length_of f x - x.position)
      (λ e. let one : x ≡ r = alone (eqb-true _ _ e) in rw one (omega arith))
      (λ e. omega arith))
      f.started (found-alone f.started t r h.right.rising found))
      (at_r lt)
      in
      let low : suc (ahead g) ≤ ahead f = omega arith in
      let product : suc (ahead g) * suc (most f) ≤ ahead f * suc (most f) = mul-le-mul low (omega arith) in
      let spread : suc (ahead g) * suc (most f) ≡ ahead g * suc (most f) + suc (most f) = suc-mul (ahead g) (suc (most f)) in
      rw same_most (omega arith)
    where
      at_r : r.position < length_of f r → length_of f (moved_to r.number (suc r.position) r) - (moved_to r.number (suc r.position) r).position < length_of f r - r.position
      at_r lt =
          cond_both {A = Started} (r.number == r.number) _ r (λ y. length_of f y - y.position < length_of f r - r.position)
          (λ e. omega arith)
          (λ e. absurd (true≢false (sym (eq-eqb r.number r.number refl) ∙ e)))

-- A step of another shadow.

put_first-lowers : (s : Shadow) (w : Conflict) (ss : List Shadow) (ws : List Conflict) (o : Result (ℕ × List Shadow) Refusal) → IfOk o (λ new. gap new.1 ws < gap ss ws)
    → IfOk (put_first s o) (λ new. gap new.1 (w ∷ ws) < gap (s ∷ ss) (w ∷ ws))
put_first-lowers s w ss ws (Ok new) h = omega arith
put_first-lowers s w ss ws (Err refusal) h = tt

step_guard-lowers : (u : ℕ) (ss : List Shadow) (ws : List Conflict) → IfOk (step_guard u ss ws) (λ new. gap new.1 ws < gap ss ws)
step_guard-lowers u [] ws = tt
step_guard-lowers u (s ∷ ss) [] = tt
step_guard-lowers u (s ∷ ss) (w ∷ ws) =
    cond_both {A = Result (ℕ × List Shadow) Refusal} (s.guard == u) _ _ (λ o. IfOk o (λ new. gap new.1 (w ∷ ws) < gap (s ∷ ss) (w ∷ ws)))
    (λ e. if_runnable-all (up_to_point s.position w.1) _ (λ new. gap new.1 (w ∷ ws) < gap (s ∷ ss) (w ∷ ws))
    (λ run. let less : s.position < w.1 = runnable-below s.position w.1 run in omega arith))
    (λ e. put_first-lowers s w ss ws (step_guard u ss ws) (step_guard-lowers u ss ws))

module _ (f : Forest) (h : IsSound f) (t : ℕ) (r : Started) (found : find_started f.started t ≡ Some r) where
  shadows-lower : (ss : List Shadow) → gap ss (wanted f r) < gap r.shadows (wanted f r) → work (give_shadows r.number ss f) < work f
  shadows-lower ss less =
      let g : Started → Started = given_shadows r.number ss in
      let same_number : (x : Started) → (given_shadows r.number ss x).number ≡ x.number = λ x. cond_both {A = Started} (x.number == r.number) _ x (λ y. y.number ≡ x.number) (λ e. refl) (λ e. refl) in
      let same_position : (x : Started) → (given_shadows r.number ss x).position ≡ x.position = λ x. cond_both {A = Started} (x.number == r.number) _ x (λ y. y.position ≡ x.position) (λ e. refl) (λ e. refl) in
      let same_most : most (give_shadows r.number ss f) ≡ most f =
      total-map (λ x. f.k * length_of f x) g f.started
      ∙ total-agree _ (λ x. f.k * length_of f x) f.started (all-everywhere (λ x. f.k * length_of f (g x) ≡ f.k * length_of f x) (λ x. rw (same_number x) refl) f.started)
      in
      let same_ahead : ahead (give_shadows r.number ss f) ≡ ahead f =
      total-map (λ x. length_of f x - x.position) g f.started
      ∙ total-agree _ (λ x. length_of f x - x.position) f.started
      (all-everywhere (λ x. length_of f (g x) - (g x).position ≡ length_of f x - x.position) (λ x. rw (same_number x, same_position x) refl) f.started)
      in
      let now : waiting (give_shadows r.number ss f) ≡ total (λ x. gap (g x).shadows (wanted f x)) f.started =
      total-map (λ x. gap x.shadows (wanted (give_shadows r.number ss f) x)) g f.started
      ∙ total-agree _ (λ x. gap (g x).shadows (wanted f x)) f.started
      (all-everywhere (λ x. gap (g x).shadows (wanted (give_shadows r.number ss f) (g x)) ≡ gap (g x).shadows (wanted f x))
      (λ x. ap (gap (g x).shadows) (wanted-mapped f g same_number same_position x)) f.started)
      in
      let lower : total (λ x. gap (g x).shadows (wanted f x)) f.started < waiting f =
      total-lt (λ x. gap (g x).shadows (wanted f x)) (λ x. gap x.shadows (wanted f x)) t f.started r found
      (all-weaken (λ x. x.number ≡ r.number → x ≡ r) (λ x. gap (g x).shadows (wanted f x) ≤ gap x.shadows (wanted f x))
      (λ x alone.
      cond_both {A = Started} (x.number == r.number) _ x (λ y. gap y.shadows (wanted f x) ≤ gap x.shadows (wanted f x))
      (λ e. let one : x ≡ r = alone (eqb-true _ _ e) in rw one (omega arith))
      (λ e. omega arith))
      f.started (found-alone f.started t r h.right.rising found))
      (cond_both {A = Started} (r.number == r.number) _ r (λ y. gap y.shadows (wanted f r) < gap r.shadows (wanted f r)) (λ e. less)
      (λ e. absurd (true≢false (sym (eq-eqb r.number r.number refl) ∙ e))))
      in
      rw (same_most, same_ahead) (omega arith)

  with_shadows-lower : (o : Result (ℕ × List Shadow) Refusal) → IfOk o (λ new. gap new.1 (wanted f r) < gap r.shadows (wanted f r)) → IfOk (with_shadows f r o) (λ a. work a.1 < work f)
  with_shadows-lower (Ok new) less = shadows-lower new.1 less
  with_shadows-lower (Err refusal) less = tt

  step_role-lowers : (role : Role) → IfOk (step_role f role r) (λ a. work a.1 < work f)
  step_role-lowers Optimistic =
      if_runnable-all (unless_ended (is_ended f r)) _ (λ a. work a.1 < work f)
      (λ run. optimistic-lowers f h t r found (runnable-going r.position (length_of f r) run))
  step_role-lowers (Guard u) = with_shadows-lower (step_guard u r.shadows (wanted f r)) (step_guard-lowers u r.shadows (wanted f r))

-- an accepted step leaves less to do
pub step-lowers : (f : Forest) (t : ℕ) (role : Role) → IsSound f → IfOk (step f t role) (λ a. work a.1 < work f)
step-lowers f t role h =
    cond_both {A = Result (ℕ × Forest) Refusal} (is_live f.journal t) _ _ (λ o. IfOk o (λ a. work a.1 < work f))
    (λ e. if_started-all (λ a. work a.1 < work f) (find_started f.started t) (step_role f role) (λ r found. step_role-lowers f h t r found role)) (λ e. tt)
