-- What a commit costs the others: the cut is the point, and in an idle forest a wanted reader goes back to exactly its point.
use Rattle.std.proofs.Common.{◌≡◌, ◌≢◌, ℕ, zero, suc, ◌-◌, ◌<◌, ◌≤◌, ◌==◌, Bool, true, false, ltb, leb, List, [], ◌∷◌, filter, filter_map, fold, take, Option, Some, None, refl, ap, sym, ◌∙◌, subst, arith, true≢false, eqb-true, eq-eqb, ltb-true, ltb-false, leb-true, inl, inr, ◌⊎◌, lt-ltb}
use Rattle.std.specs.List.{AllByRecursion, AllZip}
use Rattle.std.proofs.lemmas.Bool.{cases_lt, cases_Bool, cond_both, or_cases, and_parts, ne_eqb, le-leb, lt-leb}
use Rattle.txn_runs.specs.Run.{Read, Writes, own}
use Rattle.txn_runs.specs.Serial.{outcome_of, effect_of}
use Rattle.forest_model.specs.Runs.{writes, is_done}
use Rattle.forest_model.specs.Choose.{put_in_order, in_order, earlier_of}
use Rattle.forest_model.specs.Point.{Conflict, point, is_sooner}
use Rattle.forest_model.specs.Forest.{writes_of, Shadow, Started, Forest, program, reads_of, length_of, point_of, against, wanted, find_started}
use Rattle.forest_model.specs.Cut.{survivors, heir, resumed_by}
use Rattle.forest_model.specs.Sound.{IsSound, IsIdle, is_wanted, last_from, last_point}
use Rattle.forest_model.specs.Events.{resumes, cut}
use Rattle.forest_model.proofs.RunLaws.{effect-done, effect-undone}
use Rattle.forest_model.proofs.Lists.{either, all-weaken, all-everywhere, all-found, filter-passes}
use Rattle.forest_model.proofs.StartedLaws.{found-alone, all-first, none-first, all-put}
use Rattle.forest_model.proofs.PointLaws.{Member, member-all, member-found, member-in_order, member-filter_map, point-below, against-is, all-wanted}

-- Cut: where the run of u is done, the cut of r is its point against u; else there is none.

pub cut-done : (f : Forest) (u r : Started) → u.position ≡ length_of f u → is_done (outcome_of (program f u) f.tables) ≡ true → cut f u r ≡ point_of f r u
cut-done f u r ended done =
    let all : effect_of (program f u) f.tables ≡ writes_of f u = effect-done (program f u) f.tables done ∙ ap (writes (program f u) f.tables) (sym ended) in
    ap (point (reads_of f r)) all

no_writes : (ws : Writes) → ((i : ℕ) → own ws i ≡ None) → (rs : List Read) → point rs ws ≡ None
no_writes ws none [] = refl
no_writes ws none (x ∷ rs) = rw (none x.1) (no_writes ws none rs)

pub cut-undone : (f : Forest) (u r : Started) → is_done (outcome_of (program f u) f.tables) ≡ false → cut f u r ≡ None
cut-undone f u r undone = no_writes (effect_of (program f u) f.tables) (λ i. effect-undone (program f u) f.tables i undone) (reads_of f r)

-- The furthest shadow.

further : Shadow → Shadow → Bool
further x y = ltb y.position x.position

further_step : (b : ℕ) (x h : Shadow) (xs : List Shadow) (o : Option Shadow) → heir xs ≡ o → earlier_of (λ x y. ltb y.position x.position) x o ≡ h → h.position ≤ b
    → ((y : Shadow) → heir xs ≡ Some y → y.position ≤ b → AllByRecursion (λ s. s.position ≤ b) xs) → (x.position ≤ b) × AllByRecursion (λ s. s.position ≤ b) xs
further_step b x h xs None e is le rest =
    (subst (λ (s : Shadow). s.position ≤ b) (sym is) le, rw (none-first (λ x y. ltb y.position x.position) xs e) tt)
further_step b x h xs (Some y) e is le rest =
    either (cases_Bool (ltb x.position y.position))
    (λ less.
    let same : y ≡ h = rw less at is in
    let low : y.position ≤ b = subst (λ (s : Shadow). s.position ≤ b) (sym same) le in
    let lt : x.position < y.position = ltb-true _ _ less in
    (omega arith, rest y e low))
    (λ more.
    let same : x ≡ h = rw more at is in
    let low : x.position ≤ b = subst (λ (s : Shadow). s.position ≤ b) (sym same) le in
    let ge : y.position ≤ x.position = ltb-false _ _ more in
    (low, rest y e (omega arith)))

heir-furthest : (b : ℕ) (ss : List Shadow) (h : Shadow) → heir ss ≡ Some h → h.position ≤ b → AllByRecursion (λ s. s.position ≤ b) ss
heir-furthest b [] h e le = tt
heir-furthest b (x ∷ xs) h e le = (let is : earlier_of (λ x y. ltb y.position x.position) x (heir xs) ≡ h = cc in further_step b x h xs (heir xs) refl is le (λ y. heir-furthest b xs y))

-- Shadows that stand at their points.

abbrev AtPoints : List Shadow → List Conflict → Type 0
AtPoints ss ws = AllZip (λ s w. (s.out ≡ false) × (s.position ≡ w.1)) ss ws

points_from : (P : ℕ → Type 0) (ss : List Shadow) (ws : List Conflict) → AtPoints ss ws → AllByRecursion (λ s. P s.position) ss → AllByRecursion (λ w. P w.1) ws
points_from P [] [] h all = tt
points_from P [] (w ∷ ws) h all = absurd h
points_from P (s ∷ ss) [] h all = absurd h
points_from P (s ∷ ss) (w ∷ ws) h all = (subst P h.0.1 all.0, points_from P ss ws h.1 all.1)

points_to : (P : ℕ → Type 0) (ss : List Shadow) (ws : List Conflict) → AtPoints ss ws → AllByRecursion (λ w. P w.1) ws → AllByRecursion (λ s. P s.position) ss
points_to P [] [] h all = tt
points_to P [] (w ∷ ws) h all = absurd h
points_to P (s ∷ ss) [] h all = absurd h
points_to P (s ∷ ss) (w ∷ ws) h all = (subst P (sym h.0.1) all.0, points_to P ss ws h.1 all.1)

shadow_at : (ss : List Shadow) (ws : List Conflict) (w : Conflict) → AtPoints ss ws → Member w ws → (s : Shadow) × Member s ss × (s.position ≡ w.1)
shadow_at [] [] w h m = absurd m
shadow_at [] (x ∷ ws) w h m = absurd h
shadow_at (s ∷ ss) [] w h m = absurd h
shadow_at (s ∷ ss) (x ∷ ws) w h (inl e) = (s, inl refl, h.0.1 ∙ ap (λ (y : Conflict). y.1) e)
shadow_at (s ∷ ss) (x ∷ ws) w h (inr m) = let found : (t : Shadow) × Member t ss × (t.position ≡ w.1) = shadow_at ss ws w h.1 m in (found.0, inr found.1, found.2)

member-filter : {X : Type 0} (test : X → Bool) (xs : List X) (x : X) → test x ≡ true → Member x xs → Member x (filter test xs)
member-filter test [] x e m = absurd m
member-filter test (y ∷ ys) x e (inl same) = let hit : test y ≡ true = ap test same ∙ e in rw hit (inl same)
member-filter test (y ∷ ys) x e (inr m) =
    cond_both (test y) (y ∷ filter test ys) (filter test ys) (Member x) (λ q. inr (member-filter test ys x e m)) (λ q. member-filter test ys x e m)

filter-all : {X : Type 0} (test : X → Bool) (xs : List X) → AllByRecursion (λ x. test x ≡ true) xs → filter test xs ≡ xs
filter-all test [] h = refl
filter-all test (x ∷ xs) h = rw h.0 (ap (λ ys. x ∷ ys) (filter-all test xs h.1))

-- The order of what is wanted.

-- no point is above a later one
abbrev IsUp : List Conflict → Type 0
IsUp [] = Unit {0}
IsUp (w ∷ ws) = AllByRecursion (λ x. w.1 ≤ x.1) ws × IsUp ws

sooner-le : (x y : Conflict) → is_sooner x y ≡ true → x.1 ≤ y.1
sooner-le x y h =
    either (or_cases _ _ h)
    (λ lt. let less : x.1 < y.1 = ltb-true _ _ lt in omega arith)
    (λ same. let e : x.1 ≡ y.1 = eqb-true _ _ (and_parts _ _ same).0 in omega arith)

not_sooner-le : (x y : Conflict) → is_sooner y x ≡ false → x.1 ≤ y.1
not_sooner-le x y h =
    either (cases_lt y.1 x.1)
    (λ lt. let hit : ltb y.1 x.1 ≡ true = lt-ltb y.1 x.1 lt in let on : is_sooner y x ≡ true = rw hit refl in absurd (true≢false (sym on ∙ h)))
    (λ le. le)

up-put : (x : Conflict) (xs : List Conflict) → IsUp xs → IsUp (put_in_order is_sooner x xs)
up-put x [] h = (tt, tt)
up-put x (y ∷ ys) h =
    cond_both (is_sooner y x) _ _ IsUp
    (λ e. (all-put (λ z. y.1 ≤ z.1) is_sooner x ys (sooner-le y x e) h.0, up-put x ys h.1))
    (λ e. let le : x.1 ≤ y.1 = not_sooner-le x y e in ((le, all-weaken (λ z. y.1 ≤ z.1) (λ z. x.1 ≤ z.1) (λ z g. omega arith) ys h.0), h))

up-fold : (done xs : List Conflict) → IsUp done → IsUp (fold (λ done x. put_in_order is_sooner x done) done xs)
up-fold done [] h = h
up-fold done (x ∷ xs) h = up-fold (put_in_order is_sooner x done) xs (up-put x done h)

up-take : (n : ℕ) (xs : List Conflict) → IsUp xs → IsUp (take n xs)
up-take zero xs h = tt
up-take (suc n) [] h = tt
up-take (suc n) (x ∷ xs) h = (all-front n xs h.0, up-take n xs h.1)
  where
    all-front : (m : ℕ) (ys : List Conflict) → AllByRecursion (λ y. x.1 ≤ y.1) ys → AllByRecursion (λ y. x.1 ≤ y.1) (take m ys)
    all-front zero ys all = tt
    all-front (suc m) [] all = tt
    all-front (suc m) (y ∷ ys) all = (all.0, all-front m ys all.1)

wanted-up : (f : Forest) (r : Started) → IsUp (wanted f r)
wanted-up f r = up-take (f.k - 1) _ (up-fold [] (filter_map (against f r) f.started) tt)

-- what is cut off is above all that is kept
kept_or_above : (n : ℕ) (xs : List Conflict) (w : Conflict) → IsUp xs → Member w xs → Member w (take n xs) ⊎ AllByRecursion (λ x. x.1 ≤ w.1) (take n xs)
kept_or_above zero xs w h m = inr tt
kept_or_above (suc n) [] w h m = absurd m
kept_or_above (suc n) (x ∷ xs) w h (inl e) = inl (inl e)
kept_or_above (suc n) (x ∷ xs) w h (inr m) =
    either (kept_or_above n xs w h.1 m)
    (λ kept. inl (inr kept))
    (λ above. inr (member-all (λ y. x.1 ≤ y.1) w xs h.0 m, above))

-- the last point is one of them, and none is above it
last_from-keeps : (P : ℕ → Type 0) (n : ℕ) (ws : List Conflict) → P n → AllByRecursion (λ w. P w.1) ws → P (last_from n ws)
last_from-keeps P n [] h all = h
last_from-keeps P n (w ∷ ws) h all = last_from-keeps P w.1 ws all.0 all.1

last_from-top : (n : ℕ) (ws : List Conflict) → IsUp ws → AllByRecursion (λ w. n ≤ w.1) ws → (n ≤ last_from n ws) × AllByRecursion (λ w. w.1 ≤ last_from n ws) ws
last_from-top n [] up low = (omega arith, tt)
last_from-top n (w ∷ ws) up low =
    let rest : (w.1 ≤ last_from w.1 ws) × AllByRecursion (λ x. x.1 ≤ last_from w.1 ws) ws = last_from-top w.1 ws up.1 up.0 in
    (omega (arith, low.0, rest.0), rest)

wanted_member : (ws : List Conflict) (u : ℕ) → is_wanted ws u ≡ true → (w : Conflict) × Member w ws × (w.0 ≡ u)
wanted_member [] u h = cc
wanted_member (w ∷ ws) u h =
    either (or_cases _ _ h)
    (λ here. (w, inl refl, eqb-true w.0 u here))
    (λ later. let m : (x : Conflict) × Member x ws × (x.0 ≡ u) = wanted_member ws u later in (m.0, inr m.1, m.2))

member_wanted : (ws : List Conflict) (w : Conflict) → Member w ws → is_wanted ws w.0 ≡ true
member_wanted [] w m = absurd m
member_wanted (x ∷ ws) w (inl e) = rw (eq-eqb x.0 w.0 (ap (λ (y : Conflict). y.0) e)) refl
member_wanted (x ∷ ws) w (inr m) = rw (member_wanted ws w m) (grind arith)

-- Idle reset.

module _ (f : Forest) (h : IsSound f) (idle : IsIdle f) (t : ℕ) (u : Started) (found_u : find_started f.started t ≡ Some u)
    (v : ℕ) (r : Started) (found_r : find_started f.started v ≡ Some r) where
  ended : u.position ≡ length_of f u
  ended = (all-found (λ x. (x.out ≡ false) × (x.position ≡ length_of f x)) (λ x. x.number == t) f.started u found_u idle.ended).1

  blocked : AtPoints r.shadows (wanted f r)
  blocked = all-found (λ x. AtPoints x.shadows (wanted f x)) (λ x. x.number == v) f.started r found_r idle.blocked

  -- the point of each wanted pair of u's number is the point against u
  its_point : (p : ℕ) → point_of f r u ≡ Some p → AllByRecursion (λ w. w.0 ≡ u.number → w.1 ≡ p) (wanted f r)
  its_point p e =
      all-wanted (λ w. w.0 ≡ u.number → w.1 ≡ p) f r
      (all-weaken (λ x. x.number ≡ u.number → x ≡ u) (λ x. (w : Conflict) → against f r x ≡ Some w → w.0 ≡ u.number → w.1 ≡ p)
      (λ x alone w a same.
      let is : (w.0 ≡ x.number) × (point_of f r x ≡ Some w.1) = against-is f r x w a in
      let one : x ≡ u = alone (sym is.0 ∙ same) in
      let both : Some w.1 ≡ Some p = sym is.1 ∙ ap (point_of f r) one ∙ e in
      cc)
      f.started (found-alone f.started t u h.right.rising found_u))

  resumed : (p q : ℕ) → point_of f r u ≡ Some p → cut f u r ≡ Some p → (resumed_by (heir (survivors (Some p) r.shadows)) r (survivors (Some p) r.shadows)).position ≡ q
      → resumes f u r ≡ Some (r.number, q)
  resumed p q e c is =
      let below : leb r.position p ≡ false = let lt : p < r.position = point-below f r u p e in lt-leb r.position p lt in
      rw (c, below) (ap (λ n. Some (r.number, n)) is)

  -- a wanted reader goes back to exactly its point
  pub reset-wanted : (p : ℕ) → is_done (outcome_of (program f u) f.tables) ≡ true → point_of f r u ≡ Some p → is_wanted (wanted f r) u.number ≡ true
      → resumes f u r ≡ Some (r.number, p)
  reset-wanted p done e wanted_u =
      let m : (w : Conflict) × Member w (wanted f r) × (w.0 ≡ u.number) = wanted_member (wanted f r) u.number wanted_u in
      let at_p : m.0.1 ≡ p = member-all (λ w. w.0 ≡ u.number → w.1 ≡ p) m.0 (wanted f r) (its_point p e) m.1 m.2 in
      let s : (s : Shadow) × Member s r.shadows × (s.position ≡ m.0.1) = shadow_at r.shadows (wanted f r) m.0 blocked m.1 in
      let here : s.0.position ≡ p = s.2 ∙ at_p in
      let survivor : Member s.0 (survivors (Some p) r.shadows) =
      member-filter (λ x. leb x.position p) r.shadows s.0 (le-leb s.0.position p (omega arith)) s.1
      in
      resumed p p e (cut-done f u r ended done ∙ e) (go p s.0 here survivor (heir (survivors (Some p) r.shadows)) refl)
    where
      go : (p : ℕ) (s : Shadow) → s.position ≡ p → Member s (survivors (Some p) r.shadows) → (o : Option Shadow) → heir (survivors (Some p) r.shadows) ≡ o
          → (resumed_by o r (survivors (Some p) r.shadows)).position ≡ p
      go p s here m None e = absurd (subst (Member s) (none-first (λ x y. ltb y.position x.position) (survivors (Some p) r.shadows) e) m)
      go p s here m (Some g) e =
          let low : g.position ≤ p =
          leb-true _ _ (all-first (λ x. leb x.position p ≡ true) (λ x y. ltb y.position x.position) (survivors (Some p) r.shadows) g e (filter-passes (λ x. leb x.position p) r.shadows))
          in
          let high : s.position ≤ g.position =
          member-all (λ x. x.position ≤ g.position) s (survivors (Some p) r.shadows) (heir-furthest g.position (survivors (Some p) r.shadows) g e (omega arith)) m
          in
          omega arith

  -- any other reader goes back to the last point that it wants, or to its start
  pub reset-other : (p : ℕ) → u.number ≢ r.number → is_done (outcome_of (program f u) f.tables) ≡ true → point_of f r u ≡ Some p → is_wanted (wanted f r) u.number ≡ false
      → resumes f u r ≡ Some (r.number, last_point (wanted f r))
  reset-other p apart done e unwanted =
      let pair : against f r u ≡ Some (u.number, p) = rw (ne_eqb u.number r.number apart, e) refl in
      let there : Member (u.number, p) (in_order is_sooner (filter_map (against f r) f.started)) =
      member-in_order is_sooner (filter_map (against f r) f.started) (u.number, p)
      (member-filter_map (against f r) u (u.number, p) f.started pair (member-found (λ x. x.number == t) f.started u found_u))
      in
      let all_low : AllByRecursion (λ w. w.1 ≤ p) (wanted f r) =
      either (kept_or_above (f.k - 1) (in_order is_sooner (filter_map (against f r) f.started)) (u.number, p) (up-fold [] (filter_map (against f r) f.started) tt) there)
      (λ kept. absurd (true≢false (sym (member_wanted (wanted f r) (u.number, p) kept) ∙ unwanted)))
      (λ above. above)
      in
      let all_survive : survivors (Some p) r.shadows ≡ r.shadows =
      filter-all (λ x. leb x.position p) r.shadows
      (all-weaken (λ x. x.position ≤ p) (λ x. leb x.position p ≡ true) (λ x le. le-leb x.position p le) r.shadows (points_to (λ n. n ≤ p) r.shadows (wanted f r) blocked all_low))
      in
      resumed p (last_point (wanted f r)) e (cut-done f u r ended done ∙ e)
      (subst (λ ss. (resumed_by (heir ss) r ss).position ≡ last_point (wanted f r)) (sym all_survive) (go (heir r.shadows) refl))
    where
      top : AllByRecursion (λ w. w.1 ≤ last_point (wanted f r)) (wanted f r)
      top = (last_from-top 0 (wanted f r) (wanted-up f r) (all-everywhere (λ (w : Conflict). 0 ≤ w.1) (λ w. omega arith) (wanted f r))).1

      empty : r.shadows ≡ [] → (ws : List Conflict) → AtPoints r.shadows ws → 0 ≡ last_point ws
      empty e [] b = refl
      empty e (w ∷ ws) b = absurd (subst (λ ss. AtPoints ss (w ∷ ws)) e b)

      go : (o : Option Shadow) → heir r.shadows ≡ o → (resumed_by o r r.shadows).position ≡ last_point (wanted f r)
      go None e = empty (none-first (λ x y. ltb y.position x.position) r.shadows e) (wanted f r) blocked
      go (Some g) e =
          let low : g.position ≤ last_point (wanted f r) =
          all-first (λ x. x.position ≤ last_point (wanted f r)) (λ x y. ltb y.position x.position) r.shadows g e
          (points_to (λ n. n ≤ last_point (wanted f r)) r.shadows (wanted f r) blocked top)
          in
          let high : last_point (wanted f r) ≤ g.position =
          last_from-keeps (λ n. n ≤ g.position) 0 (wanted f r) (omega arith)
          (points_from (λ n. n ≤ g.position) r.shadows (wanted f r) blocked (heir-furthest g.position r.shadows g e (omega arith)))
          in
          omega arith

  -- where there is no point, r goes on
  pub reset-none : is_done (outcome_of (program f u) f.tables) ≡ true → point_of f r u ≡ None → resumes f u r ≡ None
  reset-none done e = rw (cut-done f u r ended done, e) refl

  -- and where the run of u is not done
  pub reset-undone : is_done (outcome_of (program f u) f.tables) ≡ false → resumes f u r ≡ None
  reset-undone undone = rw (cut-undone f u r undone) refl
