-- Points, the order of what is wanted, and what a cut leaves.
use Rattle.std.proofs.Common.{◌≡◌, ℕ, zero, suc, ◌-◌, ◌<◌, ◌≤◌, ◌==◌, Bool, true, false, cond, ℤ, List, [], ◌∷◌, map, filter, filter_map, find, fold, take, min, Option, Some, None, is_some, refl, ap, sym, ◌∙◌, subst, arith, leb-true, inl, inr, ◌⊎◌}
use Rattle.std.specs.List.{AllByRecursion, cons_option}
use Rattle.std.proofs.lemmas.Bool.{cases_lt, cases_Bool, cond_both}
use Rattle.txn_runs.specs.Run.{Tables, Read, Writes, own, after}
use Rattle.txn_runs.specs.Serial.{run_length, over}
use Rattle.txn_runs.specs.Reads.{Agrees}
use Rattle.txn_runs.proofs.Agree.{after_own}
use Rattle.txn_runs.specs.declared.program.Program.{Program}
use Rattle.forest_model.specs.Runs.{reads}
use Rattle.forest_model.specs.Choose.{less_or, least, put_in_order, in_order}
use Rattle.forest_model.specs.Point.{is_changed, Conflict, point, is_sooner}
use Rattle.forest_model.specs.Forest.{Started, Forest, program, reads_of, writes_of, point_of, conflict_at, against, wanted}
use Rattle.forest_model.specs.Cut.{survives}
use Rattle.forest_model.proofs.RunLaws.{Grows, reads-grow, reads-below, after-same, length-same, length-over, over-other}
use Rattle.forest_model.proofs.Lists.{either, all-append_left, all-weaken, all-map, all-filter, all-everywhere, all-both}
use Rattle.forest_model.proofs.StartedLaws.{all-put}

-- Membership, for proofs alone.

abbrev pub Member : {X : Type 0} → X → List X → Type 0
Member x [] = ⊥
Member x (y ∷ ys) = (y ≡ x) ⊎ Member x ys

pub member-all : {X : Type 0} (P : X → Type 0) (x : X) (xs : List X) → AllByRecursion P xs → Member x xs → P x
member-all P x [] all m = absurd m
member-all P x (y ∷ ys) all (inl e) = subst P e all.0
member-all P x (y ∷ ys) all (inr m) = member-all P x ys all.1 m

pub member-found : {X : Type 0} (test : X → Bool) (xs : List X) (x : X) → find test xs ≡ Some x → Member x xs
member-found test [] x h = cc
member-found test (y ∷ ys) x h =
    either (cases_Bool (test y))
    (λ e. let found : Some y ≡ Some x = rw e at h in inl cc)
    (λ e. inr (member-found test ys x (rw e at h)))

pub member-put_new : {X : Type 0} (before : X → X → Bool) (x : X) (xs : List X) → Member x (put_in_order before x xs)
member-put_new before x [] = inl refl
member-put_new before x (z ∷ zs) =
    cond_both (before z x) _ _ (Member x) (λ e. inr (member-put_new before x zs)) (λ e. inl refl)

pub member-put_old : {X : Type 0} (before : X → X → Bool) (x y : X) (xs : List X) → Member y xs → Member y (put_in_order before x xs)
member-put_old before x y [] m = absurd m
member-put_old before x y (z ∷ zs) m =
    cond_both (before z x) _ _ (Member y)
    (λ e. either m (λ here. inl here) (λ later. inr (member-put_old before x y zs later))) (λ e. inr m)

member-fold : {X : Type 0} (before : X → X → Bool) (done xs : List X) (y : X) → Member y done ⊎ Member y xs
    → Member y (fold (λ done x. put_in_order before x done) done xs)
member-fold before done [] y (inl m) = m
member-fold before done [] y (inr m) = absurd m
member-fold before done (x ∷ xs) y (inl m) = member-fold before (put_in_order before x done) xs y (inl (member-put_old before x y done m))
member-fold before done (x ∷ xs) y (inr (inl e)) = member-fold before (put_in_order before x done) xs y (inl (subst (λ z. Member z (put_in_order before x done)) e (member-put_new before x done)))
member-fold before done (x ∷ xs) y (inr (inr m)) = member-fold before (put_in_order before x done) xs y (inr m)

pub member-in_order : {X : Type 0} (before : X → X → Bool) (xs : List X) (y : X) → Member y xs → Member y (in_order before xs)
member-in_order before xs y m = member-fold before [] xs y (inr m)

pub member-filter_map : {X Y : Type 0} (h : X → Option Y) (x : X) (y : Y) (xs : List X) → h x ≡ Some y → Member x xs → Member y (filter_map h xs)
member-filter_map h x y [] e m = absurd m
member-filter_map h x y (z ∷ zs) e (inl same) = rw (same, e) (inl refl)
member-filter_map {Y = Y} h x y (z ∷ zs) e (inr m) = cons (h z) (member-filter_map h x y zs e m)
  where
    cons : (o : Option Y) → Member y (filter_map h zs) → Member y (cons_option o (filter_map h zs))
    cons None n = n
    cons (Some w) n = inr n

-- All, through the making of a wanted list.

pub all-filter_map : {X Y : Type 0} (P : Y → Type 0) (h : X → Option Y) (xs : List X) → AllByRecursion (λ x. (y : Y) → h x ≡ Some y → P y) xs → AllByRecursion P (filter_map h xs)
all-filter_map P h [] all = tt
all-filter_map {Y = Y} P h (x ∷ xs) all = cons (h x) all.0 (all-filter_map P h xs all.1)
  where
    cons : (o : Option Y) → ((y : Y) → o ≡ Some y → P y) → AllByRecursion P (filter_map h xs) → AllByRecursion P (cons_option o (filter_map h xs))
    cons None f rest = rest
    cons (Some y) f rest = (f y refl, rest)

all-fold : {X : Type 0} (P : X → Type 0) (before : X → X → Bool) (done xs : List X) → AllByRecursion P done → AllByRecursion P xs
    → AllByRecursion P (fold (λ done x. put_in_order before x done) done xs)
all-fold P before done [] d all = d
all-fold P before done (x ∷ xs) d all = all-fold P before (put_in_order before x done) xs (all-put P before x done all.0 d) all.1

pub all-in_order : {X : Type 0} (P : X → Type 0) (before : X → X → Bool) (xs : List X) → AllByRecursion P xs → AllByRecursion P (in_order before xs)
all-in_order P before xs all = all-fold P before [] xs tt all

pub all-take : {X : Type 0} (P : X → Type 0) (n : ℕ) (xs : List X) → AllByRecursion P xs → AllByRecursion P (take n xs)
all-take P zero xs all = tt
all-take P (suc n) [] all = tt
all-take P (suc n) (x ∷ xs) all = (all.0, all-take P n xs all.1)

-- what holds of each pair of a guard and its point holds of each that is wanted
pub all-wanted : (P : ℕ × ℕ → Type 0) (f : Forest) (r : Started) → AllByRecursion (λ u. (w : ℕ × ℕ) → against f r u ≡ Some w → P w) f.started → AllByRecursion P (wanted f r)
all-wanted P f r all = all-take P (f.k - 1) _ (all-in_order P is_sooner _ (all-filter_map P (against f r) f.started all))

-- The least of a list.

none-least : (ns : List ℕ) → least ns ≡ None → ns ≡ []
none-least [] h = refl
none-least (n ∷ ns) h = cc

least_step : (n c b : ℕ) (ns : List ℕ) (o : Option ℕ) → least ns ≡ o → less_or o n ≡ c → b ≤ c
    → ((m : ℕ) → least ns ≡ Some m → b ≤ m → AllByRecursion (λ n. b ≤ n) ns) → (b ≤ n) × AllByRecursion (λ n. b ≤ n) ns
least_step n c b ns None e is le rest = (omega arith, rw (none-least ns e) tt)
least_step n c b ns (Some m) e is le rest = (omega arith, rest m e (omega arith))

least-low : (ns : List ℕ) (c b : ℕ) → least ns ≡ Some c → b ≤ c → AllByRecursion (λ n. b ≤ n) ns
least-low [] c b h le = tt
least-low (n ∷ ns) c b h le = least_step n c b ns (least ns) refl (cc) le (λ m. least-low ns m b)

less_or-keeps : (P : ℕ → Type 0) (o : Option ℕ) (n : ℕ) → P n → ((m : ℕ) → o ≡ Some m → P m) → P (less_or o n)
less_or-keeps P None n h rest = h
less_or-keeps P (Some m) n h rest =
    either (cases_lt m n)
    (λ lt. let e : min m n ≡ m = omega arith in rw e (rest m refl))
    (λ ge. let e : min m n ≡ n = omega arith in rw e h)

all-least : (P : ℕ → Type 0) (ns : List ℕ) (c : ℕ) → least ns ≡ Some c → AllByRecursion P ns → P c
all-least P [] c h all = cc
all-least P (n ∷ ns) c h all =
    let is : less_or (least ns) n ≡ c = cc in
    rw is at (less_or-keeps P (least ns) n all.0 (λ m e. all-least P ns m e all.1))

-- The point of reads against writes.

not_changed : (o : Option ℤ) → is_some o ≡ false → o ≡ None
not_changed None h = refl
not_changed (Some v) h = cc

kept_all : (b : ℕ) (ws : Writes) (rs : List Read) → AllByRecursion (λ n. b ≤ n) (map (λ (x : Read). x.0) (filter (is_changed ws) rs))
    → AllByRecursion (λ (x : Read). x.0 < b → own ws x.1 ≡ None) rs
kept_all b ws [] h = tt
kept_all b ws (x ∷ rs) h = go (is_changed ws x) refl h (kept_all b ws rs)
  where
    go : (t : Bool) → is_changed ws x ≡ t → AllByRecursion (λ n. b ≤ n) (map (λ (x : Read). x.0) (cond t (x ∷ filter (is_changed ws) rs) (filter (is_changed ws) rs)))
        → (AllByRecursion (λ n. b ≤ n) (map (λ (x : Read). x.0) (filter (is_changed ws) rs)) → AllByRecursion (λ (x : Read). x.0 < b → own ws x.1 ≡ None) rs)
        → (x.0 < b → own ws x.1 ≡ None) × AllByRecursion (λ (x : Read). x.0 < b → own ws x.1 ≡ None) rs
    go true e h rest = (λ lt. let le : b ≤ x.0 = h.0 in absurd (omega arith), rest h.1)
    go false e h rest = (λ lt. not_changed (own ws x.1) e, rest h)

-- what a survivor has read is not among the writes
pub survives-reads : (rs : List Read) (ws : Writes) (q : ℕ) → survives (point rs ws) q ≡ true → AllByRecursion (λ (x : Read). x.0 < q → own ws x.1 ≡ None) rs
survives-reads rs ws q h = go (point rs ws) refl h
  where
    go : (o : Option ℕ) → point rs ws ≡ o → survives o q ≡ true → AllByRecursion (λ (x : Read). x.0 < q → own ws x.1 ≡ None) rs
    go None e s = kept_all q ws rs (rw (none-least _ e) tt)
    go (Some c) e s =
        let le : q ≤ c = leb-true q c s in
        all-weaken (λ (x : Read). x.0 < c → own ws x.1 ≡ None) (λ (x : Read). x.0 < q → own ws x.1 ≡ None) (λ x k lt. k (omega arith)) rs
        (kept_all c ws rs (least-low _ c c e (omega arith)))

-- a point is the position of a read
pub all-point : (P : ℕ → Type 0) (rs : List Read) (ws : Writes) (c : ℕ) → point rs ws ≡ Some c → AllByRecursion (λ (x : Read). P x.0) rs → P c
all-point P rs ws c h all = all-least P _ c h (all-map P (λ (x : Read). x.0) (filter (is_changed ws) rs) (all-filter (λ (x : Read). P x.0) (is_changed ws) rs all))

-- a point lies below the position of the optimistic shadow
pub point-below : (f : Forest) (r u : Started) (c : ℕ) → point_of f r u ≡ Some c → c < r.position
point-below f r u c h = all-point (λ n. n < r.position) (reads_of f r) (writes_of f u) c h (reads-below (program f r) f.tables r.position)

conflict_at-is : (u : ℕ) (o : Option ℕ) (w : ℕ × ℕ) → conflict_at u o ≡ Some w → (w.0 ≡ u) × (o ≡ Some w.1)
conflict_at-is u None w h = cc
conflict_at-is u (Some p) w h = let e : (u, p) ≡ w = cc in (ap (λ (x : Conflict). x.0) (sym e), ap (λ (x : ℕ × ℕ). Some x.1) e)

-- a pair that is made against u has u's number and the point
pub against-is : (f : Forest) (r u : Started) (w : ℕ × ℕ) → against f r u ≡ Some w → (w.0 ≡ u.number) × (point_of f r u ≡ Some w.1)
against-is f r u w h =
    either (cases_Bool (u.number == r.number))
    (λ e. let none : None ≡ Some w = rw e at h in cc)
    (λ e. conflict_at-is u.number (point_of f r u) w (rw e at h))

pub wanted-below : (f : Forest) (r : Started) → AllByRecursion (λ w. w.1 < r.position) (wanted f r)
wanted-below f r =
    all-wanted (λ w. w.1 < r.position) f r
    (all-everywhere (λ u. (w : ℕ × ℕ) → against f r u ≡ Some w → w.1 < r.position)
    (λ u w h. point-below f r u w.1 (against-is f r u w h).1) f.started)

-- Survival.

-- reads of what is not written have the values of the new tables
unwritten-agrees : (d : Tables) (ws : Writes) (rs : List Read) → Agrees d rs → AllByRecursion (λ (r : Read). own ws r.1 ≡ None) rs → Agrees (over ws d) rs
unwritten-agrees d ws [] has none = tt
unwritten-agrees d ws (r ∷ rs) has none = (over-other ws d r.1 none.0 ∙ has.0, unwritten-agrees d ws rs has.1 none.1)

-- a shadow at a position that survives has read nothing that the writes change
pub survives-agree : (p : Program) (d : Tables) (n q : ℕ) (ws : Writes) → q ≤ n → survives (point (reads p d n) ws) q ≡ true → Agrees (over ws d) (reads p d q)
survives-agree p d n q ws le h =
    let grown : Grows q n (reads p d q) (reads p d n) = reads-grow p d q n le in
    let kept : AllByRecursion (λ (x : Read). x.0 < q → own ws x.1 ≡ None) (reads p d q) =
    all-append_left _ (reads p d q) grown.more (subst (AllByRecursion (λ (x : Read). x.0 < q → own ws x.1 ≡ None)) grown.is (survives-reads (reads p d n) ws q h))
    in
    unwritten-agrees d ws (reads p d q) (after_own p d q)
    (all-both (λ (x : Read). x.0 < q) (λ (x : Read). x.0 < q → own ws x.1 ≡ None) (λ (x : Read). own ws x.1 ≡ None)
    (λ x lt k. k lt) (reads p d q) (reads-below p d q) kept)

-- survival: its run over the new tables is its run over the old ones
pub after-survives : (p : Program) (d : Tables) (n q : ℕ) (ws : Writes) → q ≤ n → survives (point (reads p d n) ws) q ≡ true → after p d q ≡ after p (over ws d) q
after-survives p d n q ws le h = after-same p d (over ws d) q (length-over ws d) (survives-agree p d n q ws le h)

-- and the new run is at least as long
pub length-survives : (p : Program) (d : Tables) (n q : ℕ) (ws : Writes) → q ≤ n → n ≤ run_length p d → survives (point (reads p d n) ws) q ≡ true → q ≤ run_length p (over ws d)
length-survives p d n q ws le within h = length-same p d (over ws d) q (length-over ws d) (survives-agree p d n q ws le h) (omega arith)
