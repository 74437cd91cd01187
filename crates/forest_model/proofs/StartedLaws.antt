-- The list of the started transactions: by number, each once; one more, one less.
use Rattle.std.proofs.Common.{◌≡◌, ◌≢◌, ℕ, suc, ◌<◌, ◌≤◌, ◌==◌, Bool, true, false, ◌||◌, ltb, List, [], ◌∷◌, length, map, filter, filter_map, Option, Some, None, refl, ap, sym, ◌∙◌, subst, arith, true≢false, eqb-true, eq-eqb, ltb-true, ltb-false}
use Rattle.std.specs.List.{AllByRecursion, list_any, cons_option}
use Rattle.std.proofs.lemmas.Bool.{cases_eq, cases_Bool, cond_both, or_cases, or_parts, ne_eqb}
use Rattle.forest_model.specs.Choose.{put_in_order, first_by, earlier_of}
use Rattle.forest_model.specs.Forest.{Started, find_started, is_started}
use Rattle.forest_model.specs.Start.{without}
use Rattle.forest_model.specs.Sound.{IsRising}
use Rattle.forest_model.proofs.Lists.{either, all-weaken, all-map}

abbrev pub number : Started → ℕ
number r = r.number

abbrev pub below : Started → Started → Bool
below x y = ltb x.number y.number

-- One more.

pub all-put : {X : Type 0} (P : X → Type 0) (before : X → X → Bool) (x : X) (xs : List X) → P x → AllByRecursion P xs → AllByRecursion P (put_in_order before x xs)
all-put P before x [] h all = (h, tt)
all-put P before x (y ∷ ys) h all =
    cond_both (before y x) (y ∷ put_in_order before x ys) (x ∷ y ∷ ys) (AllByRecursion P)
    (λ e. (all.0, all-put P before x ys h all.1)) (λ e. (h, all))

pub length-put : {X : Type 0} (before : X → X → Bool) (x : X) (xs : List X) → length (put_in_order before x xs) ≡ suc (length xs)
length-put before x [] = refl
length-put before x (y ∷ ys) =
    cond_both (before y x) (y ∷ put_in_order before x ys) (x ∷ y ∷ ys) (λ zs. length zs ≡ suc (suc (length ys)))
    (λ e. ap suc (length-put before x ys)) (λ e. refl)

pub filter_map-put : {X Y : Type 0} (h : X → Option Y) (before : X → X → Bool) (x : X) (xs : List X) → h x ≡ None → filter_map h (put_in_order before x xs) ≡ filter_map h xs
filter_map-put h before x [] none = rw none refl
filter_map-put h before x (y ∷ ys) none =
    cond_both (before y x) (y ∷ put_in_order before x ys) (x ∷ y ∷ ys) (λ zs. filter_map h zs ≡ filter_map h (y ∷ ys))
    (λ e. ap (cons_option (h y)) (filter_map-put h before x ys none)) (λ e. rw none refl)

pub is_started-put : (x : Started) (xs : List Started) (t : ℕ) → is_started (put_in_order below x xs) t ≡ (x.number == t || is_started xs t)
is_started-put x [] t = refl
is_started-put x (y ∷ ys) t =
    cond_both (below y x) (y ∷ put_in_order below x ys) (x ∷ y ∷ ys) (λ zs. is_started zs t ≡ (x.number == t || is_started (y ∷ ys) t))
    (λ e. rw (is_started-put x ys t) (grind arith)) (λ e. refl)

rising-put : (x : Started) (xs : List Started) → IsRising (map number xs) → AllByRecursion (λ y. y.number ≢ x.number) xs → IsRising (map number (put_in_order below x xs))
rising-put x [] h new = (tt, tt)
rising-put x (y ∷ ys) h new =
    cond_both (below y x) (y ∷ put_in_order below x ys) (x ∷ y ∷ ys) (λ zs. IsRising (map number zs))
    (λ e. (all-map (λ m. y.number < m) number (put_in_order below x ys) (all-put (λ z. y.number < z.number) below x ys (ltb-true _ _ e) (unmapped y.number ys h.0)), rising-put x ys h.1 new.1))
    (λ e.
    let less : x.number < y.number = let le : x.number ≤ y.number = ltb-false _ _ e in let ne : y.number ≢ x.number = new.0 in omega arith in
    ((less, all-weaken _ (λ m. x.number < m) (λ m lt. omega arith) (map number ys) h.0), h))
  where
    unmapped : (n : ℕ) (zs : List Started) → AllByRecursion (λ m. n < m) (map number zs) → AllByRecursion (λ z. n < z.number) zs
    unmapped n [] all = tt
    unmapped n (z ∷ zs) all = (all.0, unmapped n zs all.1)

-- a number that is not started is put at its place
pub rising-started : (x : Started) (xs : List Started) → IsRising (map number xs) → is_started xs x.number ≡ false → IsRising (map number (put_in_order below x xs))
rising-started x xs h new = rising-put x xs h (apart xs new)
  where
    apart : (ys : List Started) → is_started ys x.number ≡ false → AllByRecursion (λ y. y.number ≢ x.number) ys
    apart [] e = tt
    apart (y ∷ ys) e =
        let parts : (y.number == x.number ≡ false) × (is_started ys x.number ≡ false) = or_parts _ _ e in
        (λ same. true≢false (sym (eq-eqb _ _ same) ∙ parts.0), apart ys parts.1)

-- One less.

pub rising-filter : (test : Started → Bool) (xs : List Started) → IsRising (map number xs) → IsRising (map number (filter test xs))
rising-filter test [] h = tt
rising-filter test (x ∷ xs) h =
    cond_both (test x) (x ∷ filter test xs) (filter test xs) (λ zs. IsRising (map number zs))
    (λ e. (kept x.number xs h.0, rising-filter test xs h.1)) (λ e. rising-filter test xs h.1)
  where
    kept : (n : ℕ) (ys : List Started) → AllByRecursion (λ m. n < m) (map number ys) → AllByRecursion (λ m. n < m) (map number (filter test ys))
    kept n [] all = tt
    kept n (y ∷ ys) all =
        cond_both (test y) (y ∷ filter test ys) (filter test ys) (λ zs. AllByRecursion (λ m. n < m) (map number zs))
        (λ e. (all.0, kept n ys all.1)) (λ e. kept n ys all.1)

pub length-filter-le : {X : Type 0} (test : X → Bool) (xs : List X) → length (filter test xs) ≤ length xs
length-filter-le test [] = omega arith
length-filter-le test (x ∷ xs) =
    cond_both (test x) (x ∷ filter test xs) (filter test xs) (λ zs. length zs ≤ suc (length xs))
    (λ e. omega (arith, length-filter-le test xs)) (λ e. omega (arith, length-filter-le test xs))

without-absent : (t : ℕ) (xs : List Started) → AllByRecursion (λ m. t < m) (map number xs) → length (without t xs) ≡ length xs
without-absent t [] h = refl
without-absent t (x ∷ xs) h =
    let other : x.number == t ≡ false = ne_eqb x.number t (omega (arith, h.0)) in
    rw other (ap suc (without-absent t xs h.1))

-- at most one goes
pub length-without : (t : ℕ) (xs : List Started) → IsRising (map number xs) → length xs ≤ suc (length (without t xs))
length-without t [] h = omega arith
length-without t (x ∷ xs) h =
    either (cases_eq x.number t)
    (λ same.
    let e : x.number == t ≡ true = eq-eqb _ _ same in
    let rest : length (without t xs) ≡ length xs = without-absent t xs (subst (λ n. AllByRecursion (λ m. n < m) (map number xs)) same h.0) in
    rw e (omega arith))
    (λ other. let e : x.number == t ≡ false = ne_eqb _ _ other in rw e (omega (arith, length-without t xs h.1)))

-- what is not started among the others, and is another, is not started
pub is_started-without : (t u : ℕ) (xs : List Started) → t ≢ u → is_started (without t xs) u ≡ is_started xs u
is_started-without t u [] ne = refl
is_started-without t u (x ∷ xs) ne =
    either (cases_eq x.number t)
    (λ same.
    let e : x.number == t ≡ true = eq-eqb _ _ same in
    let other : x.number == u ≡ false = ne_eqb _ _ (λ q. ne (sym same ∙ q)) in
    rw (e, other) (is_started-without t u xs ne))
    (λ apart. let e : x.number == t ≡ false = ne_eqb _ _ apart in rw e (ap (λ b. x.number == u || b) (is_started-without t u xs ne)))

-- One by its number.

pub found-number : (xs : List Started) (t : ℕ) (r : Started) → find_started xs t ≡ Some r → r.number ≡ t
found-number [] t r h = cc
found-number (x ∷ xs) t r h =
    either (cases_Bool (x.number == t))
    (λ e. let found : Some x ≡ Some r = rw e at h in let same : x ≡ r = cc in rw same at (eqb-true x.number t e))
    (λ e. found-number xs t r (rw e at h))

-- none but r has its number
pub found-alone : (xs : List Started) (t : ℕ) (r : Started) → IsRising (map number xs) → find_started xs t ≡ Some r → AllByRecursion (λ x. x.number ≡ r.number → x ≡ r) xs
found-alone [] t r h found = tt
found-alone (x ∷ xs) t r h found =
    either (cases_Bool (x.number == t))
    (λ e.
    let hit : Some x ≡ Some r = rw e at found in
    let same : x ≡ r = cc in
    (λ q. same, above xs (subst (λ n. AllByRecursion (λ m. n < m) (map number xs)) (ap number same) h.0)))
    (λ e.
    let rest : find_started xs t ≡ Some r = rw e at found in
    let is : r.number ≡ t = found-number xs t r rest in
    (λ q. absurd (true≢false (sym (eq-eqb _ _ (q ∙ is)) ∙ e)), found-alone xs t r h.1 rest))
  where
    above : (ys : List Started) → AllByRecursion (λ m. r.number < m) (map number ys) → AllByRecursion (λ x. x.number ≡ r.number → x ≡ r) ys
    above [] all = tt
    above (y ∷ ys) all = (λ q. let lt : r.number < y.number = all.0 in absurd (omega arith), above ys all.1)

-- The first by an order.

earlier_of-keeps : {X : Type 0} (P : X → Type 0) (before : X → X → Bool) (x : X) (o : Option X) → P x → ((y : X) → o ≡ Some y → P y) → P (earlier_of before x o)
earlier_of-keeps P before x None h rest = h
earlier_of-keeps P before x (Some y) h rest = cond_both (before y x) y x P (λ e. rest y refl) (λ e. h)

pub all-first : {X : Type 0} (P : X → Type 0) (before : X → X → Bool) (xs : List X) (x : X) → first_by before xs ≡ Some x → AllByRecursion P xs → P x
all-first P before [] x h all = cc
all-first P before (y ∷ ys) x h all =
    let is : earlier_of before y (first_by before ys) ≡ x = cc in
    rw is at (earlier_of-keeps P before y (first_by before ys) all.0 (λ z e. all-first P before ys z e all.1))

pub none-first : {X : Type 0} (before : X → X → Bool) (xs : List X) → first_by before xs ≡ None → xs ≡ []
none-first before [] h = refl
none-first before (x ∷ xs) h = cc

pub filter-none : {X : Type 0} (test : X → Bool) (xs : List X) → filter test xs ≡ [] → AllByRecursion (λ x. test x ≡ false) xs
filter-none test [] h = tt
filter-none test (x ∷ xs) h =
    either (cases_Bool (test x))
    (λ e. let full : x ∷ filter test xs ≡ [] = rw e at h in cc)
    (λ e. (e, filter-none test xs (rw e at h)))

pub all-any : (P : ℕ → Type 0) (ns : List ℕ) (t : ℕ) → AllByRecursion P ns → list_any (λ n. n == t) ns ≡ true → P t
all-any P [] t all h = cc
all-any P (n ∷ ns) t all h =
    either (or_cases _ _ h)
    (λ here. let same : n ≡ t = eqb-true n t here in rw same at all.0)
    (λ later. all-any P ns t all.1 later)
