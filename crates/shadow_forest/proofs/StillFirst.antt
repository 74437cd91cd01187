-- The pick stays after a step of an optimistic shadow that leaves what the others want and is not its last.
use Rattle.std.proofs.Common.{◌≡◌, ◌≢◌, ◌⊎◌, inl, inr, ℕ, suc, ◌<◌, ◌==◌, Bool, true, false, not, ltb, is_ok, List, [], ◌∷◌, length, map, flat_map, filter, Option, Some, None, option_map, refl, ap, sym, ◌∙◌, subst, arith, eqb-true, eq-eqb, ltb-true, true≢false}
use Rattle.std.specs.Prelude.{slice_get}
use Rattle.std.specs.Cmp.{IsStrictWeakOrder}
use Rattle.std.specs.List.{AllByRecursion, AllZip}
use Rattle.std.proofs.lemmas.Bool.{cases_Bool}
use Rattle.std.proofs.lemmas.Option.{slice_get-map}
use Rattle.std.proofs.lemmas.Bool.Decides.{nat_tests}
use Rattle.block_rule.specs.Standing.{unless_ended, up_to_point}
use Rattle.block_rule.specs.declared.standing.Standing.{Standing}
use Rattle.block_rule.specs.declared.role.Role.{Role}
use Rattle.block_rule.specs.declared.role.Role.TheVariants.{Optimistic, Guard}
use Rattle.block_rule.specs.declared.role.Row.{Row}
use Rattle.journal_core.specs.Journal.{is_live, deadline_of}
use Rattle.forest_model.specs.Point.{Conflict}
use Rattle.forest_model.specs.Choose.{first_by, earlier_of}
use Rattle.forest_model.specs.Forest.{Shadow, Started, Forest, length_of, is_ended, wanted, find_started}
use Rattle.forest_model.specs.Settle.{settled_shadows, resettled, settle}
use Rattle.forest_model.specs.Pick.{is_ready, is_earlier, guard_rows, rows_of, pick}
use Rattle.forest_model.specs.Sound.{StandsFor, IsSound}
use Rattle.forest_model.specs.Events.{moved_to, move_to, step}
use Rattle.forest_model.specs.Drain.{after_step, step_row, first_ended}
use Rattle.forest_model.specs.Stays.{IsStillPicked}
use Rattle.forest_model.proofs.Lists.{either, all-append_left, all-append_right, all-weaken, all-both, all-map, all-filter, map-map, find-passes, all-found}
use Rattle.forest_model.proofs.StartedLaws.{found-alone, all-first, none-first}
use Rattle.forest_model.proofs.SettleLaws.{wanted-mapped}
use Rattle.forest_model.proofs.RestLaws.{settle-untouched}
use Rattle.forest_model.proofs.StepLaws.{moved_to-number, move_to-sound}
use Rattle.forest_model.proofs.AfterLaws.{find-mapped}
use Rattle.forest_model.proofs.PickLaws.{IsOf, guard_rows-of, found-self, all-flat_map}
use Rattle.forest_model.proofs.StayLaws.{ended-same, pick-home}
use Rattle.shadow_forest.specs.Staying.{LeavesOthers, IsPlaced}
use Rattle.shadow_forest.proofs.Placing.{slice_below}

-- None is before the first of a list.

module _ {X : Type 0} (before : X → X → Bool) (order : IsStrictWeakOrder before) where
  itself : (x : X) → before x x ≡ false
  itself x = either (cases_Bool (before x x)) (λ e. absurd (true≢false (sym e ∙ order.one_way x x e))) (λ e. e)

  first-least : (xs : List X) (z : X) → first_by before xs ≡ Some z → AllByRecursion (λ y. before y z ≡ false) xs
  first-least [] z e = tt
  first-least (x ∷ xs) z e = go (first_by before xs) refl (first-least xs)
    where
      go : (o : Option X) → first_by before xs ≡ o → ((w : X) → first_by before xs ≡ Some w → AllByRecursion (λ y. before y w ≡ false) xs) → AllByRecursion (λ y. before y z ≡ false) (x ∷ xs)
      go None none more =
          let is : Some x ≡ Some z = sym (ap (λ o. Some (earlier_of before x o)) none) ∙ e in
          let same : x ≡ z = cc in
          let empty : xs ≡ [] = none-first before xs none in
          subst (λ ys. AllByRecursion (λ y. before y z ≡ false) (x ∷ ys)) (sym empty) (subst (λ y. before x y ≡ false) same (itself x), tt)
      go (Some w) some more =
          let is : Some (earlier_of before x (Some w)) ≡ Some z = sym (ap (λ o. Some (earlier_of before x o)) some) ∙ e in
          let rest : AllByRecursion (λ y. before y w ≡ false) xs = more w some in
          either (cases_Bool (before w x))
          (λ wx.
          let at : Some w ≡ Some z = rw wx at is in
          let same : w ≡ z = cc in
          subst (λ v. AllByRecursion (λ y. before y v ≡ false) (x ∷ xs)) same (order.one_way w x wx, rest))
          (λ wx.
          let at : Some x ≡ Some z = rw wx at is in
          let same : x ≡ z = cc in
          subst (λ v. AllByRecursion (λ y. before y v ≡ false) (x ∷ xs)) same
          (itself x, all-weaken (λ y. before y w ≡ false) (λ y. before y x ≡ false) (λ y yw. order.chain y w x yw wx) xs rest))

earlier_order : IsStrictWeakOrder is_earlier
earlier_order = record {
  one_way = λ a b h. grind (arith, nat_tests);
  chain = λ a b c g h. grind (arith, nat_tests);
}

abbrev guard_row : ℕ → ℕ → ℕ → Role → Standing → Bool → Row
guard_row t deadline place role standing out = record { txn = t; deadline = deadline; role = role; place = place; standing = standing; out = out }

-- an optimistic shadow is before those of its transaction that wait
before-guard : (t deadline place u : ℕ) (a b : Standing) (out out' : Bool) → is_earlier (guard_row t deadline 0 Optimistic a out) (guard_row t deadline place (Guard u) b out') ≡ true
before-guard t deadline place u a b out out' = grind (arith, nat_tests)

-- a row of another transaction that is not before the pick is behind it
behind : (y h : Row) → is_earlier y h ≡ false → y.txn ≢ h.txn → is_earlier h y ≡ true
behind y h e ne = grind (arith, nat_tests)

-- What all that passed has, each has where it passes.

filter-all : {X : Type 0} (P : X → Type 0) (test : X → Bool) (xs : List X) → AllByRecursion P (filter test xs) → AllByRecursion (λ x. test x ≡ true → P x) xs
filter-all P test [] h = tt
filter-all P test (x ∷ xs) h =
    either (cases_Bool (test x))
    (λ e. let here : AllByRecursion P (x ∷ filter test xs) = rw e at h in ((λ passes. here.0), filter-all P test xs here.1))
    (λ e. let here : AllByRecursion P (filter test xs) = rw e at h in ((λ passes. absurd (true≢false (sym passes ∙ e))), filter-all P test xs here))

all-passed : {X : Type 0} (P : X → Type 0) (test : X → Bool) (xs : List X) → AllByRecursion (λ x. test x ≡ true → P x) xs → AllByRecursion P (filter test xs)
all-passed P test [] h = tt
all-passed P test (x ∷ xs) h =
    either (cases_Bool (test x))
    (λ e. rw e (h.0 e, all-passed P test xs h.1))
    (λ e. rw e (all-passed P test xs h.1))

flat-all : {X Y : Type 0} (P : Y → Type 0) (g : X → List Y) (xs : List X) → AllByRecursion P (flat_map g xs) → AllByRecursion (λ x. AllByRecursion P (g x)) xs
flat-all P g [] h = tt
flat-all P g (x ∷ xs) h = (all-append_left P (g x) (flat_map g xs) h, flat-all P g xs (all-append_right P (g x) (flat_map g xs) h))

-- The row of an optimistic shadow.

abbrev first_row : Forest → Started → Bool → Bool → Row
first_row f r ended out = record { txn = r.number; deadline = deadline_of f.journal r.number; role = Optimistic; place = 0; standing = unless_ended ended; out = out }

abbrev IsItsRow : Forest → Row → Type 0
IsItsRow f row = (r : Started) → find_started f.started row.txn ≡ Some r → row.role ≡ Optimistic → row ≡ first_row f r (is_ended f r) r.out

its-row : (f : Forest) (row : Row) (r : Started) → IsSound f → pick f ≡ Some row → row.role ≡ Optimistic → find_started f.started row.txn ≡ Some r → row ≡ first_row f r (is_ended f r) r.out
its-row f row r h e role found =
    all-first (IsItsRow f) is_earlier (filter is_ready (flat_map (rows_of f) f.started)) row e
    (all-filter (IsItsRow f) is_ready (flat_map (rows_of f) f.started)
    (all-flat_map (IsItsRow f) (rows_of f) f.started
    (all-weaken (λ x. find_started f.started x.number ≡ Some x) (λ x. AllByRecursion (IsItsRow f) (rows_of f x))
    (λ x self. (
      (λ y there is. let both : Some x ≡ Some y = sym self ∙ there in let same : x ≡ y = cc in rw same refl),
      all-weaken (IsOf x.number) (IsItsRow f) (λ row of y there is. let no : Optimistic ≡ Guard of.1.0 = sym is ∙ of.1.1 in cc)
          (guard_rows x.number (deadline_of f.journal x.number) 1 x.shadows (wanted f x))
          (guard_rows-of x.number (deadline_of f.journal x.number) 1 x.shadows (wanted f x)),
    ))
    f.started (found-self f.started h.right.rising))))
    r found role

-- The step.

-- it is accepted only before the end
pub accepted-going : (f : Forest) (t : ℕ) (r : Started) → find_started f.started t ≡ Some r → is_ok (step f t Optimistic) ≡ true → r.position < length_of f r
accepted-going f t r found ok =
    either (cases_Bool (is_live f.journal t))
    (λ live.
    either (cases_Bool (ltb r.position (length_of f r)))
    (λ lt. ltb-true r.position (length_of f r) lt)
    (λ ge. let no : false ≡ true = rw (live, found, ge) at ok in absurd (true≢false (sym no))))
    (λ gone. let no : false ≡ true = rw gone at ok in absurd (true≢false (sym no)))

-- who stands at a place stands there still after a change that keeps the numbers
pub placed-mapped : (m : Started → Started) → ((x : Started) → (m x).number ≡ x.number) → (xs : List Started) (place t : ℕ) → IsPlaced xs place t → IsPlaced (map m xs) place t
placed-mapped m counts xs place t there = (m there.0, slice_get-map m xs place ∙ ap (option_map m) there.1, find-mapped m counts xs t there.0 there.2)

module _ (f : Forest) (row : Row) (r : Started) (h : IsSound f) (role : row.role ≡ Optimistic) (found : find_started f.started row.txn ≡ Some r) (before : r.position < length_of f r) where
  abbrev mid : Forest
  mid = move_to r.number (suc r.position) f

  abbrev one : Started → Started
  one x = resettled f.started mid (moved_to r.number (suc r.position) x)

  -- the forest after the step
  abbrev next : Forest
  next = record f { started = map one f.started }

  number_is : r.number ≡ row.txn
  number_is = eqb-true _ _ (find-passes (λ (x : Started). x.number == row.txn) f.started r found)

  one-number : (x : Started) → (one x).number ≡ x.number
  one-number x = moved_to-number r.number (suc r.position) x

  going : ltb r.position (length_of f r) ≡ true
  going = grind (arith, before)

  settled-is : settle f.started mid ≡ next
  settled-is = ap (λ xs. record f { started = xs }) (map-map (resettled f.started mid) (moved_to r.number (suc r.position)) f.started)

  stepped-is : step_row f row ≡ next
  stepped-is =
      let live : is_live f.journal row.txn ≡ true = subst (λ n. is_live f.journal n ≡ true) number_is (all-found (λ x. is_live f.journal x.number ≡ true) (λ x. x.number == row.txn) f.started r found h.right.live) in
      ap (λ o. after_step f (step f row.txn o)) role ∙ rw (live, found, going) settled-is

  -- it stands at its place still, one step further
  pub stands-next : (place : ℕ) → slice_get f.started place ≡ Some r
      → (y : Started) × (slice_get (step_row f row).started place ≡ Some y) × (find_started (step_row f row).started row.txn ≡ Some y) × (is_ended (step_row f row) y ≡ not (ltb (suc r.position) (length_of f r)))
  stands-next place there =
      subst (λ g. (y : Started) × (slice_get g.started place ≡ Some y) × (find_started g.started row.txn ≡ Some y) × (is_ended g y ≡ not (ltb (suc r.position) (length_of f r)))) (sym stepped-is)
      (one r, slice_get-map one f.started place ∙ ap (option_map one) there, find-mapped one one-number f.started row.txn r found, rw (eq-eqb r.number r.number refl) refl)

module _ (f : Forest) (row : Row) (r : Started) (h : IsSound f) (e : pick f ≡ Some row) (role : row.role ≡ Optimistic) (found : find_started f.started row.txn ≡ Some r) (leaves : LeavesOthers f r) (before : r.position < length_of f r) (on : suc r.position < length_of f r) where
  abbrev mid' : Forest
  mid' = move_to r.number (suc r.position) f

  abbrev one' : Started → Started
  one' x = resettled f.started mid' (moved_to r.number (suc r.position) x)

  abbrev next' : Forest
  next' = record f { started = map one' f.started }

  settled-next : settle f.started mid' ≡ next'
  settled-next = settled-is f row r h role found before

  number-is : r.number ≡ row.txn
  number-is = number_is f row r h role found before

  one-numbers : (x : Started) → (one' x).number ≡ x.number
  one-numbers x = moved_to-number r.number (suc r.position) x

  goes : ltb r.position (length_of f r) ≡ true
  goes = going f row r h role found before

  still-going : ltb (suc r.position) (length_of f r) ≡ true
  still-going = grind (arith, on)

  next-sound : IsSound next'
  next-sound = subst IsSound settled-next (move_to-sound f r (suc r.position) (omega (arith, on)) h)

  alone : AllByRecursion (λ x. x.number ≡ r.number → x ≡ r) f.started
  alone = found-alone f.started row.txn r h.right.rising found

  -- who has ended

  ended-one : (x : Started) → (x.number ≡ r.number → x ≡ r) → is_ended f (one' x) ≡ is_ended f x
  ended-one x is =
      either (cases_Bool (x.number == r.number))
      (λ same. let at : x ≡ r = is (eqb-true _ _ same) in rw (at, eq-eqb r.number r.number refl, goes, still-going) refl)
      (λ other. rw other refl)

  next-ended : first_ended next' ≡ first_ended f
  next-ended = ended-same f one' one-numbers (all-weaken (λ x. x.number ≡ r.number → x ≡ r) (λ x. is_ended f (one' x) ≡ is_ended f x) ended-one f.started alone)

  -- the rows of the others

  with_same : (x : Started) (ss : List Shadow) → ss ≡ x.shadows → record x { shadows = ss } ≡ x
  with_same x ss e = rw e refl

  other-stays : (x : Started) → find_started f.started x.number ≡ Some x → AllZip StandsFor x.shadows (wanted f x) → x.number == r.number ≡ false → one' x ≡ x
  other-stays x self fits other =
      let apart : x.number ≢ r.number = (λ q. true≢false (sym (eq-eqb _ _ q) ∙ other)) in
      let shadows : settled_shadows (find_started f.started x.number) (wanted mid' x) ≡ x.shadows =
      ap (λ o. settled_shadows o (wanted mid' x)) self ∙ ap (settled_shadows (Some x)) (leaves x self apart) ∙ settle-untouched f x x h.right.rising fits
      in
      rw other (with_same x (settled_shadows (find_started f.started x.number) (wanted mid' x)) shadows)

  other-wants : (x : Started) → find_started f.started x.number ≡ Some x → AllZip StandsFor x.shadows (wanted f x) → x.number == r.number ≡ false → wanted next' x ≡ wanted f x
  other-wants x self fits other =
      let apart : x.number ≢ r.number = (λ q. true≢false (sym (eq-eqb _ _ q) ∙ other)) in
      let moved : moved_to r.number (suc r.position) x ≡ x = rw other refl in
      let resettles : resettled f.started mid' x ≡ x = ap (resettled f.started mid') (sym moved) ∙ other-stays x self fits other in
      ap (wanted next') (sym resettles)
      ∙ ap (λ g. wanted g (resettled f.started mid' x)) (sym settled-next)
      ∙ wanted-mapped mid' (resettled f.started mid') (λ y. refl) (λ y. refl) x
      ∙ leaves x self apart

  other-rows : (x : Started) → find_started f.started x.number ≡ Some x → AllZip StandsFor x.shadows (wanted f x) → x.number == r.number ≡ false → rows_of next' (one' x) ≡ rows_of f x
  other-rows x self fits other =
      ap (rows_of next') (other-stays x self fits other)
      ∙ ap (λ ws. first_row f x (is_ended f x) x.out ∷ guard_rows x.number (deadline_of f.journal x.number) 1 x.shadows ws) (other-wants x self fits other)

  -- and its own

  row-is : row ≡ first_row f r false false
  row-is =
      let home : r.out ≡ false = (pick-home f row r h e found).optimistic role in
      its-row f row r h e role found ∙ rw (home, goes) refl

  own-rows : rows_of next' (one' r) ≡ first_row f r false false ∷ guard_rows r.number (deadline_of f.journal r.number) 1 (one' r).shadows (wanted next' (one' r))
  own-rows = rw (eq-eqb r.number r.number refl, still-going) refl

  -- Each row that is ready is the pick or behind it.

  abbrev IsBehind : Row → Type 0
  IsBehind y = (y ≡ row) ⊎ (is_earlier row y ≡ true)

  guards-behind : (place : ℕ) (ss : List Shadow) (ws : List Conflict) → AllByRecursion IsBehind (guard_rows r.number (deadline_of f.journal r.number) place ss ws)
  guards-behind place [] ws = tt
  guards-behind place (s ∷ ss) [] = tt
  guards-behind place (s ∷ ss) (w ∷ ws) = (
    inr (ap (λ y. is_earlier y (guard_row r.number (deadline_of f.journal r.number) place (Guard s.guard) (up_to_point s.position w.1) s.out)) row-is
        ∙ before-guard r.number (deadline_of f.journal r.number) place s.guard (unless_ended false) (up_to_point s.position w.1) false s.out),
    guards-behind (suc place) ss ws,
  )

  abbrev IfReady : Row → Type 0
  IfReady y = is_ready y ≡ true → IsBehind y

  -- a row of another transaction was not before the pick
  abbrev NotBefore : Row → Type 0
  NotBefore y = is_ready y ≡ true → is_earlier y row ≡ false

  not-before : AllByRecursion (λ x. AllByRecursion NotBefore (rows_of f x)) f.started
  not-before =
      flat-all NotBefore (rows_of f) f.started
      (filter-all (λ y. is_earlier y row ≡ false) is_ready (flat_map (rows_of f) f.started)
      (first-least is_earlier earlier_order (filter is_ready (flat_map (rows_of f) f.started)) row e))

  rows-number : (x : Started) → AllByRecursion (λ (y : Row). y.txn ≡ x.number) (rows_of f x)
  rows-number x = (
    refl,
    all-weaken (IsOf x.number) (λ (y : Row). y.txn ≡ x.number) (λ y of. of.0)
        (guard_rows x.number (deadline_of f.journal x.number) 1 x.shadows (wanted f x))
        (guard_rows-of x.number (deadline_of f.journal x.number) 1 x.shadows (wanted f x)),
  )

  record Facts (x : Started) : Type 0 where
    is : x.number ≡ r.number → x ≡ r
    self : find_started f.started x.number ≡ Some x
    fits : AllZip StandsFor x.shadows (wanted f x)
    not_first : AllByRecursion NotBefore (rows_of f x)

  facts : AllByRecursion Facts f.started
  facts =
      all-both (λ x. (x.number ≡ r.number → x ≡ r) × (find_started f.started x.number ≡ Some x)) (λ x. AllZip StandsFor x.shadows (wanted f x) × AllByRecursion NotBefore (rows_of f x)) Facts
      (λ x a b. record { is = a.0; self = a.1; fits = b.0; not_first = b.1 }) f.started
      (all-both (λ x. x.number ≡ r.number → x ≡ r) (λ x. find_started f.started x.number ≡ Some x) (λ x. (x.number ≡ r.number → x ≡ r) × (find_started f.started x.number ≡ Some x)) (λ x a b. (a, b)) f.started alone (found-self f.started h.right.rising))
      (all-both (λ x. AllZip StandsFor x.shadows (wanted f x)) (λ x. AllByRecursion NotBefore (rows_of f x)) (λ x. AllZip StandsFor x.shadows (wanted f x) × AllByRecursion NotBefore (rows_of f x)) (λ x a b. (a, b)) f.started h.settled not-before)

  rows-behind : (x : Started) → Facts x → AllByRecursion IfReady (rows_of next' (one' x))
  rows-behind x of =
      either (cases_Bool (x.number == r.number))
      (λ same.
      let at : x ≡ r = of.is (eqb-true _ _ same) in
      let own : AllByRecursion IfReady (first_row f r false false ∷ guard_rows r.number (deadline_of f.journal r.number) 1 (one' r).shadows (wanted next' (one' r))) = (
        (λ ready. inl (sym row-is)),
        all-weaken IsBehind IfReady (λ y behind_it ready. behind_it) (guard_rows r.number (deadline_of f.journal r.number) 1 (one' r).shadows (wanted next' (one' r)))
            (guards-behind 1 (one' r).shadows (wanted next' (one' r))),
      )
      in
      subst (λ y. AllByRecursion IfReady (rows_of next' (one' y))) (sym at) (subst (AllByRecursion IfReady) (sym own-rows) own))
      (λ other.
      let apart : x.number ≢ row.txn = (λ q. true≢false (sym (eq-eqb x.number r.number (q ∙ sym number-is)) ∙ other)) in
      subst (AllByRecursion IfReady) (sym (other-rows x of.self of.fits other))
      (all-both (λ (y : Row). y.txn ≡ x.number) NotBefore IfReady
      (λ y number before ready. inr (behind y row (before ready) (λ q. apart (sym number ∙ q)))) (rows_of f x) (rows-number x) of.not_first))

  all-behind : AllByRecursion IsBehind (filter is_ready (flat_map (rows_of next') next'.started))
  all-behind =
      all-passed IsBehind is_ready (flat_map (rows_of next') next'.started)
      (all-flat_map IfReady (rows_of next') next'.started
      (all-map (λ y. AllByRecursion IfReady (rows_of next' y)) one' f.started
      (all-weaken Facts (λ x. AllByRecursion IfReady (rows_of next' (one' x))) rows-behind f.started facts)))

  -- and the pick is ready

  has-row : (P : Row → Type 0) → AllByRecursion P (filter is_ready (flat_map (rows_of next') next'.started)) → P row
  has-row P all =
      let each : AllByRecursion (λ x. AllByRecursion (λ y. is_ready y ≡ true → P y) (rows_of next' x)) next'.started =
      flat-all (λ y. is_ready y ≡ true → P y) (rows_of next') next'.started (filter-all P is_ready (flat_map (rows_of next') next'.started) all)
      in
      let there : find_started next'.started row.txn ≡ Some (one' r) = find-mapped one' one-numbers f.started row.txn r found in
      let its : AllByRecursion (λ y. is_ready y ≡ true → P y) (rows_of next' (one' r)) =
      all-found (λ x. AllByRecursion (λ y. is_ready y ≡ true → P y) (rows_of next' x)) (λ x. x.number == row.txn) next'.started (one' r) there each
      in
      let own : AllByRecursion (λ y. is_ready y ≡ true → P y) (first_row f r false false ∷ guard_rows r.number (deadline_of f.journal r.number) 1 (one' r).shadows (wanted next' (one' r))) =
      subst (AllByRecursion (λ y. is_ready y ≡ true → P y)) own-rows its
      in
      subst P (sym row-is) (own.0 refl)

  next-pick : pick next' ≡ Some row
  next-pick = go (pick next') refl
    where
      go : (o : Option Row) → pick next' ≡ o → o ≡ Some row
      go None none =
          let empty : filter is_ready (flat_map (rows_of next') next'.started) ≡ [] = none-first is_earlier _ none in
          absurd (has-row (λ y. ⊥) (subst (AllByRecursion (λ y. ⊥)) (sym empty) tt))
      go (Some z) some =
          let least : is_earlier row z ≡ false = has-row (λ y. is_earlier y z ≡ false) (first-least is_earlier earlier_order (filter is_ready (flat_map (rows_of next') next'.started)) z some) in
          either (all-first IsBehind is_earlier (filter is_ready (flat_map (rows_of next') next'.started)) z some all-behind)
          (λ same. ap Some same)
          (λ after. absurd (true≢false (sym after ∙ least)))

  pub still-first : IsStillPicked f (step_row f row) row
  still-first = subst (λ g. IsStillPicked f g row) (sym (stepped-is f row r h role found before)) (record { sound = next-sound; picked = next-pick; nobody = next-ended })

-- The same, as the calls tell it.

twice : (b : Bool) → not (not b) ≡ true → b ≡ true
twice true e = refl
twice false e = cc

pub found-live : (f : Forest) (t : ℕ) (r : Started) → IsSound f → find_started f.started t ≡ Some r → is_live f.journal t ≡ true
found-live f t r h found =
    subst (λ n. is_live f.journal n ≡ true) (eqb-true _ _ (find-passes (λ (x : Started). x.number == t) f.started r found))
    (all-found (λ x. is_live f.journal x.number ≡ true) (λ x. x.number == t) f.started r found h.right.live)

-- a step of an optimistic shadow that was the pick after the steps before
pub record IsStep (old f h : Forest) (row : Row) (place : ℕ) (r : Started) : Type 0 where
  pub still : IsStillPicked old f row
  pub ok : is_ok (step f row.txn row.role) ≡ true
  pub role : row.role ≡ Optimistic
  pub there : slice_get f.started place ≡ Some r
  pub found : find_started f.started row.txn ≡ Some r
  pub next : h ≡ step_row f row

module _ (old f h : Forest) (row : Row) (place : ℕ) (r : Started) (s : IsStep old f h row place r) where
  before-end : r.position < length_of f r
  before-end = accepted-going f row.txn r s.found (subst (λ o. is_ok (step f row.txn o) ≡ true) s.role s.ok)

  stands : (y : Started) × (slice_get h.started place ≡ Some y) × (find_started h.started row.txn ≡ Some y) × (is_ended h y ≡ not (ltb (suc r.position) (length_of f r)))
  stands =
      subst (λ g. (y : Started) × (slice_get g.started place ≡ Some y) × (find_started g.started row.txn ≡ Some y) × (is_ended g y ≡ not (ltb (suc r.position) (length_of f r)))) (sym s.next)
      (stands-next f row r s.still.sound s.role s.found before-end place s.there)

  pub stays-below : place < length h.started
  stays-below = slice_below h.started place stands.0 stands.1

  pub stays-on : (b : Bool) → LeavesOthers f r → b ≡ true → ((y : Started) → slice_get h.started place ≡ Some y → b ≡ not (is_ended h y)) → IsStillPicked old h row × IsPlaced h.started place row.txn
  stays-on b leaves is_true told =
      let more : ltb (suc r.position) (length_of f r) ≡ true = twice (ltb (suc r.position) (length_of f r)) (ap not (sym stands.3) ∙ sym (told stands.0 stands.1) ∙ is_true) in
      let first : IsStillPicked f (step_row f row) row = still-first f row r s.still.sound s.still.picked s.role s.found leaves before-end (ltb-true (suc r.position) (length_of f r) more) in (
        subst (λ g. IsStillPicked old g row) (sym s.next) (record { sound = first.sound; picked = first.picked; nobody = first.nobody ∙ s.still.nobody }),
        (stands.0, stands.1, stands.2),
      )
