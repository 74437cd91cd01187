-- The pick stays: a step that leaves each row as it was leaves the pick.
use Rattle.std.proofs.Common.{◌≡◌, ℕ, zero, suc, ◌+◌, ◌<◌, ◌≤◌, ◌==◌, if◌then◌else◌, Bool, true, false, not, ltb, is_ok, List, [], ◌∷◌, map, flat_map, filter, Option, Some, None, Result, Ok, Err, refl, ap, sym, ◌∙◌, subst, arith, eqb-true, eq-eqb, ltb-true, true≢false}
use Rattle.std.specs.List.{AllByRecursion, AllZip}
use Rattle.std.proofs.lemmas.Bool.{cond_both, cases_Bool, ne_eqb, and_parts}
use Rattle.txn_runs.specs.Run.{after}
use Rattle.block_rule.specs.Standing.{unless_ended, up_to_point}
use Rattle.block_rule.specs.declared.role.Role.TheVariants.{Optimistic, Guard}
use Rattle.block_rule.specs.declared.role.Row.{Row}
use Rattle.journal_core.specs.Journal.{is_live, deadline_of}
use Rattle.forest_model.specs.Runs.{is_local, reads, writes}
use Rattle.forest_model.specs.Point.{Conflict, point, wanted_of}
use Rattle.forest_model.specs.Forest.{Shadow, Started, Forest, program, reads_of, writes_of, length_of, is_ended, conflict_at, against, wanted, find_started}
use Rattle.forest_model.specs.Settle.{settled_shadows, resettled, settle}
use Rattle.forest_model.specs.Pick.{is_ready, is_earlier, guard_rows, rows_of, pick_of, pick}
use Rattle.forest_model.specs.Sound.{StandsFor, IsSound}
use Rattle.forest_model.specs.Events.{Refusal, moved_to, move_to, put_first, step_guard, given_shadows, give_shadows, with_shadows, step}
use Rattle.forest_model.specs.Start.{is_prior}
use Rattle.forest_model.specs.Choose.{first_by}
use Rattle.forest_model.specs.Drain.{after_step, step_row, counted, run_from, run_idle, first_ended, until_commit}
use Rattle.forest_model.specs.Stays.{out_on, stays_on, AreLocal, Leads, RunsOn, IsStillPicked}
use Rattle.forest_model.proofs.Lists.{either, all-weaken, all-both, all-filter, filter-passes, all-everywhere, map-map, map-agree, filter_map-map, filter_map-agree, find-passes, all-found}
use Rattle.forest_model.proofs.StartedLaws.{found-alone, all-first}
use Rattle.forest_model.proofs.RunLaws.{local-reads, local-writes, local-going}
use Rattle.forest_model.proofs.SettleLaws.{wanted-mapped}
use Rattle.forest_model.proofs.RestLaws.{IsApart, wanted-apart, settle-untouched}
use Rattle.forest_model.proofs.StepLaws.{moved_to-number, move_to-sound}
use Rattle.forest_model.proofs.AfterLaws.{find-mapped}
use Rattle.forest_model.proofs.IdleLaws.{run_idle-unrolled}
use Rattle.forest_model.proofs.UntilLaws.{until-step}
use Rattle.forest_model.proofs.PickLaws.{IsNot, guards-not, IsOf, guard_rows-of, found-self, all-flat_map, pick-accepted}

-- Rows.

abbrev row_list : ℕ → ℕ → Bool → Bool → List Shadow → List Conflict → List Row
row_list number deadline ended out ss ws = record { txn = number; deadline = deadline; role = Optimistic; place = 0; standing = unless_ended ended; out = out } ∷ guard_rows number deadline 1 ss ws

same_list : (n n' d d' : ℕ) (e e' o o' : Bool) (s s' : List Shadow) (w w' : List Conflict) → n ≡ n' → d ≡ d' → e ≡ e' → o ≡ o' → s ≡ s' → w ≡ w' → row_list n d e o s w ≡ row_list n' d' e' o' s' w'
same_list n n' d d' e e' o o' s s' w w' hn hd he ho hs hw = rw (hn, hd, he, ho, hs, hw) refl

-- the rows of a transaction are the same where these are
rows-same : (f : Forest) (started : List Started) (x y : Started) → y.number ≡ x.number → is_ended f y ≡ is_ended f x → y.out ≡ x.out → y.shadows ≡ x.shadows → wanted (record f { started = started }) y ≡ wanted f x
    → rows_of (record f { started = started }) y ≡ rows_of f x
rows-same f started x y hn he ho hs hw = same_list y.number x.number (deadline_of f.journal y.number) (deadline_of f.journal x.number) (is_ended f y) (is_ended f x) y.out x.out y.shadows x.shadows (wanted (record f { started = started }) y) (wanted f x) hn (ap (deadline_of f.journal) hn) he ho hs hw

flat-same : {X Y : Type 0} (g h : X → List Y) (m : X → X) (xs : List X) → AllByRecursion (λ x. g (m x) ≡ h x) xs → flat_map g (map m xs) ≡ flat_map h xs
flat-same g h m [] all = refl
flat-same g h m (x ∷ xs) all = rw (all.0, flat-same g h m xs all.1) refl

-- Nobody ends where each has ended only if it had.

keys-same : (p q : Started → Bool) (m : Started → Started) (xs : List Started) → ((x : Started) → (m x).number ≡ x.number) → AllByRecursion (λ x. p (m x) ≡ q x) xs
    → map (λ r. r.number) (filter p (map m xs)) ≡ map (λ r. r.number) (filter q xs)
keys-same p q m [] counts all = refl
keys-same p q m (x ∷ xs) counts all =
    either (cases_Bool (q x))
    (λ e. rw (all.0, e, counts x, keys-same p q m xs counts all.1) refl)
    (λ e. rw (all.0, e, keys-same p q m xs counts all.1) refl)

pub ended-same : (f : Forest) (m : Started → Started) → ((x : Started) → (m x).number ≡ x.number) → AllByRecursion (λ x. is_ended f (m x) ≡ is_ended f x) f.started
    → first_ended (record f { started = map m f.started }) ≡ first_ended f
ended-same f m counts all = ap (first_by (is_prior f.journal)) (keys-same (is_ended f) (is_ended f) m f.started counts all)

-- What is wanted stays where what was read and written does.

abbrev SameRun : Forest → (Started → Started) → Started → Type 0
SameRun f m x = (reads_of f (m x) ≡ reads_of f x) × (writes_of f (m x) ≡ writes_of f x)

wanted-stays : (f : Forest) (m : Started → Started) → ((x : Started) → (m x).number ≡ x.number) → AllByRecursion (SameRun f m) f.started → (x : Started) → reads_of f (m x) ≡ reads_of f x
    → wanted (record f { started = map m f.started }) (m x) ≡ wanted f x
wanted-stays f m counts all x rs =
    ap (λ pairs. wanted_of pairs f.k)
    (filter_map-map (against (record f { started = map m f.started }) (m x)) m f.started
    ∙ filter_map-agree (λ u. against (record f { started = map m f.started }) (m x) (m u)) (against f x) f.started
    (all-weaken (SameRun f m) (λ u. against (record f { started = map m f.started }) (m x) (m u) ≡ against f x u) (λ u same. pair u same.1) f.started all))
  where
    by : (n n' a a' : ℕ) (p p' : Option ℕ) → n ≡ n' → a ≡ a' → p ≡ p' → (if n == a then (let none : Option Conflict = None in none) else conflict_at n p) ≡ (if n' == a' then (let none : Option Conflict = None in none) else conflict_at n' p')
    by n n' a a' p p' hn ha hp = rw (hn, ha, hp) refl

    pair : (u : Started) → writes_of f (m u) ≡ writes_of f u → against (record f { started = map m f.started }) (m x) (m u) ≡ against f x u
    pair u ws = by (m u).number u.number (m x).number x.number (point (reads_of f (m x)) (writes_of f (m u))) (point (reads_of f x) (writes_of f u)) (counts u) (counts x) (rw (rs, ws) refl)

-- An optimistic shadow goes on to a place where it has read and written the same.

pub record IsQuiet (f : Forest) (t : ℕ) (r : Started) (q : ℕ) : Type 0 where
  pub sound : IsSound f
  pub found : find_started f.started t ≡ Some r
  pub reads_same : reads (program f r) f.tables q ≡ reads_of f r
  pub writes_same : writes (program f r) f.tables q ≡ writes_of f r
  pub within : q ≤ length_of f r

module _ (f : Forest) (t : ℕ) (r : Started) (q : ℕ) (h : IsQuiet f t r q) where
  abbrev mover : Started → Started
  mover = moved_to r.number q

  pub named : r.number ≡ t
  named = eqb-true _ _ (find-passes (λ (x : Started). x.number == t) f.started r h.found)

  alone : AllByRecursion (λ x. x.number ≡ r.number → x ≡ r) f.started
  alone = found-alone f.started t r h.sound.right.rising h.found

  same-run : (x : Started) → (x.number ≡ r.number → x ≡ r) → SameRun f mover x
  same-run x is =
      cond_both (x.number == r.number) (record x { position = q; out = false }) x (λ y. (reads_of f y ≡ reads_of f x) × (writes_of f y ≡ writes_of f x))
      (λ e. let same : x ≡ r = is (eqb-true _ _ e) in rw same (h.reads_same, h.writes_same))
      (λ e. (refl, refl))

  runs : AllByRecursion (SameRun f mover) f.started
  runs = all-weaken (λ x. x.number ≡ r.number → x ≡ r) (SameRun f mover) same-run f.started alone

  wants : (x : Started) → (x.number ≡ r.number → x ≡ r) → wanted (move_to r.number q f) (mover x) ≡ wanted f x
  wants x is = wanted-stays f mover (moved_to-number r.number q) runs x (same-run x is).0

  -- each wants what it wanted
  pub quiet-wants : AllByRecursion (λ x. wanted (move_to r.number q f) (mover x) ≡ wanted f x) f.started
  quiet-wants = all-weaken (λ x. x.number ≡ r.number → x ≡ r) (λ x. wanted (move_to r.number q f) (mover x) ≡ wanted f x) wants f.started alone

  shadows-stay : (x : Started) → (mover x).shadows ≡ x.shadows
  shadows-stay x = cond_both (x.number == r.number) (record x { position = q; out = false }) x (λ y. y.shadows ≡ x.shadows) (λ e. refl) (λ e. refl)

  with_same : (y : Started) (ss : List Shadow) → ss ≡ y.shadows → record y { shadows = ss } ≡ y
  with_same y ss e = rw e refl

  settled : (x : Started) → (x.number ≡ r.number → x ≡ r) → find_started f.started x.number ≡ Some x → AllZip StandsFor x.shadows (wanted f x)
      → resettled f.started (move_to r.number q f) (mover x) ≡ mover x
  settled x is self fits =
      with_same (mover x) (settled_shadows (find_started f.started (mover x).number) (wanted (move_to r.number q f) (mover x)))
      (ap (λ n. settled_shadows (find_started f.started n) (wanted (move_to r.number q f) (mover x))) (moved_to-number r.number q x)
      ∙ rw (self, wants x is) (settle-untouched f x x h.sound.right.rising fits)
      ∙ sym (shadows-stay x))

  -- settling leaves all
  pub quiet-settled : settle f.started (move_to r.number q f) ≡ move_to r.number q f
  quiet-settled =
      ap (λ xs. record f { started = xs })
      (map-map (resettled f.started (move_to r.number q f)) mover f.started
      ∙ map-agree (λ x. resettled f.started (move_to r.number q f) (mover x)) mover f.started
      (all-both (λ x. (x.number ≡ r.number → x ≡ r) × (find_started f.started x.number ≡ Some x)) (λ x. AllZip StandsFor x.shadows (wanted f x)) (λ x. resettled f.started (move_to r.number q f) (mover x) ≡ mover x)
      (λ x is fits. settled x is.0 is.1 fits) f.started
      (all-both (λ x. x.number ≡ r.number → x ≡ r) (λ x. find_started f.started x.number ≡ Some x) (λ x. (x.number ≡ r.number → x ≡ r) × (find_started f.started x.number ≡ Some x)) (λ x a b. (a, b)) f.started alone (found-self f.started h.sound.right.rising))
      h.sound.settled))

  pub quiet-sound : IsSound (move_to r.number q f)
  quiet-sound = subst IsSound quiet-settled (move_to-sound f r q h.within h.sound)

  pub quiet-live : is_live f.journal t ≡ true
  quiet-live = subst (λ n. is_live f.journal n ≡ true) named (all-found (λ x. is_live f.journal x.number ≡ true) (λ x. x.number == t) f.started r h.found h.sound.right.live)

  ended-stays : r.position < length_of f r → q < length_of f r → (x : Started) → (x.number ≡ r.number → x ≡ r) → is_ended f (mover x) ≡ is_ended f x
  ended-stays before on x is =
      cond_both (x.number == r.number) (record x { position = q; out = false }) x (λ y. is_ended f y ≡ is_ended f x)
      (λ e.
      let same : x ≡ r = is (eqb-true _ _ e) in
      let lt : ltb q (length_of f r) ≡ true = grind (arith, on) in
      let lt' : ltb r.position (length_of f r) ≡ true = grind (arith, before) in
      rw (same, lt, lt') refl)
      (λ e. refl)

  -- where it has not ended at either place, nobody else has
  pub quiet-ended : r.position < length_of f r → q < length_of f r → first_ended (move_to r.number q f) ≡ first_ended f
  quiet-ended before on =
      ended-same f mover (moved_to-number r.number q)
      (all-weaken (λ x. x.number ≡ r.number → x ≡ r) (λ x. is_ended f (mover x) ≡ is_ended f x) (ended-stays before on) f.started alone)

  -- where it was not out, and has not ended at either place, no row changes
  module _ (home : r.out ≡ false) (before : r.position < length_of f r) (on : q < length_of f r) where
    row-stays : (x : Started) → (x.number ≡ r.number → x ≡ r) → rows_of (move_to r.number q f) (mover x) ≡ rows_of f x
    row-stays x is =
        rows-same f (map mover f.started) x (mover x) (moved_to-number r.number q x)
        (ended-stays before on x is)
        (cond_both (x.number == r.number) (record x { position = q; out = false }) x (λ y. y.out ≡ x.out)
        (λ e. let same : x ≡ r = is (eqb-true _ _ e) in rw same (sym home))
        (λ e. refl))
        (shadows-stay x) (wants x is)

    pub quiet-rows : flat_map (rows_of (move_to r.number q f)) (move_to r.number q f).started ≡ flat_map (rows_of f) f.started
    quiet-rows = flat-same (rows_of (move_to r.number q f)) (rows_of f) mover f.started (all-weaken (λ x. x.number ≡ r.number → x ≡ r) (λ x. rows_of (move_to r.number q f) (mover x) ≡ rows_of f x) row-stays f.started alone)

    pub quiet-pick : pick (move_to r.number q f) ≡ pick f
    quiet-pick = ap pick_of quiet-rows

-- a local step is quiet
pub local-quiet : (f : Forest) (t : ℕ) (r : Started) → IsSound f → find_started f.started t ≡ Some r → is_local (after (program f r) f.tables r.position) ≡ true → IsQuiet f t r (suc r.position)
local-quiet f t r h found local = record {
  sound = h;
  found = found;
  reads_same = local-reads (program f r) f.tables r.position local;
  writes_same = local-writes (program f r) f.tables r.position local;
  within = let lt = local-going (program f r) f.tables r.position local in omega (arith, lt);
}

-- and moves that one shadow alone
pub local-step : (f : Forest) (t : ℕ) (r : Started) → IsSound f → find_started f.started t ≡ Some r → is_local (after (program f r) f.tables r.position) ≡ true
    → step f t Optimistic ≡ Ok (suc r.position, move_to r.number (suc r.position) f)
local-step f t r h found local =
    let quiet = local-quiet f t r h found local in
    let lt : ltb r.position (length_of f r) ≡ true = grind (arith, local-going (program f r) f.tables r.position local) in
    rw (quiet-live f t r (suc r.position) quiet, found, lt) (ap (λ g. Ok (suc r.position, g)) (quiet-settled f t r (suc r.position) quiet))

-- What was picked is not out.

guard_rows-out : (t deadline place : ℕ) (ss : List Shadow) (ws : List Conflict) → AllZip StandsFor ss ws → IsApart ws
    → AllByRecursion (λ (row : Row). (u : ℕ) → row.role ≡ Guard u → out_on u ss ws ≡ row.out) (guard_rows t deadline place ss ws)
guard_rows-out t deadline place [] ws fits apart = tt
guard_rows-out t deadline place (s ∷ ss) [] fits apart = tt
guard_rows-out t deadline place (s ∷ ss) (w ∷ ws) fits apart = (
  (λ u e. let same : s.guard ≡ u = cc in rw (eq-eqb s.guard u same) refl),
  all-both (λ (row : Row). IsNot s.guard row.role) (λ (row : Row). (u : ℕ) → row.role ≡ Guard u → out_on u ss ws ≡ row.out) (λ (row : Row). (u : ℕ) → row.role ≡ Guard u → out_on u (s ∷ ss) (w ∷ ws) ≡ row.out)
      (λ row ne old u e. let apart_from : s.guard ≡ u → ⊥ = subst (IsNot s.guard) e ne in rw (ne_eqb s.guard u apart_from) (old u e)) (guard_rows t deadline (suc place) ss ws)
      (guards-not s.guard t deadline (suc place) ss ws fits.1 (subst (λ u. AllByRecursion (λ x. u ≡ x.0 → ⊥) ws) (sym fits.0.0) apart.0))
      (guard_rows-out t deadline (suc place) ss ws fits.1 apart.1),
)

-- the marks that a row shows are those of its shadow
pub record ShowsOut (f : Forest) (r : Started) (row : Row) (out : Bool) : Type 0 where
  pub optimistic : row.role ≡ Optimistic → r.out ≡ out
  pub guard : (u : ℕ) → row.role ≡ Guard u → out_on u r.shadows (wanted f r) ≡ out

abbrev Shows : Forest → Row → Type 0
Shows f row = (r : Started) → find_started f.started row.txn ≡ Some r → ShowsOut f r row row.out

guard-shows : (f : Forest) (r : Started) (row : Row) (out : Bool) (u : ℕ) → row.role ≡ Guard u → ((v : ℕ) → row.role ≡ Guard v → out_on v r.shadows (wanted f r) ≡ out) → ShowsOut f r row out
guard-shows f r row out u is all = record { optimistic = λ e. let q : Optimistic ≡ Guard u = sym e ∙ is in cc; guard = all }

rows-show : (f : Forest) (x : Started) → find_started f.started x.number ≡ Some x → AllZip StandsFor x.shadows (wanted f x) → IsApart (wanted f x) → AllByRecursion (Shows f) (rows_of f x)
rows-show f x self fits apart = (
  (λ r found. let is : x ≡ r = found_is x.number r refl found in record { optimistic = λ e. ap (λ (y : Started). y.out) (sym is); guard = λ u e. cc }),
  all-both (IsOf x.number) (λ (row : Row). (u : ℕ) → row.role ≡ Guard u → out_on u x.shadows (wanted f x) ≡ row.out) (Shows f)
      (λ row of all r found. let is : x ≡ r = found_is row.txn r of.0 found in subst (λ y. ShowsOut f y row row.out) is (guard-shows f x row row.out of.1.0 of.1.1 all))
      (guard_rows x.number (deadline_of f.journal x.number) 1 x.shadows (wanted f x))
      (guard_rows-of x.number (deadline_of f.journal x.number) 1 x.shadows (wanted f x))
      (guard_rows-out x.number (deadline_of f.journal x.number) 1 x.shadows (wanted f x) fits apart),
)
  where
    found_is : (t : ℕ) (r : Started) → t ≡ x.number → find_started f.started t ≡ Some r → x ≡ r
    found_is t r e found = let both : Some x ≡ Some r = sym self ∙ ap (find_started f.started) (sym e) ∙ found in cc

pub pick-home : (f : Forest) (row : Row) (r : Started) → IsSound f → pick f ≡ Some row → find_started f.started row.txn ≡ Some r → ShowsOut f r row false
pick-home f row r h e found =
    let each : AllByRecursion (λ x. AllByRecursion (Shows f) (rows_of f x)) f.started =
    all-both (λ x. find_started f.started x.number ≡ Some x) (λ x. AllZip StandsFor x.shadows (wanted f x)) (λ x. AllByRecursion (Shows f) (rows_of f x))
    (λ x self fits. rows-show f x self fits (wanted-apart f x h.right.rising)) f.started (found-self f.started h.right.rising) h.settled
    in
    all-first (λ (x : Row). (y : Started) → find_started f.started x.txn ≡ Some y → ShowsOut f y x false) is_earlier (filter is_ready (flat_map (rows_of f) f.started)) row e
    (all-both (λ (x : Row). is_ready x ≡ true) (Shows f) (λ (x : Row). (y : Started) → find_started f.started x.txn ≡ Some y → ShowsOut f y x false)
    (λ x ready shows y there. subst (ShowsOut f y x) (not_out x.out (and_parts _ _ ready).1) (shows y there)) (filter is_ready (flat_map (rows_of f) f.started))
    (filter-passes is_ready (flat_map (rows_of f) f.started))
    (all-filter (Shows f) is_ready (flat_map (rows_of f) f.started) (all-flat_map (Shows f) (rows_of f) f.started each)))
    r found
  where
    not_out : (b : Bool) → not b ≡ true → b ≡ false
    not_out true e = absurd (true≢false (sym e))
    not_out false e = refl

-- The pick stays.

pub optimistic-stays : (f : Forest) (row : Row) (r : Started) → IsSound f → pick f ≡ Some row → row.role ≡ Optimistic → find_started f.started row.txn ≡ Some r
    → is_local (after (program f r) f.tables r.position) ≡ true → suc r.position < length_of f r → pick (step_row f row) ≡ Some row
optimistic-stays f row r h e role found local on =
    let home : r.out ≡ false = (pick-home f row r h e found).optimistic role in
    let next : step_row f row ≡ move_to r.number (suc r.position) f =
    ap (λ o. after_step f (step f row.txn o)) role ∙ ap (after_step f) (local-step f row.txn r h found local)
    in
    ap pick next ∙ (quiet-pick f row.txn r (suc r.position) (local-quiet f row.txn r h found local) home (local-going (program f r) f.tables r.position local) on ∙ e)

-- and nobody has ended by it
pub optimistic-ends-nobody : (f : Forest) (row : Row) (r : Started) → IsSound f → pick f ≡ Some row → row.role ≡ Optimistic → find_started f.started row.txn ≡ Some r
    → is_local (after (program f r) f.tables r.position) ≡ true → suc r.position < length_of f r → first_ended (step_row f row) ≡ first_ended f
optimistic-ends-nobody f row r h e role found local on =
    let next : step_row f row ≡ move_to r.number (suc r.position) f =
    ap (λ o. after_step f (step f row.txn o)) role ∙ ap (after_step f) (local-step f row.txn r h found local)
    in
    ap first_ended next ∙ quiet-ended f row.txn r (suc r.position) (local-quiet f row.txn r h found local) (local-going (program f r) f.tables r.position local) on

-- A guard's step.

put_first-is : (s : Shadow) (o : Result (ℕ × List Shadow) Refusal) (new : ℕ × List Shadow) → put_first s o ≡ Ok new → (more : ℕ × List Shadow) × ((o ≡ Ok more) × (new ≡ (more.0, s ∷ more.1)))
put_first-is s (Ok more) new e = (more, (refl, (let q : (more.0, s ∷ more.1) ≡ new = cc in sym q)))
put_first-is s (Err refusal) new e = cc

stepped-rows : (u t deadline place : ℕ) (ss : List Shadow) (ws : List Conflict) (new : ℕ × List Shadow) → step_guard u ss ws ≡ Ok new → out_on u ss ws ≡ false → stays_on u ss ws ≡ true
    → guard_rows t deadline place new.1 ws ≡ guard_rows t deadline place ss ws
stepped-rows u t deadline place [] ws new e home on = cc
stepped-rows u t deadline place (s ∷ ss) [] new e home on = cc
stepped-rows u t deadline place (s ∷ ss) (w ∷ ws) new e home on =
    either (cases_Bool (s.guard == u))
    (λ c.
    let here : ltb (suc s.position) w.1 ≡ true = rw c at on in
    let before : ltb s.position w.1 ≡ true = grind (arith, here) in
    let out : s.out ≡ false = rw c at home in
    let done : Ok (suc s.position, record s { position = suc s.position; out = false } ∷ ss) ≡ Ok new = rw (c, before) at e in
    let is : (suc s.position, record s { position = suc s.position; out = false } ∷ ss) ≡ new = cc in
    rw (← is) (rw (here, before, out) refl))
    (λ c.
    let more = put_first-is s (step_guard u ss ws) new (rw c at e) in
    rw more.1.1 (ap (λ rows. record { txn = t; deadline = deadline; role = Guard s.guard; place = place; standing = up_to_point s.position w.1; out = s.out } ∷ rows) (stepped-rows u t deadline (suc place) ss ws more.0 more.1.0 (rw c at home) (rw c at on))))

-- a transaction that has other shadows has ended where it had
pub given-ended : (f : Forest) (t : ℕ) (ss : List Shadow) → first_ended (give_shadows t ss f) ≡ first_ended f
given-ended f t ss =
    ended-same f (given_shadows t ss) (λ x. cond_both (x.number == t) (record x { shadows = ss }) x (λ y. y.number ≡ x.number) (λ e. refl) (λ e. refl))
    (all-everywhere (λ x. is_ended f (given_shadows t ss x) ≡ is_ended f x)
    (λ x. cond_both (x.number == t) (record x { shadows = ss }) x (λ y. is_ended f y ≡ is_ended f x) (λ e. refl) (λ e. refl)) f.started)

abbrev head_row : ℕ → ℕ → Bool → Bool → Row
head_row number deadline ended out = record { txn = number; deadline = deadline; role = Optimistic; place = 0; standing = unless_ended ended; out = out }

module _ (f : Forest) (t u : ℕ) (r : Started) (new : ℕ × List Shadow) (h : IsSound f) (found : find_started f.started t ≡ Some r) (rows_are : guard_rows r.number (deadline_of f.journal r.number) 1 new.1 (wanted f r) ≡ guard_rows r.number (deadline_of f.journal r.number) 1 r.shadows (wanted f r)) where
  abbrev giver : Started → Started
  giver = given_shadows r.number new.1

  giver-number : (x : Started) → (giver x).number ≡ x.number
  giver-number x = cond_both (x.number == r.number) (record x { shadows = new.1 }) x (λ y. y.number ≡ x.number) (λ e. refl) (λ e. refl)

  giver-position : (x : Started) → (giver x).position ≡ x.position
  giver-position x = cond_both (x.number == r.number) (record x { shadows = new.1 }) x (λ y. y.position ≡ x.position) (λ e. refl) (λ e. refl)

  given-row : (x : Started) → (x.number ≡ r.number → x ≡ r) → rows_of (give_shadows r.number new.1 f) (giver x) ≡ rows_of f x
  given-row x is =
      let wants : wanted (give_shadows r.number new.1 f) (giver x) ≡ wanted f x = wanted-mapped f giver giver-number giver-position x in
      either (cases_Bool (x.number == r.number))
      (λ e.
      let same : x ≡ r = is (eqb-true _ _ e) in
      let there : giver x ≡ record x { shadows = new.1 } = rw e refl in
      let here : wanted (give_shadows r.number new.1 f) (record x { shadows = new.1 }) ≡ wanted f x = subst (λ y. wanted (give_shadows r.number new.1 f) y ≡ wanted f x) there wants in
      let tail : guard_rows x.number (deadline_of f.journal x.number) 1 new.1 (wanted f x) ≡ guard_rows x.number (deadline_of f.journal x.number) 1 x.shadows (wanted f x) =
      subst (λ y. guard_rows y.number (deadline_of f.journal y.number) 1 new.1 (wanted f y) ≡ guard_rows y.number (deadline_of f.journal y.number) 1 y.shadows (wanted f y)) (sym same) rows_are
      in
      ap (rows_of (give_shadows r.number new.1 f)) there
      ∙ ap (λ rows. head_row x.number (deadline_of f.journal x.number) (is_ended f x) x.out ∷ rows) (ap (guard_rows x.number (deadline_of f.journal x.number) 1 new.1) here ∙ tail))
      (λ e.
      let there : giver x ≡ x = rw e refl in
      let here : wanted (give_shadows r.number new.1 f) x ≡ wanted f x = subst (λ y. wanted (give_shadows r.number new.1 f) y ≡ wanted f x) there wants in
      ap (rows_of (give_shadows r.number new.1 f)) there
      ∙ ap (λ rows. head_row x.number (deadline_of f.journal x.number) (is_ended f x) x.out ∷ rows) (ap (guard_rows x.number (deadline_of f.journal x.number) 1 x.shadows) here))

  pub given-pick : pick (give_shadows r.number new.1 f) ≡ pick f
  given-pick =
      ap pick_of (flat-same (rows_of (give_shadows r.number new.1 f)) (rows_of f) giver f.started
      (all-weaken (λ x. x.number ≡ r.number → x ≡ r) (λ x. rows_of (give_shadows r.number new.1 f) (giver x) ≡ rows_of f x) given-row f.started (found-alone f.started t r h.right.rising found)))

-- a guard's step gives its transaction other shadows
guard-gives : (f : Forest) (row : Row) (u : ℕ) (r : Started) → IsSound f → pick f ≡ Some row → row.role ≡ Guard u → find_started f.started row.txn ≡ Some r
    → (new : ℕ × List Shadow) × (step_guard u r.shadows (wanted f r) ≡ Ok new) × (step_row f row ≡ give_shadows r.number new.1 f)
guard-gives f row u r h e role found = go (step_guard u r.shadows (wanted f r)) refl
  where
    live : is_live f.journal row.txn ≡ true
    live =
        subst (λ n. is_live f.journal n ≡ true) (eqb-true _ _ (find-passes (λ (x : Started). x.number == row.txn) f.started r found))
        (all-found (λ x. is_live f.journal x.number ≡ true) (λ x. x.number == row.txn) f.started r found h.right.live)

    is : step f row.txn row.role ≡ with_shadows f r (step_guard u r.shadows (wanted f r))
    is = ap (step f row.txn) role ∙ rw (live, found) refl

    go : (o : Result (ℕ × List Shadow) Refusal) → step_guard u r.shadows (wanted f r) ≡ o → (new : ℕ × List Shadow) × (step_guard u r.shadows (wanted f r) ≡ Ok new) × (step_row f row ≡ give_shadows r.number new.1 f)
    go (Ok new) q = (new, q, ap (after_step f) is ∙ ap (λ o. after_step f (with_shadows f r o)) q)
    go (Err refusal) q =
        let refused : is_ok (step f row.txn row.role) ≡ false = ap is_ok is ∙ ap (λ o. is_ok (with_shadows f r o)) q in
        absurd (true≢false (sym (pick-accepted f row h e) ∙ refused))

pub guard-stays : (f : Forest) (row : Row) (u : ℕ) (r : Started) → IsSound f → pick f ≡ Some row → row.role ≡ Guard u → find_started f.started row.txn ≡ Some r
    → stays_on u r.shadows (wanted f r) ≡ true → pick (step_row f row) ≡ Some row
guard-stays f row u r h e role found on =
    let given = guard-gives f row u r h e role found in
    let home : out_on u r.shadows (wanted f r) ≡ false = (pick-home f row r h e found).guard u role in
    ap pick given.2
    ∙ (given-pick f row.txn u r given.0 h found (stepped-rows u r.number (deadline_of f.journal r.number) 1 r.shadows (wanted f r) given.0 given.1 home on)
    ∙ e)

-- and nobody has ended by any step of it
pub guard-ends-nobody : (f : Forest) (row : Row) (u : ℕ) (r : Started) → IsSound f → pick f ≡ Some row → row.role ≡ Guard u → find_started f.started row.txn ≡ Some r → first_ended (step_row f row) ≡ first_ended f
guard-ends-nobody f row u r h e role found = let given = guard-gives f row u r h e role found in ap first_ended given.2 ∙ given-ended f r.number given.0.1

-- Many local steps.

pub many-quiet : (n : ℕ) (f : Forest) (t : ℕ) (r : Started) → IsSound f → find_started f.started t ≡ Some r → AreLocal f r n → IsQuiet f t r (r.position + n)
many-quiet zero f t r h found locals =
    let e : r.position ≡ r.position + 0 = omega arith in
    record {
      sound = h;
      found = found;
      reads_same = ap (reads (program f r) f.tables) (sym e);
      writes_same = ap (writes (program f r) f.tables) (sym e);
      within = let le = all-found (λ x. x.position ≤ length_of f x) (λ x. x.number == t) f.started r found h.right.within in omega (arith, le);
    }
many-quiet (suc n) f t r h found locals =
    let e : suc (r.position + n) ≡ r.position + suc n = omega arith in
    let less : IsQuiet f t r (r.position + n) = many-quiet n f t r h found (λ m lt. locals m (omega (arith, lt))) in
    let local = locals n (omega arith) in
    record {
      sound = h;
      found = found;
      reads_same = ap (reads (program f r) f.tables) (sym e) ∙ local-reads (program f r) f.tables (r.position + n) local ∙ less.reads_same;
      writes_same = ap (writes (program f r) f.tables) (sym e) ∙ local-writes (program f r) f.tables (r.position + n) local ∙ less.writes_same;
      within = let lt = local-going (program f r) f.tables (r.position + n) local in omega (arith, lt);
    }

moved-twice : (t a b : ℕ) (x : Started) → moved_to t a (moved_to t b x) ≡ moved_to t a x
moved-twice t a b x = either (cases_Bool (x.number == t)) (λ e. rw (e, e) refl) (λ e. rw (e, e) refl)

move-twice : (t a b : ℕ) (f : Forest) → move_to t a (move_to t b f) ≡ move_to t a f
move-twice t a b f =
    ap (λ xs. record f { started = xs })
    (map-map (moved_to t a) (moved_to t b) f.started
    ∙ map-agree (λ x. moved_to t a (moved_to t b x)) (moved_to t a) f.started (all-everywhere (λ x. moved_to t a (moved_to t b x) ≡ moved_to t a x) (moved-twice t a b) f.started))

pub one-on : (f : Forest) (row : Row) → IsSound f → pick f ≡ Some row → RunsOn f (step_row f row) 1
one-on f row h e =
    let is : run_idle f ≡ counted (run_idle (step_row f row)) = run_idle-unrolled f h ∙ ap (λ o. run_from o f run_idle) e in
    record {
      idles = record { made = let m = ap (λ (x : ℕ × Forest). x.0) is in omega (arith, m); last = ap (λ (x : ℕ × Forest). x.1) is };
      drains = λ none. until-step f row h none e;
    }

-- no steps
pub none-on : (f : Forest) → RunsOn f f 0
none-on f = record { idles = record { made = omega arith; last = refl }; drains = λ none. record { made = omega arith; last = refl } }

leads-more : (run : Forest → ℕ × Forest) (f g h : Forest) (a b n : ℕ) → n ≡ a + b → Leads run f g a → Leads run g h b → Leads run f h n
leads-more run f g h a b n count x y = record { made = omega (arith, count, x.made, y.made); last = x.last ∙ y.last }

-- more steps, where nobody has ended by the first
pub more-on : (f g h : Forest) (a b n : ℕ) → n ≡ a + b → first_ended g ≡ first_ended f → RunsOn f g a → RunsOn g h b → RunsOn f h n
more-on f g h a b n count same x y = record {
  idles = leads-more run_idle f g h a b n count x.idles y.idles;
  drains = λ none. leads-more until_commit f g h a b n count (x.drains none) (y.drains (same ∙ none));
}

local-on : (f : Forest) (row : Row) (r : Started) → IsSound f → pick f ≡ Some row → row.role ≡ Optimistic → find_started f.started row.txn ≡ Some r → is_local (after (program f r) f.tables r.position) ≡ true
    → RunsOn f (move_to r.number (suc r.position) f) 1
local-on f row r h e role found local =
    subst (λ g. RunsOn f g 1) (ap (λ o. after_step f (step f row.txn o)) role ∙ ap (after_step f) (local-step f row.txn r h found local)) (one-on f row h e)

pub many-on : (n : ℕ) (f : Forest) (row : Row) (r : Started) → IsSound f → pick f ≡ Some row → row.role ≡ Optimistic → find_started f.started row.txn ≡ Some r → AreLocal f r (suc n)
    → RunsOn f (move_to r.number (r.position + suc n) f) (suc n)
many-on zero f row r h e role found locals =
    let zero_is : r.position + 0 ≡ r.position = omega arith in
    let one_is : suc r.position ≡ r.position + 1 = omega arith in
    subst (λ q. RunsOn f (move_to r.number q f) 1) one_is (local-on f row r h e role found (subst (λ q. is_local (after (program f r) f.tables q) ≡ true) zero_is (locals 0 (omega arith))))
many-on (suc n) f row r h e role found locals =
    let q : ℕ = r.position + suc n in
    let local : is_local (after (program f r) f.tables q) ≡ true = locals (suc n) (omega arith) in
    let before : RunsOn f (move_to r.number q f) (suc n) = many-on n f row r h e role found (λ m lt. locals m (omega (arith, lt))) in
    let quiet : IsQuiet f row.txn r q = many-quiet (suc n) f row.txn r h found (λ m lt. locals m (omega (arith, lt))) in
    let home : r.out ≡ false = (pick-home f row r h e found).optimistic role in
    let first_local : is_local (after (program f r) f.tables (r.position + 0)) ≡ true = locals 0 (omega arith) in
    let going : r.position < length_of f r = (let lt = local-going (program f r) f.tables (r.position + 0) first_local in omega (arith, lt)) in
    let picked : pick (move_to r.number q f) ≡ Some row = quiet-pick f row.txn r q quiet home going (local-going (program f r) f.tables q local) ∙ e in
    let there : moved_to r.number q r ≡ record r { position = q; out = false } = rw (eq-eqb r.number r.number refl) refl in
    let found' : find_started (move_to r.number q f).started row.txn ≡ Some (record r { position = q; out = false }) =
    find-mapped (moved_to r.number q) (moved_to-number r.number q) f.started row.txn r found ∙ ap Some there
    in
    let one : RunsOn (move_to r.number q f) (move_to r.number (suc q) (move_to r.number q f)) 1 =
    local-on (move_to r.number q f) row (record r { position = q; out = false }) (quiet-sound f row.txn r q quiet) picked role found' local
    in
    let at : suc q ≡ r.position + suc (suc n) = omega arith in
    let step : RunsOn (move_to r.number q f) (move_to r.number (r.position + suc (suc n)) f) 1 =
    subst (λ m. RunsOn (move_to r.number q f) (move_to r.number m f) 1) at (subst (λ g. RunsOn (move_to r.number q f) g 1) (move-twice r.number (suc q) q f) one)
    in
    let nobody : first_ended (move_to r.number q f) ≡ first_ended f = quiet-ended f row.txn r q quiet going (local-going (program f r) f.tables q local) in
    more-on f (move_to r.number q f) (move_to r.number (r.position + suc (suc n)) f) (suc n) 1 (suc (suc n)) (omega arith) nobody before step

-- where a shadow that was picked stands, it is not out
pub stands-still : (f : Forest) (t : ℕ) (r : Started) → IsSound f → find_started f.started t ≡ Some r → r.out ≡ false → move_to r.number r.position f ≡ f
stands-still f t r h found home =
    ap (λ xs. record f { started = xs })
    (all-still f.started
    (all-weaken (λ x. x.number ≡ r.number → x ≡ r) (λ x. moved_to r.number r.position x ≡ x)
    (λ x is.
    cond_both (x.number == r.number) (record x { position = r.position; out = false }) x (λ y. y ≡ x)
    (λ e. let same : x ≡ r = is (eqb-true _ _ e) in rw same (with_out r.out home))
    (λ e. refl))
    f.started (found-alone f.started t r h.right.rising found)))
  where
    with_out : (b : Bool) → b ≡ false → record r { out = false } ≡ record r { out = b }
    with_out b e = rw e refl

    all-still : (xs : List Started) → AllByRecursion (λ x. moved_to r.number r.position x ≡ x) xs → map (moved_to r.number r.position) xs ≡ xs
    all-still [] all = refl
    all-still (x ∷ xs) all = rw (all.0, all-still xs all.1) refl

pub no-runs : (n : ℕ) (f : Forest) (row : Row) (r : Started) → IsSound f → pick f ≡ Some row → row.role ≡ Optimistic → find_started f.started row.txn ≡ Some r → n ≡ 0
    → move_to row.txn (r.position + n) f ≡ f
no-runs n f row r h e role found none =
    let at : r.position + n ≡ r.position = omega (arith, none) in
    let number : r.number ≡ row.txn = eqb-true _ _ (find-passes (λ (x : Started). x.number == row.txn) f.started r found) in
    ap (λ q. move_to row.txn q f) at ∙ ap (λ t. move_to t r.position f) (sym number) ∙ stands-still f row.txn r h found ((pick-home f row r h e found).optimistic role)

-- local steps of the pick, however many
pub local-runs : (n : ℕ) (f : Forest) (row : Row) (r : Started) → IsSound f → pick f ≡ Some row → row.role ≡ Optimistic → find_started f.started row.txn ≡ Some r → AreLocal f r n
    → RunsOn f (move_to row.txn (r.position + n) f) n
local-runs zero f row r h e role found locals = subst (λ g. RunsOn f g 0) (sym (no-runs 0 f row r h e role found refl)) (none-on f)
local-runs (suc n) f row r h e role found locals =
    let number : r.number ≡ row.txn = eqb-true _ _ (find-passes (λ (x : Started). x.number == row.txn) f.started r found) in
    subst (λ t. RunsOn f (move_to t (r.position + suc n) f) (suc n)) number (many-on n f row r h e role found locals)

-- where it has not ended after them it is the pick still, and nobody has ended
local-stays : (n : ℕ) (f : Forest) (row : Row) (r : Started) → IsSound f → pick f ≡ Some row → row.role ≡ Optimistic → find_started f.started row.txn ≡ Some r → AreLocal f r n
    → r.position + n < length_of f r → IsStillPicked f (move_to row.txn (r.position + n) f) row
local-stays n f row r h e role found locals on =
    let quiet : IsQuiet f row.txn r (r.position + n) = many-quiet n f row.txn r h found locals in
    let home : r.out ≡ false = (pick-home f row r h e found).optimistic role in
    let before : r.position < length_of f r = omega (arith, on) in
    subst (λ t. IsStillPicked f (move_to t (r.position + n) f) row) (named f row.txn r (r.position + n) quiet)
    (record {
      sound = quiet-sound f row.txn r (r.position + n) quiet;
      picked = quiet-pick f row.txn r (r.position + n) quiet home before on ∙ e;
      nobody = quiet-ended f row.txn r (r.position + n) quiet before on;
    })

-- a step of an optimistic shadow is accepted only before its end
step-going : (f : Forest) (t : ℕ) (r : Started) → find_started f.started t ≡ Some r → is_ok (step f t Optimistic) ≡ true → r.position < length_of f r
step-going f t r found ok =
    either (cases_Bool (is_live f.journal t))
    (λ live.
    either (cases_Bool (ltb r.position (length_of f r)))
    (λ lt. ltb-true r.position (length_of f r) lt)
    (λ ge. let no : false ≡ true = rw (live, found, ge) at ok in absurd (true≢false (sym no))))
    (λ gone. let no : false ≡ true = rw gone at ok in absurd (true≢false (sym no)))

-- the optimistic shadow that was picked, after its local steps
pub local-picked : (n : ℕ) (f g : Forest) (row : Row) (r : Started) → IsSound f → pick f ≡ Some row → row.role ≡ Optimistic → find_started f.started row.txn ≡ Some r → AreLocal f r n
    → g ≡ move_to row.txn (r.position + n) f → is_ok (step g row.txn row.role) ≡ true → IsStillPicked f g row
local-picked n f g row r h e role found locals is ok =
    let q : ℕ = r.position + n in
    let number : r.number ≡ row.txn = eqb-true _ _ (find-passes (λ (x : Started). x.number == row.txn) f.started r found) in
    let there : moved_to r.number q r ≡ record r { position = q; out = false } = rw (eq-eqb r.number r.number refl) refl in
    let found' : find_started (move_to r.number q f).started row.txn ≡ Some (record r { position = q; out = false }) =
    find-mapped (moved_to r.number q) (moved_to-number r.number q) f.started row.txn r found ∙ ap Some there
    in
    let accepted : is_ok (step (move_to r.number q f) row.txn Optimistic) ≡ true =
    ap (λ t. is_ok (step (move_to t q f) row.txn Optimistic)) number ∙ ap (λ x. is_ok (step x row.txn Optimistic)) (sym is) ∙ ap (λ o. is_ok (step g row.txn o)) (sym role) ∙ ok
    in
    let going : q < length_of f r = step-going (move_to r.number q f) row.txn (record r { position = q; out = false }) found' accepted in
    subst (λ x. IsStillPicked f x row) (sym is) (local-stays n f row r h e role found locals going)
