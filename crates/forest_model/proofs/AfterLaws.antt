-- Where the others stand after a commit.
use Rattle.std.proofs.Common.{◌≡◌, ◌≢◌, ℕ, ◌==◌, Bool, true, false, ltb, List, [], ◌∷◌, length, map, find, Option, Some, None, option_map, Ok, Err, refl, ap, sym, ◌∙◌, subst, true≢false, eqb-true, if◌then◌else◌}
use Rattle.std.proofs.lemmas.Bool.{cases_Bool, cond_both, and_parts, ne_eqb, not-true}
use Rattle.txn_runs.specs.Serial.{outcome_of}
use Rattle.journal_core.specs.Journal.{is_live}
use Rattle.forest_model.specs.Runs.{is_done}
use Rattle.forest_model.specs.Choose.{put_in_order}
use Rattle.forest_model.specs.Forest.{Started, Forest, program, point_of, is_ended, wanted, find_started, is_started}
use Rattle.forest_model.specs.Settle.{resettled}
use Rattle.forest_model.specs.Cut.{survives, after_cut}
use Rattle.forest_model.specs.Start.{without, fresh, waits, is_prior, numbers, next_to_start, start_some}
use Rattle.forest_model.specs.Sound.{is_wanted, last_point}
use Rattle.forest_model.specs.Events.{Unknown, NotEnded, cut, resumes, others_cut, laid, committed, commit}
use Rattle.forest_model.specs.Laws.{IsCommitted, IsReset, StandsAt}
use Rattle.forest_model.proofs.Lists.{either, filter-passes}
use Rattle.forest_model.proofs.StartedLaws.{below, found-number, all-first}
use Rattle.forest_model.proofs.CommitLaws.{after_cut-number}
use Rattle.forest_model.proofs.ResetLaws.{reset-wanted, reset-other, reset-none, reset-undone}

-- What is found in a list that has changed.

pub find-mapped : (g : Started → Started) → ((x : Started) → (g x).number ≡ x.number) → (xs : List Started) (v : ℕ) (r : Started) → find_started xs v ≡ Some r → find_started (map g xs) v ≡ Some (g r)
find-mapped g same [] v r h = cc
find-mapped g same (x ∷ xs) v r h =
    either (cases_Bool (x.number == v))
    (λ e.
    let hit : Some x ≡ Some r = rw e at h in
    let one : x ≡ r = cc in
    let e' : (g x).number == v ≡ true = ap (λ n. n == v) (same x) ∙ e in
    rw e' (ap (λ y. Some (g y)) one))
    (λ e.
    let e' : (g x).number == v ≡ false = ap (λ n. n == v) (same x) ∙ e in
    rw e' (find-mapped g same xs v r (rw e at h)))

pub find-without : (t v : ℕ) (xs : List Started) → v ≢ t → find_started (without t xs) v ≡ find_started xs v
find-without t v [] ne = refl
find-without t v (x ∷ xs) ne =
    either (cases_Bool (x.number == t))
    (λ e.
    let other : x.number == v ≡ false = ne_eqb x.number v (λ q. ne (sym q ∙ eqb-true x.number t e)) in
    rw (e, other) (find-without t v xs ne))
    (λ e. rw e (either (cases_Bool (x.number == v)) (λ q. rw q refl) (λ q. rw q (find-without t v xs ne))))

found_same : {X : Type 0} (b : Bool) (y : X) (p q : Option X) → p ≡ q → (if b then Some y else p) ≡ (if b then Some y else q)
found_same true y p q e = refl
found_same false y p q e = e

pub find-put : {X : Type 0} (test : X → Bool) (before : X → X → Bool) (x : X) (xs : List X) → test x ≡ false → find test (put_in_order before x xs) ≡ find test xs
find-put test before x [] e = rw e refl
find-put test before x (y ∷ ys) e =
    cond_both (before y x) (y ∷ put_in_order before x ys) (x ∷ y ∷ ys) (λ zs. find test zs ≡ find test (y ∷ ys))
    (λ q. found_same (test y) y (find test (put_in_order before x ys)) (find test ys) (find-put test before x ys e)) (λ q. rw e refl)

pub started-found : (xs : List Started) (v : ℕ) (r : Started) → find_started xs v ≡ Some r → is_started xs v ≡ true
started-found [] v r h = cc
started-found (x ∷ xs) v r h =
    either (cases_Bool (x.number == v)) (λ e. rw e refl) (λ e. rw e (started-found xs v r (rw e at h)))

-- Who starts is another.

next-waits : (g : Forest) (n : ℕ) → next_to_start g ≡ Some n → waits g n ≡ true
next-waits g n h =
    either (cases_Bool (ltb (length g.started) g.lanes))
    (λ e. all-first (λ u. waits g u ≡ true) (is_prior g.journal) _ n (rw e at h) (filter-passes (waits g) (numbers g.journal)))
    (λ e. let none : None ≡ Some n = rw e at h in cc)

pub find-started : (g : Forest) (o : Option ℕ) (v : ℕ) (r : Started) → next_to_start g ≡ o → find_started g.started v ≡ Some r → find_started (start_some o g).started v ≡ Some r
find-started g None v r next found = found
find-started g (Some n) v r next found =
    let idle : is_started g.started n ≡ false = not-true _ (and_parts _ _ (next-waits g n next)).1 in
    let other : n == v ≡ false = ne_eqb n v (λ q. true≢false (sym (started-found g.started v r found) ∙ sym (ap (is_started g.started) q) ∙ idle)) in
    find-put (λ (x : Started). x.number == v) below (fresh n) g.started other ∙ found

-- The forest after a commit.

module _ (f : Forest) (t : ℕ) (u : Started) (found : find_started f.started t ≡ Some u) where
  -- what is committed is the transaction that was found, and it has ended
  pub commit-is : (g : Forest) → commit f t ≡ Ok g → (committed f u ≡ g) × (is_ended f u ≡ true)
  commit-is g h =
      either (cases_Bool (is_live f.journal t))
      (λ live.
      either (cases_Bool (is_ended f u))
      (λ e. let ok : Ok (committed f u) ≡ Ok g = rw (live, found, e) at h in (cc, e))
      (λ e. let no : Err NotEnded ≡ Ok g = rw (live, found, e) at h in cc))
      (λ dead. let no : Err Unknown ≡ Ok g = rw dead at h in cc)

  pub stands-cut : (v : ℕ) (r : Started) → find_started f.started v ≡ Some r → v ≢ t → StandsAt (committed f u) v (after_cut (cut f u r) r).position
  stands-cut v r found_r apart =
      let number : u.number ≡ t = found-number f.started t u found in
      let left : find_started (without u.number f.started) v ≡ Some r = find-without u.number v f.started (λ q. apart (q ∙ number)) ∙ found_r in
      let cut_down : find_started (others_cut f u) v ≡ Some (after_cut (cut f u r) r) =
      find-mapped (λ x. after_cut (cut f u x) x) (λ x. after_cut-number (cut f u x) x) (without u.number f.started) v r left
      in
      let with_next : find_started (start_some (next_to_start (laid f u)) (laid f u)).started v ≡ Some (after_cut (cut f u r) r) =
      find-started (laid f u) (next_to_start (laid f u)) v (after_cut (cut f u r) r) refl cut_down
      in
      ap (option_map (λ (x : Started). x.position))
      (find-mapped (resettled (others_cut f u) (start_some (next_to_start (laid f u)) (laid f u))) (λ x. refl) (start_some (next_to_start (laid f u)) (laid f u)).started v (after_cut (cut f u r) r) with_next)

taken_from : (b : Bool) (m q n p : ℕ) → if◌then◌else◌ {A = Option (ℕ × ℕ)} b None (Some (m, q)) ≡ Some (n, p) → q ≡ p
taken_from true m q n p h = cc
taken_from false m q n p h = let same : (m, q) ≡ (n, p) = cc in ap (λ (x : ℕ × ℕ). x.1) same

stays_where : (b : Bool) (m q : ℕ) → if◌then◌else◌ {A = Option (ℕ × ℕ)} b None (Some (m, q)) ≡ None → b ≡ true
stays_where true m q h = refl
stays_where false m q h = cc

-- where the commit takes one back, and where not
pub taken_back : (f : Forest) (u r : Started) (n p : ℕ) → resumes f u r ≡ Some (n, p) → (after_cut (cut f u r) r).position ≡ p
taken_back f u r n p h = taken_from (survives (cut f u r) r.position) r.number (after_cut (cut f u r) r).position n p h

pub goes_on : (f : Forest) (u r : Started) → resumes f u r ≡ None → (after_cut (cut f u r) r).position ≡ r.position
goes_on f u r h = rw (stays_where (survives (cut f u r) r.position) r.number (after_cut (cut f u r) r).position h) refl

-- A commit and another transaction.

pub stands-after : (f : Forest) (t : ℕ) (u : Started) (v : ℕ) (r : Started) (g : Forest) → IsCommitted f t u v r g → StandsAt g v (after_cut (cut f u r) r).position
stands-after f t u v r g h = subst (λ x. StandsAt x v (after_cut (cut f u r) r).position) (commit-is f t u h.writer g h.commits).0 (stands-cut f t u h.writer v r h.reader h.apart)

pub resumed-stands : (f g : Forest) (t v : ℕ) (u r : Started) (p : ℕ) → IsCommitted f t u v r g → resumes f u r ≡ Some (v, p) → StandsAt g v p
resumed-stands f g t v u r p h e = subst (StandsAt g v) (taken_back f u r v p e) (stands-after f t u v r g h)

pub others-stand : (f g : Forest) (t v : ℕ) (u r : Started) → IsCommitted f t u v r g → resumes f u r ≡ None → StandsAt g v r.position
others-stand f g t v u r h e = subst (StandsAt g v) (goes_on f u r e) (stands-after f t u v r g h)

-- The idle reset.

module _ (f : Forest) (t : ℕ) (u : Started) (v : ℕ) (r : Started) (g : Forest) (h : IsReset f t u v r g) where
  stands : StandsAt g v (after_cut (cut f u r) r).position
  stands = stands-after f t u v r g h.committed

  r_number : r.number ≡ v
  r_number = found-number f.started v r h.committed.reader

  apart_numbers : u.number ≢ r.number
  apart_numbers q = h.committed.apart (sym r_number ∙ sym q ∙ found-number f.started t u h.committed.writer)

  back : (p : ℕ) → resumes f u r ≡ Some (r.number, p) → (resumes f u r ≡ Some (v, p)) × StandsAt g v p
  back p e = (e ∙ ap (λ n. Some (n, p)) r_number, subst (StandsAt g v) (taken_back f u r r.number p e) stands)

  on : resumes f u r ≡ None → (resumes f u r ≡ None) × StandsAt g v r.position
  on e = (e, subst (StandsAt g v) (goes_on f u r e) stands)

  pub goes_to_point : (p : ℕ) → is_done (outcome_of (program f u) f.tables) ≡ true → point_of f r u ≡ Some p → is_wanted (wanted f r) u.number ≡ true → (resumes f u r ≡ Some (v, p)) × StandsAt g v p
  goes_to_point p done point wanted_u = back p (reset-wanted f h.sound h.idle t u h.committed.writer v r h.committed.reader p done point wanted_u)

  pub goes_to_last : (p : ℕ) → is_done (outcome_of (program f u) f.tables) ≡ true → point_of f r u ≡ Some p → is_wanted (wanted f r) u.number ≡ false
      → (resumes f u r ≡ Some (v, last_point (wanted f r))) × StandsAt g v (last_point (wanted f r))
  goes_to_last p done point unwanted = back (last_point (wanted f r)) (reset-other f h.sound h.idle t u h.committed.writer v r h.committed.reader p apart_numbers done point unwanted)

  pub goes_on_free : is_done (outcome_of (program f u) f.tables) ≡ true → point_of f r u ≡ None → (resumes f u r ≡ None) × StandsAt g v r.position
  goes_on_free done none = on (reset-none f h.sound h.idle t u h.committed.writer v r h.committed.reader done none)

  pub goes_on_undone : is_done (outcome_of (program f u) f.tables) ≡ false → (resumes f u r ≡ None) × StandsAt g v r.position
  goes_on_undone undone = on (reset-undone f h.sound h.idle t u h.committed.writer v r h.committed.reader undone)
