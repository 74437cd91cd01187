-- Each event keeps soundness.
use Rattle.std.proofs.Common.{◌≡◌, ℕ, zero, suc, ◌+◌, ◌-◌, ◌<◌, ◌≤◌, ◌==◌, true, false, ltb, List, [], ◌∷◌, ◌++◌, length, filter_map, take, replicate, None, IfOk, refl, ap, sym, ◌∙◌, arith, ltb-true, ltb-false}
use Rattle.std.specs.List.{AllByRecursion, AllZip}
use Rattle.std.proofs.lemmas.Bool.{cond_both, or_parts, ne_eqb}
use Rattle.txn_runs.specs.declared.program.Program.{Program}
use Rattle.forest_model.specs.Point.{point, wanted_of}
use Rattle.forest_model.specs.Forest.{Started, Forest, reads_of, writes_of, length_of, conflict_at, against, wanted, is_started}
use Rattle.forest_model.specs.Start.{fresh, start}
use Rattle.forest_model.specs.Sound.{IsRight, StandsFor, IsSettled, IsSound}
use Rattle.forest_model.specs.Events.{with_entry, begin, seal}
use Rattle.txn_runs.specs.Run.{Read}
use Rattle.forest_model.proofs.RunLaws.{reads-zero, writes-zero, own-none}
use Rattle.journal_core.specs.Journal.{began, has_begun, is_sealed, is_live, tables_after, IsLegal}
use Rattle.journal_core.specs.declared.entry.Entry.{Entry}
use Rattle.journal_core.specs.declared.entry.Entry.TheVariants.{Began, Sealed}
use Rattle.forest_model.proofs.Lists.{all-weaken, all-both, filter_map-agree}
use Rattle.journal_core.proofs.Legal.{begun-live, program_of-push, legal-push, Counts, counts, began-push, tables_after-other, live-other, live-begun}
use Rattle.forest_model.proofs.StartedLaws.{below, all-put, length-put, filter_map-put, is_started-put, rising-started}

-- One more entry in the journal leaves what a transaction does.

begun_all : (f : Forest) → AllByRecursion (λ r. is_live f.journal r.number ≡ true) f.started → AllByRecursion (λ r. has_begun f.journal r.number ≡ true) f.started
begun_all f live = all-weaken _ (λ r. has_begun f.journal r.number ≡ true) (λ r h. begun-live f.journal r.number h) f.started live

within-push : (f : Forest) (e : Entry) → AllByRecursion (λ r. is_live f.journal r.number ≡ true) f.started
    → AllByRecursion (λ r. r.position ≤ length_of f r) f.started
    → AllByRecursion (λ r. r.position ≤ length_of (with_entry e f) r) f.started
within-push f e live within =
    all-both (λ r. has_begun f.journal r.number ≡ true) (λ r. r.position ≤ length_of f r) (λ r. r.position ≤ length_of (with_entry e f) r)
    (λ r b h. rw (program_of-push f.journal e r.number b) h) f.started (begun_all f live) within

against-push : (f : Forest) (e : Entry) (started : List Started) (r u : Started) → has_begun f.journal r.number ≡ true → has_begun f.journal u.number ≡ true
    → against (record f { journal = f.journal ++ e ∷ []; started = started }) r u ≡ against f r u
against-push f e started r u br bu = rw (program_of-push f.journal e r.number br, program_of-push f.journal e u.number bu) refl

wanted-push : (f : Forest) (e : Entry) → AllByRecursion (λ u. has_begun f.journal u.number ≡ true) f.started → (r : Started) → has_begun f.journal r.number ≡ true
    → wanted (with_entry e f) r ≡ wanted f r
wanted-push f e all r br =
    ap (λ pairs. wanted_of pairs f.k)
    (filter_map-agree _ (against f r) f.started
    (all-weaken _ (λ u. against (with_entry e f) r u ≡ against f r u) (λ u bu. against-push f e f.started r u br bu) f.started all))

settled-push : (f : Forest) (e : Entry) → AllByRecursion (λ r. is_live f.journal r.number ≡ true) f.started → IsSettled f
    → AllByRecursion (λ r. AllZip StandsFor r.shadows (wanted (with_entry e f) r)) f.started
settled-push f e live settled =
    all-both _ _ (λ r. AllZip StandsFor r.shadows (wanted (with_entry e f) r))
    (λ r b h. rw (wanted-push f e (begun_all f live) r b) h) f.started (begun_all f live) settled

-- Seal.

seal-open : (f : Forest) → is_sealed f.journal ≡ false → IsSound f → IsSound (with_entry Sealed f)
seal-open f unsealed h =
    let right : IsRight f = h.right in
    let same : (t : ℕ) → is_live (f.journal ++ Sealed ∷ []) t ≡ is_live f.journal t = λ t. live-other f.journal Sealed t refl refl in
    record {
      right = record {
        legal = legal-push f.opening f.journal Sealed right.legal unsealed;
        few = rw began-push (omega (arith, right.few));
        serial = right.serial ∙ sym (tables_after-other f.opening f.journal Sealed (counts f.opening f.journal right.legal) refl);
        rising = right.rising;
        live = all-weaken _ (λ r. is_live (f.journal ++ Sealed ∷ []) r.number ≡ true) (λ r e. same r.number ∙ e) f.started right.live;
        at_most = right.at_most;
        full = λ t live. right.full t (sym (same t) ∙ live);
        within = within-push f Sealed right.live right.within;
      };
      settled = settled-push f Sealed right.live h.settled;
    }

pub seal-sound : (f : Forest) → IsSound f → IsSound (seal f)
seal-sound f h = cond_both (is_sealed f.journal) f (with_entry Sealed f) IsSound (λ e. h) (λ e. seal-open f e h)

-- Begin.

-- a fresh shadow has read and written nothing
against-fresh : (f : Forest) (r : Started) (t : ℕ) → against f r (fresh t) ≡ None
against-fresh f r t =
    cond_both (t == r.number) None (conflict_at t (point (reads_of f r) (writes_of f (fresh t)))) (λ o. o ≡ None)
    (λ e. refl)
    (λ e. rw writes-zero (ap (conflict_at t) (point-none (length f.tables) (reads_of f r))))
  where
    point-none : (n : ℕ) (rs : List Read) → point rs (replicate n None) ≡ None
    point-none n [] = refl
    point-none n (x ∷ rs) = rw (own-none n x.1) (point-none n rs)

fresh-against : (f : Forest) (t : ℕ) (u : Started) → against f (fresh t) u ≡ None
fresh-against f t u =
    cond_both (u.number == t) None (conflict_at u.number (point (reads_of f (fresh t)) (writes_of f u))) (λ o. o ≡ None)
    (λ e. refl) (λ e. rw reads-zero refl)

nothing_wanted : (f : Forest) (t : ℕ) → wanted f (fresh t) ≡ []
nothing_wanted f t = rw (none f.started) (take-nil f.k)
  where
    none : (us : List Started) → filter_map (against f (fresh t)) us ≡ []
    none [] = refl
    none (u ∷ us) = rw (fresh-against f t u) (none us)

    take-nil : (k : ℕ) → wanted_of [] k ≡ []
    take-nil k = nil (k - 1)
      where
        nil : (n : ℕ) → take n (let xs : List (ℕ × ℕ) = [] in xs) ≡ []
        nil zero = refl
        nil (suc n) = refl

module _ (f : Forest) (h : IsSound f) (deadline : ℕ) (p : Program) (open_yet : is_sealed f.journal ≡ false) (room : began f.journal < 20000) where
  known : Counts f.journal
  known = counts f.opening f.journal h.right.legal

  -- no started transaction has the new number
  not_new : (r : Started) → has_begun f.journal r.number ≡ true → (began f.journal + 1) == r.number ≡ false
  not_new r b = ne_eqb _ _ (λ e. let low : r.number ≤ began f.journal = known.bounded r.number b in absurd (omega arith))

  still_live : AllByRecursion (λ r. is_live (f.journal ++ Began (began f.journal + 1) deadline p ∷ []) r.number ≡ true) f.started
  still_live =
      all-both _ _ (λ r. is_live (f.journal ++ Began (began f.journal + 1) deadline p ∷ []) r.number ≡ true)
      (λ r b l. live-other f.journal (Began (began f.journal + 1) deadline p) r.number (not_new r b) refl ∙ l)
      f.started (begun_all f h.right.live) h.right.live

  legal' : IsLegal f.opening (f.journal ++ Began (began f.journal + 1) deadline p ∷ [])
  legal' = legal-push f.opening f.journal (Began (began f.journal + 1) deadline p) h.right.legal (refl, open_yet)

  serial' : f.tables ≡ tables_after f.opening (f.journal ++ Began (began f.journal + 1) deadline p ∷ [])
  serial' = h.right.serial ∙ sym (tables_after-other f.opening f.journal (Began (began f.journal + 1) deadline p) known refl)

  few' : began (f.journal ++ Began (began f.journal + 1) deadline p ∷ []) ≤ 20000
  few' = rw began-push (omega arith)

  begin-waits : f.lanes ≤ length f.started → IsSound (with_entry (Began (began f.journal + 1) deadline p) f)
  begin-waits no_lane = record {
    right = record {
      legal = legal';
      few = few';
      serial = serial';
      rising = h.right.rising;
      live = still_live;
      at_most = h.right.at_most;
      full = λ t live waits. let le : length f.started ≤ f.lanes = h.right.at_most in omega arith;
      within = within-push f (Began (began f.journal + 1) deadline p) h.right.live h.right.within;
    };
    settled = settled-push f (Began (began f.journal + 1) deadline p) h.right.live h.settled;
  }

  pub not_started : is_started f.started (began f.journal + 1) ≡ false
  not_started = go f.started (begun_all f h.right.live)
    where
      go : (xs : List Started) → AllByRecursion (λ r. has_begun f.journal r.number ≡ true) xs → is_started xs (began f.journal + 1) ≡ false
      go [] all = refl
      go (x ∷ xs) all =
          let other : x.number == (began f.journal + 1) ≡ false =
          ne_eqb _ _ (λ e. let low : x.number ≤ began f.journal = known.bounded x.number all.0 in absurd (omega arith))
          in
          rw (other, go xs all.1) refl

  begin-starts : length f.started < f.lanes → IsSound (start (began f.journal + 1) (with_entry (Began (began f.journal + 1) deadline p) f))
  begin-starts lane =
      let e : Entry = Began (began f.journal + 1) deadline p in
      let n : ℕ = began f.journal + 1 in
      let g : Forest = start n (with_entry e f) in
      record {
        right = record {
          legal = legal';
          few = few';
          serial = serial';
          rising = rising-started (fresh n) f.started h.right.rising not_started;
          live = all-put (λ r. is_live (f.journal ++ e ∷ []) r.number ≡ true) below (fresh n) f.started (live-begun f.journal n deadline p known refl) still_live;
          at_most = rw length-put lane;
          full = λ t live waits.
              let parts : (n == t ≡ false) × (is_started f.started t ≡ false) = or_parts _ _ (sym (is_started-put (fresh n) f.started t) ∙ waits) in
              let was : is_live f.journal t ≡ true = sym (live-other f.journal e t parts.0 refl) ∙ live in
              let no_lane : length f.started ≡ f.lanes = h.right.full t was parts.1 in
              absurd (omega arith);
          within =
              all-put (λ r. r.position ≤ length_of g r) below (fresh n) f.started (omega arith)
              (within-push f e h.right.live h.right.within);
        };
        settled =
            all-put (λ r. AllZip StandsFor r.shadows (wanted g r)) below (fresh n) f.started
            (rw (nothing_wanted g n) tt)
            (all-weaken _ (λ r. AllZip StandsFor r.shadows (wanted g r))
            (λ r fits. rw (same_wanted r) fits)
            f.started
            (settled-push f e h.right.live h.settled));
      }
    where
      same_wanted : (r : Started) → wanted (start (began f.journal + 1) (with_entry (Began (began f.journal + 1) deadline p) f)) r ≡ wanted (with_entry (Began (began f.journal + 1) deadline p) f) r
      same_wanted r =
          ap (λ pairs. wanted_of pairs f.k)
          (filter_map-put (against (with_entry (Began (began f.journal + 1) deadline p) f) r) below (fresh (began f.journal + 1)) f.started
          (against-fresh (with_entry (Began (began f.journal + 1) deadline p) f) r (began f.journal + 1)))

pub begin-sound : (f : Forest) (p : Program) (deadline : ℕ) → IsSound f → IfOk (begin f p deadline) (λ a. IsSound a.1)
begin-sound f p deadline h =
    cond_both (is_sealed f.journal) _ _ (λ r. IfOk r (λ a. IsSound a.1)) (λ e. tt)
    (λ unsealed. cond_both (ltb (began f.journal) 20000) _ _ (λ r. IfOk r (λ a. IsSound a.1))
    (λ room. cond_both (ltb (length f.started) f.lanes) _ _ IsSound
    (λ lane. begin-starts f h deadline p unsealed (ltb-true _ _ room) (ltb-true _ _ lane))
    (λ none. begin-waits f h deadline p unsealed (ltb-true _ _ room) (ltb-false _ _ none)))
    (λ e. tt))
