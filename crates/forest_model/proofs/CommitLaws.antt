-- A withdrawal and a commit keep soundness; what survives a commit is the same run over the new tables.
use Rattle.std.proofs.Common.{◌≡◌, ◌≢◌, ℕ, suc, ◌<◌, ◌≤◌, ◌==◌, true, false, not, ltb, List, [], ◌∷◌, ◌++◌, length, map, Option, Some, None, IfOk, Result, refl, ap, sym, ◌∙◌, subst, arith, true≢false, eq-eqb, ltb-true, ltb-false}
use Rattle.std.specs.List.{AllByRecursion, AllZip, list_any}
use Rattle.std.proofs.lemmas.Bool.{cases_Bool, cond_both, or_parts, and_parts, and_from, ne_eqb, not-true, not_from_false}
use Rattle.txn_runs.specs.Serial.{run_length, effect_of, outcome_of, over}
use Rattle.journal_core.specs.Journal.{is_begin_of, is_end_of, began, has_begun, is_sealed, is_live, program_of, tables_after, IsLegal}
use Rattle.journal_core.specs.declared.entry.Entry.{Entry}
use Rattle.journal_core.specs.declared.entry.Entry.TheVariants.{Began, Sealed, Withdrawn, Committed}
use Rattle.forest_model.specs.Forest.{is_ended, Shadow, Started, Forest, program, length_of, wanted, is_started, find_started}
use Rattle.forest_model.specs.Cut.{survives, survivors, heir, resumed_by, after_cut}
use Rattle.forest_model.specs.Start.{numbers, without, fresh, start, waits, is_prior, first_waiting, start_some, start_waiting}
use Rattle.forest_model.specs.Sound.{IsRising, IsRight, StandsFor, IsSound}
use Rattle.forest_model.specs.Events.{Refusal, cut, others_cut, committed, commit_ended, commit, withdrawn, withdraw}
use Rattle.forest_model.proofs.Lists.{either, all-weaken, all-map, all-filter, all-everywhere, all-both, all-found, filter-passes, map-map, map-agree, length-map', list_any-map, list_any-agree}
use Rattle.forest_model.proofs.SettleLaws.{settle-sound}
use Rattle.journal_core.proofs.Legal.{begun-live, program_of-push, legal-push, Counts, counts, began-push, tables_after-other, tables_after-commit, live-other, live-ended}
use Rattle.forest_model.proofs.StartedLaws.{number, below, all-put, length-put, is_started-put, rising-started, rising-filter, length-filter-le, length-without, is_started-without, found-number, all-first, none-first, filter-none, all-any}
use Rattle.forest_model.proofs.StepLaws.{if_started-all}
use Rattle.forest_model.proofs.PointLaws.{wanted-below, length-survives}

-- Who starts.

-- all that is right of a forest but that no lane is free while one waits
pub record IsPlaced (f : Forest) : Type 0 where
  pub legal : IsLegal f.opening f.journal
  pub few : began f.journal ≤ 20000
  pub serial : f.tables ≡ tables_after f.opening f.journal
  pub rising : IsRising (map number f.started)
  pub live : AllByRecursion (λ r. is_live f.journal r.number ≡ true) f.started
  pub at_most : length f.started ≤ f.lanes
  pub within : AllByRecursion (λ r. r.position ≤ length_of f r) f.started

pub numbers_begun : (journal : List Entry) (t : ℕ) → has_begun journal t ≡ true → list_any (λ n. n == t) (numbers journal) ≡ true
numbers_begun [] t h = h
numbers_begun (Began n deadline program ∷ journal) t h =
    either (cases_Bool (n == t)) (λ e. rw e refl) (λ e. rw e (numbers_begun journal t (rw e at h)))
numbers_begun (Sealed ∷ journal) t h = numbers_begun journal t h
numbers_begun (Withdrawn n ∷ journal) t h = numbers_begun journal t h
numbers_begun (Committed n reply ∷ journal) t h = numbers_begun journal t h

-- where none is first to wait, none waits
none_waits : (f : Forest) (t : ℕ) → first_waiting f ≡ None → is_live f.journal t ≡ true → waits f t ≡ false
none_waits f t none live =
    all-any (λ u. waits f u ≡ false) (numbers f.journal) t
    (filter-none (waits f) (numbers f.journal) (none-first (is_prior f.journal) _ none))
    (numbers_begun f.journal t (begun-live f.journal t live))

module _ (f : Forest) (placed : IsPlaced f) (one : (t : ℕ) → waits f t ≡ true → f.lanes ≤ suc (length f.started)) where
  waiting : (t : ℕ) → is_live f.journal t ≡ true → is_started f.started t ≡ false → waits f t ≡ true
  waiting t live idle = and_from _ _ live (not_from_false _ idle)

  start-right : (t : ℕ) → waits f t ≡ true → length f.started < f.lanes → IsRight (start t f)
  start-right t w lane =
      let parts : (is_live f.journal t ≡ true) × (not (is_started f.started t) ≡ true) = and_parts _ _ w in
      record {
        legal = placed.legal;
        few = placed.few;
        serial = placed.serial;
        rising = rising-started (fresh t) f.started placed.rising (not-true _ parts.1);
        live = all-put (λ r. is_live f.journal r.number ≡ true) below (fresh t) f.started parts.0 placed.live;
        at_most = rw length-put lane;
        full = λ u live idle.
            let apart : (t == u ≡ false) × (is_started f.started u ≡ false) = or_parts _ _ (sym (is_started-put (fresh t) f.started u) ∙ idle) in
            let enough : f.lanes ≤ suc (length f.started) = one u (waiting u live apart.1) in
            rw length-put (omega arith);
        within = all-put (λ r. r.position ≤ length_of f r) below (fresh t) f.started (omega arith) placed.within;
      }

  nobody-right : ((t : ℕ) → is_live f.journal t ≡ true → is_started f.started t ≡ false → length f.started ≡ f.lanes) → IsRight f
  nobody-right full = record {
    legal = placed.legal;
    few = placed.few;
    serial = placed.serial;
    rising = placed.rising;
    live = placed.live;
    at_most = placed.at_most;
    full = full;
    within = placed.within;
  }

  start_some-right : (o : Option ℕ) → first_waiting f ≡ o → length f.started < f.lanes → IsRight (start_some o f)
  start_some-right None none lane =
      nobody-right (λ t live idle. absurd (true≢false (sym (waiting t live idle) ∙ none_waits f t none live)))
  start_some-right (Some t) first lane =
      start-right t (all-first (λ u. waits f u ≡ true) (is_prior f.journal) _ t first (filter-passes (waits f) (numbers f.journal))) lane

  -- a lane that became free is given away, and then no lane is free while one waits
  pub start_waiting-right : IsRight (start_waiting f)
  start_waiting-right =
      cond_both {A = Option ℕ} (ltb (length f.started) f.lanes) (first_waiting f) None (λ o. IsRight (start_some o f))
      (λ lane. start_some-right (first_waiting f) refl (ltb-true _ _ lane))
      (λ none. nobody-right (λ t live idle. let le : length f.started ≤ f.lanes = placed.at_most in let ge : f.lanes ≤ length f.started = ltb-false _ _ none in omega arith))

-- One leaves.

-- the others are live still, and another number
others_live : (f : Forest) (t : ℕ) (e : Entry) → ((u : ℕ) → is_begin_of u e ≡ false) → ((u : ℕ) → t == u ≡ false → is_end_of u e ≡ false) → IsRight f
    → AllByRecursion (λ r. is_live (f.journal ++ e ∷ []) r.number ≡ true) (without t f.started)
others_live f t e begins ends right =
    all-both (λ r. not (r.number == t) ≡ true) (λ r. is_live f.journal r.number ≡ true) (λ r. is_live (f.journal ++ e ∷ []) r.number ≡ true)
    (λ r apart live.
    let other : t == r.number ≡ false = ne_eqb _ _ (λ q. true≢false (sym (eq-eqb _ _ (sym q)) ∙ not-true _ apart)) in
    live-other f.journal e r.number (begins r.number) (ends r.number other) ∙ live)
    (without t f.started) (filter-passes (λ r. not (r.number == t)) f.started) (all-filter _ (λ r. not (r.number == t)) f.started right.live)

-- where one waits now, one waited before, and at most one lane has become free
one_lane : (f : Forest) (t : ℕ) (e : Entry) (started : List Started) → ((u : ℕ) → is_begin_of u e ≡ false) → ((u : ℕ) → is_end_of u e ≡ (t == u)) → IsRight f
    → length started ≡ length (without t f.started) → ((u : ℕ) → is_started started u ≡ is_started (without t f.started) u)
    → (u : ℕ) → is_live (f.journal ++ e ∷ []) u ≡ true → is_started started u ≡ false → f.lanes ≤ suc (length started)
one_lane f t e started begins ends right len same u live idle =
    let apart : t == u ≡ false =
    either (cases_Bool (t == u)) (λ q. absurd (true≢false (sym live ∙ live-ended f.journal e u (ends u ∙ q)))) (λ q. q)
    in
    let ne : t ≢ u = λ q. true≢false (sym (eq-eqb _ _ q) ∙ apart) in
    let was : is_live f.journal u ≡ true = sym (live-other f.journal e u (begins u) (ends u ∙ apart)) ∙ live in
    let idle_before : is_started f.started u ≡ false = sym (is_started-without t u f.started ne) ∙ (sym (same u) ∙ idle) in
    let full : length f.started ≡ f.lanes = right.full u was idle_before in
    let less : length f.started ≤ suc (length (without t f.started)) = length-without t f.started right.rising in
    omega arith

-- Withdraw.

module _ (f : Forest) (h : IsSound f) (t : ℕ) (live : is_live f.journal t ≡ true) (open_yet : is_sealed f.journal ≡ false) where
  withdrawn-placed : IsPlaced (record f { journal = f.journal ++ Withdrawn t ∷ []; started = without t f.started })
  withdrawn-placed = record {
    legal = legal-push f.opening f.journal (Withdrawn t) h.right.legal (live, open_yet);
    few = rw began-push (omega (arith, h.right.few));
    serial = h.right.serial ∙ sym (tables_after-other f.opening f.journal (Withdrawn t) (counts f.opening f.journal h.right.legal) refl);
    rising = rising-filter (λ r. not (r.number == t)) f.started h.right.rising;
    live = others_live f t (Withdrawn t) (λ u. refl) (λ u q. q) h.right;
    at_most = let le : length f.started ≤ f.lanes = h.right.at_most in omega (arith, length-filter-le (λ r. not (r.number == t)) f.started);
    within =
        all-filter (λ r. r.position ≤ run_length (program_of (f.journal ++ Withdrawn t ∷ []) r.number) f.tables) (λ r. not (r.number == t)) f.started
        (all-both (λ r. is_live f.journal r.number ≡ true) (λ r. r.position ≤ length_of f r)
        (λ r. r.position ≤ run_length (program_of (f.journal ++ Withdrawn t ∷ []) r.number) f.tables)
        (λ r l w. rw (program_of-push f.journal (Withdrawn t) r.number (begun-live f.journal r.number l)) w)
        f.started h.right.live h.right.within);
  }

  pub withdrawn-sound : IsSound (withdrawn f t)
  withdrawn-sound =
      settle-sound f.started _
      (start_waiting-right _ withdrawn-placed
      (λ u w.
      let parts : (is_live (f.journal ++ Withdrawn t ∷ []) u ≡ true) × (not (is_started (without t f.started) u) ≡ true) = and_parts _ _ w in
      one_lane f t (Withdrawn t) (without t f.started) (λ u. refl) (λ u. refl) h.right refl (λ u. refl) u parts.0 (not-true _ parts.1)))

pub withdraw-sound : (f : Forest) (t : ℕ) → IsSound f → IfOk (withdraw f t) IsSound
withdraw-sound f t h =
    cond_both (is_live f.journal t) _ _ (λ r. IfOk r IsSound)
    (λ live. cond_both (is_sealed f.journal) _ _ (λ r. IfOk r IsSound) (λ e. tt) (λ unsealed. withdrawn-sound f h t live unsealed))
    (λ e. tt)

-- Commit.

-- what a cut leaves keeps its number
pub after_cut-number : (c : Option ℕ) (r : Started) → (after_cut c r).number ≡ r.number
after_cut-number c r =
    cond_both {A = Started} (survives c r.position) _ _ (λ x. x.number ≡ r.number) (λ e. refl) (λ e. go (heir (survivors c r.shadows)))
  where
    go : (o : Option Shadow) → (resumed_by o r (survivors c r.shadows)).number ≡ r.number
    go None = refl
    go (Some h) = refl

-- the optimistic shadow that a cut leaves is one that survived, or a fresh one
all-after_cut : (P : ℕ → Type 0) (c : Option ℕ) (r : Started) → P 0 → (survives c r.position ≡ true → P r.position)
    → AllByRecursion (λ s. survives c s.position ≡ true → P s.position) r.shadows → P (after_cut c r).position
all-after_cut P c r at_zero here others =
    cond_both {A = Started} (survives c r.position) _ _ (λ x. P x.position) here
    (λ e. go (heir (survivors c r.shadows)) refl)
  where
    left : AllByRecursion (λ s. P s.position) (survivors c r.shadows)
    left =
        all-both (λ s. survives c s.position ≡ true) (λ s. survives c s.position ≡ true → P s.position) (λ s. P s.position) (λ s e k. k e)
        (survivors c r.shadows) (filter-passes (λ s. survives c s.position) r.shadows) (all-filter _ (λ s. survives c s.position) r.shadows others)

    go : (o : Option Shadow) → heir (survivors c r.shadows) ≡ o → P (resumed_by o r (survivors c r.shadows)).position
    go None e = at_zero
    go (Some h) e = all-first (λ s. P s.position) (λ x y. ltb y.position x.position) (survivors c r.shadows) h e left

-- shadows stand at or before their points, and so below the optimistic one
shadows-below : (n : ℕ) (ss : List Shadow) (ws : List (ℕ × ℕ)) → AllZip StandsFor ss ws → AllByRecursion (λ w. w.1 < n) ws → AllByRecursion (λ s. s.position < n) ss
shadows-below n [] ws h all = tt
shadows-below n (s ∷ ss) [] h all = absurd h
shadows-below n (s ∷ ss) (w ∷ ws) h all = (omega (arith, h.0, all.0), shadows-below n ss ws h.1 all.1)

module _ (f : Forest) (h : IsSound f) (u : Started) (found : find_started f.started u.number ≡ Some u) where
  cut-within : (r : Started) → r.position ≤ length_of f r → AllZip StandsFor r.shadows (wanted f r)
      → (after_cut (cut f u r) r).position ≤ run_length (program f r) (over (effect_of (program f u) f.tables) f.tables)
  cut-within r within fits =
      all-after_cut (λ q. q ≤ run_length (program f r) (over (effect_of (program f u) f.tables) f.tables)) (cut f u r) r
      (omega arith)
      (λ e. length-survives (program f r) f.tables r.position r.position (effect_of (program f u) f.tables) (omega arith) within e)
      (all-weaken (λ s. s.position < r.position) (λ s. survives (cut f u r) s.position ≡ true → s.position ≤ run_length (program f r) (over (effect_of (program f u) f.tables) f.tables))
      (λ s lt e. length-survives (program f r) f.tables r.position s.position (effect_of (program f u) f.tables) (omega arith) within e)
      r.shadows (shadows-below r.position r.shadows (wanted f r) fits (wanted-below f r)))

  u_live : is_live f.journal u.number ≡ true
  u_live = all-found (λ r. is_live f.journal r.number ≡ true) (λ r. r.number == u.number) f.started u found h.right.live

  kept_numbers : map number (others_cut f u) ≡ map number (without u.number f.started)
  kept_numbers =
      map-map number (λ r. after_cut (cut f u r) r) (without u.number f.started)
      ∙ map-agree (λ r. (after_cut (cut f u r) r).number) number (without u.number f.started)
      (all-everywhere (λ r. (after_cut (cut f u r) r).number ≡ r.number) (λ r. after_cut-number (cut f u r) r) (without u.number f.started))

  is_started-cut : (t : ℕ) → is_started (others_cut f u) t ≡ is_started (without u.number f.started) t
  is_started-cut t =
      list_any-map (λ r. r.number == t) (λ r. after_cut (cut f u r) r) (without u.number f.started)
      ∙ list_any-agree _ (λ r. r.number == t) (λ r. ap (λ n. n == t) (after_cut-number (cut f u r) r)) (without u.number f.started)

  committed-placed : IsPlaced (record f {
    journal = f.journal ++ Committed u.number (outcome_of (program f u) f.tables) ∷ [];
    tables = over (effect_of (program f u) f.tables) f.tables;
    started = others_cut f u;
  })
  committed-placed =
      let e : Entry = Committed u.number (outcome_of (program f u) f.tables) in
      let k : Counts f.journal = counts f.opening f.journal h.right.legal in
      record {
        legal = legal-push f.opening f.journal e h.right.legal (u_live, ap (outcome_of (program f u)) h.right.serial);
        few = rw began-push (omega (arith, h.right.few));
        serial =
            ap (λ d. over (effect_of (program f u) d) d) h.right.serial
            ∙ sym (tables_after-commit f.opening f.journal u.number (outcome_of (program f u) f.tables) k (begun-live f.journal u.number u_live));
        rising = subst IsRising (sym kept_numbers) (rising-filter (λ r. not (r.number == u.number)) f.started h.right.rising);
        live =
            all-map (λ r. is_live (f.journal ++ e ∷ []) r.number ≡ true) (λ r. after_cut (cut f u r) r) (without u.number f.started)
            (all-weaken (λ r. is_live (f.journal ++ e ∷ []) r.number ≡ true) (λ r. is_live (f.journal ++ e ∷ []) (after_cut (cut f u r) r).number ≡ true)
            (λ r l. rw (after_cut-number (cut f u r) r) l) (without u.number f.started)
            (others_live f u.number e (λ t. refl) (λ t q. q) h.right));
        at_most =
            let le : length f.started ≤ f.lanes = h.right.at_most in
            rw (length-map' (λ r. after_cut (cut f u r) r) (without u.number f.started)) (omega (arith, length-filter-le (λ r. not (r.number == u.number)) f.started));
        within =
            all-map (λ r. r.position ≤ run_length (program_of (f.journal ++ e ∷ []) r.number) (over (effect_of (program f u) f.tables) f.tables)) (λ r. after_cut (cut f u r) r) (without u.number f.started)
            (all-filter (λ r. (after_cut (cut f u r) r).position ≤ run_length (program_of (f.journal ++ e ∷ []) (after_cut (cut f u r) r).number) (over (effect_of (program f u) f.tables) f.tables))
            (λ r. not (r.number == u.number)) f.started
            (all-both (λ r. AllZip StandsFor r.shadows (wanted f r)) (λ r. (is_live f.journal r.number ≡ true) × (r.position ≤ length_of f r))
            (λ r. (after_cut (cut f u r) r).position ≤ run_length (program_of (f.journal ++ e ∷ []) (after_cut (cut f u r) r).number) (over (effect_of (program f u) f.tables) f.tables))
            (λ r fits b. rw (after_cut-number (cut f u r) r, program_of-push f.journal e r.number (begun-live f.journal r.number b.0)) (cut-within r b.1 fits))
            f.started h.settled
            (all-both _ _ (λ r. (is_live f.journal r.number ≡ true) × (r.position ≤ length_of f r)) (λ r l w. (l, w)) f.started h.right.live h.right.within)));
      }

  pub committed-sound : IsSound (committed f u)
  committed-sound =
      settle-sound (others_cut f u) _
      (start_waiting-right _ committed-placed
      (λ t w.
      let parts : (is_live (f.journal ++ Committed u.number (outcome_of (program f u) f.tables) ∷ []) t ≡ true) × (not (is_started (others_cut f u) t) ≡ true) = and_parts _ _ w in
      one_lane f u.number (Committed u.number (outcome_of (program f u) f.tables)) (others_cut f u) (λ t. refl) (λ t. refl) h.right
      (length-map' (λ r. after_cut (cut f u r) r) (without u.number f.started)) is_started-cut t parts.0 (not-true _ parts.1)))

pub commit-sound : (f : Forest) (t : ℕ) → IsSound f → IfOk (commit f t) IsSound
commit-sound f t h =
    cond_both {A = Result Forest Refusal} (is_live f.journal t) _ _ (λ x. IfOk x IsSound)
    (λ live. if_started-all IsSound (find_started f.started t) (commit_ended f)
    (λ u found.
    cond_both {A = Result Forest Refusal} (is_ended f u) _ _ (λ x. IfOk x IsSound)
    (λ e. committed-sound f h u (subst (λ n. find_started f.started n ≡ Some u) (sym (found-number f.started t u found)) found))
    (λ e. tt)))
    (λ e. tt)
