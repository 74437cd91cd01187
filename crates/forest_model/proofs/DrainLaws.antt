-- A drain comes to an end, and then nobody is live.
use Rattle.std.proofs.Common.{◌≡◌, ℕ, zero, suc, ◌+◌, ◌*◌, ◌<◌, ◌≤◌, ◌==◌, Bool, true, false, not, ltb, List, [], ◌∷◌, ◌++◌, length, map, filter, Option, Some, None, refl, ap, sym, ◌∙◌, subst, arith, true≢false, ltb-true, eqb-true, eq-eqb, append-nil, mul-le-mul, suc-mul}
use Rattle.std.specs.List.{AllByRecursion, list_any}
use Rattle.std.proofs.lemmas.Bool.{cases_eq, cases_Bool, cond_both, or_cases, or_right, ne_eqb}
use Rattle.std.proofs.lemmas.List.Elements.{filter_map-append}
use Rattle.txn_runs.specs.Serial.{outcome_of}
use Rattle.txn_runs.specs.Bounds.{steps_max}
use Rattle.block_rule.specs.declared.role.Row.{Row}
use Rattle.journal_core.specs.Journal.{has_begun, is_live, program_of}
use Rattle.journal_core.specs.declared.entry.Entry.{Entry}
use Rattle.journal_core.specs.declared.entry.Entry.TheVariants.{Began, Sealed, Withdrawn, Committed}
use Rattle.forest_model.specs.Forest.{Shadow, Started, Forest, program, length_of, is_ended, is_started, find_started}
use Rattle.forest_model.specs.Settle.{resettled, settle}
use Rattle.forest_model.specs.Cut.{survives, survivors, heir, resumed_by, after_cut}
use Rattle.forest_model.specs.Start.{is_prior, number_in, numbers, without, fresh, next_to_start, start_some}
use Rattle.forest_model.specs.Pick.{pick}
use Rattle.forest_model.specs.Sound.{IsSound, IsIdle, IsHome}
use Rattle.forest_model.specs.Events.{cut, others_cut, laid, committed, commit}
use Rattle.forest_model.specs.Jobs.{recall}
use Rattle.forest_model.specs.Work.{work}
use Rattle.forest_model.specs.Drain.{step_row, counted, first_ended, after_commit, drain_by, drain_step, drain_from, drain_within, live_numbers, longest, most_work, left, drain_rest, drain}
use Rattle.forest_model.proofs.Lists.{either, all-weaken, all-map, all-both, all-everywhere, all-filter, all-found, filter-passes}
use Rattle.txn_runs.proofs.Ending.{length_within}
use Rattle.journal_core.proofs.Legal.{begun-live, program_of-push, live-other, live-ended}
use Rattle.forest_model.proofs.StartedLaws.{number, below, all-put, found-number, all-first, none-first, filter-none}
use Rattle.forest_model.proofs.StepLaws.{recall-sound}
use Rattle.forest_model.proofs.CommitLaws.{numbers_begun, committed-sound}
use Rattle.forest_model.proofs.RestLaws.{idle-without_pick}
use Rattle.forest_model.proofs.PickLaws.{found-self}
use Rattle.forest_model.proofs.HomeLaws.{Home, settled-home, before-home, recall-home}
use Rattle.forest_model.proofs.IdleLaws.{IsPickStep, pick-step, work-bound}

-- A commit leaves at home what was at home.

cut-home : (c : Option ℕ) (r : Started) → r.out ≡ false → Home r.shadows → ((after_cut c r).out ≡ false) × Home (after_cut c r).shadows
cut-home c r out home =
    cond_both {A = Started} (survives c r.position) _ _ (λ x. (x.out ≡ false) × Home x.shadows) (λ e. (out, left_home))
    (λ e. go (heir (survivors c r.shadows)) refl)
  where
    left_home : Home (survivors c r.shadows)
    left_home = all-filter (λ s. s.out ≡ false) (λ s. survives c s.position) r.shadows home

    go : (o : Option Shadow) → heir (survivors c r.shadows) ≡ o → ((resumed_by o r (survivors c r.shadows)).out ≡ false) × Home (resumed_by o r (survivors c r.shadows)).shadows
    go None e = (refl, tt)
    go (Some h) e = (
      all-first (λ s. s.out ≡ false) (λ x y. ltb y.position x.position) (survivors c r.shadows) h e left_home,
      all-filter (λ s. s.out ≡ false) (λ s. not (s.guard == h.guard)) (survivors c r.shadows) left_home,
    )

settle-home : (before : List Started) (f : Forest) → AllByRecursion (λ r. Home r.shadows) before → AllByRecursion (λ r. r.out ≡ false) f.started → IsHome (settle before f)
settle-home before f lists out = record {
  optimistic = all-map (λ r. r.out ≡ false) (resettled before f) f.started out;
  others =
      all-map (λ r. Home r.shadows) (resettled before f) f.started
      (all-everywhere (λ r. Home (resettled before f r).shadows) (λ r. settled-home (find_started before r.number) _ (before-home before lists r.number)) f.started);
}

start-home : (o : Option ℕ) (f : Forest) → AllByRecursion (λ r. r.out ≡ false) f.started → AllByRecursion (λ r. r.out ≡ false) (start_some o f).started
start-home None f h = h
start-home (Some t) f h = all-put (λ r. r.out ≡ false) below (fresh t) f.started refl h

committed-home : (f : Forest) (u : Started) → IsHome f → IsHome (committed f u)
committed-home f u h =
    let both : AllByRecursion (λ r. ((after_cut (cut f u r) r).out ≡ false) × Home (after_cut (cut f u r) r).shadows) (without u.number f.started) =
    all-filter (λ r. ((after_cut (cut f u r) r).out ≡ false) × Home (after_cut (cut f u r) r).shadows) (λ r. not (r.number == u.number)) f.started
    (all-both (λ r. r.out ≡ false) (λ r. Home r.shadows) (λ r. ((after_cut (cut f u r) r).out ≡ false) × Home (after_cut (cut f u r) r).shadows) (λ r a b. cut-home (cut f u r) r a b) f.started h.optimistic h.others)
    in
    settle-home (others_cut f u) (start_some (next_to_start (laid f u)) (laid f u))
    (all-map (λ r. Home r.shadows) (λ r. after_cut (cut f u r) r) (without u.number f.started)
    (all-weaken (λ r. ((after_cut (cut f u r) r).out ≡ false) × Home (after_cut (cut f u r) r).shadows) (λ r. Home (after_cut (cut f u r) r).shadows) (λ r b. b.1) (without u.number f.started) both))
    (start-home (next_to_start (laid f u)) (laid f u)
    (all-map (λ r. r.out ≡ false) (λ r. after_cut (cut f u r) r) (without u.number f.started)
    (all-weaken (λ r. ((after_cut (cut f u r) r).out ≡ false) × Home (after_cut (cut f u r) r).shadows) (λ r. (after_cut (cut f u r) r).out ≡ false) (λ r b. b.0) (without u.number f.started) both)))

-- One commit leaves one live transaction less.

filter-same_or_less : (p q : ℕ → Bool) (u : ℕ) (xs : List ℕ) → ((t : ℕ) → u == t ≡ false → q t ≡ p t) → q u ≡ false → length (filter q xs) ≤ length (filter p xs)
filter-same_or_less p q u [] same gone = omega arith
filter-same_or_less p q u (x ∷ xs) same gone =
    let rest : length (filter q xs) ≤ length (filter p xs) = filter-same_or_less p q u xs same gone in
    either (cases_eq u x)
    (λ e.
    let here : q x ≡ false = ap q (sym e) ∙ gone in
    rw here (cond_both (p x) (x ∷ filter p xs) (filter p xs) (λ ys. length (filter q xs) ≤ length ys) (λ y. omega arith) (λ y. omega arith)))
    (λ ne.
    let here : q x ≡ p x = same x (ne_eqb u x ne) in
    rw here (either (cases_Bool (p x)) (λ y. rw y (omega arith)) (λ y. rw y (omega arith))))

filter-less : (p q : ℕ → Bool) (u : ℕ) (xs : List ℕ) → ((t : ℕ) → u == t ≡ false → q t ≡ p t) → q u ≡ false → p u ≡ true → list_any (λ n. n == u) xs ≡ true → length (filter q xs) < length (filter p xs)
filter-less p q u [] same gone was there = cc
filter-less p q u (x ∷ xs) same gone was there =
    either (cases_eq u x)
    (λ e.
    let off : q x ≡ false = ap q (sym e) ∙ gone in
    let on : p x ≡ true = ap p (sym e) ∙ was in
    rw (off, on) (omega (arith, filter-same_or_less p q u xs same gone)))
    (λ ne.
    let here : q x ≡ p x = same x (ne_eqb u x ne) in
    let apart : x == u ≡ false = ne_eqb x u (λ e. ne (sym e)) in
    let later : list_any (λ n. n == u) xs ≡ true = rw apart at there in
    let rest : length (filter q xs) < length (filter p xs) = filter-less p q u xs same gone was later in
    rw here (either (cases_Bool (p x)) (λ y. rw y (omega arith)) (λ y. rw y (omega arith))))

pub numbers-push : (journal : List Entry) (e : Entry) → number_in e ≡ None → numbers (journal ++ e ∷ []) ≡ numbers journal
numbers-push journal e none = filter_map-append number_in journal (e ∷ []) ∙ rw none (append-nil (numbers journal))

numbers-all_begun : (journal : List Entry) → AllByRecursion (λ t. has_begun journal t ≡ true) (numbers journal)
numbers-all_begun [] = tt
numbers-all_begun (Began n deadline program ∷ journal) = (
  rw (eq-eqb n n refl) refl,
  all-weaken (λ t. has_begun journal t ≡ true) (λ t. has_begun (Began n deadline program ∷ journal) t ≡ true) (λ t h. or_right _ _ h) (numbers journal) (numbers-all_begun journal),
)
numbers-all_begun (Sealed ∷ journal) = numbers-all_begun journal
numbers-all_begun (Committed n reply ∷ journal) = numbers-all_begun journal
numbers-all_begun (Withdrawn n ∷ journal) = numbers-all_begun journal

longest-agree : (a b : List Entry) (ts : List ℕ) → AllByRecursion (λ t. program_of a t ≡ program_of b t) ts → longest a ts ≡ longest b ts
longest-agree a b [] h = refl
longest-agree a b (t ∷ ts) h = rw (h.0, longest-agree a b ts h.1) refl

longest-push : (journal : List Entry) (e : Entry) → number_in e ≡ None → longest (journal ++ e ∷ []) (numbers (journal ++ e ∷ [])) ≡ longest journal (numbers journal)
longest-push journal e none =
    ap (longest (journal ++ e ∷ [])) (numbers-push journal e none)
    ∙ longest-agree (journal ++ e ∷ []) journal (numbers journal)
    (all-weaken (λ t. has_begun journal t ≡ true) (λ t. program_of (journal ++ e ∷ []) t ≡ program_of journal t) (λ t h. program_of-push journal e t h) (numbers journal) (numbers-all_begun journal))

longest-covers : (journal : List Entry) (t : ℕ) (ts : List ℕ) → list_any (λ n. n == t) ts ≡ true → steps_max (program_of journal t) ≤ longest journal ts
longest-covers journal t [] h = cc
longest-covers journal t (n ∷ ts) h =
    either (or_cases _ _ h)
    (λ here. let same : n ≡ t = eqb-true n t here in rw same (omega arith))
    (λ later. omega (arith, longest-covers journal t ts later))

-- no more work can be left than the bound says
work-most : (f : Forest) → IsSound f → work f ≤ most_work f
work-most f h =
    work-bound f (longest f.journal (numbers f.journal)) h
    (all-weaken (λ r. is_live f.journal r.number ≡ true) (λ r. length_of f r ≤ longest f.journal (numbers f.journal))
    (λ r live.
    let covers : steps_max (program f r) ≤ longest f.journal (numbers f.journal) =
    longest-covers f.journal r.number (numbers f.journal) (numbers_begun f.journal r.number (begun-live f.journal r.number live))
    in
    omega (arith, length_within (program f r) f.tables))
    f.started h.right.live)

most_work-same : (f g : Forest) → g.k ≡ f.k → g.lanes ≡ f.lanes → longest g.journal (numbers g.journal) ≡ longest f.journal (numbers f.journal) → most_work g ≡ most_work f
most_work-same f g k lanes longest = rw (k, lanes, longest) refl

-- A step of a drain.

pub record IsDrainStep (f g : Forest) : Type 0 where
  pub sound : IsSound g
  pub lower : left g < left f
  pub lanes : g.lanes ≡ f.lanes
  pub home : IsHome f → IsHome g

pub started-keeps : (before : List Started) (g : Forest) (o : Option ℕ) → ((settle before (start_some o g)).k ≡ g.k) × ((settle before (start_some o g)).lanes ≡ g.lanes) × ((settle before (start_some o g)).journal ≡ g.journal)
started-keeps before g None = (refl, refl, refl)
started-keeps before g (Some t) = (refl, refl, refl)

module _ (f : Forest) (h : IsSound f) (u : Started) (found : find_started f.started u.number ≡ Some u) (live : is_live f.journal u.number ≡ true) where
  entry : Entry
  entry = Committed u.number (outcome_of (program f u) f.tables)

  commit-lower : left (committed f u) < left f
  commit-lower =
      let g : Forest = committed f u in
      let e : Entry = Committed u.number (outcome_of (program f u) f.tables) in
      let kept : (g.k ≡ f.k) × (g.lanes ≡ f.lanes) × (g.journal ≡ f.journal ++ e ∷ []) = started-keeps (others_cut f u) (laid f u) (next_to_start (laid f u)) in
      let sound : IsSound g = committed-sound f h u found in
      let same_most : most_work g ≡ most_work f = most_work-same f g kept.0 kept.1 (ap (λ j. longest j (numbers j)) kept.2 ∙ longest-push f.journal e refl) in
      let fewer : length (filter (is_live (f.journal ++ e ∷ [])) (numbers f.journal)) < length (live_numbers f.journal) =
      filter-less (is_live f.journal) (is_live (f.journal ++ e ∷ [])) u.number (numbers f.journal)
      (λ t apart. live-other f.journal e t refl apart)
      (live-ended f.journal e u.number (eq-eqb u.number u.number refl)) live
      (numbers_begun f.journal u.number (begun-live f.journal u.number live))
      in
      let less : length (live_numbers g.journal) < length (live_numbers f.journal) =
      subst (λ j. length (live_numbers j) < length (live_numbers f.journal)) (sym kept.2)
      (subst (λ ns. length (filter (is_live (f.journal ++ e ∷ [])) ns) < length (live_numbers f.journal)) (sym (numbers-push f.journal e refl)) fewer)
      in
      let bound : work g ≤ most_work f = subst (λ m. work g ≤ m) same_most (work-most g sound) in
      let n : ℕ = length (live_numbers g.journal) in
      let product : suc (length (live_numbers g.journal)) * suc (most_work f) ≤ length (live_numbers f.journal) * suc (most_work f) = mul-le-mul less (omega arith) in
      let spread : suc (length (live_numbers g.journal)) * suc (most_work f) ≡ length (live_numbers g.journal) * suc (most_work f) + suc (most_work f) = suc-mul (length (live_numbers g.journal)) (suc (most_work f)) in
      rw same_most (omega arith)

-- the first that has ended is started, and has ended
pub ended-found : (f : Forest) (t : ℕ) → IsSound f → first_ended f ≡ Some t → (u : Started) × (find_started f.started t ≡ Some u) × (is_ended f u ≡ true)
ended-found f t h e =
    all-first (λ n. (u : Started) × (find_started f.started n ≡ Some u) × (is_ended f u ≡ true)) (is_prior f.journal) (map number (filter (is_ended f) f.started)) t e
    (all-map (λ n. (u : Started) × (find_started f.started n ≡ Some u) × (is_ended f u ≡ true)) number (filter (is_ended f) f.started)
    (all-both (λ r. find_started f.started r.number ≡ Some r) (λ r. is_ended f r ≡ true) (λ r. (u : Started) × (find_started f.started r.number ≡ Some u) × (is_ended f u ≡ true))
    (λ r a b. (r, a, b)) (filter (is_ended f) f.started)
    (all-filter (λ r. find_started f.started r.number ≡ Some r) (is_ended f) f.started (found-self f.started h.right.rising))
    (filter-passes (is_ended f) f.started)))

pub commit-step : (f : Forest) (t : ℕ) → IsSound f → first_ended f ≡ Some t → IsDrainStep f (after_commit f (commit f t))
commit-step f t h e =
    let u : (u : Started) × (find_started f.started t ≡ Some u) × (is_ended f u ≡ true) = ended-found f t h e in
    let same : u.0.number ≡ t = found-number f.started t u.0 u.1 in
    let found : find_started f.started u.0.number ≡ Some u.0 = subst (λ n. find_started f.started n ≡ Some u.0) (sym same) u.1 in
    let live : is_live f.journal u.0.number ≡ true = all-found (λ r. is_live f.journal r.number ≡ true) (λ r. r.number == t) f.started u.0 u.1 h.right.live in
    let live_t : is_live f.journal t ≡ true = ap (is_live f.journal) (sym same) ∙ live in
    let is : after_commit f (commit f t) ≡ committed f u.0 = rw (live_t, u.1, u.2) refl in
    subst (IsDrainStep f) (sym is)
    (record {
      sound = committed-sound f h u.0 found;
      lower = commit-lower f h u.0 found live;
      lanes = (started-keeps (others_cut f u.0) (laid f u.0) (next_to_start (laid f u.0))).1;
      home = committed-home f u.0;
    })

pub row-step : (f : Forest) (row : Row) → IsSound f → pick f ≡ Some row → IsDrainStep f (step_row f row)
row-step f row h e =
    let one : IsPickStep f (step_row f row) = pick-step f row h e in
    let same : most_work (step_row f row) ≡ most_work f = most_work-same f (step_row f row) one.alike.k one.alike.lanes (ap (λ j. longest j (numbers j)) one.alike.journal) in
    let live : length (live_numbers (step_row f row).journal) ≡ length (live_numbers f.journal) = ap (λ j. length (live_numbers j)) one.alike.journal in
    record {
      sound = one.sound;
      lower = rw (same, live) (omega (arith, one.lower));
      lanes = one.alike.lanes;
      home = one.home;
    }

-- A whole drain.

-- no optimistic shadow has ended, and there is no pick
abbrev pub HasNothing : Forest → Type 0
HasNothing f = (first_ended f ≡ None) × (pick f ≡ None)

pub record IsDrainOf (f : Forest) (n : ℕ) (x : ℕ × Forest) : Type 0 where
  pub sound : IsSound x.1
  pub home : IsHome f → IsHome x.1
  pub lanes : x.1.lanes ≡ f.lanes
  pub ends : left f ≤ n → HasNothing x.1

-- what a drain does after one step of it
drain-after : (f g : Forest) (n : ℕ) (x y : ℕ × Forest) → IsDrainStep f g → IsDrainOf g n x → x.1 ≡ y.1 → IsDrainOf f (suc n) y
drain-after f g n x y one rest same =
    let ends : left f ≤ suc n → HasNothing x.1 = λ le. rest.ends (omega (arith, one.lower)) in
    record {
      sound = subst IsSound same rest.sound;
      home = λ q. subst IsHome same (rest.home (one.home q));
      lanes = ap (λ f. f.lanes) (sym same) ∙ rest.lanes ∙ one.lanes;
      ends = λ le. subst HasNothing same (ends le);
    }

drain-of : (f : Forest) (n : ℕ) (o : Option ℕ) (p : Option Row) (more : Forest → ℕ × Forest) → first_ended f ≡ o → pick f ≡ p → IsSound f
    → ((g : Forest) → IsSound g → IsDrainOf g n (more g)) → IsDrainOf f (suc n) (drain_from (drain_by f o p).0 (drain_by f o p).1 more)
drain-of f n (Some t) p more e q h each =
    let one : IsDrainStep f (after_commit f (commit f t)) = commit-step f t h e in
    drain-after f (after_commit f (commit f t)) n (more (after_commit f (commit f t))) (more (after_commit f (commit f t))) one (each (after_commit f (commit f t)) one.sound) refl
drain-of f n None (Some row) more e q h each =
    let one : IsDrainStep f (step_row f row) = row-step f row h q in
    drain-after f (step_row f row) n (more (step_row f row)) (counted (more (step_row f row))) one (each (step_row f row) one.sound) refl
drain-of f n None None more e q h each = record { sound = h; home = λ k. k; lanes = refl; ends = λ le. (e, q) }

nothing_left : (f : Forest) (o : Option ℕ) (p : Option Row) → first_ended f ≡ o → pick f ≡ p → IsSound f → left f ≤ 0 → HasNothing f
nothing_left f (Some t) p e q h le = absurd (omega (arith, (commit-step f t h e).lower))
nothing_left f None (Some row) e q h le = absurd (omega (arith, (row-step f row h q).lower))
nothing_left f None None e q h le = (e, q)

pub drain_within-is : (n : ℕ) (f : Forest) → IsSound f → IsDrainOf f n (drain_within n f)
drain_within-is zero f h = record { sound = h; home = λ q. q; lanes = refl; ends = nothing_left f (first_ended f) (pick f) refl refl h }
drain_within-is (suc n) f h = drain-of f n (first_ended f) (pick f) (drain_within n) refl refl h (drain_within-is n)

-- Nobody is left.

none_started : (f : Forest) → IsSound f → IsHome f → HasNothing f → f.started ≡ []
none_started f h home nothing =
    let idle : IsIdle f = idle-without_pick f h home nothing.1 in
    let none : AllByRecursion (λ r. is_ended f r ≡ false) f.started =
    filter-none (is_ended f) f.started (unmapped (filter (is_ended f) f.started) (none-first (is_prior f.journal) (map number (filter (is_ended f) f.started)) nothing.0))
    in
    empty f.started
    (all-both (λ r. is_ended f r ≡ false) (λ r. (r.out ≡ false) × (r.position ≡ length_of f r)) (λ r. ⊥)
    (λ r a b. true≢false (sym (at_end r b.1) ∙ a)) f.started none idle.ended)
  where
    unmapped : (xs : List Started) → map number xs ≡ [] → xs ≡ []
    unmapped [] e = refl
    unmapped (x ∷ xs) e = cc

    empty : (xs : List Started) → AllByRecursion (λ r. ⊥) xs → xs ≡ []
    empty [] all = refl
    empty (x ∷ xs) all = absurd all.0

    at_end : (r : Started) → r.position ≡ length_of f r → is_ended f r ≡ true
    at_end r e =
        either (cases_Bool (ltb r.position (length_of f r)))
        (λ lt. let less : r.position < length_of f r = ltb-true _ _ lt in absurd (omega arith))
        (λ ge. rw ge refl)

-- after a drain nobody is live
pub drain-empty : (f : Forest) (t : ℕ) → IsSound f → 1 ≤ f.lanes → is_live (drain f).1.journal t ≡ false
drain-empty f t h lane =
    let d : IsDrainOf (recall f) (left (recall f)) (drain f) = drain_within-is (left (recall f)) (recall f) (recall-sound f h) in
    let none : (drain f).1.started ≡ [] = none_started (drain f).1 d.sound (d.home (recall-home f)) (d.ends (omega arith)) in
    either (cases_Bool (is_live (drain f).1.journal t))
    (λ live.
    let idle : is_started (drain f).1.started t ≡ false = ap (λ xs. is_started xs t) none in
    let full : length (drain f).1.started ≡ (drain f).1.lanes = d.sound.right.full t live idle in
    let lanes : (drain f).1.lanes ≡ f.lanes = d.lanes in
    let empty : length (drain f).1.started ≡ 0 = ap length none in
    absurd (omega arith))
    (λ dead. dead)

-- A drain is what it is whatever the bound, if that is enough.

still : (n : ℕ) (f : Forest) → HasNothing f → drain_within n f ≡ (0, f)
still zero f h = refl
still (suc n) f h = rw (h.0, h.1) refl

-- two drains of f go on in the same way, where those of all later forests do
on_same : (f : Forest) (a b : Forest → ℕ × Forest) (o : Option ℕ) (p : Option Row) → first_ended f ≡ o → pick f ≡ p → IsSound f
    → ((g : Forest) → IsDrainStep f g → a g ≡ b g) → drain_from (drain_by f o p).0 (drain_by f o p).1 a ≡ drain_from (drain_by f o p).0 (drain_by f o p).1 b
on_same f a b (Some t) p e q h each = each (after_commit f (commit f t)) (commit-step f t h e)
on_same f a b None (Some row) e q h each = ap counted (each (step_row f row) (row-step f row h q))
on_same f a b None None e q h each = refl

pub drain-same : (n m : ℕ) (f : Forest) → IsSound f → left f ≤ n → left f ≤ m → drain_within n f ≡ drain_within m f
drain-same zero m f h le le' = sym (still m f (nothing_left f (first_ended f) (pick f) refl refl h le))
drain-same (suc n) zero f h le le' = still (suc n) f (nothing_left f (first_ended f) (pick f) refl refl h le')
drain-same (suc n) (suc m) f h le le' =
    on_same f (drain_within n) (drain_within m) (first_ended f) (pick f) refl refl h
    (λ g one. drain-same n m g one.sound (omega (arith, one.lower)) (omega (arith, one.lower)))

-- a drain is one step of it, and then the drain of what is left
pub drain-unrolled : (f : Forest) → IsSound f → drain_rest f ≡ drain_from (drain_step f).0 (drain_step f).1 drain_rest
drain-unrolled f h =
    drain-same (left f) (suc (left f)) f h (omega arith) (omega arith)
    ∙ on_same f (drain_within (left f)) drain_rest (first_ended f) (pick f) refl refl h
    (λ g one. drain-same (left f) (left g) g one.sound (omega (arith, one.lower)) (omega arith))
