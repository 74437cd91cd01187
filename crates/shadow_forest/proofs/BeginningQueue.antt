-- Those that wait, where one more begins.
use Rattle.std.proofs.Common.{◌≡◌, ◌≢◌, ℕ, ◌+◌, ◌≤◌, Bool, true, false, not, ◌&&◌, cond, List, [], ◌∷◌, ◌++◌, length, filter, refl, ap, sym, subst, ◌∙◌, arith, append-nil, eq-eqb, true≢false}
use Rattle.std.specs.List.{AllByRecursion}
use Rattle.std.proofs.lemmas.Bool.{cases_eq, or_right, ne_eqb}
use Rattle.std.proofs.lemmas.List.Elements.{filter_agree, filter_map-append, filter-append}
use Rattle.std.proofs.lemmas.List.Recursion.{is_count_by}
use Rattle.txn_runs.specs.declared.program.Program.{Program}
use Rattle.journal_core.specs.declared.entry.Entry.{Entry}
use Rattle.journal_core.specs.declared.entry.Entry.TheVariants.{Began, Sealed, Committed, Withdrawn}
use Rattle.journal_core.specs.Journal.{began, has_begun, has_ended, is_begin, is_live}
use Rattle.journal_core.proofs.Legal.{Counts, next_new, live-other, live-begun}
use Rattle.forest_model.specs.Forest.{Forest, is_started}
use Rattle.forest_model.specs.Start.{fresh, start, waits, numbers, number_in}
use Rattle.forest_model.specs.Events.{with_entry}
use Rattle.forest_model.proofs.Lists.{either, all-weaken}
use Rattle.forest_model.proofs.StartedLaws.{is_started-put, length-filter-le}

-- as many numbers as began
pub numbers_many : (journal : List Entry) → length (numbers journal) ≡ began journal
numbers_many journal = is_count_by (λ es. length (numbers es)) is_begin refl one_more journal
  where
    one_more : (e : Entry) (es : List Entry) → length (numbers (e ∷ es)) ≡ cond (is_begin e) (1 + length (numbers es)) (length (numbers es))
    one_more (Began n deadline program) es = omega arith
    one_more Sealed es = refl
    one_more (Committed n reply) es = refl
    one_more (Withdrawn n) es = refl

-- no more wait than began
pub few_wait : (test : ℕ → Bool) (journal : List Entry) → length (filter test (numbers journal)) ≤ began journal
few_wait test journal = subst (λ n. length (filter test (numbers journal)) ≤ n) (numbers_many journal) (length-filter-le test (numbers journal))

numbers_begun : (journal : List Entry) → AllByRecursion (λ t. has_begun journal t ≡ true) (numbers journal)
numbers_begun [] = tt
numbers_begun (Began n deadline program ∷ journal) = (
  rw (eq-eqb n n refl) refl,
  all-weaken (λ t. has_begun journal t ≡ true) (λ t. has_begun (Began n deadline program ∷ journal) t ≡ true) (λ t h. or_right _ _ h) (numbers journal) (numbers_begun journal),
)
numbers_begun (Sealed ∷ journal) = numbers_begun journal
numbers_begun (Committed n reply ∷ journal) = numbers_begun journal
numbers_begun (Withdrawn n ∷ journal) = numbers_begun journal

-- tests that agree on the elements keep the same of them
pub filter_same : {X : Type 0} (p q : X → Bool) (xs : List X) → AllByRecursion (λ x. p x ≡ q x) xs → filter p xs ≡ filter q xs
filter_same p q [] h = refl
filter_same p q (x ∷ xs) h = rw (h.0, filter_same p q xs h.1) refl

module _ (f : Forest) (deadline : ℕ) (program : Program) (c : Counts f.journal) (new : is_started f.started (began f.journal + 1) ≡ false) where
  abbrev n : ℕ
  n = began f.journal + 1

  abbrev e : Entry
  e = Began (began f.journal + 1) deadline program

  numbers_more : numbers (f.journal ++ e ∷ []) ≡ numbers f.journal ++ n ∷ []
  numbers_more = filter_map-append number_in f.journal (e ∷ [])

  not_live : is_live f.journal n ≡ false
  not_live = ap (λ b. b && not (has_ended f.journal n)) (next_new f.journal n c refl)

  live_old : (t : ℕ) → n ≢ t → is_live (f.journal ++ e ∷ []) t ≡ is_live f.journal t
  live_old t ne = live-other f.journal e t (ne_eqb n t ne) refl

  -- one that does not start waits behind the others
  pub waits_last : filter (waits (with_entry e f)) (numbers (f.journal ++ e ∷ [])) ≡ filter (waits f) (numbers f.journal) ++ n ∷ []
  waits_last =
      let here : waits (with_entry e f) n ≡ true = rw (live-begun f.journal n deadline program c refl, new) refl in
      let last : filter (waits (with_entry e f)) (n ∷ []) ≡ n ∷ [] = rw here refl in
      let old : filter (waits (with_entry e f)) (numbers f.journal) ≡ filter (waits f) (numbers f.journal) =
      filter_same (waits (with_entry e f)) (waits f) (numbers f.journal)
      (all-weaken (λ t. has_begun f.journal t ≡ true) (λ t. waits (with_entry e f) t ≡ waits f t)
      (λ t b. ap (λ l. l && not (is_started f.started t)) (live_old t (λ same. true≢false (sym b ∙ ap (has_begun f.journal) (sym same) ∙ next_new f.journal n c refl))))
      (numbers f.journal) (numbers_begun f.journal))
      in
      ap (filter (waits (with_entry e f))) numbers_more ∙ filter-append (waits (with_entry e f)) (numbers f.journal) (n ∷ []) ∙ rw (old, last) refl

  -- where it starts the same wait as before
  pub waits_same : filter (waits (start n (with_entry e f))) (numbers (f.journal ++ e ∷ [])) ≡ filter (waits f) (numbers f.journal)
  waits_same =
      let g : Forest = start n (with_entry e f) in
      let started : is_started g.started n ≡ true = is_started-put (fresh n) f.started n ∙ rw (eq-eqb n n refl) refl in
      let off : waits g n ≡ false = rw started (and_not (is_live (f.journal ++ e ∷ []) n)) in
      let agree : (t : ℕ) → waits g t ≡ waits f t = λ t. either (cases_eq n t)
      (λ same. ap (waits g) (sym same) ∙ off ∙ sym (ap (λ l. l && not (is_started f.started n)) not_live) ∙ ap (waits f) same)
      (λ ne. let other : is_started g.started t ≡ is_started f.started t = is_started-put (fresh n) f.started t ∙ rw (ne_eqb n t ne) refl in rw (live_old t ne, other) refl)
      in
      let last : filter (waits g) (n ∷ []) ≡ [] = rw off refl in
      ap (filter (waits g)) numbers_more ∙ filter-append (waits g) (numbers f.journal) (n ∷ []) ∙ rw last (append-nil (filter (waits g) (numbers f.journal))) ∙ filter_agree (waits g) (waits f) agree (numbers f.journal)
    where
      and_not : (b : Bool) → (b && false) ≡ false
      and_not true = refl
      and_not false = refl
