-- How one more entry changes the standing of transactions.
use Rattle.std.proofs.Common.{◌≡◌, ◌≢◌, ℕ, suc, ◌+◌, ◌-◌, ◌≤◌, ◌<◌, ◌==◌, Bool, true, false, ◌||◌, List, [], ◌∷◌, ◌++◌, length, Option, Some, None, refl, sym, ap, ◌∙◌, subst, arith, get_or, eq-eqb, length-append, append-nil, ◌↔◌}
use Rattle.std.specs.Prelude.{slice_get, option_and_then, option_copied}
use Rattle.std.specs.Borrow.{Bor}
use Rattle.std.specs.List.{cons_option, filter_map, AllByRecursion}
use Rattle.std.proofs.Math.ListN.{set}
use Rattle.std.proofs.Math.Seq.{get_or-append_seam}
use Rattle.std.proofs.lemmas.Option.{slice_get-get_or}
use Rattle.std.specs.Prelude.{◌^◌}
use Rattle.std.proofs.lemmas.Bool.{cases_Bool, cases_lt, ne_eqb}
use Rattle.std.proofs.lemmas.Bool.Decides.{eqb_tells}
use Rattle.std.proofs.lemmas.List.{get_or-set_same, get_or-set_other, get_or_append_left, get_or_default, length-set}
use Rattle.std.proofs.lemmas.List.Folds.{list_any-append}
use Rattle.txn_runs.specs.Run.{Tables}
use Rattle.txn_runs.specs.declared.outcome.Outcome.{Outcome}
use Rattle.journal_core.specs.Journal.{is_begin_of, is_end_of, is_commit_of, is_withdrawal_of, has_begun, has_ended, is_live, is_withdrawn, committed_in, committed_of, reply_in, commit_in, is_seal, is_sealed, began, commits, Continues, IsLegal}
use Rattle.journal_core.specs.Lives.{was_withdrawn, outcome_at, IsPlaced, IsLife, IsUnbegun, AreLives, IsKept}
use Rattle.journal_core.specs.declared.life.Life.{Life}
use Rattle.journal_core.specs.declared.life.Life.TheVariants as life
use Rattle.journal_core.specs.declared.entry.Entry.{Entry}
use Rattle.journal_core.specs.declared.entry.Entry.TheVariants.{Began, Sealed, Committed, Withdrawn}
use Rattle.journal_core.proofs.Lists.{either}
use Rattle.journal_core.proofs.Legal.{Counts, counts, live-other, live-ended, live-begun, next_new, begun-live, legal-push, began-push, is_sealed-push, commits-push}

pub is_withdrawn-push : (journal : List Entry) (e : Entry) (t : ℕ) → is_withdrawn (journal ++ e ∷ []) t ≡ (is_withdrawn journal t || is_withdrawal_of t e)
is_withdrawn-push journal e t = rw list_any-append (grind arith)

committed_in-other : (e : Entry) (t : ℕ) (o : Option Outcome) → is_commit_of t e ≡ false → committed_in t e o ≡ o
committed_in-other (Began txn deadline program) t o h = refl
committed_in-other Sealed t o h = refl
committed_in-other (Committed txn outcome) t o h = rw h refl
committed_in-other (Withdrawn txn) t o h = refl

pub committed-other : (journal : List Entry) (e : Entry) (t : ℕ) → is_commit_of t e ≡ false → committed_of (journal ++ e ∷ []) t ≡ committed_of journal t
committed-other [] e t h = committed_in-other e t None h
committed-other (x ∷ journal) e t h = ap (committed_in t x) (committed-other journal e t h)

-- an entry that gives no outcome commits no t
silent : (x : Entry) (t : ℕ) (o : Option Outcome) → committed_in t x o ≡ None → (is_commit_of t x ≡ false) × (o ≡ None)
silent (Began txn deadline program) t o h = (refl, h)
silent Sealed t o h = (refl, h)
silent (Committed txn outcome) t o h =
    either (cases_Bool (txn == t))
    (λ here. let no : Some outcome ≡ None = rw here at h in cc)
    (λ other. (other, rw other at h))
silent (Withdrawn txn) t o h = (refl, h)

-- it was committed nowhere exactly where no entry commits it
pub uncommitted : (journal : List Entry) (t : ℕ) → (committed_of journal t ≡ None) ↔ AllByRecursion (λ (e : Entry). is_commit_of t e ≡ false) journal
uncommitted [] t = ((λ h. tt), λ h. refl)
uncommitted (x ∷ journal) t =
    let later = uncommitted journal t in (
      (λ h. let parts = silent x t (committed_of journal t) h in (parts.0, later.0 parts.1)),
      λ h. committed_in-other x t (committed_of journal t) h.0 ∙ later.1 h.1,
    )

-- so an answer that tells the outcome is none exactly there
pub none-uncommitted : (answer : Option (Bor Outcome)) (journal : List Entry) (t : ℕ) → option_copied answer ≡ committed_of journal t
    → (answer ≡ None) ↔ AllByRecursion (λ (e : Entry). is_commit_of t e ≡ false) journal
none-uncommitted None journal t h = ((λ e. (uncommitted journal t).0 (sym h)), λ all. refl)
none-uncommitted (Some outcome) journal t h = (
  (λ e. cc),
  λ all. let no : Some outcome.now ≡ None = h ∙ (uncommitted journal t).1 all in cc,
)

pub committed-new : (journal : List Entry) (t : ℕ) (outcome : Outcome) → committed_of journal t ≡ None → committed_of (journal ++ Committed t outcome ∷ []) t ≡ Some outcome
committed-new [] t outcome h = rw (eq-eqb t t refl) refl
committed-new (x ∷ journal) t outcome h =
    let parts = silent x t (committed_of journal t) h in
    committed_in-other x t _ parts.0 ∙ committed-new journal t outcome parts.1

slice_get-left : (xs : List Entry) (y : Entry) (i : ℕ) → i < length xs → slice_get (xs ++ y ∷ []) i ≡ slice_get xs i
slice_get-left xs y i h =
    let long : i < length (xs ++ y ∷ []) = omega (arith, h, length-append xs (y ∷ [])) in
    slice_get-get_or (xs ++ y ∷ []) i y long ∙ (ap Some (get_or_append_left xs (y ∷ []) y i h) ∙ sym (slice_get-get_or xs i y h))

slice_get-seam : (xs : List Entry) (y : Entry) → slice_get (xs ++ y ∷ []) (length xs) ≡ Some y
slice_get-seam xs y =
    let long : length xs < length (xs ++ y ∷ []) = omega (arith, length-append xs (y ∷ [])) in
    slice_get-get_or (xs ++ y ∷ []) (length xs) y long ∙ ap Some (get_or-append_seam xs y [] y)

placed-more : (journal : List Entry) (e : Entry) (l : Life) → IsPlaced journal l → IsPlaced (journal ++ e ∷ []) l
placed-more journal e life.Live h = tt
placed-more journal e (life.Committed place) h = omega (arith, h, length-append journal (e ∷ []))
placed-more journal e life.Withdrawn h = tt

outcome-more : (journal : List Entry) (e : Entry) (l : Life) → IsPlaced journal l → outcome_at (journal ++ e ∷ []) l ≡ outcome_at journal l
outcome-more journal e life.Live h = refl
outcome-more journal e (life.Committed place) h = ap (option_and_then reply_in) (slice_get-left journal e place h)
outcome-more journal e life.Withdrawn h = refl

-- an entry that neither begins nor ends t
no_end : (e : Entry) (t : ℕ) → is_end_of t e ≡ false → (is_commit_of t e ≡ false) × (is_withdrawal_of t e ≡ false)
no_end (Began txn deadline program) t h = (refl, refl)
no_end Sealed t h = (refl, refl)
no_end (Committed txn outcome) t h = (h, refl)
no_end (Withdrawn txn) t h = (refl, h)

life-other : (journal : List Entry) (e : Entry) (t : ℕ) (l : Life) → is_begin_of t e ≡ false → is_end_of t e ≡ false → IsLife journal t l → IsLife (journal ++ e ∷ []) t l
life-other journal e t l b d h = record {
  live = live-other journal e t b d ∙ h.live;
  withdrawn = is_withdrawn-push journal e t ∙ (rw (no_end e t d).1 (grind (arith, h.withdrawn)));
  outcome = committed-other journal e t (no_end e t d).0 ∙ (h.outcome ∙ sym (outcome-more journal e l h.placed));
  placed = placed-more journal e l h.placed;
}

-- a live transaction stands as live
stands_live : (journal : List Entry) (t : ℕ) (l : Life) → is_live journal t ≡ true → IsLife journal t l → l ≡ life.Live
stands_live journal t life.Live live h = refl
stands_live journal t (life.Committed place) live h = let e = h.live in cc
stands_live journal t life.Withdrawn live h = let e = h.live in cc

-- what holds of a live one
was_live : (journal : List Entry) (t : ℕ) (l : Life) → is_live journal t ≡ true → IsLife journal t l → (is_withdrawn journal t ≡ false) × (committed_of journal t ≡ None)
was_live journal t l live h =
    let same = stands_live journal t l live h in
    (h.withdrawn ∙ ap was_withdrawn same, h.outcome ∙ ap (outcome_at journal) same)

life-committed : (journal : List Entry) (t : ℕ) (outcome : Outcome) (l : Life) → is_live journal t ≡ true → IsLife journal t l → IsLife (journal ++ Committed t outcome ∷ []) t (life.Committed (length journal))
life-committed journal t outcome l live h =
    let was = was_live journal t l live h in
    record {
      live = live-ended journal (Committed t outcome) t (eq-eqb t t refl);
      withdrawn = is_withdrawn-push journal (Committed t outcome) t ∙ rw was.0 refl;
      outcome = committed-new journal t outcome was.1 ∙ sym (ap (option_and_then reply_in) (slice_get-seam journal (Committed t outcome)));
      placed = omega (arith, length-append journal (Committed t outcome ∷ []));
    }

life-withdrawn : (journal : List Entry) (t : ℕ) (l : Life) → is_live journal t ≡ true → IsLife journal t l → IsLife (journal ++ Withdrawn t ∷ []) t life.Withdrawn
life-withdrawn journal t l live h =
    let was = was_live journal t l live h in
    record {
      live = live-ended journal (Withdrawn t) t (eq-eqb t t refl);
      withdrawn = is_withdrawn-push journal (Withdrawn t) t ∙ rw (was.0, eq-eqb t t refl) refl;
      outcome = committed-other journal (Withdrawn t) t refl ∙ was.1;
      placed = tt;
    }

or_false : (a b : Bool) → (a || b) ≡ false → (a ≡ false) × (b ≡ false)
or_false true b h = cc
or_false false b h = (refl, h)

-- what has not ended was neither withdrawn nor committed
pub unended : (journal : List Entry) (t : ℕ) → has_ended journal t ≡ false → (is_withdrawn journal t ≡ false) × (committed_of journal t ≡ None)
unended [] t h = (refl, refl)
unended (x ∷ journal) t h =
    let parts = or_false (is_end_of t x) (has_ended journal t) h in
    let here = no_end x t parts.0 in
    let later = unended journal t parts.1 in
    (rw (here.1, later.0) refl, committed_in-other x t (committed_of journal t) here.0 ∙ later.1)

-- a number past those that began, or 0, has not begun
pub no_such : (journal : List Entry) (t : ℕ) → Counts journal → (1 ≤ t → t ≤ began journal → ⊥) → has_begun journal t ≡ false
no_such journal t c out =
    either (cases_Bool (has_begun journal t))
    (λ old. absurd (out (c.positive t old) (c.bounded t old)))
    (λ new. new)

-- what has not begun was neither withdrawn nor committed
pub unbegun : (journal : List Entry) (t : ℕ) → Counts journal → has_begun journal t ≡ false → IsUnbegun journal t
unbegun journal t c new =
    either (cases_Bool (has_ended journal t))
    (λ old. let begun = c.ended t old in cc)
    (λ not_ended. let rest = unended journal t not_ended in record { live = rw new refl; withdrawn = rest.0; outcome = rest.1 })

-- the life that stands at a place
pub life_here : (journal : List Entry) (stand : List Life) (t i : ℕ) (l : Life) → AreLives journal stand → t ≡ i + 1 → i < length stand → l ≡ get_or stand i l → IsLife journal t l
life_here journal stand t i l each is h e =
    let same : l ≡ get_or stand i life.Live = e ∙ get_or_default stand i l life.Live h in
    let at = each i h in
    subst (λ n. IsLife journal n l) (sym is) (subst (IsLife journal (i + 1)) (sym same) at)

life-begun : (journal : List Entry) (t deadline : ℕ) (program : _) → Counts journal → t ≡ began journal + 1 → IsLife (journal ++ Began t deadline program ∷ []) t life.Live
life-begun journal t deadline program c is =
    let rest = unbegun journal t c (next_new journal t c is) in
    record {
      live = live-begun journal t deadline program c is;
      withdrawn = is_withdrawn-push journal (Began t deadline program) t ∙ rw rest.withdrawn refl;
      outcome = committed-other journal (Began t deadline program) t refl ∙ rest.outcome;
      placed = tt;
    }

lives-begun : (journal : List Entry) (stand : List Life) (t deadline : ℕ) (program : _) → Counts journal → t ≡ began journal + 1 → length stand ≡ began journal → AreLives journal stand
    → AreLives (journal ++ Began t deadline program ∷ []) (stand ++ life.Live ∷ [])
lives-begun journal stand t deadline program c is many each = λ k h.
    either (cases_lt k (length stand))
    (λ old. let other : t ≢ k + 1 = omega arith in
    let l = get_or stand k life.Live in
    subst (IsLife (journal ++ Began t deadline program ∷ []) (k + 1)) (sym (get_or_append_left stand (life.Live ∷ []) life.Live k old))
    (life-other journal (Began t deadline program) (k + 1) (get_or stand k life.Live) (ne_eqb t (k + 1) other) refl (each k old)))
    (λ new. let here : k ≡ length stand = omega (arith, length-append stand (life.Live ∷ [])) in
    let same : t ≡ k + 1 = omega arith in
    let seam : get_or (stand ++ life.Live ∷ []) k life.Live ≡ life.Live = rw here (get_or-append_seam stand life.Live [] life.Live) in
    subst (IsLife (journal ++ Began t deadline program ∷ []) (k + 1)) (sym seam)
    (subst (λ n. IsLife (journal ++ Began t deadline program ∷ []) n life.Live) same (life-begun journal t deadline program c is)))

lives-sealed : (journal : List Entry) (stand : List Life) → AreLives journal stand → AreLives (journal ++ Sealed ∷ []) stand
lives-sealed journal stand each = λ k h. life-other journal Sealed (k + 1) (get_or stand k life.Live) refl refl (each k h)

-- an entry that ends t changes the life of t alone
lives-ended : (journal : List Entry) (stand : List Life) (e : Entry) (t i : ℕ) (l : Life) → t ≡ i + 1 → i < length stand
    → ((n : ℕ) → is_begin_of n e ≡ false) → ((n : ℕ) → t ≢ n → is_end_of n e ≡ false) → IsLife (journal ++ e ∷ []) t l
    → AreLives journal stand → AreLives (journal ++ e ∷ []) (set stand i l)
lives-ended journal stand e t i l is h none other here each = λ k at.
    either (eqb_tells k i)
    (λ same. let place : i ≡ k = sym same.1 in
    let found : get_or (set stand i l) k life.Live ≡ l = rw (← place) (get_or-set_same stand i l life.Live h) in
    let number : t ≡ k + 1 = omega arith in
    subst (IsLife (journal ++ e ∷ []) (k + 1)) (sym found) (subst (λ n. IsLife (journal ++ e ∷ []) n l) number here))
    (λ differs. let ne : k ≢ i = differs.1 in
    let number : t ≢ k + 1 = omega arith in
    let long : k < length stand = omega (arith, length-set stand i l) in
    subst (IsLife (journal ++ e ∷ []) (k + 1)) (sym (get_or-set_other stand i k l life.Live ne))
    (life-other journal e (k + 1) (get_or stand k life.Live) (none (k + 1)) (other (k + 1) number) (each k long)))

-- the place of a live transaction
pub place_within : (opening : Tables) (journal : List Entry) (stand : List Life) (t : ℕ) → IsLegal opening journal → length stand ≡ began journal → is_live journal t ≡ true → (1 ≤ t) × (t - 1 < length stand)
place_within opening journal stand t legal many live =
    let c = counts opening journal legal in
    let low = c.positive t (begun-live journal t live) in
    let high = c.bounded t (begun-live journal t live) in
    (low, omega arith)

length_filter_map : {X Y : Type 0} (f : X → Option Y) (xs : List X) → length (filter_map f xs) ≤ length xs
length_filter_map f [] = omega arith
length_filter_map f (x ∷ xs) = option_short (f x) f xs (length_filter_map f xs)
  where
    option_short : {X Y : Type 0} (o : Option Y) (f : X → Option Y) (xs : List X) → length (filter_map f xs) ≤ length xs → length (cons_option o (filter_map f xs)) ≤ suc (length xs)
    option_short None f xs h = omega arith
    option_short (Some y) f xs h = omega arith

or_nothing : (a : Bool) → (a || false) ≡ a
or_nothing true = refl
or_nothing false = refl

or_all : (a : Bool) → (a || true) ≡ true
or_all true = refl
or_all false = refl

still_open : (journal : List Entry) (e : Entry) (b : Bool) → is_seal e ≡ false → b ≡ is_sealed journal → b ≡ is_sealed (journal ++ e ∷ [])
still_open journal e b none h = h ∙ sym (is_sealed-push journal e ∙ (ap (λ x. is_sealed journal || x) none ∙ or_nothing (is_sealed journal)))

no_commit : (journal : List Entry) (e : Entry) (n : ℕ) → commit_in e ≡ None → n ≡ length (commits journal) → n ≡ length (commits (journal ++ e ∷ []))
no_commit journal e n none h =
    let same : commits (journal ++ e ∷ []) ≡ commits journal = commits-push journal e ∙ rw none (append-nil (commits journal)) in
    h ∙ sym (ap length same)

one_commit : (journal : List Entry) (t : ℕ) (outcome : Outcome) (n : ℕ) → n ≡ length (commits journal) → n + 1 ≡ length (commits (journal ++ Committed t outcome ∷ []))
one_commit journal t outcome n h =
    let same : length (commits (journal ++ Committed t outcome ∷ [])) ≡ length (commits journal) + 1 = ap length (commits-push journal (Committed t outcome)) ∙ length-append (commits journal) (t ∷ []) in
    omega arith

module _ (opening : Tables) (entries : List Entry) (stand : List Life) (committed : ℕ) (closed : Bool) (spare ec lc : ℕ) (h : IsKept opening entries stand committed closed spare ec lc) (room : 0 < spare) where
  pub end_place : (t : ℕ) → is_live entries t ≡ true → (1 ≤ t) × (t - 1 < length stand)
  end_place t live = place_within opening entries stand t h.legal h.many live

  pub few_commits : committed + 1 < 2 ^ 32
  few_commits = omega (arith, h.commits, h.few, length_filter_map commit_in entries)

  pub kept-began : (t deadline : ℕ) (program : _) → Continues opening entries (Began t deadline program)
      → IsKept opening (entries ++ Began t deadline program ∷ []) (stand ++ life.Live ∷ []) committed closed (spare - 1) ec lc
  kept-began t deadline program k = record {
    legal = legal-push opening entries (Began t deadline program) h.legal k;
    many = omega (arith, h.many, length-append stand (life.Live ∷ []), began-push entries (Began t deadline program));
    each = lives-begun entries stand t deadline program (counts opening entries h.legal) k.0 h.many h.each;
    commits = no_commit entries (Began t deadline program) committed refl h.commits;
    sealed = still_open entries (Began t deadline program) closed refl h.sealed;
    few = omega (arith, h.few, length-append entries (Began t deadline program ∷ []));
    entry_room = omega (arith, h.entry_room, length-append entries (Began t deadline program ∷ []));
    life_room = omega (arith, h.life_room, length-append stand (life.Live ∷ []));
  }

  pub kept-sealed : Continues opening entries Sealed → IsKept opening (entries ++ Sealed ∷ []) stand committed true (spare - 1) ec lc
  kept-sealed k = record {
    legal = legal-push opening entries Sealed h.legal k;
    many = h.many ∙ sym (began-push entries Sealed ∙ omega arith);
    each = lives-sealed entries stand h.each;
    commits = no_commit entries Sealed committed refl h.commits;
    sealed = sym (is_sealed-push entries Sealed ∙ or_all (is_sealed entries));
    few = omega (arith, h.few, length-append entries (Sealed ∷ []));
    entry_room = omega (arith, h.entry_room, length-append entries (Sealed ∷ []));
    life_room = omega (arith, h.life_room);
  }

  pub kept-committed : (t : ℕ) (outcome : Outcome) → Continues opening entries (Committed t outcome)
      → IsKept opening (entries ++ Committed t outcome ∷ []) (set stand (t - 1) (life.Committed (length entries))) (committed + 1) closed (spare - 1) ec lc
  kept-committed t outcome k =
      let at = place_within opening entries stand t h.legal h.many k.0 in
      let is : t ≡ (t - 1) + 1 = omega (arith, at.0) in
      let old = get_or stand (t - 1) life.Live in
      let was = subst (λ n. IsLife entries n old) (sym is) (h.each (t - 1) at.1) in
      record {
        legal = legal-push opening entries (Committed t outcome) h.legal k;
        many = length-set stand (t - 1) (life.Committed (length entries)) ∙ (h.many ∙ sym (began-push entries (Committed t outcome) ∙ omega arith));
        each = lives-ended entries stand (Committed t outcome) t (t - 1) (life.Committed (length entries)) is at.1 (λ n. refl) (λ n ne. ne_eqb t n ne) (life-committed entries t outcome old k.0 was) h.each;
        commits = one_commit entries t outcome committed h.commits;
        sealed = still_open entries (Committed t outcome) closed refl h.sealed;
        few = omega (arith, h.few, length-append entries (Committed t outcome ∷ []));
        entry_room = omega (arith, h.entry_room, length-append entries (Committed t outcome ∷ []));
        life_room = omega (arith, h.life_room, length-set stand (t - 1) (life.Committed (length entries)));
      }

  pub kept-withdrawn : (t : ℕ) → Continues opening entries (Withdrawn t)
      → IsKept opening (entries ++ Withdrawn t ∷ []) (set stand (t - 1) life.Withdrawn) committed closed (spare - 1) ec lc
  kept-withdrawn t k =
      let at = place_within opening entries stand t h.legal h.many k.0 in
      let is : t ≡ (t - 1) + 1 = omega (arith, at.0) in
      let old = get_or stand (t - 1) life.Live in
      let was = subst (λ n. IsLife entries n old) (sym is) (h.each (t - 1) at.1) in
      record {
        legal = legal-push opening entries (Withdrawn t) h.legal k;
        many = length-set stand (t - 1) life.Withdrawn ∙ (h.many ∙ sym (began-push entries (Withdrawn t) ∙ omega arith));
        each = lives-ended entries stand (Withdrawn t) t (t - 1) life.Withdrawn is at.1 (λ n. refl) (λ n ne. ne_eqb t n ne) (life-withdrawn entries t old k.0 was) h.each;
        commits = no_commit entries (Withdrawn t) committed refl h.commits;
        sealed = still_open entries (Withdrawn t) closed refl h.sealed;
        few = omega (arith, h.few, length-append entries (Withdrawn t ∷ []));
        entry_room = omega (arith, h.entry_room, length-append entries (Withdrawn t ∷ []));
        life_room = omega (arith, h.life_room, length-set stand (t - 1) life.Withdrawn);
      }
