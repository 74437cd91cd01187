-- What one more entry does to a legal journal.
use Rattle.std.proofs.Common.{◌≡◌, ℕ, ◌+◌, ◌≤◌, Bool, true, false, ◌||◌, cond, List, [], ◌∷◌, ◌++◌, map, None, refl, sym, ap, ◌∙◌, subst, arith, append-nil, append_assoc, eqb-true, eq-eqb}
use Rattle.std.specs.List.{AllByRecursion, cons_option}
use Rattle.std.proofs.lemmas.Bool.{cases_Bool, cases_lt, or_cases, or_left, or_right, and_parts}
use Rattle.std.proofs.lemmas.List.{map-append}
use Rattle.std.proofs.lemmas.List.Folds.{list_any-append}
use Rattle.std.proofs.lemmas.List.Elements.{filter_map-append}
use Rattle.std.proofs.lemmas.List.Sums.{sum_by-append}
use Rattle.txn_runs.specs.Run.{Tables}
use Rattle.txn_runs.specs.Serial.{outcome_of, effect_of, over, outcomes, last_tables}
use Rattle.txn_runs.specs.declared.program.Program.{Program}
use Rattle.txn_runs.specs.declared.outcome.Outcome.{Outcome}
use Rattle.journal_core.specs.Journal.{is_begin, is_begin_of, is_end_of, is_seal, began, has_begun, has_ended, is_live, is_sealed, program_in, program_of, commit_in, commits, reply_in, replies, committed_programs, tables_after, Continues, IsLegalFrom, IsLegal}
use Rattle.journal_core.specs.declared.entry.Entry.{Entry}
use Rattle.journal_core.specs.declared.entry.Entry.TheVariants.{Began, Sealed, Committed, Withdrawn}
use Rattle.journal_core.proofs.Lists.{either, all-append, all-weaken, map-agree}

-- One more entry.

pub has_begun-push : (journal : List Entry) (e : Entry) (t : ℕ) → has_begun (journal ++ e ∷ []) t ≡ (has_begun journal t || is_begin_of t e)
has_begun-push journal e t = rw list_any-append (grind arith)

pub has_ended-push : (journal : List Entry) (e : Entry) (t : ℕ) → has_ended (journal ++ e ∷ []) t ≡ (has_ended journal t || is_end_of t e)
has_ended-push journal e t = rw list_any-append (grind arith)

pub is_sealed-push : (journal : List Entry) (e : Entry) → is_sealed (journal ++ e ∷ []) ≡ (is_sealed journal || is_seal e)
is_sealed-push journal e = rw list_any-append (grind arith)

pub began-push : (journal : List Entry) (e : Entry) → began (journal ++ e ∷ []) ≡ began journal + cond (is_begin e) 1 0
began-push journal e = sum_by-append (λ x. cond (is_begin x) 1 0) journal (e ∷ []) ∙ omega arith

pub commits-push : (journal : List Entry) (e : Entry) → commits (journal ++ e ∷ []) ≡ commits journal ++ cons_option (commit_in e) []
commits-push journal e = filter_map-append commit_in journal (e ∷ [])

pub replies-push : (journal : List Entry) (e : Entry) → replies (journal ++ e ∷ []) ≡ replies journal ++ cons_option (reply_in e) []
replies-push journal e = filter_map-append reply_in journal (e ∷ [])

pub begun-live : (journal : List Entry) (t : ℕ) → is_live journal t ≡ true → has_begun journal t ≡ true
begun-live journal t h = (and_parts _ _ h).0

pub begun-more : (journal : List Entry) (e : Entry) (t : ℕ) → has_begun journal t ≡ true → has_begun (journal ++ e ∷ []) t ≡ true
begun-more journal e t h = rw has_begun-push (or_left _ _ h)

program_in-begins : (e : Entry) (t : ℕ) (p q : Program) → is_begin_of t e ≡ true → program_in t e p ≡ program_in t e q
program_in-begins (Began txn deadline program) t p q h = rw h refl
program_in-begins Sealed t p q h = cc
program_in-begins (Committed txn outcome) t p q h = cc
program_in-begins (Withdrawn txn) t p q h = cc

program_in-other : (e : Entry) (t : ℕ) (p : Program) → is_begin_of t e ≡ false → program_in t e p ≡ p
program_in-other (Began txn deadline program) t p h = rw h refl
program_in-other Sealed t p h = refl
program_in-other (Committed txn outcome) t p h = refl
program_in-other (Withdrawn txn) t p h = refl

-- a transaction keeps the program that it began with
pub program_of-push : (journal : List Entry) (e : Entry) (t : ℕ) → has_begun journal t ≡ true → program_of (journal ++ e ∷ []) t ≡ program_of journal t
program_of-push [] e t h = cc
program_of-push (x ∷ journal) e t h =
    either (or_cases _ _ h)
    (λ here. program_in-begins x t _ _ here)
    (λ later. ap (program_in t x) (program_of-push journal e t later))

-- an entry that begins no t leaves the program of t
pub program_of-other : (journal : List Entry) (e : Entry) (t : ℕ) → is_begin_of t e ≡ false → program_of (journal ++ e ∷ []) t ≡ program_of journal t
program_of-other [] e t h = program_in-other e t [] h
program_of-other (x ∷ journal) e t h = ap (program_in t x) (program_of-other journal e t h)

or_false : (a b : Bool) → (a || b) ≡ false → (a ≡ false) × (b ≡ false)
or_false true b h = cc
or_false false b h = (refl, h)

-- a transaction that begins has the program that it begins with
pub program_of-begun : (journal : List Entry) (t deadline : ℕ) (program : Program) → has_begun journal t ≡ false → program_of (journal ++ Began t deadline program ∷ []) t ≡ program
program_of-begun [] t deadline program h = rw (eq-eqb t t refl) refl
program_of-begun (x ∷ journal) t deadline program h =
    let parts = or_false (is_begin_of t x) (has_begun journal t) h in
    program_in-other x t _ parts.0 ∙ program_of-begun journal t deadline program parts.1

-- Legal journals.

legal_from-push : (opening : Tables) (before more : List Entry) (e : Entry)
    → IsLegalFrom opening before more → Continues opening (before ++ more) e → IsLegalFrom opening before (more ++ e ∷ [])
legal_from-push opening before [] e h c = (rw append-nil at c, tt)
legal_from-push opening before (x ∷ more) e h c = (h.0, legal_from-push opening (before ++ x ∷ []) more e h.1 (rw append_assoc c))

-- an entry that continues a legal journal leaves a legal one
pub legal-push : (opening : Tables) (journal : List Entry) (e : Entry) → IsLegal opening journal → Continues opening journal e → IsLegal opening (journal ++ e ∷ [])
legal-push opening journal e h c = legal_from-push opening [] journal e h c

-- a fact of each journal that is kept by each entry that continues it
legal_from-keeps : (P : List Entry → Type 0) (opening : Tables)
    → ((journal : List Entry) (e : Entry) → Continues opening journal e → P journal → P (journal ++ e ∷ []))
    → (before more : List Entry) → IsLegalFrom opening before more → P before → P (before ++ more)
legal_from-keeps P opening keeps before [] h p = rw append-nil p
legal_from-keeps P opening keeps before (e ∷ more) h p =
    subst P (append_assoc before (e ∷ []) more) (legal_from-keeps P opening keeps (before ++ e ∷ []) more h.1 (keeps before e h.0 p))

pub legal-induction : (P : List Entry → Type 0) (opening : Tables) → P []
    → ((journal : List Entry) (e : Entry) → Continues opening journal e → P journal → P (journal ++ e ∷ []))
    → (journal : List Entry) → IsLegal opening journal → P journal
legal-induction P opening none keeps journal h = legal_from-keeps P opening keeps [] journal h none

-- numbers count up from 1, and what has ended had begun
pub record Counts (journal : List Entry) : Type 0 where
  pub positive : (t : ℕ) → has_begun journal t ≡ true → 1 ≤ t
  pub bounded : (t : ℕ) → has_begun journal t ≡ true → t ≤ began journal
  pub each : (t : ℕ) → 1 ≤ t → t ≤ began journal → has_begun journal t ≡ true
  pub ended : (t : ℕ) → has_ended journal t ≡ true → has_begun journal t ≡ true
  pub committed : AllByRecursion (λ t. has_begun journal t ≡ true) (commits journal)

is_positive : (journal : List Entry) (e : Entry) (t : ℕ) → Counts journal → (is_begin_of t e ≡ true → 1 ≤ t) → has_begun (journal ++ e ∷ []) t ≡ true → 1 ≤ t
is_positive journal e t c here h = either (or_cases _ _ (rw has_begun-push at h)) (c.positive t) here

no_number : (journal : List Entry) (e : Entry) (t : ℕ) → Counts journal → (is_begin_of t e ≡ true → t ≤ began (journal ++ e ∷ []))
    → has_begun (journal ++ e ∷ []) t ≡ true → t ≤ began (journal ++ e ∷ [])
no_number journal e t c here h =
    either (or_cases _ _ (rw has_begun-push at h))
    (λ old. let low : t ≤ began journal = c.bounded t old in rw began-push (omega arith))
    here

each_begun : (journal : List Entry) (e : Entry) (t : ℕ) → Counts journal → is_begin e ≡ false → 1 ≤ t → t ≤ began (journal ++ e ∷ []) → has_begun (journal ++ e ∷ []) t ≡ true
each_begun journal e t c none low high =
    let same : began (journal ++ e ∷ []) ≡ began journal = began-push journal e ∙ rw none (omega arith) in
    begun-more journal e t (c.each t low (omega arith))

each_number : (journal : List Entry) (n deadline : ℕ) (program : Program) (t : ℕ) → Counts journal → n ≡ began journal + 1 → 1 ≤ t
    → t ≤ began (journal ++ Began n deadline program ∷ []) → has_begun (journal ++ Began n deadline program ∷ []) t ≡ true
each_number journal n deadline program t c is low high =
    let same : began (journal ++ Began n deadline program ∷ []) ≡ began journal + 1 = began-push journal (Began n deadline program) in
    either (cases_lt (began journal) t)
    (λ new. let here : n ≡ t = omega arith in rw has_begun-push (or_right _ _ (eq-eqb n t here)))
    (λ old. begun-more journal _ t (c.each t low old))

ended_more : (journal : List Entry) (e : Entry) (t : ℕ) → Counts journal → (is_end_of t e ≡ true → has_begun journal t ≡ true)
    → has_ended (journal ++ e ∷ []) t ≡ true → has_begun (journal ++ e ∷ []) t ≡ true
ended_more journal e t c here h =
    begun-more journal e t (either (or_cases _ _ (rw has_ended-push at h)) (c.ended t) here)

committed_more : (journal : List Entry) (e : Entry) → Counts journal → AllByRecursion (λ t. has_begun journal t ≡ true) (cons_option (commit_in e) [])
    → AllByRecursion (λ t. has_begun (journal ++ e ∷ []) t ≡ true) (commits (journal ++ e ∷ []))
committed_more journal e c here =
    rw commits-push
    (all-weaken (λ t. has_begun journal t ≡ true) _ (λ t h. begun-more journal e t h) (commits journal ++ cons_option (commit_in e) [])
    (all-append _ (commits journal) _ c.committed here))

counts-push : (opening : Tables) (journal : List Entry) (e : Entry) → Continues opening journal e → Counts journal → Counts (journal ++ e ∷ [])
counts-push opening journal (Began txn deadline program) h c = record {
  positive = λ t. is_positive journal _ t c (λ e. let same : txn ≡ t = eqb-true txn t e in omega (arith, h.0));
  bounded = λ t. no_number journal _ t c (λ e. let same : txn ≡ t = eqb-true txn t e in rw began-push (omega (arith, h.0)));
  each = λ t. each_number journal txn deadline program t c h.0;
  ended = λ t. ended_more journal _ t c (λ e. cc);
  committed = committed_more journal _ c tt;
}
counts-push opening journal Sealed h c = record {
  positive = λ t. is_positive journal _ t c (λ e. cc);
  bounded = λ t. no_number journal _ t c (λ e. cc);
  each = λ t. each_begun journal _ t c refl;
  ended = λ t. ended_more journal _ t c (λ e. cc);
  committed = committed_more journal _ c tt;
}
counts-push opening journal (Committed txn outcome) h c = record {
  positive = λ t. is_positive journal _ t c (λ e. cc);
  bounded = λ t. no_number journal _ t c (λ e. cc);
  each = λ t. each_begun journal _ t c refl;
  ended = λ t. ended_more journal _ t c (λ e. let same : txn ≡ t = eqb-true txn t e in rw same at (begun-live journal txn h.0));
  committed = committed_more journal _ c (begun-live journal txn h.0, tt);
}
counts-push opening journal (Withdrawn txn) h c = record {
  positive = λ t. is_positive journal _ t c (λ e. cc);
  bounded = λ t. no_number journal _ t c (λ e. cc);
  each = λ t. each_begun journal _ t c refl;
  ended = λ t. ended_more journal _ t c (λ e. let same : txn ≡ t = eqb-true txn t e in rw same at (begun-live journal txn h.0));
  committed = committed_more journal _ c tt;
}

pub counts : (opening : Tables) (journal : List Entry) → IsLegal opening journal → Counts journal
counts opening journal h =
    legal-induction Counts opening (record { positive = λ t e. cc; bounded = λ t e. cc; each = λ t low high. absurd (omega arith); ended = λ t e. cc; committed = tt })
    (counts-push opening) journal h

-- The serial tables.

last_tables-append : (d : Tables) (ps qs : List Program) → last_tables d (ps ++ qs) ≡ last_tables (last_tables d ps) qs
last_tables-append d [] qs = refl
last_tables-append d (p ∷ ps) qs = last_tables-append (over (effect_of p d) d) ps qs

outcomes-append : (d : Tables) (ps qs : List Program) → outcomes d (ps ++ qs) ≡ outcomes d ps ++ outcomes (last_tables d ps) qs
outcomes-append d [] qs = refl
outcomes-append d (p ∷ ps) qs = ap (λ os. outcome_of p d ∷ os) (outcomes-append (over (effect_of p d) d) ps qs)

programs-push : (journal : List Entry) (e : Entry) → Counts journal → map (program_of (journal ++ e ∷ [])) (commits journal) ≡ map (program_of journal) (commits journal)
programs-push journal e c =
    map-agree (program_of (journal ++ e ∷ [])) (program_of journal) (commits journal)
    (all-weaken _ (λ t. program_of (journal ++ e ∷ []) t ≡ program_of journal t) (λ t h. program_of-push journal e t h) (commits journal) c.committed)

-- an entry that is no commit leaves the committed programs
pub programs-other : (journal : List Entry) (e : Entry) → Counts journal → commit_in e ≡ None → committed_programs (journal ++ e ∷ []) ≡ committed_programs journal
programs-other journal e c none =
    let same : commits (journal ++ e ∷ []) ≡ commits journal = commits-push journal e ∙ rw none (append-nil (commits journal)) in
    rw (same, programs-push journal e c) refl

-- a commit adds its program to them
pub programs-commit : (journal : List Entry) (t : ℕ) (outcome : Outcome) → Counts journal → has_begun journal t ≡ true
    → committed_programs (journal ++ Committed t outcome ∷ []) ≡ committed_programs journal ++ program_of journal t ∷ []
programs-commit journal t outcome c begun =
    rw (commits-push, map-append, programs-push journal (Committed t outcome) c, program_of-push journal (Committed t outcome) t begun) refl

-- an entry that is no commit leaves the serial tables
pub tables_after-other : (opening : Tables) (journal : List Entry) (e : Entry) → Counts journal → commit_in e ≡ None
    → tables_after opening (journal ++ e ∷ []) ≡ tables_after opening journal
tables_after-other opening journal e c none = ap (last_tables opening) (programs-other journal e c none)

-- a commit lays the effect of its program over them
pub tables_after-commit : (opening : Tables) (journal : List Entry) (t : ℕ) (outcome : Outcome) → Counts journal → has_begun journal t ≡ true
    → tables_after opening (journal ++ Committed t outcome ∷ [])
    ≡ over (effect_of (program_of journal t) (tables_after opening journal)) (tables_after opening journal)
tables_after-commit opening journal t outcome c begun =
    ap (last_tables opening) (programs-commit journal t outcome c begun) ∙ last_tables-append opening (committed_programs journal) (program_of journal t ∷ [])

-- The replies.

abbrev IsSerial : Tables → List Entry → Type 0
IsSerial opening journal = replies journal ≡ outcomes opening (committed_programs journal)

serial-other : (opening : Tables) (journal : List Entry) (e : Entry) → Counts journal → commit_in e ≡ None → reply_in e ≡ None → IsSerial opening journal → IsSerial opening (journal ++ e ∷ [])
serial-other opening journal e c none silent h =
    let same : replies (journal ++ e ∷ []) ≡ replies journal = replies-push journal e ∙ rw silent (append-nil (replies journal)) in
    same ∙ (h ∙ ap (outcomes opening) (sym (programs-other journal e c none)))

serial-commit : (opening : Tables) (journal : List Entry) (t : ℕ) (outcome : Outcome) → Counts journal → Continues opening journal (Committed t outcome) → IsSerial opening journal → IsSerial opening (journal ++ Committed t outcome ∷ [])
serial-commit opening journal t outcome c k h =
    let programs = programs-commit journal t outcome c (begun-live journal t k.0) in
    rw (replies-push, programs, outcomes-append, h, k.1) refl

serial-push : (opening : Tables) (journal : List Entry) (e : Entry) → Continues opening journal e → Counts journal → IsSerial opening journal → IsSerial opening (journal ++ e ∷ [])
serial-push opening journal (Began txn deadline program) k c h = serial-other opening journal (Began txn deadline program) c refl refl h
serial-push opening journal Sealed k c h = serial-other opening journal Sealed c refl refl h
serial-push opening journal (Committed txn outcome) k c h = serial-commit opening journal txn outcome c k h
serial-push opening journal (Withdrawn txn) k c h = serial-other opening journal (Withdrawn txn) c refl refl h

-- the outcomes of a legal journal are those of its committed programs, run alone, one after another
pub replies-serial : (opening : Tables) (journal : List Entry) → IsLegal opening journal → replies journal ≡ outcomes opening (committed_programs journal)
replies-serial opening journal h =
    (legal-induction (λ j. Counts j × IsSerial opening j) opening
    (record { positive = λ t e. cc; bounded = λ t e. cc; each = λ t low high. absurd (omega arith); ended = λ t e. cc; committed = tt }, refl)
    (λ j e k both. (counts-push opening j e k both.0, serial-push opening j e k both.0 both.1)) journal h).1

-- Who is live.

pub live-other : (journal : List Entry) (e : Entry) (t : ℕ) → is_begin_of t e ≡ false → is_end_of t e ≡ false → is_live (journal ++ e ∷ []) t ≡ is_live journal t
live-other journal e t b d = rw (has_begun-push, has_ended-push, b, d) (grind arith)

pub live-ended : (journal : List Entry) (e : Entry) (t : ℕ) → is_end_of t e ≡ true → is_live (journal ++ e ∷ []) t ≡ false
live-ended journal e t d = rw (has_ended-push journal e t, d) (grind arith)

-- the next number has not begun
pub next_new : (journal : List Entry) (t : ℕ) → Counts journal → t ≡ began journal + 1 → has_begun journal t ≡ false
next_new journal t c e =
    either (cases_Bool (has_begun journal t))
    (λ old. let low : t ≤ began journal = c.bounded t old in absurd (omega arith))
    (λ new. new)

-- a new transaction is live
pub live-begun : (journal : List Entry) (t deadline : ℕ) (program : Program) → Counts journal → t ≡ began journal + 1
    → is_live (journal ++ Began t deadline program ∷ []) t ≡ true
live-begun journal t deadline program c e =
    let begun : has_begun (journal ++ Began t deadline program ∷ []) t ≡ true = rw has_begun-push (or_right _ _ (eq-eqb t t refl)) in
    let ended : has_ended (journal ++ Began t deadline program ∷ []) t ≡ false =
    either (cases_Bool (has_ended journal t))
    (λ old. let low : t ≤ began journal = c.bounded t (c.ended t old) in absurd (omega arith))
    (λ new. rw (has_ended-push, new) refl)
    in
    rw (begun, ended) refl
