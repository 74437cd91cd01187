-- The programs and commits of a journal, as lists, and what a longer journal keeps.
use Rattle.std.proofs.Common.{cond, ◌+◌, arith, ◌≡◌, ◌≢◌, ◌++◌, not, ◌&&◌, append-nil, append_assoc, eq-eqb, ℕ, suc, true≢false, ◌==◌, ◌||◌, Bool, true, false, List, [], ◌∷◌, length, map, if◌then◌else◌, refl, sym, ap, ◌∙◌, subst}
use Rattle.std.specs.List.{AllByRecursion}
use Rattle.std.proofs.lemmas.List.Sums.{sum_by-append}
use Rattle.std.proofs.lemmas.List.Elements.{filter_map-append}
use Rattle.txn_runs.specs.Run.{Tables}
use Rattle.txn_runs.specs.declared.outcome.Outcome.{Outcome}
use Rattle.journal_core.specs.Journal.{is_begin, Continues, IsLegal, began, has_ended, has_begun, program_of, commits, replies, committed_programs}
use Rattle.journal_core.specs.Numbered.{program_named, is_named, AreDistinct}
use Rattle.journal_core.specs.Begins.{begin_in, commit_reply_in, begins, commit_replies}
use Rattle.journal_core.specs.declared.entry.Entry.{Entry}
use Rattle.journal_core.specs.declared.entry.Entry.TheVariants.{Began, Sealed, Committed, Withdrawn}
use Rattle.journal_core.proofs.Legal.{counts, commits-push, legal-induction, begun-more, program_of-push}
use Rattle.journal_core.proofs.Lists.{all-append}

-- A longer journal.

-- one entry more, and then the others
step : (journal more : List Entry) (e : Entry) → journal ++ e ∷ more ≡ (journal ++ e ∷ []) ++ more
step journal more e = sym (append_assoc journal (e ∷ []) more)

pub begun-longer : (journal more : List Entry) (t : ℕ) → has_begun journal t ≡ true → has_begun (journal ++ more) t ≡ true
begun-longer journal [] t h = ap (λ j. has_begun j t) (append-nil journal) ∙ h
begun-longer journal (e ∷ more) t h = ap (λ j. has_begun j t) (step journal more e) ∙ begun-longer (journal ++ e ∷ []) more t (begun-more journal e t h)

pub program-longer : (journal more : List Entry) (t : ℕ) → has_begun journal t ≡ true → program_of (journal ++ more) t ≡ program_of journal t
program-longer journal [] t h = ap (λ j. program_of j t) (append-nil journal)
program-longer journal (e ∷ more) t h =
    ap (λ j. program_of j t) (step journal more e)
    ∙ program-longer (journal ++ e ∷ []) more t (begun-more journal e t h)
    ∙ program_of-push journal e t h

pub begins-longer : (journal more : List Entry) → begins (journal ++ more) ≡ begins journal ++ begins more
begins-longer journal more = filter_map-append begin_in journal more

pub commit_replies-longer : (journal more : List Entry) → commit_replies (journal ++ more) ≡ commit_replies journal ++ commit_replies more
commit_replies-longer journal more = filter_map-append commit_reply_in journal more

-- The lists.

pub begun-named : (journal : List Entry) (t : ℕ) → is_named (begins journal) t ≡ has_begun journal t
begun-named [] t = refl
begun-named (Began txn deadline program ∷ journal) t = ap (λ b. (txn == t) || b) (begun-named journal t)
begun-named (Sealed ∷ journal) t = begun-named journal t
begun-named (Committed txn outcome ∷ journal) t = begun-named journal t
begun-named (Withdrawn txn ∷ journal) t = begun-named journal t

pub program-named : (journal : List Entry) (t : ℕ) → program_named (begins journal) t ≡ program_of journal t
program-named [] t = refl
program-named (Began txn deadline program ∷ journal) t = ap (λ p. if txn == t then program else p) (program-named journal t)
program-named (Sealed ∷ journal) t = program-named journal t
program-named (Committed txn outcome ∷ journal) t = program-named journal t
program-named (Withdrawn txn ∷ journal) t = program-named journal t

pub replies-outcomes : (journal : List Entry) → map (λ c. c.1) (commit_replies journal) ≡ replies journal
replies-outcomes [] = refl
replies-outcomes (Began txn deadline program ∷ journal) = replies-outcomes journal
replies-outcomes (Sealed ∷ journal) = replies-outcomes journal
replies-outcomes (Committed txn outcome ∷ journal) = ap (λ os. outcome ∷ os) (replies-outcomes journal)
replies-outcomes (Withdrawn txn ∷ journal) = replies-outcomes journal

pub replies-numbers : (journal : List Entry) → map (λ c. c.0) (commit_replies journal) ≡ commits journal
replies-numbers [] = refl
replies-numbers (Began txn deadline program ∷ journal) = replies-numbers journal
replies-numbers (Sealed ∷ journal) = replies-numbers journal
replies-numbers (Committed txn outcome ∷ journal) = ap (λ ts. txn ∷ ts) (replies-numbers journal)
replies-numbers (Withdrawn txn ∷ journal) = replies-numbers journal

pub replies-count : (journal : List Entry) → length (commit_replies journal) ≡ length (commits journal)
replies-count [] = refl
replies-count (Began txn deadline program ∷ journal) = replies-count journal
replies-count (Sealed ∷ journal) = replies-count journal
replies-count (Committed txn outcome ∷ journal) = ap suc (replies-count journal)
replies-count (Withdrawn txn ∷ journal) = replies-count journal

programs-from : (whole journal : List Entry) → map (λ c. program_named (begins whole) c.0) (commit_replies journal) ≡ map (program_of whole) (commits journal)
programs-from whole [] = refl
programs-from whole (Began txn deadline program ∷ journal) = programs-from whole journal
programs-from whole (Sealed ∷ journal) = programs-from whole journal
programs-from whole (Committed txn outcome ∷ journal) =
    ap (λ p. p ∷ map (λ c. program_named (begins whole) c.0) (commit_replies journal)) (program-named whole txn)
    ∙ ap (λ ps. program_of whole txn ∷ ps) (programs-from whole journal)
programs-from whole (Withdrawn txn ∷ journal) = programs-from whole journal

-- the programs of the commits are the committed programs
pub replies-programs : (journal : List Entry) → map (λ c. program_named (begins journal) c.0) (commit_replies journal) ≡ committed_programs journal
replies-programs journal = programs-from journal journal

named-from : (whole journal : List Entry) → AllByRecursion (λ t. has_begun whole t ≡ true) (commits journal) → AllByRecursion (λ c. is_named (begins whole) c.0 ≡ true) (commit_replies journal)
named-from whole [] h = tt
named-from whole (Began txn deadline program ∷ journal) h = named-from whole journal h
named-from whole (Sealed ∷ journal) h = named-from whole journal h
named-from whole (Committed txn outcome ∷ journal) h = (begun-named whole txn ∙ h.0, named-from whole journal h.1)
named-from whole (Withdrawn txn ∷ journal) h = named-from whole journal h

-- each of them names a program that began
pub replies-named : (opening : Tables) (journal : List Entry) → IsLegal opening journal → AllByRecursion (λ c. is_named (begins journal) c.0 ≡ true) (commit_replies journal)
replies-named opening journal h = named-from journal journal (counts opening journal h).committed

-- where none began, none is committed
pub none-committed : (opening : Tables) (journal : List Entry) → IsLegal opening journal → begins journal ≡ [] → commits journal ≡ []
none-committed opening journal h none = go (commits journal) (counts opening journal h).committed
  where
    go : (ts : List ℕ) → AllByRecursion (λ t. has_begun journal t ≡ true) ts → ts ≡ []
    go [] all = refl
    go (t ∷ ts) all =
        let not : has_begun journal t ≡ false = sym (begun-named journal t) ∙ ap (λ b. is_named b t) none in
        absurd (true≢false (sym all.0 ∙ not))

pub none-replies : (opening : Tables) (journal : List Entry) → IsLegal opening journal → begins journal ≡ [] → commit_replies journal ≡ []
none-replies opening journal h none = go (commit_replies journal) (replies-numbers journal ∙ none-committed opening journal h none)
  where
    go : (es : List (ℕ × Outcome)) → map (λ c. c.0) es ≡ [] → es ≡ []
    go [] e = refl
    go (x ∷ es) e = absurd (cc)

began-cons : (e : Entry) (journal : List Entry) → began (e ∷ journal) ≡ cond (is_begin e) 1 0 + began journal
began-cons e journal = sum_by-append (λ x. cond (is_begin x) 1 0) (e ∷ []) journal ∙ omega arith

pub begins-count : (journal : List Entry) → length (begins journal) ≡ began journal
begins-count [] = refl
begins-count (Began txn deadline program ∷ journal) =
    let same = begins-count journal in
    let more : began (Began txn deadline program ∷ journal) ≡ 1 + began journal = began-cons (Began txn deadline program) journal in
    omega (arith, same, more)
begins-count (Sealed ∷ journal) =
    let same = begins-count journal in
    let more : began (Sealed ∷ journal) ≡ 0 + began journal = began-cons Sealed journal in
    omega (arith, same, more)
begins-count (Committed txn outcome ∷ journal) =
    let same = begins-count journal in
    let more : began (Committed txn outcome ∷ journal) ≡ 0 + began journal = began-cons (Committed txn outcome) journal in
    omega (arith, same, more)
begins-count (Withdrawn txn ∷ journal) =
    let same = begins-count journal in
    let more : began (Withdrawn txn ∷ journal) ≡ 0 + began journal = began-cons (Withdrawn txn) journal in
    omega (arith, same, more)

-- Nobody is committed twice.

neither : (a b : Bool) → (a || b) ≡ false → (a ≡ false) × (b ≡ false)
neither true b h = absurd (cc)
neither false b h = (refl, h)

unended-live : (begun ended : Bool) → (begun && not ended) ≡ true → ended ≡ false
unended-live true false h = refl
unended-live true true h = absurd (cc)
unended-live false ended h = absurd (cc)

-- who hasn't ended isn't among the commits
not-among : (journal : List Entry) (t : ℕ) → has_ended journal t ≡ false → AllByRecursion (λ u. u ≢ t) (commits journal)
not-among [] t h = tt
not-among (Began txn deadline program ∷ journal) t h = not-among journal t h
not-among (Sealed ∷ journal) t h = not-among journal t h
not-among (Committed txn outcome ∷ journal) t h =
    (λ (same : txn ≡ t). true≢false (sym (eq-eqb txn t same) ∙ (neither (txn == t) (has_ended journal t) h).0), not-among journal t (neither (txn == t) (has_ended journal t) h).1)
not-among (Withdrawn txn ∷ journal) t h = not-among journal t (neither (txn == t) (has_ended journal t) h).1

distinct-push : (ts : List ℕ) (t : ℕ) → AreDistinct ts → AllByRecursion (λ u. u ≢ t) ts → AreDistinct (ts ++ t ∷ [])
distinct-push [] t distinct apart = (tt, tt)
distinct-push (u ∷ ts) t distinct apart =
    (all-append (λ x. x ≢ u) ts (t ∷ []) distinct.0 (λ (same : t ≡ u). apart.0 (sym same), tt), distinct-push ts t distinct.1 apart.1)

distinct-entry : (opening : Tables) (journal : List Entry) (e : Entry) → Continues opening journal e → AreDistinct (commits journal) → AreDistinct (commits (journal ++ e ∷ []))
distinct-entry opening journal (Began txn deadline program) k h = subst AreDistinct (sym (commits-push journal (Began txn deadline program) ∙ append-nil (commits journal))) h
distinct-entry opening journal Sealed k h = subst AreDistinct (sym (commits-push journal Sealed ∙ append-nil (commits journal))) h
distinct-entry opening journal (Committed txn outcome) k h =
    subst AreDistinct (sym (commits-push journal (Committed txn outcome))) (distinct-push (commits journal) txn h (not-among journal txn (unended-live (has_begun journal txn) (has_ended journal txn) k.0)))
distinct-entry opening journal (Withdrawn txn) k h = subst AreDistinct (sym (commits-push journal (Withdrawn txn) ∙ append-nil (commits journal))) h

pub commits-distinct : (opening : Tables) (journal : List Entry) → IsLegal opening journal → AreDistinct (commits journal)
commits-distinct opening journal h = legal-induction (λ j. AreDistinct (commits j)) opening tt (λ j e k distinct. distinct-entry opening j e k distinct) journal h

pub replies-distinct : (opening : Tables) (journal : List Entry) → IsLegal opening journal → AreDistinct (map (λ c. c.0) (commit_replies journal))
replies-distinct opening journal h = subst AreDistinct (sym (replies-numbers journal)) (commits-distinct opening journal h)
