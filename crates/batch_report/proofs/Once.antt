-- Journals in which each transaction is committed once.
use Rattle.std.proofs.Common.{◌≡◌, ℕ, ◌==◌, ◌&&◌, ◌||◌, Bool, true, false, not, List, [], ◌∷◌, ◌++◌, refl, sym, ap, ◌∙◌, subst, append_assoc, true≢false}
use Rattle.std.proofs.lemmas.List.{append-nil}
use Rattle.std.specs.List.{list_any}
use Rattle.txn_runs.specs.Run.{Tables}
use Rattle.journal_core.specs.declared.entry.Entry.{Entry}
use Rattle.journal_core.specs.declared.entry.Entry.TheVariants.{Began, Sealed, Committed, Withdrawn}
use Rattle.journal_core.specs.Journal.{has_begun, has_ended, is_withdrawn, is_sealed, is_seal, is_live, began, commits, IsLegal, IsLegalFrom}
use Rattle.journal_core.proofs.Legal.{is_sealed-push, counts}
use Rattle.journal_core.proofs.Begins.{commits-distinct}
use Rattle.report_text.specs.Order.{NamesEachOnce}
use Rattle.batch_report.specs.Commits.{AreCommits}

-- Behind a seal.

-- what comes behind the front of a legal journal continues it
pub legal-behind : (opening : Tables) (before front more : List Entry) → IsLegalFrom opening before (front ++ more) → IsLegalFrom opening (before ++ front) more
legal-behind opening before [] more h = subst (λ j. IsLegalFrom opening j more) (sym (append-nil before)) h
legal-behind opening before (e ∷ front) more h =
    subst (λ j. IsLegalFrom opening j more) (append_assoc before (e ∷ []) front) (legal-behind opening (before ++ e ∷ []) front more h.1)

still-sealed : (journal : List Entry) (e : Entry) → is_sealed journal ≡ true → is_sealed (journal ++ e ∷ []) ≡ true
still-sealed journal e is = is_sealed-push journal e ∙ ap (λ b. b || is_seal e) is

commits-behind : (opening : Tables) (journal more : List Entry) → IsLegalFrom opening journal more → is_sealed journal ≡ true → AreCommits more
commits-behind opening journal [] h is = tt
commits-behind opening journal (Began txn deadline program ∷ more) h is = absurd (true≢false (sym is ∙ h.0.1))
commits-behind opening journal (Sealed ∷ more) h is = absurd (true≢false (sym is ∙ h.0))
commits-behind opening journal (Withdrawn txn ∷ more) h is = absurd (true≢false (sym is ∙ h.0.1))
commits-behind opening journal (Committed txn outcome ∷ more) h is =
    (refl, commits-behind opening (journal ++ Committed txn outcome ∷ []) more h.1 (still-sealed journal (Committed txn outcome) is))

pub sealed-commits : (opening : Tables) (journal more : List Entry) → IsLegal opening (journal ++ more) → is_sealed journal ≡ true → AreCommits more
sealed-commits opening journal more h is = commits-behind opening journal more (legal-behind opening [] journal more h) is

-- Each once.

both-false : (a b : Bool) → (a || b) ≡ false → (a ≡ false) × (b ≡ false)
both-false true b h = absurd (true≢false h)
both-false false b h = (refl, h)

-- where nobody was withdrawn, who has ended is committed
ended-committed : (journal : List Entry) (t : ℕ) → is_withdrawn journal t ≡ false → has_ended journal t ≡ list_any (λ u. u == t) (commits journal)
ended-committed [] t h = refl
ended-committed (Began txn deadline program ∷ journal) t h = ended-committed journal t h
ended-committed (Sealed ∷ journal) t h = ended-committed journal t h
ended-committed (Committed txn outcome ∷ journal) t h = ap (λ b. (txn == t) || b) (ended-committed journal t h)
ended-committed (Withdrawn txn ∷ journal) t h =
    let two = both-false (txn == t) (is_withdrawn journal t) h in
    ap (λ b. b || has_ended journal t) two.0 ∙ ended-committed journal t two.1

-- whoever began and isn't live has ended
ended-of : (begun ended : Bool) → (begun && not ended) ≡ false → begun ≡ true → ended ≡ true
ended-of true true h is = refl
ended-of true false h is = absurd (true≢false h)
ended-of false ended h is = absurd (true≢false (sym is))

pub each-once : (opening : Tables) (journal : List Entry) → IsLegal opening journal → ((t : ℕ) → is_withdrawn journal t ≡ false) → ((t : ℕ) → is_live journal t ≡ false)
    → NamesEachOnce (began journal) (commits journal)
each-once opening journal legal kept over =
    let c = counts opening journal legal in
    record {
      distinct = commits-distinct opening journal legal;
      each = λ t. (
        λ there. let begun : has_begun journal t ≡ true = c.ended t (ended-committed journal t (kept t) ∙ there) in (c.positive t begun, c.bounded t begun),
        λ within. sym (ended-committed journal t (kept t)) ∙ ended-of (has_begun journal t) (has_ended journal t) (over t) (c.each t within.0 within.1),
      );
    }
