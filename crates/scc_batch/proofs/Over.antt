-- A batch that is over: all that began is committed once.
use Rattle.std.proofs.Common.{◌≡◌, ℕ, ◌+◌, Bool, true, false, nat_lt, if◌then◌else◌, List, [], ◌∷◌, ◌++◌, length, refl, sym, ap, ◌∙◌, subst, append_assoc, append-nil, true≢false}
use Rattle.txn_runs.specs.Run.{Tables}
use Rattle.journal_core.specs.declared.entry.Entry.{Entry}
use Rattle.journal_core.specs.declared.entry.Entry.TheVariants.{Began, Sealed, Committed, Withdrawn}
use Rattle.journal_core.specs.Journal.{began, commits, is_live, is_sealed, is_withdrawn, IsLegal, IsLegalFrom}
use Rattle.journal_core.specs.Begins.{begins}
use Rattle.journal_core.proofs.Begins.{begins-count}
use Rattle.forest_model.specs.Forest.{Forest}
use Rattle.forest_model.specs.Grown.{IsLonger}
use Rattle.batch_input.specs.declared.request.Request.{Request}
use Rattle.report_text.specs.Order.{NamesEachOnce}
use Rattle.batch_report.specs.Commits.{AreCommits}
use Rattle.report_text.specs.Report.{numbered}
use Rattle.batch_report.proofs.Once.{legal-behind, sealed-commits, each-once}
use Rattle.turn_cell.specs.Views.{longer}
use Rattle.shadow_forest.specs.declared.kept.Item.{Item}
use Rattle.shadow_forest.specs.Listed.{journal_in}
use Rattle.shadow_worker.specs.Worked.{HasEnded}
use Rattle.scc_batch.specs.Opened.{HasBegun, AreCommitted, begun_from, programs_of}
use Rattle.scc_batch.proofs.Begun.{numbered-many}

commits-begin-none : (entries : List Entry) → AreCommits entries → begins entries ≡ []
commits-begin-none [] h = refl
commits-begin-none (Committed t outcome ∷ entries) h = commits-begin-none entries h.1
commits-begin-none (Began t deadline program ∷ entries) h = absurd (cc (h.0))
commits-begin-none (Sealed ∷ entries) h = absurd (cc (h.0))
commits-begin-none (Withdrawn t ∷ entries) h = absurd (cc (h.0))

commits-keep : (t : ℕ) (entries : List Entry) → AreCommits entries → is_withdrawn entries t ≡ false
commits-keep t [] h = refl
commits-keep t (Committed u outcome ∷ entries) h = commits-keep t entries h.1
commits-keep t (Began u deadline program ∷ entries) h = absurd (cc (h.0))
commits-keep t (Sealed ∷ entries) h = absurd (cc (h.0))
commits-keep t (Withdrawn u ∷ entries) h = absurd (cc (h.0))

front-sealed : (n : ℕ) (requests : List Request) → is_sealed (begun_from n requests ++ Sealed ∷ []) ≡ true
front-sealed n [] = refl
front-sealed n (request ∷ requests) = front-sealed (n + 1) requests

kept-behind : (t n : ℕ) (requests : List Request) (entries : List Entry) → AreCommits entries → is_withdrawn (begun_from n requests ++ Sealed ∷ entries) t ≡ false
kept-behind t n [] entries h = commits-keep t entries h
kept-behind t n (request ∷ requests) entries h = kept-behind t (n + 1) requests entries h

begins-behind : (n : ℕ) (requests : List Request) (entries : List Entry) → AreCommits entries → begins (begun_from n requests ++ Sealed ∷ entries) ≡ numbered n (programs_of requests)
begins-behind n [] entries h = commits-begin-none entries h
begins-behind n (request ∷ requests) entries h = ap (λ ps. (n, request.program) ∷ ps) (begins-behind (n + 1) requests entries h)

commits-count : (entries : List Entry) → AreCommits entries → (n : ℕ) (requests : List Request) → began (begun_from n requests ++ Sealed ∷ entries) ≡ length requests
commits-count entries h n requests =
    sym (begins-count (begun_from n requests ++ Sealed ∷ entries)) ∙ ap length (begins-behind n requests entries h) ∙ numbered-many n requests

-- the programs of this journal are those of the requests, and its commits name each once
record IsOver (requests : List Request) (journal : List Entry) : Type 0 where
  begins : begins journal ≡ numbered 1 (programs_of requests)
  once : NamesEachOnce (length requests) (commits journal)

over-behind : (opening : Tables) (requests : List Request) (entries : List Entry) → IsLegal opening (begun_from 1 requests ++ Sealed ∷ entries)
    → ((t : ℕ) → is_live (begun_from 1 requests ++ Sealed ∷ entries) t ≡ false) → IsOver requests (begun_from 1 requests ++ Sealed ∷ entries)
over-behind opening requests entries legal nobody =
    let front : List Entry = begun_from 1 requests ++ Sealed ∷ [] in
    let cut : front ++ entries ≡ begun_from 1 requests ++ Sealed ∷ entries = append_assoc (begun_from 1 requests) (Sealed ∷ []) entries in
    let behind : AreCommits entries = sealed-commits opening front entries (subst (IsLegal opening) (sym cut) legal) (front-sealed 1 requests) in
    let journal : List Entry = begun_from 1 requests ++ Sealed ∷ entries in
    record {
      begins = begins-behind 1 requests entries behind;
      once = subst (λ n. NamesEachOnce n (commits journal)) (commits-count entries behind 1 requests) (each-once opening journal legal (λ t. kept-behind t 1 requests entries behind) nobody);
    }

-- after a forest in which they began and no more may begin was worked on until nobody is live
pub over : (f g : Forest) (tables : Tables) (requests : List Request) → IsLonger f g → IsLegal g.opening g.journal → HasEnded g.journal → HasBegun tables requests (Sealed ∷ []) f
    → AreCommitted tables requests g
over f g tables requests longer legal ended begun =
    let later = longer.more in
    let is : g.journal ≡ begun_from 1 requests ++ Sealed ∷ later =
    longer.grown.journal ∙ ap (λ j. j ++ later) begun.journal ∙ append_assoc (begun_from 1 requests) (Sealed ∷ []) later in
    let all : IsOver requests g.journal =
    subst (IsOver requests) (sym is) (over-behind g.opening requests later (subst (IsLegal g.opening) is legal) (λ t. ap (λ j. is_live j t) (sym is) ∙ ended.nobody t)) in
    record { opening = longer.grown.opening ∙ begun.opening; begins = all.begins; once = all.once }

-- Nothing comes behind the end.

none-behind : (opening : Tables) (journal more : List Entry) → HasEnded journal → IsLegalFrom opening journal more → more ≡ []
none-behind opening journal [] ended h = refl
none-behind opening journal (Began t deadline program ∷ more) ended h = absurd (true≢false (sym ended.sealed ∙ h.0.1))
none-behind opening journal (Sealed ∷ more) ended h = absurd (true≢false (sym ended.sealed ∙ h.0))
none-behind opening journal (Withdrawn t ∷ more) ended h = absurd (true≢false (sym ended.sealed ∙ h.0.1))
none-behind opening journal (Committed t outcome ∷ more) ended h = absurd (true≢false (sym h.0.0 ∙ ended.nobody t))

-- a legal journal that goes on behind the end goes on with nothing
pub still-ended : (opening : Tables) (journal more : List Entry) → HasEnded journal → IsLegal opening (journal ++ more) → HasEnded (journal ++ more)
still-ended opening journal more ended legal =
    let none = none-behind opening journal more ended (legal-behind opening [] journal more legal) in
    subst (λ m. HasEnded (journal ++ m)) (sym none) (subst HasEnded (sym (append-nil journal)) ended)

pub ended_either : (a b : List Item) → HasEnded (journal_in a) → HasEnded (journal_in b) → HasEnded (journal_in (longer a b))
ended_either a b x y = chosen (nat_lt (length a) (length b))
  where
    chosen : (c : Bool) → HasEnded (journal_in (if c then b else a))
    chosen true = y
    chosen false = x
