-- Whoever reads the same reply to each line notes the same.
use Rattle.std.proofs.Common.{◌≡◌, ◌≤◌, ℕ, ◌==◌, true, if◌then◌else◌, List, [], ◌∷◌, ◌++◌, length, map, filter_map, Option, Some, None, refl, sym, ap, ◌∙◌, arith, append_assoc, append-nil}
use Rattle.std.specs.Prelude.{codes, decimal, drop}
use Rattle.std.specs.List.{AllByRecursion}
use Rattle.std.proofs.lemmas.List.Elements.{filter_map-append}
use Rattle.txn_runs.specs.declared.outcome.Outcome.{Outcome}
use Rattle.txn_runs.specs.declared.outcome.Outcome.TheVariants.{Done, Failed, Fault}
use Rattle.txn_runs.specs.declared.outcome.FaultKind.{FaultKind}
use Rattle.txn_runs.specs.declared.outcome.FaultKind.TheVariants.{Overflow, Zero, Range}
use Rattle.journal_core.specs.Reply.{commit_line, outcome_words, fault_word}
use Rattle.scc_replies.specs.Lines.{number_line}
use Rattle.scc_script.specs.Ended.{Ended, ended_text, all_ended_text, resume_lines, resume_line, start_lines}
use Rattle.report_text.proofs.Words.{outcome-without, row-without}
use Rattle.report_text.proofs.Cuts.{IsWithout, first-piece, decimal-without, decimal-same, unlines, unlines-append, AreLines, lines-same, lines-append, without-append, lacks, lacking, signed-without, numbers-without}

-- The lines of a drain.

commit_words : Ended → List ℕ
commit_words e = decimal e.txn ++ codes " " ++ outcome_words e.outcome

unfoldable pub commit_row : Ended → List ℕ
commit_row e = codes "commit " ++ decimal e.txn ++ codes " " ++ outcome_words e.outcome

unfoldable pub resume_row : ℕ × ℕ → List ℕ
resume_row r = codes "resume " ++ decimal r.0 ++ (codes " " ++ decimal r.1)

unfoldable pub start_rows : Option ℕ → List (List ℕ)
start_rows None = []
start_rows (Some t) = (codes "start " ++ decimal t) ∷ []

unfoldable pub rows : Ended → List (List ℕ)
rows e = commit_row e ∷ map resume_row e.resumed ++ start_rows e.starts

unfoldable pub all_rows : List Ended → List (List ℕ)
all_rows [] = []
all_rows (e ∷ es) = rows e ++ all_rows es

unfoldable pub drain_rows : List Ended → List (List ℕ)
drain_rows es = all_rows es ++ (codes "drain " ++ decimal (length es)) ∷ []

line-text : (word : List ℕ) (n : ℕ) → number_line word n ≡ unlines ((word ++ decimal n) ∷ [])
line-text word n = refl

pub resumed-text : (rs : List (ℕ × ℕ)) → resume_lines rs ≡ unlines (map resume_row rs)
unfolding resume_row
resumed-text [] = refl
resumed-text (r ∷ rs) =
    ap (λ x. resume_line r.0 r.1 ++ x) (resumed-text rs) ∙ row (codes "resume " ++ decimal r.0) (codes " " ++ decimal r.1) (unlines (map resume_row rs))
  where
    row : (a b x : List ℕ) → (a ++ (b ++ 10 ∷ [])) ++ x ≡ (a ++ b) ++ 10 ∷ x
    row a b x = ap (λ y. y ++ x) (sym (append_assoc a b (10 ∷ []))) ∙ append_assoc (a ++ b) (10 ∷ []) x

pub started-text : (o : Option ℕ) → start_lines o ≡ unlines (start_rows o)
unfolding start_rows
started-text None = refl
started-text (Some t) = line-text (codes "start ") t

commit-text : (e : Ended) → commit_line e.txn e.outcome ≡ commit_row e ++ 10 ∷ []
unfolding commit_row
commit-text e = refl

pub ended-text : (e : Ended) → ended_text e ≡ unlines (rows e)
unfolding rows
ended-text e =
    let back : List ℕ = unlines (map resume_row e.resumed) in
    let start : List ℕ = unlines (start_rows e.starts) in
    ap (λ x. x ++ resume_lines e.resumed ++ start_lines e.starts) (commit-text e)
    ∙ ap (λ x. commit_row e ++ 10 ∷ [] ++ x ++ start_lines e.starts) (resumed-text e.resumed)
    ∙ ap (λ x. commit_row e ++ 10 ∷ [] ++ back ++ x) (started-text e.starts)
    ∙ append_assoc (commit_row e ++ 10 ∷ []) back start
    ∙ append_assoc (commit_row e) (10 ∷ []) (back ++ start)
    ∙ ap (λ x. commit_row e ++ 10 ∷ x) (sym (unlines-append (map resume_row e.resumed) (start_rows e.starts)))

all-text : (es : List Ended) → all_ended_text es ≡ unlines (all_rows es)
unfolding all_rows
all-text [] = refl
all-text (e ∷ es) =
    ap (λ x. x ++ all_ended_text es) (ended-text e) ∙ ap (λ x. unlines (rows e) ++ x) (all-text es) ∙ sym (unlines-append (rows e) (all_rows es))

pub drain-text : (es : List Ended) → all_ended_text es ++ number_line (codes "drain ") (length es) ≡ unlines (drain_rows es)
unfolding drain_rows
drain-text es =
    ap (λ x. x ++ number_line (codes "drain ") (length es)) (all-text es) ∙ ap (λ x. unlines (all_rows es) ++ x) (line-text (codes "drain ") (length es))
    ∙ sym (unlines-append (all_rows es) ((codes "drain " ++ decimal (length es)) ∷ []))

-- None of them has a newline inside.

pub resume-rows : (rs : List (ℕ × ℕ)) → AreLines (map resume_row rs)
unfolding resume_row lacks
resume-rows [] = tt
resume-rows (r ∷ rs) =
    (without-append 10 (codes "resume " ++ decimal r.0) (codes " " ++ decimal r.1) (row-without (codes "resume ") r.0 refl) (row-without (codes " ") r.1 refl), resume-rows rs)

pub started-rows : (o : Option ℕ) → AreLines (start_rows o)
unfolding start_rows lacks
started-rows None = tt
started-rows (Some t) = (row-without (codes "start ") t refl, tt)

pub ended-rows : (e : Ended) → AreLines (rows e)
unfolding rows commit_row lacks
ended-rows e = (
  without-append 10 (codes "commit " ++ decimal e.txn ++ codes " ") (outcome_words e.outcome)
      (without-append 10 (codes "commit " ++ decimal e.txn) (codes " ") (row-without (codes "commit ") e.txn refl) (lacking 10 (codes " ") refl)) (outcome-without e.outcome),
  lines-append (map resume_row e.resumed) (start_rows e.starts) (resume-rows e.resumed) (started-rows e.starts),
)

every-row : (es : List Ended) → AreLines (all_rows es)
unfolding all_rows
every-row [] = tt
every-row (e ∷ es) = lines-append (rows e) (all_rows es) (ended-rows e) (every-row es)

pub drain-lines : (es : List Ended) → AreLines (drain_rows es)
unfolding drain_rows lacks
drain-lines es = lines-append (all_rows es) _ (every-row es) (row-without (codes "drain ") (length es) refl, tt)

-- The commits among the lines.

-- what follows `commit ` in a line that begins with `c`
unfoldable commit_in : List ℕ → Option (List ℕ)
commit_in [] = None
commit_in (b ∷ bs) = if b == 99 then Some (drop 6 bs) else None

resumes-none : (rs : List (ℕ × ℕ)) → filter_map commit_in (map resume_row rs) ≡ []
unfolding resume_row commit_in
resumes-none [] = refl
resumes-none (r ∷ rs) = resumes-none rs

starts-none : (o : Option ℕ) → filter_map commit_in (start_rows o) ≡ []
unfolding start_rows commit_in
starts-none None = refl
starts-none (Some t) = refl

rows-commit : (e : Ended) → filter_map commit_in (rows e) ≡ commit_words e ∷ []
unfolding rows commit_row commit_words commit_in
rows-commit e =
    ap (λ x. commit_words e ∷ x)
    (filter_map-append commit_in (map resume_row e.resumed) (start_rows e.starts) ∙ ap (λ x. x ++ filter_map commit_in (start_rows e.starts)) (resumes-none e.resumed) ∙ starts-none e.starts)

all-commits : (es : List Ended) → filter_map commit_in (all_rows es) ≡ map commit_words es
unfolding all_rows
all-commits [] = refl
all-commits (e ∷ es) =
    filter_map-append commit_in (rows e) (all_rows es) ∙ ap (λ x. x ++ filter_map commit_in (all_rows es)) (rows-commit e) ∙ ap (λ x. commit_words e ∷ x) (all-commits es)

drain-commits : (es : List Ended) → filter_map commit_in (drain_rows es) ≡ map commit_words es
unfolding drain_rows commit_in
drain-commits es = filter_map-append commit_in (all_rows es) _ ∙ append-nil (filter_map commit_in (all_rows es)) ∙ all-commits es

words-number : (e d : Ended) → e.txn ≤ 20000 → d.txn ≤ 20000 → commit_words e ≡ commit_words d → e.txn ≡ d.txn
unfolding commit_words
words-number e d he hd same =
    decimal-same e.txn d.txn he hd
    (first-piece 32 (decimal e.txn) (decimal d.txn) (outcome_words e.outcome) (outcome_words d.outcome) (decimal-without 32 e.txn (omega arith)) (decimal-without 32 d.txn (omega arith))
    (sym (append_assoc (decimal e.txn) (32 ∷ []) (outcome_words e.outcome)) ∙ same ∙ append_assoc (decimal d.txn) (32 ∷ []) (outcome_words d.outcome))).0

number : Ended → ℕ
number e = e.txn

some-none : {X : Type 0} (x : X) (xs : List X) → x ∷ xs ≡ [] → ⊥
some-none x xs e = absurd (cc)

numbers-same : (es ds : List Ended) → AllByRecursion (λ e. e.txn ≤ 20000) es → AllByRecursion (λ e. e.txn ≤ 20000) ds → map commit_words es ≡ map commit_words ds → map (λ e. e.txn) es ≡ map (λ e. e.txn) ds
numbers-same [] [] he hd same = refl
numbers-same [] (d ∷ ds) he hd same = absurd (some-none (commit_words d) (map commit_words ds) (sym same))
numbers-same (e ∷ es) [] he hd same = absurd (some-none (commit_words e) (map commit_words es) same)
numbers-same (e ∷ es) (d ∷ ds) he hd same =
    let one : commit_words e ≡ commit_words d = cc in
    let more : map commit_words es ≡ map commit_words ds = cc in
    ap (λ n. n ∷ map (λ (x : Ended). x.txn) es) (words-number e d he.0 hd.0 one) ∙ ap (λ ns. d.txn ∷ ns) (numbers-same es ds he.1 hd.1 more)

-- a drain's reply tells whom it committed
pub drained-same : (es ds : List Ended) → AllByRecursion (λ e. e.txn ≤ 20000) es → AllByRecursion (λ e. e.txn ≤ 20000) ds
    → all_ended_text es ++ number_line (codes "drain ") (length es) ≡ all_ended_text ds ++ number_line (codes "drain ") (length ds)
    → map (λ e. e.txn) es ≡ map (λ e. e.txn) ds
drained-same es ds he hd same =
    let lines : drain_rows es ≡ drain_rows ds = lines-same (drain_rows es) (drain_rows ds) (drain-lines es) (drain-lines ds) (sym (drain-text es) ∙ same ∙ drain-text ds) in
    numbers-same es ds he hd (sym (drain-commits es) ∙ ap (filter_map commit_in) lines ∙ drain-commits ds)
