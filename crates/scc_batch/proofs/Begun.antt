-- Begins of requests, one after another.
use Rattle.std.proofs.Common.{◌≡◌, ◌≤◌, ◌<◌, ℕ, suc, ◌+◌, false, List, [], ◌∷◌, ◌++◌, length, refl, sym, ap, ◌∙◌, arith, length-append, append-nil}
use Rattle.std.specs.List.{All}
use Rattle.txn_runs.specs.Run.{Tables}
use Rattle.journal_core.specs.declared.entry.Entry.TheVariants.{Began}
use Rattle.journal_core.specs.Begins.{begins}
use Rattle.journal_core.specs.Journal.{began, is_sealed}
use Rattle.journal_core.proofs.Begins.{begins-count}
use Rattle.forest_model.specs.Forest.{Forest}
use Rattle.batch_input.specs.declared.request.Request.{Request}
use Rattle.report_text.specs.Report.{numbered}
use Rattle.scc_batch.specs.Opened.{HasBegun, begun_from, programs_of}

pub begun-open : (n : ℕ) (requests : List Request) → is_sealed (begun_from n requests) ≡ false
begun-open n [] = refl
begun-open n (request ∷ requests) = begun-open (n + 1) requests

pub begun-more : (n : ℕ) (requests : List Request) (request : Request) →
    begun_from n (requests ++ request ∷ []) ≡ begun_from n requests ++ Began (n + length requests) request.deadline request.program ∷ []
begun-more n [] request = ap (λ m. Began m request.deadline request.program ∷ []) (omega arith)
begun-more n (r ∷ requests) request =
    ap (λ es. Began n r.deadline r.program ∷ es) (begun-more (n + 1) requests request ∙ ap (λ m. begun_from (n + 1) requests ++ Began m request.deadline request.program ∷ []) (omega arith))

pub begins-numbered : (n : ℕ) (requests : List Request) → begins (begun_from n requests) ≡ numbered n (programs_of requests)
begins-numbered n [] = refl
begins-numbered n (request ∷ requests) = ap (λ ps. (n, request.program) ∷ ps) (begins-numbered (n + 1) requests)

pub numbered-many : (n : ℕ) (requests : List Request) → length (numbered n (programs_of requests)) ≡ length requests
numbered-many n [] = refl
numbered-many n (request ∷ requests) = ap suc (numbered-many (n + 1) requests)

pub began-many : (n : ℕ) (requests : List Request) → began (begun_from n requests) ≡ length requests
began-many n requests = sym (begins-count (begun_from n requests)) ∙ ap length (begins-numbered n requests) ∙ numbered-many n requests

pub middle : {X : Type 0} (P : X → Type 0) (xs : List X) (x : X) (ys : List X) → All P (xs ++ x ∷ ys) → P x
middle P [] x ys h = h 0 x (omega arith)
middle P (y ∷ xs) x ys h = middle P xs x ys (λ k d le. h (suc k) d (omega (arith, le)))

-- there is room for one more before the last
pub fewer : {X : Type 0} (xs : List X) (x : X) (ys : List X) (n : ℕ) → length (xs ++ x ∷ ys) ≤ n → length xs < n
fewer xs x ys n le = omega (arith, le, length-append xs (x ∷ ys))

pub begun-next : (f g : Forest) (tables : Tables) (before : List Request) (request : Request) → HasBegun tables before [] f → g.opening ≡ f.opening
    → g.journal ≡ f.journal ++ Began (began f.journal + 1) request.deadline request.program ∷ [] → HasBegun tables (before ++ request ∷ []) [] g
begun-next f g tables before request begun same is =
    let plain = begun.journal ∙ append-nil (begun_from 1 before) in
    let next : began f.journal + 1 ≡ 1 + length before = ap (λ j. began j + 1) plain ∙ ap (λ n. n + 1) (began-many 1 before) ∙ omega arith in
    record {
      opening = same ∙ begun.opening;
      journal = is ∙ ap (λ j. j ++ Began (began f.journal + 1) request.deadline request.program ∷ []) plain
          ∙ ap (λ n. begun_from 1 before ++ Began n request.deadline request.program ∷ []) next
          ∙ sym (begun-more 1 before request) ∙ sym (append-nil (begun_from 1 (before ++ request ∷ [])));
    }
