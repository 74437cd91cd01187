-- Lines that were taken in, one after another.
use Rattle.std.proofs.Common.{◌≡◌, ℕ, suc, ◌+◌, List, [], ◌∷◌, ◌++◌, length, Result, Ok, Err, refl, sym, ◌∙◌, ap, arith}
use Rattle.line_loop.specs.Account.{Exchange, lines_in, replies_in, Follows, GoesThrough}
use Rattle.line_loop.specs.declared.flow.Flow.{Flow}
use Rattle.line_loop.specs.declared.flow.Flow.TheVariants.{GoOn, WorkOn, Stop}
use Rattle.table_input.specs.declared.read.Reading.{Reading}
use Rattle.scc_setup.specs.Opening.{Opening}
use Rattle.table_input.specs.Tables.{after_line, go_on, lines_from}
use Rattle.table_input.specs.Reading.{IsTaken, behaviour}

-- a line that was gone on from was taken in
taken-on : (r : Result Opening ℕ) (flow : Flow) (answered : Reading) (work : ℕ) (next : Reading) → IsTaken r flow answered → Follows behaviour flow answered work next → r ≡ Ok next.setup
taken-on (Ok b) GoOn answered work next taken follows = ap (λ x. Ok x) (sym (ap (λ m. m.setup) follows.1 ∙ taken.1))
taken-on (Ok b) WorkOn answered work next taken follows = ap (λ x. Ok x) (sym (ap (λ m. m.setup) follows.1 ∙ taken.1))
taken-on (Ok b) Stop answered work next taken follows = absurd follows
taken-on (Err code) GoOn answered work next taken follows = absurd (cc)
taken-on (Err code) WorkOn answered work next taken follows = absurd (cc)
taken-on (Err code) Stop answered work next taken follows = absurd follows

-- a line at which the reading stopped was refused
pub stopped-by : (r : Result Opening ℕ) (new : Reading) → IsTaken r Stop new → r ≡ Err new.refusal
stopped-by (Ok b) new taken = absurd (cc)
stopped-by (Err code) new taken = ap (λ n. Err n) (sym taken.1)

-- lines that were all gone on from lead to the tables that were made, with which the next lines go on
pub went-lines : (n : ℕ) (start now : Reading) (xs : List (Exchange Reading)) (more : List (List ℕ)) → GoesThrough behaviour start xs now
    → lines_from start.setup n (lines_in xs ++ more) ≡ lines_from now.setup (n + length (lines_in xs)) more
went-lines n start now [] more went =
    let none : n ≡ n + 0 = omega arith in
    ap (λ b. lines_from b n more) (ap (λ m. m.setup) (sym went)) ∙ ap (λ k. lines_from now.setup k more) none
went-lines n start now (x ∷ xs) more went =
    let rest : List (List ℕ) = lines_in xs ++ more in
    let here : after_line start.setup x.line ≡ Ok x.next.setup = taken-on (after_line start.setup x.line) x.flow x.answered x.work x.next went.0.0 went.1 in
    let count : n + 1 + length (lines_in xs) ≡ n + suc (length (lines_in xs)) = omega arith in
    ap (λ r. go_on n r (λ b. lines_from b (n + 1) rest)) here ∙ went-lines (n + 1) x.next now xs more went.2 ∙ ap (λ k. lines_from now.setup k more) count

-- nothing is answered
pub went-silent : (start now : Reading) (xs : List (Exchange Reading)) → GoesThrough behaviour start xs now → replies_in xs ≡ []
went-silent start now [] went = refl
went-silent start now (x ∷ xs) went = ap (λ r. r ++ replies_in xs) went.0.1 ∙ went-silent x.next now xs went.2
