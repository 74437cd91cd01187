-- Lines that were taken in, one after another.
use Rattle.std.proofs.Common.{◌≡◌, ℕ, suc, ◌+◌, List, [], ◌∷◌, ◌++◌, length, Result, Ok, Err, refl, sym, ◌∙◌, ap, arith}
use Rattle.line_loop.specs.Account.{Exchange, lines_in, replies_in, Follows, GoesThrough}
use Rattle.line_loop.specs.declared.flow.Flow.{Flow}
use Rattle.line_loop.specs.declared.flow.Flow.TheVariants.{GoOn, WorkOn, Stop}
use Rattle.batch_input.specs.declared.read.Reading.{Reading}
use Rattle.batch_input.specs.Input.{Batch, after_line, go_on, lines_from}
use Rattle.batch_input.specs.Reading.{IsTaken, behaviour}

-- a line that was gone on from was taken in
taken-on : (r : Result Batch ℕ) (flow : Flow) (answered : Reading) (work : ℕ) (next : Reading) → IsTaken r flow answered → Follows behaviour flow answered work next → r ≡ Ok next.input
taken-on (Ok b) GoOn answered work next taken follows = ap (λ x. Ok x) (sym (ap (λ m. m.input) follows.1 ∙ taken.1))
taken-on (Ok b) WorkOn answered work next taken follows = ap (λ x. Ok x) (sym (ap (λ m. m.input) follows.1 ∙ taken.1))
taken-on (Ok b) Stop answered work next taken follows = absurd follows
taken-on (Err code) GoOn answered work next taken follows = absurd (cc)
taken-on (Err code) WorkOn answered work next taken follows = absurd (cc)
taken-on (Err code) Stop answered work next taken follows = absurd follows

-- a line at which the reading stopped was refused
pub stopped-by : (r : Result Batch ℕ) (new : Reading) → IsTaken r Stop new → r ≡ Err new.refusal
stopped-by (Ok b) new taken = absurd (cc)
stopped-by (Err code) new taken = ap (λ n. Err n) (sym taken.1)

-- lines that were all gone on from lead to the batch that was made, with which the next lines go on
pub went-lines : (n : ℕ) (start now : Reading) (xs : List (Exchange Reading)) (more : List (List ℕ)) → GoesThrough behaviour start xs now
    → lines_from start.input n (lines_in xs ++ more) ≡ lines_from now.input (n + length (lines_in xs)) more
went-lines n start now [] more went =
    let none : n ≡ n + 0 = omega arith in
    ap (λ b. lines_from b n more) (ap (λ m. m.input) (sym went)) ∙ ap (λ k. lines_from now.input k more) none
went-lines n start now (x ∷ xs) more went =
    let rest : List (List ℕ) = lines_in xs ++ more in
    let here : after_line start.input x.line ≡ Ok x.next.input = taken-on (after_line start.input x.line) x.flow x.answered x.work x.next went.0.0 went.1 in
    let count : n + 1 + length (lines_in xs) ≡ n + suc (length (lines_in xs)) = omega arith in
    ap (λ r. go_on n r (λ b. lines_from b (n + 1) rest)) here ∙ went-lines (n + 1) x.next now xs more went.2 ∙ ap (λ k. lines_from now.input k more) count

-- nothing is answered
pub went-silent : (start now : Reading) (xs : List (Exchange Reading)) → GoesThrough behaviour start xs now → replies_in xs ≡ []
went-silent start now [] went = refl
went-silent start now (x ∷ xs) went = ap (λ r. r ++ replies_in xs) went.0.1 ∙ went-silent x.next now xs went.2
