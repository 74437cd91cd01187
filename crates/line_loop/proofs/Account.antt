-- An account with one line more.
use Rattle.std.proofs.Common.{◌≡◌, ◌+◌, List, [], ◌∷◌, ◌++◌, refl, sym, ◌∙◌, ap, subst, append_assoc, arith}
use Rattle.std.proofs.lemmas.List.{append-nil}
use Rattle.line_loop.specs.Account.{Behaviour, Exchange, lines_in, replies_in, steps_in, Follows, GoesThrough}

pub lines_in-more : {M : Type 0} (exchanges : List (Exchange M)) (exchange : Exchange M) → lines_in (exchanges ++ exchange ∷ []) ≡ lines_in exchanges ++ exchange.line ∷ []
lines_in-more [] exchange = refl
lines_in-more (first ∷ exchanges) exchange = ap (λ lines. first.line ∷ lines) (lines_in-more exchanges exchange)

pub replies_in-more : {M : Type 0} (exchanges : List (Exchange M)) (exchange : Exchange M) → replies_in (exchanges ++ exchange ∷ []) ≡ replies_in exchanges ++ exchange.reply
replies_in-more [] exchange = append-nil exchange.reply
replies_in-more (first ∷ exchanges) exchange = ap (λ bytes. first.reply ++ bytes) (replies_in-more exchanges exchange) ∙ sym (append_assoc first.reply (replies_in exchanges) exchange.reply)

pub steps_in-more : {M : Type 0} (exchanges : List (Exchange M)) (exchange : Exchange M) → steps_in (exchanges ++ exchange ∷ []) ≡ steps_in exchanges + (exchange.steps + exchange.work)
steps_in-more [] exchange = omega arith
steps_in-more (first ∷ exchanges) exchange = omega (arith, steps_in-more exchanges exchange)

pub GoesThrough-more : {M : Type 0} (m : Behaviour M) (start now : M) (exchanges : List (Exchange M)) (exchange : Exchange M)
    → GoesThrough m start exchanges now → m.answers now exchange.line exchange.flow exchange.reply exchange.steps exchange.answered → Follows m exchange.flow exchange.answered exchange.work exchange.next
    → GoesThrough m start (exchanges ++ exchange ∷ []) exchange.next
GoesThrough-more m start now [] exchange went answers works = (subst (λ s. m.answers s exchange.line exchange.flow exchange.reply exchange.steps exchange.answered) went answers, works, refl)
GoesThrough-more m start now (first ∷ exchanges) exchange went answers works = (went.0, went.1, GoesThrough-more m first.next now exchanges exchange went.2 answers works)
