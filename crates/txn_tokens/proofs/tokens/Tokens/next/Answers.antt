use Rattle.std.proofs.Common.{◌+◌, ◌∷◌, sym, ◌∙◌, ap}
use Rattle.txn_tokens.specs.declared.token.Placed.{Placed}
use Rattle.txn_tokens.specs.Tokens.{tokens_from}
use Rattle.txn_tokens.proofs.Runs.{length_none, next_none, next_some}
use Rattle.txn_tokens.proofs.tokens.Tokens.next.Goals as goal

pub returns-then-is_empty : goal.returns-then-is_empty
returns-then-is_empty c =
    let inside = c.self.inside in
    let none = next_none inside.names.now inside.at inside.rest.now c.run_len-blanks.result c.split_at.result.1.now c.run_len-blanks.ensures.value c.split_at.ensures.back (sym c.is_empty.ensures ∙ c.if-is_empty.true) in
    (sym c.self.view_is ∙ none, ap (λ rest. tokens_from inside.names.now (inside.at + c.run_len-blanks.result) 0 rest) (length_none c.split_at.result.1.now (sym c.is_empty.ensures ∙ c.if-is_empty.true)))

pub returns : goal.returns
returns c =
    let inside = c.self.inside in
    let front = c.front_of-front in
    let some = next_some inside.names.now inside.at inside.rest.now c.run_len-blanks.result c.split_at.result.1.now front.result c.run_len-blanks.ensures.value c.split_at.ensures.back (sym c.is_empty.ensures ∙ c.if-is_empty.false) front.ensures.value front.ensures.some front.ensures.within in
    let placed : Placed = record { at = inside.at + c.run_len-blanks.result; token = front.result.token } in
    let at = inside.at + c.run_len-blanks.result + front.result.len in
    sym c.self.view_is ∙ some ∙ ap (λ rest. placed ∷ tokens_from inside.names.now at 0 rest) (sym c.split_at-2.ensures.back)
