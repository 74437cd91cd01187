use Rattle.journal_core.proofs.Legal.{counts, replies-serial}
use Rattle.journal_core.proofs.laws.legal_journals.Goals as goal

pub returns-clause-serial : goal.returns-clause-serial
returns-clause-serial c = replies-serial

pub returns-clause-numbers : goal.returns-clause-numbers
returns-clause-numbers c = λ opening journal t h.
    let k = counts opening journal h in
    (λ begun. (k.positive t begun, k.bounded t begun), λ within. k.each t within.0 within.1)
