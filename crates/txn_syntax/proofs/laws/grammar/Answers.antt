use Rattle.txn_syntax.proofs.Answering.{read_answers, answers_read}
use Rattle.txn_syntax.proofs.laws.grammar.Goals as goal

pub returns-clause-right : goal.returns-clause-right
returns-clause-right c = read_answers

pub returns-clause-only : goal.returns-clause-only
returns-clause-only c = answers_read
