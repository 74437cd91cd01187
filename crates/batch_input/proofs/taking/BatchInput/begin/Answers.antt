use Rattle.std.proofs.Common.{◌≡◌, ◌∙◌, ap, subst, Err}
use Rattle.txn_syntax.specs.Reads.{read_of, Gives}
use Rattle.batch_input.proofs.Begins.{begin-refused}
use Rattle.batch_input.proofs.taking.BatchInput.begin.Goals as goal

pub returns-in-Err-clause-refused : goal.returns-in-Err-clause-refused
returns-in-Err-clause-refused c =
    let names = c.args.self.now.opening.names in
    let names_are : c.names.result.now ≡ names = c.names.ensures ∙ ap (λ b. b.opening.names) c.self.view_is in
    let reads : Gives (Err c.in-Err.refusal) (read_of names c.args.bytes.now) = subst (λ x. Gives (Err c.in-Err.refusal) (read_of x c.args.bytes.now)) names_are c.in-Err.ensures.reads in
    begin-refused c.args.self.now c.args.deadline c.code_of.result c.in-Err.refusal (read_of names c.args.bytes.now) reads c.code_of.ensures
