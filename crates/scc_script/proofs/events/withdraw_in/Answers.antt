use Rattle.std.proofs.Common.{◌∙◌, ap}
use Rattle.journal_core.specs.Begins.{begins}
use Rattle.shadow_forest.specs.View.{View}
use Rattle.forest_model.specs.Events.{withdraw}
use Rattle.scc_script.proofs.Commits.{withdraw-numbers}
use Rattle.scc_script.proofs.Begun.{withdraw-begun}
use Rattle.scc_script.proofs.events.withdraw_in.Goals as goal

pub returns-in_err-put_number_line-in-Ok-clause-begun : goal.returns-in_err-put_number_line-in-Ok-clause-begun
returns-in_err-put_number_line-in-Ok-clause-begun c =
    let f = c.args.forest.now.numbers in
    ap (λ (v : View). begins v.numbers.journal) c.withdraw.ensures.next ∙ ap (λ f. begins f.journal) (withdraw-numbers c.args.forest.now c.args.txn (withdraw f c.args.txn)) ∙ withdraw-begun f c.args.txn

pub returns-in_ok-put_number_line-in-Ok-clause-begun : goal.returns-in_ok-put_number_line-in-Ok-clause-begun
returns-in_ok-put_number_line-in-Ok-clause-begun c =
    let f = c.args.forest.now.numbers in
    ap (λ (v : View). begins v.numbers.journal) c.withdraw.ensures.next ∙ ap (λ f. begins f.journal) (withdraw-numbers c.args.forest.now c.args.txn (withdraw f c.args.txn)) ∙ withdraw-begun f c.args.txn
