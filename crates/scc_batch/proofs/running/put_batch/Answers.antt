use Rattle.std.proofs.Common.{◌++◌, refl, sym, ap, subst, ◌∙◌}
use Rattle.txn_syntax.proofs.Opened.{on_map}
use Rattle.scc_batch.specs.Opened.{AreCommitted}
use Rattle.scc_batch.proofs.Lasting.{same-report}
use Rattle.scc_batch.proofs.running.put_batch.Goals as goal

pub returns : goal.returns
returns g c =
    let requests = c.args.input.requests in
    let forest = c.in_ok-names.forest.numbers in
    let committed = c.in_ok-names.ensures.committed in
    on_map c.put_last_report.result (λ told.
    let report = told requests (subst (λ tables. AreCommitted tables requests forest) (sym committed.opening) committed) in
    same-report _ _ _ _ _ _ _ _ c.in_ok-names.ensures.names committed.opening refl
    (sym (report.2 ∙ ap (λ x. x ++ report.0) c.requires.empty)) report.1)
    c.put_last_report.ensures
