use Rattle.std.proofs.Common.{◌<◌, ◌++◌, [], ◌∷◌, ap, sym, ◌∙◌, subst}
use Rattle.std.specs.List.{AllByRecursion}
use Rattle.wait_list.specs.Waiting.{Waiting, by_number}
use Rattle.wait_list.proofs.InLine.{numbers-insert}
use Rattle.wait_list.proofs.WaitList.add.Goals as goal
use Rattle.wait_list.proofs.WaitList.add.Goals.{in-Ok, in-Err}

pub returns-clause-ok : goal.returns-clause-ok
returns-clause-ok c =
    let below : AllByRecursion (λ (w : Waiting). w.1 < c.args.txn) (by_number c.self.inside.line.keys) = subst (AllByRecursion (λ (w : Waiting). w.1 < c.args.txn)) (sym c.self.view_is) c.requires in
    elim c.match-insert.branch [
      | in-Ok w ↦
          rw w.result-is
          (ap by_number w.in-Ok.ensures.keys
          ∙ (numbers-insert c.self.inside.line.keys (c.args.deadline, c.args.txn) below ∙ ap (λ ws. ws ++ (c.args.deadline, c.args.txn) ∷ []) c.self.view_is))
      | in-Err w ↦ rw w.result-is tt
    ]
