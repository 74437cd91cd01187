use Rattle.std.proofs.Common.{not, filter, ap, ◌∙◌}
use Rattle.wait_list.specs.Waiting.{Waiting, is_same, by_number}
use Rattle.wait_list.proofs.InLine.{numbers-remove}
use Rattle.wait_list.proofs.WaitList.remove.Goals as goal

pub returns : goal.returns
returns c =
    ap by_number c.remove-waited.ensures.keys
    ∙ numbers-remove c.self.inside.line.keys (c.args.deadline, c.args.txn) c.self.invariant
    ∙ ap (filter (λ (w : Waiting). not (is_same w (c.args.deadline, c.args.txn)))) c.self.view_is
