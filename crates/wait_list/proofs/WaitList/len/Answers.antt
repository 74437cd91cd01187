use Rattle.std.proofs.Common.{length, ap, sym, ◌∙◌}
use Rattle.wait_list.proofs.ByNumber.{length-by_number}
use Rattle.wait_list.proofs.WaitList.len.Goals as goal

pub returns : goal.returns
returns c = c.len.ensures.len ∙ sym (ap length (sym c.self.view_is) ∙ length-by_number c.self.inside.line.keys)
