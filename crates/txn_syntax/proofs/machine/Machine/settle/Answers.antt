use Rattle.std.proofs.Common.{refl, sym, ◌∙◌}
use Rattle.txn_syntax.proofs.Grown.{settles}
use Rattle.txn_syntax.proofs.machine.Machine.settle.Goals as goal

pub returns-in_ok-push_choice : goal.returns-in_ok-push_choice
returns-in_ok-push_choice c =
    λ b h. settles _ c.args.self.now _ c.in-Some.test c.in-Some.first c.new-second.result b (c.len-level.ensures ∙ c.args.self.now.opens.ok.0) (sym c.in-Some.ensures.value) c.take.ensures.after refl c.in_ok-push_choice.ensures c.new-second.ensures.measure c.new-second.ensures.stmts h
