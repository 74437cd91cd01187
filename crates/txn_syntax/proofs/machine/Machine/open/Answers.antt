use Rattle.std.proofs.Common.{◌∷◌, [], ◌++◌, None, refl, ap, ◌∙◌}
use Rattle.txn_syntax.specs.Grammar.{Nothing}
use Rattle.txn_syntax.proofs.Opened.{opens_block}
use Rattle.txn_syntax.proofs.machine.Machine.open.Goals as goal

pub returns : goal.returns
returns c =
    λ b opener h none is.
    c.begin.ensures (record { current = Nothing; choice = None; frames = record { before = b.current; opener = opener } ∷ b.frames })
    (opens_block c.args.self.now _ c.args.opening opener b refl
    (ap (λ v. v.measure) c.replace-before.ensures.after ∙ c.new.ensures.measure)
    (ap (λ v. v.stmts.items) c.replace-before.ensures.after ∙ c.new.ensures.stmts)
    (c.in_ok-push.ensures.items ∙ ap (λ v. c.args.self.now.opens.items ++ record { before = v; opening = c.args.opening } ∷ []) c.replace-before.ensures.value)
    h none is)
