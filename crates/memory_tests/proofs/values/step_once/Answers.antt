use Rattle.std.proofs.Common.{ap, ◌∙◌, subst}
use Rattle.txn_interp.specs.Kind.{HasKind}
use Rattle.memory_tests.proofs.values.step_once.Goals as goal

pub returns-in-TableRead-clause-room : goal.returns-in-TableRead-clause-room
returns-in-TableRead-clause-room g c =
    let kind = subst (HasKind c.args.code.now.nodes c.args.state.now) c.in-TableRead.is c.next_kind.ensures.kind in
    ap (λ l. l.room) (c.step_read.ensures.log c.in-TableRead.item kind) ∙ c.requires.room
