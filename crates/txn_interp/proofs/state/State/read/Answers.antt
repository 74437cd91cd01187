use Rattle.std.proofs.Common.{◌≡◌, Ok, sym, ◌∙◌, ap, subst, rules, w64, FitsSigned}
use Rattle.std.proofs.lemmas.Int.{to_z-of_z}
use Rattle.txn_runs.specs.Run.{item_at}
use Rattle.access_sets.specs.Log.{Follows}
use Rattle.txn_interp.proofs.Logged.{read_follows}
use Rattle.txn_interp.proofs.state.State.read.Goals as goal

pub note-requires-clause-follows : goal.note-requires-clause-follows
note-requires-clause-follows c =
    let s = c.args.self.now in
    let fits : FitsSigned w64 c.operand.result = search rules in
    let item : item_at c.in-Read.table c.operand.result ≡ Ok c.in-Ok.item = rw (to_z-of_z w64 c.operand.result fits) at (sym c.item_at.ensures.item ∙ c.in-Ok.is) in
    let found = ap (item_at c.in-Read.table) (sym c.operand.ensures) ∙ item in
    subst (λ s. Follows s.log.reads s.position c.in-Ok.item) (sym c.self.view_is) (read_follows s c.args.node.now.act _ _ _ c.in-Ok.item c.requires.kind.0 c.in-Read.is found c.requires.kind.1 c.requires.before)
