use Rattle.std.proofs.Common.{sym, ◌∙◌}
use Rattle.txn_names.proofs.Refusals.{can_add}
use Rattle.txn_names.proofs.names.Names.add.Goals as goal

pub push-requires-clause-can : goal.push-requires-clause-can
push-requires-clause-can c = can_add c.args.self.now c.args.name.now c.args.size (sym c.refusal.ensures ∙ c.in_default.is) c.count.ensures.limits.count c.requires.some c.requires.most
