use Rattle.std.proofs.Common.{sym, ◌∙◌, arith}
use Rattle.txn_names.proofs.TableLemmas.{table_named_within}
use Rattle.scc_setup.proofs.setup.Setup.put.Goals as goal

pub overflow_add-table : goal.overflow_add-table
overflow_add-table c =
    let found = table_named_within c.self.inside.names c.args.name.now c.in-Some.table (sym c.find.ensures ∙ c.in-Some.is) in
    omega (arith, found, c.self.invariant.small, c.if-index-table.false)

pub set-requires : goal.set-requires
set-requires c =
    let found = table_named_within c.self.inside.names c.args.name.now c.in-Some.table (sym c.find.ensures ∙ c.in-Some.is) in
    omega (arith, found, c.self.invariant.items)
