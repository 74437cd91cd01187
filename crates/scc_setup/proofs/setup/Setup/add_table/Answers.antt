use Rattle.std.proofs.Common.{◌≡◌, None, sym, ◌∙◌}
use Rattle.txn_names.specs.Refusal.{add_refusal}
use Rattle.scc_setup.proofs.Openings.{may_add}
use Rattle.scc_setup.proofs.setup.Setup.add_table.Goals as goal

-- where memory runs out, the table wasn't refused
pub returns-in_default-grown-clause-refused : goal.returns-in_default-grown-clause-refused
returns-in_default-grown-clause-refused c =
    let none : add_refusal c.self.inside.names c.args.name.now c.args.size ≡ None = sym c.refusal.ensures ∙ c.in_default.is in
    rw (← c.self.view_is) (may_add (record { names = c.self.inside.names; tables = c.self.inside.table }) c.args.name.now c.args.size none)

pub returns-then-is_err-clause-refused : goal.returns-then-is_err-clause-refused
returns-then-is_err-clause-refused c =
    let none : add_refusal c.self.inside.names c.args.name.now c.args.size ≡ None = sym c.refusal.ensures ∙ c.in_default.is in
    rw (← c.self.view_is) (may_add (record { names = c.self.inside.names; tables = c.self.inside.table }) c.args.name.now c.args.size none)
