use Rattle.std.proofs.Common.{◌≡◌, sym, ◌∙◌, ap, Some, slice_get}
use Rattle.std.specs.Option.{option_map}
use Rattle.std.specs.Map.Iter.{deref_pair}
use Rattle.txn_names.specs.Tables.{table_at}
use Rattle.txn_names.proofs.KeptLemmas.{table_at-kept}
use Rattle.txn_names.proofs.names.Names.table.Goals as goal

pub returns : goal.returns
returns c =
    let entries = c.self.inside.tables.entries in
    let number = c.args.number in
    let table = c.in-Some.table.now in
    let at : slice_get entries number ≡ Some (c.in-Some.field-0-0.now, table) = sym c.get_index.ensures.entry ∙ ap (option_map deref_pair) c.in-Some.is in
    sym (ap (λ names. table_at names number) c.self.view_is) ∙ table_at-kept entries c.self.inside.items c.self.invariant number (c.in-Some.field-0-0.now, table) at
