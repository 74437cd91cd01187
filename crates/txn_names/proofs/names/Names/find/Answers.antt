use Rattle.std.proofs.Common.{◌∙◌, ap}
use Rattle.txn_names.specs.Tables.{table_named}
use Rattle.txn_names.proofs.KeptLemmas.{lookup_laid}
use Rattle.txn_names.proofs.names.Names.find.Goals as goal

pub returns : goal.returns
returns c =
    let names = c.args.name.now in
    c.copied.ensures ∙ c.get.ensures.value ∙ lookup_laid names 0 0 c.self.inside.tables.entries c.self.invariant.laid ∙ ap (λ tables. table_named tables names) c.self.view_is
