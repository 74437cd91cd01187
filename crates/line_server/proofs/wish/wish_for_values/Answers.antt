use Rattle.std.proofs.Common.{sym, ◌∙◌}
use Rattle.txn_names.proofs.TableLemmas.{table_named_within}
use Rattle.line_server.proofs.wish.wish_for_values.Goals as goal

pub returns-in-Some-clause-fits : goal.returns-in-Some-clause-fits
returns-in-Some-clause-fits c = (c.requires, table_named_within c.args.names.now _ c.in-Some.table (sym c.find.ensures ∙ c.in-Some.is))
