-- A table that isn't refused may be added.
use Rattle.std.proofs.Common.{◌≡◌, ℕ, ◌++◌, List, replicate, pos, None, Ok, ap}
use Rattle.txn_names.specs.Tables.{added}
use Rattle.txn_names.specs.Refusal.{add_refusal}
use Rattle.scc_setup.specs.Opening.{Opening, table_by, table_after}

pub may_add : (o : Opening) (name : List ℕ) (size : ℕ) → add_refusal o.names name size ≡ None → (after : Opening) × (table_after o name size ≡ Ok after)
may_add o name size none = (record { names = added name size o.names; tables = o.tables ++ replicate size (pos 0) }, ap (table_by o name size) none)
