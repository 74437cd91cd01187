use Rattle.std.proofs.Common.{rules}
use Rattle.std.proofs.lemmas.List.Sorted.{IsPartitionPoint-from_clause}
use Rattle.forest_model.specs.Pick.{is_earlier}
use Rattle.block_rule.specs.declared.role.Row.{Row}
use Rattle.ready_rows.proofs.Ordered.{parted, put-inserts}
use Rattle.ready_rows.proofs.place_for.Goals as goal

pub returns-clause-place : goal.returns-clause-place
returns-clause-place c =
    let point = IsPartitionPoint-from_clause (λ (o : Row). is_earlier o c.args.row.now) c.args.rows.now _ c.partition_point.ensures.partitioned (parted c.args.row.now c.args.rows.now c.requires) (λ a r q k. search rules) in
    put-inserts c.args.row.now c.args.rows.now _ c.partition_point.ensures.bound point
