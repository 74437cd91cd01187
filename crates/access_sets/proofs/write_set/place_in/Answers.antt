use Rattle.std.proofs.Common.{ℕ, ℤ, ltb, rules}
use Rattle.std.proofs.lemmas.List.Sorted.{IsPartitionPoint-from_clause, IsPartitionedBy-ltb}
use Rattle.access_sets.proofs.Places.{items_rise, parted_is}
use Rattle.access_sets.proofs.write_set.place_in.Goals as goal

pub returns : goal.returns
returns c =
    let parted = IsPartitionedBy-ltb (λ (e : ℕ × ℤ). e.0) c.args.entries.now c.args.item (items_rise 0 1024 c.args.entries.now c.requires.ascending) in
    let point = IsPartitionPoint-from_clause (λ (e : ℕ × ℤ). ltb e.0 c.args.item) c.args.entries.now _ c.partition_point.ensures.partitioned parted (λ a r q k. search rules) in
    parted_is c.args.entries.now c.args.item _ c.partition_point.ensures.bound point
