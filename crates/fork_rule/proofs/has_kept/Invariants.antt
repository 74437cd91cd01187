use Rattle.std.proofs.Common.{◌≡◌, drop}
use Rattle.std.specs.List.{list_any}
use Rattle.forest_model.specs.Origin.{is_kept as is_kept_of}
use Rattle.fork_rule.proofs.has_kept.Given as goal

abbrev pub invariant-loop-placed : goal.invariant-loop-placed
invariant-loop-placed l = list_any (is_kept_of l.guard l.point) l.positions ≡ list_any (is_kept_of l.guard l.point) (drop l.placed-index l.positions)
