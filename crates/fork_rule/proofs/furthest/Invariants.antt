use Rattle.std.proofs.Common.{◌≡◌, take}
use Rattle.forest_model.specs.Origin.{furthest as furthest_of}
use Rattle.fork_rule.proofs.furthest.Given as goal

abbrev pub invariant-loop-placed : goal.invariant-loop-placed
invariant-loop-placed l = l.found ≡ furthest_of (take l.placed-index l.positions) l.limit
